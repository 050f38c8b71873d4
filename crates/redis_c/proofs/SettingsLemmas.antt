-- Texts of settings, at their places.
use Rattle.std.proofs.Common.{◌≡◌, ℕ, List, Some, None, refl}
use Rattle.std.specs.Str.{IsUtf8}
use Rattle.std.proofs.lemmas.Str.{IsUtf8-from_is_utf8, is_utf8-from_IsUtf8}
use Rattle.std.proofs.lemmas.Bool.{false_from_ne_true}
use Rattle.redis_wire.specs.declared.place.Span.{Span}
use Rattle.redis_c.specs.Placed.{text_at}
use Rattle.redis_c.specs.Settings.{if_utf8, utf8_at}

is_text : (bytes : List ℕ) → IsUtf8 bytes → if_utf8 bytes ≡ Some bytes
is_text bytes h = rw (is_utf8-from_IsUtf8 bytes h) refl

is_no_text : (bytes : List ℕ) → (IsUtf8 bytes → ⊥) → if_utf8 bytes ≡ None
is_no_text bytes h = rw (false_from_ne_true _ (λ e. h (IsUtf8-from_is_utf8 bytes e))) refl

-- the text is there
pub utf8_there : (bytes : List ℕ) (place : Span) (text : List ℕ) → text_at bytes place ≡ Some text → IsUtf8 text
    → utf8_at bytes place ≡ Some text
utf8_there bytes place text is h = rw is (is_text text h)

-- the bytes there are no text
pub no_utf8_there : (bytes : List ℕ) (place : Span) (text : List ℕ) → text_at bytes place ≡ Some text
    → (IsUtf8 text → ⊥) → utf8_at bytes place ≡ None
no_utf8_there bytes place text is h = rw is (is_no_text text h)

-- the place is not within the bytes
pub nothing_there : (bytes : List ℕ) (place : Span) → text_at bytes place ≡ None → utf8_at bytes place ≡ None
nothing_there bytes place is = rw is refl
