-- When bytes are a text.
use Rattle.std.proofs.Common.{◌≡◌, ℕ, List, Some, None, Result, Ok, Err, refl, sym, ◌∙◌}
use Rattle.std.specs.Prelude.{IfErr}
use Rattle.std.specs.Str.{IsUtf8}
use Rattle.std.proofs.lemmas.Str.{IsUtf8-from_is_utf8}
use Rattle.std.proofs.lemmas.Bool.{false_from_ne_true}
use Rattle.stream_options.specs.ReadBack.{text_of}
use Rattle.stream_options.proofs.Sentences.{text_reads}
use Rattle.stream_option_parsing.specs.declared.error.SentenceError.{SentenceError}
use Rattle.stream_option_parsing.specs.declared.error.SentenceError.TheVariants.{NotASentence}

pub is_text : (bytes : List ℕ) → IsUtf8 bytes → text_of bytes ≡ Some bytes
is_text bytes h = text_reads.again bytes h

pub is_no_text : (bytes : List ℕ) → (IsUtf8 bytes → ⊥) → text_of bytes ≡ None
unfolding text_of
is_no_text bytes h = rw (false_from_ne_true _ (λ e. h (IsUtf8-from_is_utf8 bytes e))) refl

-- if bytes are a text, nothing is required of an error if they are none
pub not_of_text : {T : Type 0} (bytes : List ℕ) (result : Result T SentenceError) → IsUtf8 bytes
    → IfErr result (λ e. text_of bytes ≡ None → e ≡ NotASentence)
not_of_text bytes (Ok t) h = tt
not_of_text bytes (Err e) h = λ none.
    let same : None ≡ Some bytes = sym none ∙ is_text bytes h in
    absurd cc
