-- When bytes are a number as sentences write it.
use Rattle.std.proofs.Common.{◌≡◌, ℕ, ◌<◌, ◌^◌, List, decimal, Some, None, Result, Ok, Err, refl, sym, ◌∙◌, subst, ap}
use Rattle.std.specs.Str.{IsUtf8}
use Rattle.std.specs.Str.Parse.{ParsesUnsigned}
use Rattle.std.proofs.lemmas.Fmt.{parse-decimal, IsAscii-decimal}
use Rattle.std.proofs.lemmas.Str.{IsUtf8-from_ascii}
use Rattle.stream_options.specs.ReadBack.{number_of}
use Rattle.stream_options.proofs.Sentences.{number_reads}

none_unless : (bytes : List ℕ) → ((m : ℕ) → m < 2 ^ 64 → bytes ≡ decimal m → ⊥) → None ≡ number_of bytes
none_unless bytes k = elim (number_of bytes) as (λ o. number_of bytes ≡ o → None ≡ o) [
  | None ↦ λ e. refl
  | Some m ↦ λ e. let t = number_reads.takes bytes m e in absurd (k m t.1 t.0)
] refl

pub not_text : (bytes : List ℕ) → (IsUtf8 bytes → ⊥) → None ≡ number_of bytes
not_text bytes h = none_unless bytes
    (λ m fits e. h (subst IsUtf8 (sym e) (IsUtf8-from_ascii (decimal m) (IsAscii-decimal m fits))))

pub not_parsed : {E : Type 0} (bytes text : List ℕ) (e : E) → text ≡ bytes → ParsesUnsigned 64 10 text (Err e)
    → None ≡ number_of bytes
not_parsed {E = E} bytes text e same h = none_unless bytes (λ m fits d.
    let f : ◌≡◌ {A = Result ℕ E} (Err e) (Ok m) = parse-decimal 64 m text (Err e) fits fits (same ∙ d) h in absurd cc)

pub parsed : (bytes : List ℕ) (n : ℕ) → n < 2 ^ 64 → decimal n ≡ bytes → Some n ≡ number_of bytes
parsed bytes n fits e = subst (λ t. Some n ≡ number_of t) e (sym (number_reads.again n fits))

pub parsed_otherwise : {E : Type 0} (bytes text : List ℕ) (n : ℕ) (r : Result ℕ E) → text ≡ bytes
    → ParsesUnsigned 64 10 text r → r ≡ Ok n → (decimal n ≡ bytes → ⊥) → None ≡ number_of bytes
parsed_otherwise {E = E} bytes text n r same h is other = none_unless bytes (λ m fits d.
    let f : ◌≡◌ {A = Result ℕ E} (Ok n) (Ok m) = sym is ∙ parse-decimal 64 m text r fits fits (same ∙ d) h in
    let g : n ≡ m = cc in other (ap decimal g ∙ sym d))
