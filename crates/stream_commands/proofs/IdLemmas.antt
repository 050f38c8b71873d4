-- Texts that begin with a number are none of the fixed words.
use Rattle.std.proofs.Common.{◌≡◌, ◌<◌, ◌+◌, ◌^◌, ◌%◌, ℕ, Bool, true, false, nat_lt, ◌&&◌, ◌||◌, List, [], ◌∷◌, ◌++◌}
use Rattle.std.proofs.Common.{decimal, refl, subst, arith}
use Rattle.std.specs.Str.{bytes_eq}
use Rattle.std.proofs.lemmas.Bool.{ltb-true}
use Rattle.std.proofs.lemmas.Fmt.{decimal_by_steps}
use Rattle.std.proofs.lemmas.Slice.Eq.{bytes_eq-Decides}
use Rattle.stream_commands.specs.WholeCommands.{NumbersAreApart}
use Rattle.stream_options.proofs.Sentences.{and_true}
use Rattle.stream_options.specs.Add.{add_words}
use Rattle.stream_options.specs.Claim.{claim_words}
use Rattle.stream_options.specs.Words.{among}

-- the first byte is at most that of `9`
abbrev BeginsLow : List ℕ → Type 0
BeginsLow [] = ⊥
BeginsLow (c ∷ cs) = c < 58

-- each word begins above
abbrev all_high : List (List ℕ) → Bool
all_high [] = true
all_high ([] ∷ words) = false
all_high ((c ∷ cs) ∷ words) = nat_lt 57 c && all_high words

apart_low : (words : List (List ℕ)) (arg : List ℕ) → all_high words ≡ true → BeginsLow arg → among words arg ≡ false
apart_low [] arg high low = refl
apart_low ([] ∷ words) arg high low = absurd cc
apart_low ((c ∷ cs) ∷ words) arg high low =
    let parts = and_true (nat_lt 57 c) (all_high words) high in
    let above : 57 < c = ltb-true 57 c parts.0 in
    elim (bytes_eq arg (c ∷ cs)) as (λ q. bytes_eq arg (c ∷ cs) ≡ q → (q || among words arg) ≡ false) [
      | true ↦ λ h. let below : c < 58 = subst BeginsLow ((bytes_eq-Decides arg (c ∷ cs)).0 h) low in absurd
          (omega arith)
      | false ↦ λ h. apart_low words arg parts.1 low
    ] refl

low-append : (xs ys : List ℕ) → BeginsLow xs → BeginsLow (xs ++ ys)
low-append [] ys low = absurd low
low-append (x ∷ xs) ys low = low

decimal_low : (n : ℕ) → n < 2 ^ 64 → BeginsLow (decimal n)
decimal_low n small = decimal_by_steps (λ _ ds. BeginsLow ds) (λ n lt. omega arith)
    (λ n ds _ low. low-append ds ((48 + n % 10) ∷ []) low) n small

pub add_ids : NumbersAreApart add_words
add_ids n rest small = apart_low add_words (decimal n ++ rest) refl (low-append (decimal n) rest (decimal_low n small))

pub claim_ids : NumbersAreApart claim_words
claim_ids n rest small = apart_low claim_words (decimal n ++ rest) refl
    (low-append (decimal n) rest (decimal_low n small))
