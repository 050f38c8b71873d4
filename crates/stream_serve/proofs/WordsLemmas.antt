-- Lemmas on the words of the command line.
use Rattle.std.proofs.Common.{◌≡◌, ℕ, List, [], ◌∷◌, ◌++◌, ◌∙◌, None, Option, Some, ap, append_assoc, refl}
use Rattle.std.proofs.lemmas.List.Elements.{All-nil, All-push}
use Rattle.std.specs.Str.Parse.{digits_value, without_leading_plus}
use Rattle.stream_serve.specs.Words.{FixesTime, IsTime}

-- one word more, which is no number
pub other_word : (words : List (List ℕ)) (word : List ℕ) (time : Option ℕ) → FixesTime words time
    → (IsTime word → ⊥) → FixesTime (words ++ word ∷ []) time
other_word words word None none other = All-push (λ w. IsTime w → ⊥) words word none other
other_word words word (Some time) fixes other = record {
  before = fixes.before;
  word = fixes.word;
  after = fixes.after ++ word ∷ [];
  split = ap (λ ws. ws ++ word ∷ []) fixes.split ∙ append_assoc fixes.before (fixes.word ∷ fixes.after) (word ∷ []);
  is_time = fixes.is_time;
  value = fixes.value;
  last = All-push (λ w. IsTime w → ⊥) fixes.after word fixes.last other;
}

-- one word more, which is a number
pub number_word : (words : List (List ℕ)) (word : List ℕ) (time : ℕ) → IsTime word
    → time ≡ digits_value 10 (without_leading_plus word) → FixesTime (words ++ word ∷ []) (Some time)
number_word words word time is value = record {
  before = words;
  word = word;
  after = [];
  split = refl;
  is_time = is;
  value = value;
  last = All-nil (λ w. IsTime w → ⊥);
}
