-- No line ends within a line of JSON.
use Rattle.std.proofs.Common.{◌≡◌, ◌≢◌, refl, sym, subst, ℕ, true, false, List, [], ◌∷◌}
use Rattle.std.specs.List.{AllByRecursion}
use Rattle.json.specs.Token.{Token, end_object}
use Rattle.json.specs.Print.{print}
use Rattle.worker_journal.specs.EntryLine.{Entry}
use Rattle.worker.specs.EntryJson.{are_texts, fields_tokens}
use Rattle.worker.proofs.EntryJsonLemmas.TokensLemmas.{both_texts, fields_texts, no_end}
use Rattle.stream_drain.specs.Line.{entry_tokens}

-- a line that holds nothing but brackets, keys and texts
pub no_line_end : (items : List ℕ) (ts : List Token) → items ≡ print ts → are_texts ts ≡ true
    → AllByRecursion (λ b. b ≢ 10) items
no_line_end items ts is are = subst (λ (xs : List ℕ). AllByRecursion (λ b. b ≢ 10) xs) (sym is) (no_end false ts are)

-- the tokens of an entry are such
pub entry_texts : (e : Entry) → are_texts (entry_tokens e) ≡ true
entry_texts e = both_texts (fields_tokens e.1) (end_object ∷ []) (fields_texts e.1) refl
