-- Rows of exactly one pair.
use Rattle.std.proofs.Common.{◌≡◌, ◌≢◌, ℕ, List, [], ◌∷◌, length, Option, Some, None, option_map, option_and_then, refl}
use Rattle.std.proofs.Common.{◌∙◌, ap, arith}
use Rattle.std.proofs.lemmas.List.{length-map}
use Rattle.std.proofs.lemmas.Option.{none-some, same_Some}
use Rattle.redis_resp.specs.Tree.{Tree, pairs_in}
use Rattle.redis_resp.specs.Reading.{traverse}
use Rattle.redis_resp.specs.Table.{entry_reading, table_of, table_reading}
use Rattle.stream_entries.specs.ItemsLeft.{exactly_one, pair_in}

pub ruleset counted = (length-map)

among : (t : Tree) (ps : List (Tree × Tree)) → pairs_in t ≡ Some ps → pair_in t ≡ exactly_one ps
among t ps is = ap (option_and_then exactly_one) is

pub no_pairs : (t : Tree) → pairs_in t ≡ None → pair_in t ≡ None
no_pairs t is = ap (option_and_then exactly_one) is

pub none_left : (t : Tree) (ps : List (Tree × Tree)) → pairs_in t ≡ Some ps → ps ≡ [] → pair_in t ≡ None
none_left t ps is e = among t ps is ∙ ap exactly_one e

pub one_left : (t : Tree) (ps rest : List (Tree × Tree)) (p : Tree × Tree) → pairs_in t ≡ Some ps → ps ≡ p ∷ rest
    → length rest ≡ 0 → pair_in t ≡ Some p
one_left t ps [] p is e n = among t ps is ∙ ap exactly_one e
one_left t ps (q ∷ rest) p is e n = absurd (omega arith)

pub more_left : (t : Tree) (ps rest : List (Tree × Tree)) (p : Tree × Tree) → pairs_in t ≡ Some ps → ps ≡ p ∷ rest
    → length rest ≢ 0 → pair_in t ≡ None
more_left t ps [] p is e n = absurd (n refl)
more_left t ps (q ∷ rest) p is e n = among t ps is ∙ ap exactly_one e

pub ruleset one_pair = (no_pairs, none_left, one_left, more_left)

-- its table has the one entry
pub table_of_pair : {M : Type 0} (value : Tree → Option M) (t : Tree) (p : Tree × Tree) → pair_in t ≡ Some p
    → table_reading value t ≡ option_map (λ e. e ∷ []) (entry_reading value p)
table_of_pair {M} value t p is = by (pairs_in t) is
  where
    read : (o : Option (List ℕ × M)) → option_map table_of
        (option_and_then (λ m. option_map (λ ms. m ∷ ms) (Some [])) o) ≡ option_map (λ e. e ∷ []) o
    read None = refl
    read (Some e) = refl

    by : (o : Option (List (Tree × Tree))) → option_and_then exactly_one o ≡ Some p
        → option_map table_of (option_and_then (traverse (entry_reading value)) o)
        ≡ option_map (λ e. e ∷ []) (entry_reading value p)
    by None e = absurd (none-some p e)
    by (Some []) e = absurd (none-some p e)
    by (Some (q ∷ [])) e =
        ap
        (λ r. option_map table_of (option_and_then (λ m. option_map (λ ms. m ∷ ms) (Some [])) (entry_reading value r)))
        (same_Some q p e) ∙ read (entry_reading value p)
    by (Some (q ∷ r ∷ qs)) e = absurd (none-some p e)
