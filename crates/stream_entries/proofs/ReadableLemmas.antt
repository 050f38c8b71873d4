-- The tests of readings.
use Rattle.std.proofs.Common.{◌≡◌, ◌&&◌, ◌||◌, ℕ, List, [], ◌∷◌, Bool, true, false, Option, Some, None, option_map}
use Rattle.std.proofs.Common.{option_and_then, if◌then◌else◌, refl, sym, ◌∙◌, ap, map}
use Rattle.std.specs.List.{list_all}
use Rattle.std.specs.Option.{is_some, option_map_or}
use Rattle.std.proofs.lemmas.List.Folds.{list_all-map}
use Rattle.redis_resp.specs.Tree.{Tree, plain, items, pairs_in, single}
use Rattle.redis_resp.specs.Number.{unsigned_reading}
use Rattle.redis_resp.specs.Reading.{traverse, is_nil, option_reading, list_reading, both_read, four_in, four_of}
use Rattle.redis_resp.specs.Table.{Fields, entry_reading, table_of, table_reading}
use Rattle.redis_resp.specs.Text.{text_reading}
use Rattle.redis_resp.specs.Value.{tree, tree_of_pair}
use Rattle.redis_resp.specs.declared.value.Value.{Value}
use Rattle.redis_resp.proofs.TraverseLemmas.{is_some_map, is_some_traverse}
use Rattle.stream_entries.specs.Read.{claim_entries, claim_reading, delivery_reading, standard_reading}
use Rattle.stream_entries.specs.Readable.{pair_readable, table_readable, list_readable}
use Rattle.stream_entries.specs.Rows.{entries_reading, field_reading, row_reading, standard_entries}

-- a reading with a test of whether it has a result
module _ {M : Type 0} (f : Tree → Option M) (p : Tree → Bool) (h : (x : Tree) → is_some (f x) ≡ p x) where
  list_there : (t : Tree) → is_some (list_reading f t) ≡ list_readable p t
  list_there t = by (items t)
    where
      by : (o : Option (List Tree)) → is_some (option_and_then (traverse f) o) ≡ option_map_or (list_all p) o false
      by None = refl
      by (Some xs) = is_some_traverse f p h xs

  entry_there : (e : Tree × Tree) → is_some (entry_reading f e) ≡ pair_readable p e
  entry_there e = rw (sym (h e.1)) (by (text_reading e.0) (f e.1))
    where
      by : (k : Option (List ℕ)) (m : Option M) → is_some (both_read k m) ≡ (is_some k && is_some m)
      by None m = refl
      by (Some k) None = refl
      by (Some k) (Some m) = refl

  table_there : (t : Tree) → is_some (table_reading f t) ≡ table_readable p t
  table_there t = is_some_map table_of (option_and_then (traverse (entry_reading f)) (pairs_in t)) ∙ by (pairs_in t)
    where
      by : (o : Option (List (Tree × Tree))) → is_some (option_and_then (traverse (entry_reading f)) o)
          ≡ option_map_or (list_all (pair_readable p)) o false
      by None = refl
      by (Some xs) = is_some_traverse (entry_reading f) (pair_readable p) entry_there xs

abbrev has_fields : Tree → Bool
has_fields t = is_some (field_reading t)

-- the streams of a form, by its items
module _ {M : Type 0} (form : Tree → Option (List M)) (p : Tree → Bool) (h : (x : Tree) → is_some (form x) ≡ p x) where
  entries_there : (t : Tree) → is_some (list_reading form t) ≡ list_readable p t
  entries_there = list_there form p h

row_there : (t : Tree) → is_some (standard_entries t) ≡ table_readable has_fields t
row_there t = is_some_map _ (row_reading t) ∙ table_there field_reading has_fields (λ x. refl) t

standard_list : (t : Tree) → is_some (entries_reading standard_entries t) ≡ list_readable (table_readable has_fields) t
standard_list t = is_some_map _ (list_reading standard_entries t)
    ∙ list_there standard_entries (table_readable has_fields) row_there t

pub standard_there : (t : Tree) → is_some (standard_reading t)
    ≡ list_readable (table_readable (list_readable (table_readable (λ u. is_some (field_reading u))))) t
unfolding standard_reading
standard_there t = is_some_map _ (list_reading (table_reading (entries_reading standard_entries)) t)
    ∙ list_there (table_reading (entries_reading standard_entries))
    (table_readable (list_readable (table_readable has_fields)))
    (table_there (entries_reading standard_entries) (list_readable (table_readable has_fields)) standard_list) t

abbrev has_delivery : Tree → Bool
has_delivery t = is_some (delivery_reading t)

item_there : (t : Tree) → is_some (claim_entries t) ≡ has_delivery t
item_there t = is_some_map _ (delivery_reading t)

claim_list : (t : Tree) → is_some (entries_reading claim_entries t) ≡ list_readable has_delivery t
claim_list t = is_some_map _ (list_reading claim_entries t) ∙ list_there claim_entries has_delivery item_there t

pub claim_there : (t : Tree) → is_some (claim_reading t) ≡ list_readable
    (table_readable (list_readable (λ u. is_some (delivery_reading u)))) t
unfolding claim_reading
claim_there t = is_some_map _ (list_reading (table_reading (entries_reading claim_entries)) t)
    ∙ list_there (table_reading (entries_reading claim_entries)) (table_readable (list_readable has_delivery))
    (table_there (entries_reading claim_entries) (list_readable has_delivery) claim_list) t

-- the map of one pair is fields if its key is a text
pub single_fields : (k x : Tree) → is_some (field_reading (single (k, x))) ≡ is_some (text_reading k)
single_fields k x = is_some_map _ (table_reading (λ u. Some u) (single (k, x))) ∙ by (text_reading k)
  where
    by : (o : Option (List ℕ)) → is_some
        (option_map table_of (option_and_then (λ m. option_map (λ ms. m ∷ ms) (Some [])) (both_read o (Some x))))
        ≡ is_some o
    by None = refl
    by (Some s) = refl

-- a delivery is determined by its four elements
pub delivery_there : (t : Tree) (q : Tree × Tree × Tree × Tree) → four_in t ≡ Some q → is_some (delivery_reading t)
    ≡ (((is_some (text_reading q.0) && is_some (field_reading q.1))
    && is_some (option_reading (unsigned_reading 64) q.2)) && is_some (option_reading (unsigned_reading 64) q.3))
delivery_there t q is =
    ap
    (λ o. is_some
    (option_and_then (four_of text_reading field_reading (option_reading (unsigned_reading 64))
    (option_reading (unsigned_reading 64))) o)) is
    ∙ by (text_reading q.0) (field_reading q.1) (option_reading (unsigned_reading 64) q.2)
    (option_reading (unsigned_reading 64) q.3)
  where
    by : (a : Option (List ℕ)) (b : Option (Fields Tree)) (c d : Option (Option ℕ))
        → is_some {T = List ℕ × Fields Tree × Option ℕ × Option ℕ}
        (option_and_then
        (λ w. option_and_then (λ x. option_and_then (λ y. option_map (λ z. (w, x, y, z)) d) c) b) a)
        ≡ (((is_some a && is_some b) && is_some c) && is_some d)
    by None b c d = refl
    by (Some a) None c d = refl
    by (Some a) (Some b) None d = refl
    by (Some a) (Some b) (Some c) None = refl
    by (Some a) (Some b) (Some c) (Some d) = refl

-- the same by the results of the tests of the four
pub delivery_told : (t : Tree) (q : Tree × Tree × Tree × Tree) (id fields elapsed delivered : Bool) → four_in t ≡ Some q
    → id ≡ is_some (text_reading q.0) → fields ≡ is_some (field_reading q.1)
    → elapsed ≡ is_some (option_reading (unsigned_reading 64) q.2)
    → delivered ≡ is_some (option_reading (unsigned_reading 64) q.3)
    → (((id && fields) && elapsed) && delivered) ≡ is_some (delivery_reading t)
delivery_told t q id fields elapsed delivered is a b c d = rw (a, b, c, d) (sym (delivery_there t q is))

pub no_delivery : (t : Tree) → four_in t ≡ None → is_some (delivery_reading t) ≡ false
no_delivery t is =
    ap
    (λ o. is_some
    (option_and_then (four_of text_reading field_reading (option_reading (unsigned_reading 64))
    (option_reading (unsigned_reading 64))) o)) is

pub number_or_nil : (t : Tree) → is_some (option_reading (unsigned_reading 64) t)
    ≡ (is_nil (plain t) || is_some (unsigned_reading 64 t))
number_or_nil t = by (is_nil (plain t)) (unsigned_reading 64 t)
  where
    by : (b : Bool) (o : Option ℕ) → is_some (if b then Some None else option_map Some o) ≡ (b || is_some o)
    by true o = refl
    by false None = refl
    by false (Some n) = refl

module _ (p : Tree → Bool) where
  pub pairs_go_on : (left rest : List (Tree × Tree)) (e : Tree × Tree) → left ≡ e ∷ rest
      → is_some (text_reading e.0) ≡ true → p e.1 ≡ true
      → list_all (pair_readable p) left ≡ list_all (pair_readable p) rest
  pairs_go_on left rest e steps key value = rw (steps, key, value) refl

  pub no_key : (left rest : List (Tree × Tree)) (e : Tree × Tree) → left ≡ e ∷ rest → is_some (text_reading e.0) ≡ false
      → list_all (pair_readable p) left ≡ false
  no_key left rest e steps key = rw (steps, key) refl

  pub no_value : (left rest : List (Tree × Tree)) (e : Tree × Tree) → left ≡ e ∷ rest
      → is_some (text_reading e.0) ≡ true → p e.1 ≡ false → list_all (pair_readable p) left ≡ false
  no_value left rest e steps key value = rw (steps, key, value) refl

  pub table_of_pairs : (t : Tree) (ps : List (Tree × Tree)) → pairs_in t ≡ Some ps
      → table_readable p t ≡ list_all (pair_readable p) ps
  table_of_pairs t ps is = ap (λ o. option_map_or (list_all (pair_readable p)) o false) is

  pub no_table : (t : Tree) → pairs_in t ≡ None → table_readable p t ≡ false
  no_table t is = ap (λ o. option_map_or (list_all (pair_readable p)) o false) is

  and_true : (b : Bool) → (b && true) ≡ b
  and_true true = refl
  and_true false = refl

  pub single_table : (k x : Tree) → table_readable p (single (k, x)) ≡ (is_some (text_reading k) && p x)
  single_table k x = and_true (is_some (text_reading k) && p x)

  pub single_list : (e : Tree × Tree) → list_readable p (single e) ≡ p (single e)
  single_list e = and_true (p (single e))

  pub list_of_values : (t : Tree) (vs : List Value) → items t ≡ Some (map tree vs)
      → list_readable p t ≡ list_all (λ v. p (tree v)) vs
  list_of_values t vs is = ap (λ o. option_map_or (list_all p) o false) is ∙ list_all-map p tree vs

  pub list_of_pairs : (t : Tree) (es : List (Value × Value)) → items t ≡ Some (map single (map tree_of_pair es))
      → list_readable p t ≡ list_all (λ e. p (single (tree_of_pair e))) es
  list_of_pairs t es is = ap (λ o. option_map_or (list_all p) o false) is ∙ list_all-map p single (map tree_of_pair es)
      ∙ list_all-map (λ e. p (single e)) tree_of_pair es

  pub list_of_nothing : (t : Tree) → items t ≡ Some [] → list_readable p t ≡ true
  list_of_nothing t is = ap (λ o. option_map_or (list_all p) o false) is

  pub no_list : (t : Tree) → items t ≡ None → list_readable p t ≡ false
  no_list t is = ap (λ o. option_map_or (list_all p) o false) is

pub ruleset table_told = (no_key, no_value, table_of_pairs, no_table, single_table)

pub ruleset list_told = (list_of_values, list_of_pairs, list_of_nothing, no_list, single_list)
