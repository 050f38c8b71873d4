-- A read reply is its skeleton with each item read by the form.
use Rattle.std.proofs.Common.{◌≡◌, ◌++◌, ℕ, List, [], ◌∷◌, Bool, true, Option, Some, None, option_map, option_and_then}
use Rattle.std.proofs.Common.{refl, sym, ◌∙◌, ap, map, flat_map}
use Rattle.std.specs.Option.{is_some}
use Rattle.std.specs.List.{AllByRecursion, list_all}
use Rattle.std.proofs.lemmas.Bool.{and_parts}
use Rattle.std.proofs.lemmas.List.{map-append}
use Rattle.std.proofs.lemmas.List.Folds.{list_all-append}
use Rattle.redis_resp.specs.Tree.{Tree, items, pairs_in}
use Rattle.redis_resp.specs.Text.{text_reading}
use Rattle.redis_resp.specs.Reading.{traverse, both_read}
use Rattle.redis_resp.specs.Table.{entry_reading, pairs_reading, table_reading, table_of, on_values}
use Rattle.redis_resp.proofs.TableLemmas.{table_values}
use Rattle.redis_resp.proofs.TraverseLemmas.{traverse_then, traverse_same, list_then, is_some_map, is_some_traverse}
use Rattle.redis_resp.proofs.TraverseLemmas.{traverse_each}
use Rattle.stream_entries.specs.Entry.{Entry}
use Rattle.stream_entries.specs.Rows.{joined, entries_reading}
use Rattle.stream_entries.specs.Read.{streams_reading}
use Rattle.stream_entries.specs.Overlap.{Skeleton, skeleton, entries_in, kept_lists}

-- Lists all of whose elements have a property.

pub all_parts : {A : Type 0} (P : A → Type 0) (xs ys : List A) → AllByRecursion P (xs ++ ys)
    → AllByRecursion P xs × AllByRecursion P ys
all_parts P [] ys h = (tt, h)
all_parts P (x ∷ xs) ys h = let r = all_parts P xs ys h.1 in ((h.0, r.0), r.1)

pub all_append : {A : Type 0} (P : A → Type 0) (xs ys : List A) → AllByRecursion P xs → AllByRecursion P ys
    → AllByRecursion P (xs ++ ys)
all_append P [] ys g h = h
all_append P (x ∷ xs) ys g h = (g.0, all_append P xs ys g.1 h)

pub all_inside : {A B : Type 0} (P : B → Type 0) (g : A → List B) (xs : List A) → AllByRecursion P (flat_map g xs)
    → AllByRecursion (λ x. AllByRecursion P (g x)) xs
all_inside P g [] h = tt
all_inside P g (x ∷ xs) h = let r = all_parts P (g x) (flat_map g xs) h in (r.0, all_inside P g xs r.1)

pub all_joined : {A B : Type 0} (P : B → Type 0) (g : A → List B) (xs : List A)
    → AllByRecursion (λ x. AllByRecursion P (g x)) xs → AllByRecursion P (flat_map g xs)
all_joined P g [] h = tt
all_joined P g (x ∷ xs) h = all_append P (g x) (flat_map g xs) h.0 (all_joined P g xs h.1)

pub all_more : {A : Type 0} (P Q : A → Type 0) → ((x : A) → P x → Q x) → (xs : List A) → AllByRecursion P xs
    → AllByRecursion Q xs
all_more P Q h [] e = tt
all_more P Q h (x ∷ xs) e = (h x e.0, all_more P Q h xs e.1)

pub all_told : {A : Type 0} (p : A → Bool) (xs : List A) → list_all p xs ≡ true → AllByRecursion (λ x. p x ≡ true) xs
all_told p [] e = tt
all_told p (x ∷ xs) e = let r = and_parts (p x) (list_all p xs) e in (r.0, all_told p xs r.1)

pub all_both : {A : Type 0} (P Q : A → Type 0) (xs : List A) → AllByRecursion P xs → AllByRecursion Q xs
    → AllByRecursion (λ x. P x × Q x) xs
all_both P Q [] a b = tt
all_both P Q (x ∷ xs) a b = ((a.0, b.0), all_both P Q xs a.1 b.1)

all_flat : {A B : Type 0} (p : B → Bool) (q : A → Bool) (g : A → List B) → ((x : A) → list_all p (g x) ≡ q x)
    → (xs : List A) → list_all p (flat_map g xs) ≡ list_all q xs
all_flat p q g h [] = refl
all_flat p q g h (x ∷ xs) = list_all-append p (g x) (flat_map g xs) ∙ rw (h x, all_flat p q g h xs) refl

flat_map_of_map : {A B C : Type 0} (h : B → C) (g : A → List B) (xs : List A)
    → flat_map (λ x. map h (g x)) xs ≡ map h (flat_map g xs)
flat_map_of_map h g [] = refl
flat_map_of_map h g (x ∷ xs) = rw (flat_map_of_map h g xs) (sym (map-append h (g x) (flat_map g xs)))

joined_map : {A B : Type 0} (g : A → List B) (xs : List A) → joined (map g xs) ≡ flat_map g xs
joined_map g [] = refl
joined_map g (x ∷ xs) = ap (λ r. g x ++ r) (joined_map g xs)

-- A pair, a row and the rows of a skeleton, with each item read by the form.

abbrev pub pair_of : (Tree → Option (List Entry)) → List ℕ × List Tree → Option (List ℕ × List Entry)
pair_of form p = option_map (λ es. (p.0, es)) (option_map joined (traverse form p.1))

abbrev pub row_of : (Tree → Option (List Entry)) → List (List ℕ × List Tree) → Option (List (List ℕ × List Entry))
row_of form row = option_map table_of (traverse (pair_of form) row)

module _ (form : Tree → Option (List Entry)) where
  pair_read : (p : Tree × Tree) → entry_reading (entries_reading form) p
      ≡ option_and_then (pair_of form) (entry_reading items p)
  pair_read p = by (text_reading p.0) (items p.1)
    where
      by : (k : Option (List ℕ)) (xs : Option (List Tree))
          → both_read k (option_map joined (option_and_then (traverse form) xs))
          ≡ option_and_then (pair_of form) (both_read k xs)
      by None xs = refl
      by (Some k) None = refl
      by (Some k) (Some xs) = refl

  pairs_read : (ps : List (Tree × Tree)) → traverse (entry_reading (entries_reading form)) ps
      ≡ option_and_then (traverse (pair_of form)) (traverse (entry_reading items) ps)
  pairs_read ps = traverse_same (entry_reading (entries_reading form))
      (λ p. option_and_then (pair_of form) (entry_reading items p)) pair_read ps
      ∙ traverse_then (entry_reading items) (pair_of form) ps

  row_read : (t : Tree) → table_reading (entries_reading form) t ≡ option_and_then (row_of form) (pairs_reading items t)
  row_read t = by (pairs_in t)
    where
      out : (o : Option (List (List ℕ × List Tree))) → option_map table_of (option_and_then (traverse (pair_of form)) o)
          ≡ option_and_then (row_of form) o
      out None = refl
      out (Some r) = refl

      by : (o : Option (List (Tree × Tree)))
          → option_map table_of (option_and_then (traverse (entry_reading (entries_reading form))) o)
          ≡ option_and_then (row_of form) (option_and_then (traverse (entry_reading items)) o)
      by None = refl
      by (Some ps) = ap (option_map table_of) (pairs_read ps) ∙ out (traverse (entry_reading items) ps)

  skeleton_read : (t : Tree) → streams_reading form t
      ≡ option_map joined (option_and_then (traverse (row_of form)) (skeleton t))
  skeleton_read t = ap (option_map joined)
      (list_then (table_reading (entries_reading form)) (pairs_reading items) (row_of form) row_read t)

  -- rows are read exactly if each item is
  pair_there : (p : List ℕ × List Tree) → is_some (pair_of form p) ≡ list_all (λ e. is_some (form e)) p.1
  pair_there p = is_some_map _ (option_map joined (traverse form p.1)) ∙ is_some_map joined (traverse form p.1)
      ∙ is_some_traverse form (λ e. is_some (form e)) (λ e. refl) p.1

  row_there : (row : List (List ℕ × List Tree))
      → is_some (row_of form row) ≡ list_all (λ p. list_all (λ e. is_some (form e)) p.1) row
  row_there row = is_some_map table_of (traverse (pair_of form) row)
      ∙ is_some_traverse (pair_of form) (λ p. list_all (λ e. is_some (form e)) p.1) pair_there row

  rows_there : (rows : Skeleton) → is_some (option_map joined (traverse (row_of form) rows))
      ≡ list_all (λ e. is_some (form e)) (entries_in rows)
  rows_there rows = is_some_map joined (traverse (row_of form) rows)
      ∙ is_some_traverse (row_of form) (λ row. list_all (λ p. list_all (λ e. is_some (form e)) p.1) row) row_there rows
      ∙ sym (all_flat (λ e. is_some (form e)) (λ row. list_all (λ p. list_all (λ e. is_some (form e)) p.1) row)
      (λ row. flat_map (λ p. p.1) row)
      (all_flat (λ e. is_some (form e)) (λ p. list_all (λ e. is_some (form e)) p.1) (λ p. p.1) (λ p. refl)) rows)

  -- a read reply that has streams has a skeleton, and each of its items is read
  pub skeleton_there : (t : Tree) → is_some (streams_reading form t) ≡ true
      → (rows : Skeleton) × (skeleton t ≡ Some rows) × AllByRecursion (λ e. is_some (form e) ≡ true) (entries_in rows)
  skeleton_there t h = by (skeleton t) refl (sym (ap is_some (skeleton_read t)) ∙ h)
    where
      by : (o : Option Skeleton) → skeleton t ≡ o
          → is_some (option_map joined (option_and_then (traverse (row_of form)) o)) ≡ true
          → (rows : Skeleton) × (skeleton t ≡ Some rows)
          × AllByRecursion (λ e. is_some (form e) ≡ true) (entries_in rows)
      by None e g = cc
      by (Some rows) e g = (rows, e, all_told (λ e. is_some (form e)) (entries_in rows) (sym (rows_there rows) ∙ g))

  -- if each item is read as a function gives, the streams are the kept lists with their items so
  module _ (g : Tree → List Entry) where
    pair_as : (p : List ℕ × List Tree) → AllByRecursion (λ e. form e ≡ Some (g e)) p.1
        → pair_of form p ≡ Some (p.0, flat_map g p.1)
    pair_as p h = rw (traverse_each form g p.1 h, joined_map g p.1) refl

    row_as : (row : List (List ℕ × List Tree)) → AllByRecursion (λ p. AllByRecursion (λ e. form e ≡ Some (g e)) p.1) row
        → row_of form row ≡ Some (on_values (flat_map g) (table_of row))
    row_as row h = rw (
      traverse_each (pair_of form) (λ p. (p.0, flat_map g p.1)) row (all_more _ _ pair_as row h),
      table_values (flat_map g) row,
    ) refl

    rows_as : (rows : Skeleton) → AllByRecursion
        (λ row. AllByRecursion (λ p. AllByRecursion (λ e. form e ≡ Some (g e)) p.1) row) rows
        → option_map joined (traverse (row_of form) rows) ≡ Some (on_values (flat_map g) (kept_lists rows))
    rows_as rows h =
        rw (traverse_each (row_of form) (λ row. on_values (flat_map g) (table_of row)) rows
        (all_more _ _ row_as rows h))
        (ap Some (joined_map (λ row. on_values (flat_map g) (table_of row)) rows
        ∙ flat_map_of_map (λ p. (p.0, flat_map g p.1)) table_of rows))

    pub streams_as : (t : Tree) (rows : Skeleton) → skeleton t ≡ Some rows
        → AllByRecursion (λ e. form e ≡ Some (g e)) (entries_in rows)
        → streams_reading form t ≡ Some (on_values (flat_map g) (kept_lists rows))
    streams_as t rows is h =
        let by_pair = all_more _ _ (λ row. all_inside (λ e. form e ≡ Some (g e)) (λ p. p.1) row) rows
        (all_inside (λ e. form e ≡ Some (g e)) (λ row. flat_map (λ p. p.1) row) rows h) in
        skeleton_read t ∙ rw is (rows_as rows by_pair)
