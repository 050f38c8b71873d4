-- Maps in the order of their keys, into which pairs are inserted as they are read.
use Rattle.std.proofs.Common.{◌≡◌, ℕ, Bool, true, false, cond, List, [], ◌∷◌, sym, ◌∙◌, ap, refl, Option, Some}
use Rattle.std.proofs.Common.{option_map, Global, String, string_bytes}
use Rattle.std.specs.Str.{bytes_eq}
use Rattle.std.specs.String.{string_cmp}
use Rattle.std.specs.Ordering.{nat_cmp, is_eq}
use Rattle.std.specs.Cmp.Lexicographic.{slice_cmp, nat_list_cmp_total}
use Rattle.std.specs.Map.{lookup}
use Rattle.std.specs.BTreeMap.{BTreeMap, Updates, get_by_text, is_at}
use Rattle.std.specs.FinMap.{get, find, from_entries, same_map, get-from_entries, slice_cmp-IsAntisymmetric}
use Rattle.std.specs.FinMap.{nat_cmp-IsAntisymmetric}
use Rattle.std.proofs.lemmas.Map.Text.{btree_map_updates_text}
use Rattle.redis_resp.specs.Tree.{Tree}
use Rattle.redis_resp.specs.Reading.{traverse}
use Rattle.redis_resp.specs.Table.{entry_reading, entries_meaning, fields_of_read, table_of}
use Rattle.redis_resp.proofs.ReadLemmas.{read_all}
use Rattle.redis_resp.proofs.TableLemmas.{find_table, flip_bytes}
use Rattle.redis_resp.proofs.MapLemmas.{FieldsSoFar}

mapped_cond : {A B : Type 0} (f : A → B) (b : Bool) (x y : A) → f (cond b x y) ≡ cond b (f x) (f y)
mapped_cond f true x y = refl
mapped_cond f false x y = refl

module _ {T M : Type 0} (meaning : T → M) where
  -- the value under a key, by its meaning
  abbrev pub at_sorted_key : BTreeMap (String Global) T → List ℕ → Option M
  at_sorted_key m q = option_map meaning (get_by_text m q)

  pub at_sorted_key_updates : (m n : BTreeMap (String Global) T) (k : String Global) (v : T)
      → Updates string_cmp m n k (Some v) → (q : List ℕ) → at_sorted_key n q
      ≡ cond (bytes_eq q (string_bytes k)) (Some (meaning v)) (at_sorted_key m q)
  at_sorted_key_updates m n k v h q = ap (option_map meaning) (btree_map_updates_text (string_bytes k) m n (Some v) h q)
      ∙ mapped_cond (option_map meaning) (bytes_eq (string_bytes k) q) (Some v) (get_by_text m q)
      ∙ ap (λ b. cond b (Some (meaning v)) (at_sorted_key m q)) (flip_bytes (string_bytes k) q _ _ refl refl)

  find_sorted : (q : List ℕ) (es : List (String Global × T)) → find (slice_cmp nat_cmp) q (entries_meaning meaning es)
      ≡ option_map meaning (lookup (is_at (λ k. slice_cmp nat_cmp q (string_bytes k))) es)
  find_sorted q [] = refl
  find_sorted q (e ∷ es) = rw (find_sorted q es)
      (sym (mapped_cond (option_map meaning) (is_eq (slice_cmp nat_cmp q (string_bytes e.0))) (Some e.1)
      (lookup (is_at (λ k. slice_cmp nat_cmp q (string_bytes k))) es)))

  -- a field of the map, by its text
  pub get_of_sorted : (m : BTreeMap (String Global) T) (q : List ℕ)
      → get (from_entries {R = slice_cmp nat_cmp} (entries_meaning meaning m.entries)) q ≡ at_sorted_key m q
  get_of_sorted m q = get-from_entries nat_list_cmp_total (entries_meaning meaning m.entries) q
      ∙ find_sorted q m.entries

module _ {T M : Type 0} (reading : Tree → Option M) (meaning : T → M) (all : List (Tree × Tree)) where
  pub sorted_all : (left : List (Tree × Tree)) (m : BTreeMap (String Global) T) → left ≡ []
      → FieldsSoFar reading all left (at_sorted_key meaning m)
      → fields_of_read (traverse (entry_reading reading) all) ≡ Some (from_entries (entries_meaning meaning m.entries))
  sorted_all left m e r = ap fields_of_read (read_all (entry_reading reading) all left r.done e r.read)
      ∙ ap Some (same_map nat_list_cmp_total (slice_cmp-IsAntisymmetric nat_cmp-IsAntisymmetric) _ _ (λ q.
      get-from_entries nat_list_cmp_total (table_of r.done) q ∙ find_table q r.done ∙ sym (r.is q)
      ∙ sym (get_of_sorted meaning m q)))
