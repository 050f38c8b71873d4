-- Fields that are copied into a map are those of a record.
use Rattle.std.proofs.Common.{◌≡◌, ◌<◌, ◌≤◌, ◌+◌, ◌∙◌, ℕ, zero, suc, Bool, List, [], ◌∷◌, true, false, cond}
use Rattle.std.proofs.Common.{map, length, drop, Option, Some, None, refl, sym, ap, add-one, arith}
use Rattle.std.proofs.Common.{append_assoc, append-nil, ◌++◌, String, Global}
use Rattle.std.specs.List.{AllByRecursion}
use Rattle.std.specs.Option.{option_or}
use Rattle.std.specs.Str.{bytes_eq}
use Rattle.std.specs.Cmp.Lexicographic.{slice_cmp, nat_list_cmp_total}
use Rattle.std.specs.FinMap.{get, insert, from_entries, same_map, get-empty, get-insert, get-from_entries}
use Rattle.std.specs.FinMap.{slice_cmp-IsAntisymmetric, nat_cmp-IsAntisymmetric}
use Rattle.std.specs.HashMap.{HashMap}
use Rattle.std.specs.Ordering.{nat_cmp}
use Rattle.std.specs.declared.cmp.Ordering.{Ordering}
use Rattle.std.proofs.lemmas.List.{map-append}
use Rattle.std.proofs.lemmas.Map.Text.{is_eq-slice_cmp}
use Rattle.std.proofs.Math.ListN.{get_or}
use Rattle.std.proofs.Math.Seq.{drop-cons}
use Rattle.redis_resp.specs.Tree.{Tree, bulk}
use Rattle.redis_resp.specs.Table.{Fields, last_with, on_values, table_of}
use Rattle.redis_resp.specs.FieldsMeaning.{fields_of}
use Rattle.redis_resp.specs.declared.value.Value.{Value}
use Rattle.redis_resp.proofs.TableLemmas.{find_table}
use Rattle.redis_wire.specs.Place.{text_in}
use Rattle.stream_in_place.specs.declared.places.FieldPlace.{FieldPlace}
use Rattle.stream_in_place.specs.Sent.{Pairs}
use Rattle.stream_in_place.specs.Placed.{field_in, IsField}

abbrev by_order : List ℕ → List ℕ → Ordering
by_order = slice_cmp nat_cmp

-- the fields that are copied, with those that are left after them, are all
pub record Copied (bytes : List ℕ) (left : List FieldPlace) (all : Pairs) (done : Fields Tree) : Type 0 where
  pub each : AllByRecursion (IsField bytes) left
  pub agrees : (q : List ℕ) → option_or (last_with q (on_values bulk (map (field_in bytes) left))) (get done q)
      ≡ last_with q (on_values bulk all)

or_none : (o : Option Tree) → option_or o None ≡ o
or_none None = refl
or_none (Some x) = refl

or_assoc : (a b c : Option Tree) → option_or (option_or a b) c ≡ option_or a (option_or b c)
or_assoc None b c = refl
or_assoc (Some x) b c = refl

either : (b : Bool) (x : Tree) (o : Option Tree) → cond b (Some x) o ≡ option_or (cond b (Some x) None) o
either true x o = refl
either false x o = refl

pub copy_starts : {S : Type 0} (bytes : List ℕ) (places : List FieldPlace) (all : Pairs)
    (m : HashMap (String Global) Value S) → AllByRecursion (IsField bytes) places
    → all ≡ map (field_in bytes) places → m.entries ≡ [] → Copied bytes places all (fields_of m)
copy_starts bytes places all m each is none = rw (is, none) (record {
  each = each;
  agrees = λ q. ap (option_or (last_with q (on_values bulk (map (field_in bytes) places)))) (get-empty by_order q)
      ∙ or_none (last_with q (on_values bulk (map (field_in bytes) places)));
})

copied_more : (bytes : List ℕ) (f : FieldPlace) (left : List FieldPlace) (all : Pairs) (done : Fields Tree)
    → Copied bytes (f ∷ left) all done
    → Copied bytes left all (insert done (text_in bytes f.name) (bulk (text_in bytes f.value)))
copied_more bytes f left all done c = record {
  each = c.each.1;
  agrees = λ q.
      let rest = last_with q (on_values bulk (map (field_in bytes) left)) in
      let v = bulk (text_in bytes f.value) in
      let same = bytes_eq q (text_in bytes f.name) in
      ap (option_or rest) (get-insert nat_list_cmp_total done (text_in bytes f.name) v q
      ∙ ap (λ b. cond b (Some v) (get done q)) (is_eq-slice_cmp q (text_in bytes f.name))
      ∙ either same v (get done q))
      ∙ sym (or_assoc rest (cond same (Some v) None) (get done q)) ∙ c.agrees q;
}

pub copy_goes : (bytes : List ℕ) (places : List FieldPlace) (i : ℕ) (d : FieldPlace) (all : Pairs)
    (done more : Fields Tree) (name : List ℕ) (value : Tree) → i < length places
    → name ≡ (field_in bytes (get_or places i d)).0 → value ≡ bulk (field_in bytes (get_or places i d)).1
    → more ≡ insert done name value
    → Copied bytes (drop i places) all done → Copied bytes (drop (i + 1) places) all more
copy_goes bytes places i d all done more name value lt named valued put c =
    let next : drop i places ≡ get_or places i d ∷ drop (i + 1) places =
    drop-cons places i d lt ∙ ap (λ (n : ℕ). get_or places i d ∷ drop n places) (sym (add-one i)) in
    rw (put, named, valued)
    (copied_more bytes (get_or places i d) (drop (i + 1) places) all done (rw next at c))

pub none_left : {A : Type 0} (xs : List A) (i : ℕ) → length xs ≤ i → drop i xs ≡ []
none_left [] zero h = refl
none_left [] (suc i) h = refl
none_left (x ∷ xs) zero h = absurd (omega (arith, h))
none_left (x ∷ xs) (suc i) h = none_left xs i (omega (arith, h))

pub copy_ends : (bytes : List ℕ) (places : List FieldPlace) (i : ℕ) (all : Pairs) (done : Fields Tree)
    → length places ≤ i → Copied bytes (drop i places) all done → done ≡ from_entries (table_of (on_values bulk all))
copy_ends bytes places i all done end c =
    let whole : Copied bytes [] all done = rw (none_left places i end) at c in
    same_map nat_list_cmp_total (slice_cmp-IsAntisymmetric nat_cmp-IsAntisymmetric) _ _ (λ q.
    whole.agrees q ∙ sym (get-from_entries nat_list_cmp_total (table_of (on_values bulk all)) q
    ∙ find_table q (on_values bulk all)))

-- ---- lists that are copied one by one

module _ {A B C : Type 0} (f : A → C) (g : B → C) where
  pub list_starts : (done : List A) (left all : List B) → done ≡ [] → left ≡ all
      → map f done ++ map g left ≡ map g all
  list_starts done left all none is = rw (none, is) refl

  pub list_goes : (done more : List A) (x : A) (items left : List B) (y : B) (all : List C) → items ≡ y ∷ left
      → more ≡ done ++ x ∷ [] → f x ≡ g y → map f done ++ map g items ≡ all → map f more ++ map g left ≡ all
  list_goes done more x items left y all next put same h =
      rw (put, map-append f done (x ∷ []), append_assoc (map f done) (f x ∷ []) (map g left), same)
      (rw next at h)

  pub list_ends : (done : List A) (left : List B) (all : List C) → left ≡ [] → map f done ++ map g left ≡ all
      → map f done ≡ all
  list_ends done left all none h = sym (append-nil (map f done)) ∙ rw none at h

pub all_same : {A : Type 0} (xs : List A) → map (λ x. x) xs ≡ xs
all_same [] = refl
all_same (x ∷ xs) = ap (λ ys. x ∷ ys) (all_same xs)
