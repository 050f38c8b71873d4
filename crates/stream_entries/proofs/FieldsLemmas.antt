-- The fields of an entry, as a finite map.
use Rattle.std.proofs.Common.{◌≡◌, ℕ, ◌+◌, Bool, true, false, cond, List, [], ◌∷◌, length, Option, Some, None}
use Rattle.std.proofs.Common.{option_map, String, string_bytes, Global, refl, sym, ◌∙◌, ap, add-one}
use Rattle.std.specs.Cmp.{both_ways}
use Rattle.std.specs.Cmp.Lexicographic.{slice_cmp, nat_list_cmp_total}
use Rattle.std.specs.FinMap.{find, get, len, insert, contains_key, from_entries, same_map, get-empty, get-insert}
use Rattle.std.specs.FinMap.{get-from_entries, len-insert, len-empty, slice_cmp-IsAntisymmetric}
use Rattle.std.specs.FinMap.{nat_cmp-IsAntisymmetric}
use Rattle.std.specs.HashMap.{HashMap, IsUnique, UpdatesBy, get_by_text, hash_map_len}
use Rattle.std.specs.List.{IsDistinct, AllByRecursion}
use Rattle.std.specs.Map.{keys_of}
use Rattle.std.specs.Option.{is_some, option_or}
use Rattle.std.specs.Ordering.{nat_cmp, eq_by_cmp}
use Rattle.std.specs.declared.cmp.Ordering.{Ordering}
use Rattle.std.specs.Str.{bytes_eq}
use Rattle.std.specs.String.{string_eq}
use Rattle.std.proofs.lemmas.Slice.Eq.{bytes_eq-Decides}
use Rattle.std.proofs.lemmas.Map.Text.{is_eq-slice_cmp, hash_map_updates_text}
use Rattle.std.proofs.lemmas.Map.Keys.{IsDistinct-head, IsDistinct-tail}
use Rattle.redis_resp.specs.Tree.{Tree}
use Rattle.redis_resp.specs.Value.{tree}
use Rattle.redis_resp.specs.Table.{Fields, entries_meaning}
use Rattle.redis_resp.specs.declared.value.Value.{Value}
use Rattle.redis_resp.proofs.FieldLemmas.{get_field}
use Rattle.redis_resp.specs.FieldsMeaning.{fields_of}

some_mapped : {A B : Type 0} (f : A → B) (o : Option A) → is_some (option_map f o) ≡ is_some o
some_mapped f None = refl
some_mapped f (Some x) = refl

pub contains_field : {S : Type 0} (m : HashMap (String Global) Value S) (q : List ℕ)
    → contains_key (fields_of m) q ≡ is_some (get_by_text m q)
contains_field m q = ap is_some (get_field m q) ∙ some_mapped tree (get_by_text m q)

-- a key that is not in the list has no field
other_keys : (k : String Global) (es : List (String Global × Value))
    → AllByRecursion (λ y. string_eq k y ≡ false) (keys_of es)
    → find (slice_cmp nat_cmp) (string_bytes k) (entries_meaning tree es) ≡ None
other_keys k [] h = refl
other_keys k (e ∷ es) h =
    ap (λ b. cond b (Some (tree e.1)) (find (slice_cmp nat_cmp) (string_bytes k) (entries_meaning tree es)))
    (is_eq-slice_cmp (string_bytes k) (string_bytes e.0) ∙ h.0) ∙ other_keys k es h.1

counted : (es : List (String Global × Value)) → IsDistinct string_eq (keys_of es)
    → len (from_entries {R = slice_cmp nat_cmp} (entries_meaning tree es)) ≡ length es
counted [] h = len-empty (slice_cmp nat_cmp) Tree
counted (e ∷ es) h =
    let rest = from_entries {R = slice_cmp nat_cmp} (entries_meaning tree es) in
    let new : contains_key rest (string_bytes e.0) ≡ false =
    ap is_some (get-from_entries nat_list_cmp_total (entries_meaning tree es) (string_bytes e.0)
    ∙ other_keys e.0 es (IsDistinct-head string_eq e.0 (keys_of es) h)) in
    len-insert nat_list_cmp_total rest (string_bytes e.0) (tree e.1) ∙ ap (λ b. cond b (len rest) (len rest + 1)) new
    ∙ ap (λ n. n + 1) (counted es (IsDistinct-tail string_eq e.0 (keys_of es) h)) ∙ add-one (length es)

pub count_fields : {S : Type 0} (m : HashMap (String Global) Value S) → IsUnique string_eq m
    → len (fields_of m) ≡ hash_map_len m
count_fields m h = counted m.entries h

if_mapped : {A B : Type 0} (f : A → B) (b : Bool) (x y : A) → f (cond b x y) ≡ cond b (f x) (f y)
if_mapped f true x y = refl
if_mapped f false x y = refl

flipped : (p q : List ℕ) → bytes_eq p q ≡ bytes_eq q p
flipped p q = both_ways (bytes_eq p q) (bytes_eq q p)
    (λ h. (bytes_eq-Decides q p).1 (sym ((bytes_eq-Decides p q).0 h)))
    (λ h. (bytes_eq-Decides p q).1 (sym ((bytes_eq-Decides q p).0 h)))

abbrev by_order : List ℕ → List ℕ → Ordering
by_order = slice_cmp nat_cmp

-- a field that is put into a map is inserted into the finite map
pub fields_put : {S : Type 0} (m n : HashMap (String Global) Value S) (k : String Global) (v : Value) (name : List ℕ)
    (t : Tree) → UpdatesBy string_eq (string_eq k) m n (Some v)
    → string_bytes k ≡ name → tree v ≡ t → fields_of n ≡ insert (fields_of m) name t
fields_put m n k v name t updates named valued = at_bytes ∙ ap (λ b. insert (fields_of m) b (tree v)) named
    ∙ ap (insert (fields_of m) name) valued
  where
    at_bytes : fields_of n ≡ insert (fields_of m) (string_bytes k) (tree v)
    at_bytes = same_map nat_list_cmp_total (slice_cmp-IsAntisymmetric nat_cmp-IsAntisymmetric) _ _ (λ q.
        get_field n q ∙ ap (option_map tree) (hash_map_updates_text (string_bytes k) m n (Some v) updates q)
        ∙ if_mapped (option_map tree) (bytes_eq (string_bytes k) q) (Some v) (get_by_text m q)
        ∙ ap (λ o. cond (bytes_eq (string_bytes k) q) (Some (tree v)) o) (sym (get_field m q))
        ∙ ap (λ b. cond b (Some (tree v)) (get (fields_of m) q))
        (flipped (string_bytes k) q ∙ sym (is_eq-slice_cmp q (string_bytes k)))
        ∙ sym (get-insert nat_list_cmp_total (fields_of m) (string_bytes k) (tree v) q))

-- the fields copied so far, after those that are left, are all the fields; no two of those left have equal names
pub record Copied (all rest : List (String Global × Value)) (done : Fields Tree) : Type 0 where
  pub agrees : (q : List ℕ) → option_or (find by_order q (entries_meaning tree rest)) (get done q)
      ≡ find by_order q (entries_meaning tree all)
  pub distinct : IsDistinct string_eq (keys_of rest)

or_none : {A : Type 0} (o : Option A) → option_or o None ≡ o
or_none None = refl
or_none (Some x) = refl

pub copy_starts : {S : Type 0} (m done : HashMap (String Global) Value S) (rest : List (String Global × Value))
    → rest ≡ m.entries → IsUnique string_eq m → done.entries ≡ [] → Copied m.entries rest (fields_of done)
copy_starts m done rest is unique none = rw (is, none) (record {
  agrees = λ q. ap (option_or (find by_order q (entries_meaning tree m.entries))) (get-empty by_order q)
      ∙ or_none (find by_order q (entries_meaning tree m.entries));
  distinct = unique;
})

copied_more : (all rest : List (String Global × Value)) (k : String Global) (v : Value) (done : Fields Tree)
    → Copied all ((k, v) ∷ rest) done → Copied all rest (insert done (string_bytes k) (tree v))
copied_more all rest k v done c = record {
  agrees = λ q. ap (option_or (find by_order q (entries_meaning tree rest)))
      (get-insert nat_list_cmp_total done (string_bytes k) (tree v) q)
      ∙ by q (eq_by_cmp by_order q (string_bytes k)) refl ∙ c.agrees q;
  distinct = IsDistinct-tail string_eq k (keys_of rest) c.distinct;
}
  where
    none : find by_order (string_bytes k) (entries_meaning tree rest) ≡ None
    none = other_keys k rest (IsDistinct-head string_eq k (keys_of rest) c.distinct)

    by : (q : List ℕ) (b : Bool) → eq_by_cmp by_order q (string_bytes k) ≡ b
        → option_or (find by_order q (entries_meaning tree rest)) (cond b (Some (tree v)) (get done q))
        ≡ option_or (cond b (Some (tree v)) (find by_order q (entries_meaning tree rest))) (get done q)
    by q true e = ap (λ o. option_or o (Some (tree v)))
        (ap (λ p. find by_order p (entries_meaning tree rest))
        ((bytes_eq-Decides q (string_bytes k)).0 (sym (is_eq-slice_cmp q (string_bytes k)) ∙ e)) ∙ none)
    by q false e = refl

pub copy_goes : (all items rest : List (String Global × Value)) (k : String Global) (v : Value)
    (done more : Fields Tree) → items ≡ (k, v) ∷ rest → more ≡ insert done (string_bytes k) (tree v)
    → Copied all items done → Copied all rest more
copy_goes all items rest k v done more steps put c = rw put (copied_more all rest k v done (rw steps at c))

pub copy_ends : {S : Type 0} (m : HashMap (String Global) Value S) (rest : List (String Global × Value))
    (done : Fields Tree) → rest ≡ [] → Copied m.entries rest done → done ≡ fields_of m
copy_ends m rest done none c =
    let whole : Copied m.entries [] done = rw none at c in
    same_map nat_list_cmp_total (slice_cmp-IsAntisymmetric nat_cmp-IsAntisymmetric) _ _
    (λ q. whole.agrees q ∙ sym (get-from_entries nat_list_cmp_total (entries_meaning tree m.entries) q))
