-- The test of two `StreamId`s is true exactly if they mean the same entry, and so it is an equivalence.
use Rattle.std.specs.Prelude.{◌≡◌, ◌==◌, ℕ, Bool, true, false, cond, ◌⊎◌, List, [], ◌∷◌, Option, Some, None, option_map}
use Rattle.std.specs.Prelude.{refl, String, string_bytes}
use Rattle.std.specs.declared.alloc.Global.{Global}
use Rattle.std.specs.Bool.{Decides}
use Rattle.std.specs.Cmp.{IsEquivalence, both_ways}
use Rattle.std.specs.Cmp.Lexicographic.{nat_list_cmp_total}
use Rattle.std.specs.FinMap.{get, same_map, slice_cmp-IsAntisymmetric, nat_cmp-IsAntisymmetric}
use Rattle.std.specs.HashMap.{HashMap, hash_map_eq}
use Rattle.std.specs.HashMap.Eq.{get_from_hash_map_eq, hash_map_eq_from_get}
use Rattle.std.specs.Map.{lookup}
use Rattle.std.specs.Option.{option_eq}
use Rattle.std.specs.Str.{bytes_eq}
use Rattle.std.specs.String.{string_eq, string_eq_equiv}
use Rattle.std.proofs.Common.{sym, ◌∙◌, ap, subst, true≢false, inl, inr}
use Rattle.std.proofs.lemmas.Bool.Decides.{Decides-eqb, Decides-and}
use Rattle.std.proofs.lemmas.Slice.Eq.{bytes_eq-Decides}
use Rattle.redis_resp.proofs.TableLemmas.{get_of_fields}
use Rattle.redis_resp.specs.SameLaws.{same-Decides}
use Rattle.redis_resp.specs.Value.{tree}
use Rattle.redis_resp.specs.declared.value.Value.{Value}
use Rattle.stream_entries.specs.SameEntryMeaning.{same_value, same_entry}
use Rattle.redis_resp.specs.FieldsMeaning.{fields_of}
use Rattle.stream_entries.specs.EntryMeaning.{entry_meaning}
use Rattle.stream_entries.specs.declared.stream_id.StreamId.{StreamId}

-- the value of the first entry whose key has these bytes
abbrev at : {X : Type 0} → List ℕ → List (String Global × X) → Option X
at bytes es = lookup (λ k. bytes_eq bytes (string_bytes k)) es

same_option : (o p : Option Value) → option_eq same_value o p ≡ true → option_map tree o ≡ option_map tree p
same_option None None h = refl
same_option (Some v) (Some w) h = ap Some ((same-Decides (tree v) (tree w)).0 h)
same_option None (Some w) h = absurd (true≢false (sym h))
same_option (Some v) None h = absurd (true≢false (sym h))

option_same : (o p : Option Value) → option_map tree o ≡ option_map tree p → option_eq same_value o p ≡ true
option_same None None h = refl
option_same (Some v) (Some w) h = (same-Decides (tree v) (tree w)).1 (cc)
option_same None (Some w) h = cc
option_same (Some v) None h = cc

-- bytes at which a map has nothing, or which are one of its keys
found : {X : Type 0} (bytes : List ℕ) (es : List (String Global × X))
    → (at bytes es ≡ None) ⊎ ((k : String Global) × (bytes ≡ string_bytes k))
found bytes [] = inl refl
found {X = X} bytes (e ∷ es) = by (bytes_eq bytes (string_bytes e.0)) refl (found bytes es)
  where
    by : (b : Bool) → bytes_eq bytes (string_bytes e.0) ≡ b
        → (at bytes es ≡ None) ⊎ ((k : String Global) × (bytes ≡ string_bytes k))
        → (cond (bytes_eq bytes (string_bytes e.0)) (Some e.1) (at bytes es) ≡ None)
        ⊎ ((k : String Global) × (bytes ≡ string_bytes k))
    by true p f = inr (e.0, (bytes_eq-Decides bytes (string_bytes e.0)).0 p)
    by false p (inl n) = inl (ap (λ b. cond b (Some e.1) (at bytes es)) p ∙ n)
    by false p (inr k) = inr k

agree : (es fs : List (String Global × Value))
    → ((k : String Global) → option_eq same_value (lookup (string_eq k) es) (lookup (string_eq k) fs) ≡ true)
    → (bytes : List ℕ) → option_map tree (at bytes es) ≡ option_map tree (at bytes fs)
agree es fs h bytes = by (found bytes es) (found bytes fs)
  where
    key : (k : String Global) → bytes ≡ string_bytes k → option_map tree (at bytes es) ≡ option_map tree (at bytes fs)
    key k e = subst (λ b. option_map tree (at b es) ≡ option_map tree (at b fs)) (sym e)
        (same_option (lookup (string_eq k) es) (lookup (string_eq k) fs) (h k))

    by : (at bytes es ≡ None) ⊎ ((k : String Global) × (bytes ≡ string_bytes k))
        → (at bytes fs ≡ None) ⊎ ((k : String Global) × (bytes ≡ string_bytes k))
        → option_map tree (at bytes es) ≡ option_map tree (at bytes fs)
    by (inr k) g = key k.0 k.1
    by (inl n) (inr k) = key k.0 k.1
    by (inl n) (inl m) = ap (option_map tree) (n ∙ sym m)

-- `==` of two maps of fields is true exactly if they are the same finite map
fields-Decides : {S : Type 0} (m n : HashMap (String Global) Value S)
    → Decides (hash_map_eq string_eq same_value m n) (fields_of m ≡ fields_of n)
fields-Decides m n = (
  λ h. same_map nat_list_cmp_total (slice_cmp-IsAntisymmetric nat_cmp-IsAntisymmetric) _ _ (λ bytes.
      get_of_fields tree m bytes ∙ agree m.entries n.entries
      (get_from_hash_map_eq string_eq same_value string_eq_equiv m n h) bytes ∙ sym (get_of_fields tree n bytes)),
  λ e. hash_map_eq_from_get string_eq same_value m n (λ k. option_same _ _
      (sym (get_of_fields tree m (string_bytes k)) ∙ ap (λ f. get f (string_bytes k)) e
      ∙ get_of_fields tree n (string_bytes k))),
)

numbers-Decides : (o p : Option ℕ) → Decides (option_eq ◌==◌ o p) (o ≡ p)
numbers-Decides None None = (λ h. refl, λ e. refl)
numbers-Decides (Some m) (Some n) = (λ h. ap Some ((Decides-eqb m n).0 h), λ e. (Decides-eqb m n).1 (cc))
numbers-Decides None (Some n) = (λ h. absurd (true≢false (sym h)), λ e. cc)
numbers-Decides (Some m) None = (λ h. absurd (true≢false (sym h)), λ e. cc)

-- the test is true exactly if the two mean the same entry
pub same_entry_Decides : (a b : StreamId) → Decides (same_entry a b) (entry_meaning a ≡ entry_meaning b)
same_entry_Decides a b =
    let id = bytes_eq-Decides (string_bytes a.id) (string_bytes b.id) in
    let fields = fields-Decides a.map b.map in
    let elapsed = numbers-Decides a.milliseconds_elapsed_from_delivery b.milliseconds_elapsed_from_delivery in
    let delivered = numbers-Decides a.delivered_count b.delivered_count in
    let all = Decides-and _ _ id (Decides-and _ _ fields (Decides-and _ _ elapsed delivered)) in (
      λ h. let parts =
          all.0 h in (λ i. record {
            id = parts.0 i;
            fields = parts.1.0 i;
            milliseconds_elapsed_from_delivery = parts.1.1.0 i;
            delivered_count = parts.1.1.1 i;
          }),
      λ e. all.1 (
        ap (λ x. x.id) e,
        (ap (λ x. x.fields) e, (ap (λ x. x.milliseconds_elapsed_from_delivery) e, ap (λ x. x.delivered_count) e)),
      ),
    )

-- the laws of `==` of `StreamId`s
pub same_entry_laws : IsEquivalence same_entry
same_entry_laws = record {
  refl = λ a. (same_entry_Decides a a).1 refl;
  symm = λ a b. both_ways (same_entry a b) (same_entry b a)
      (λ p. (same_entry_Decides b a).1 (sym ((same_entry_Decides a b).0 p)))
      (λ p. (same_entry_Decides a b).1 (sym ((same_entry_Decides b a).0 p)));
  congr = λ a b c p. both_ways (same_entry a c) (same_entry b c)
      (λ q. (same_entry_Decides b c).1 (sym ((same_entry_Decides a b).0 p) ∙ (same_entry_Decides a c).0 q))
      (λ q. (same_entry_Decides a c).1 ((same_entry_Decides a b).0 p ∙ (same_entry_Decides b c).0 q));
}
