-- The forms of a read reply, by the third and the fourth element of an array of four.
use Rattle.std.proofs.Common.{◌≡◌, ◌++◌, ℕ, List, [], ◌∷◌, Bool, true, false, true≢false, if◌then◌else◌, Option, Some}
use Rattle.std.proofs.Common.{None, option_map, option_and_then, refl, sym, ◌∙◌, ap}
use Rattle.std.proofs.lemmas.Option.{none-some, same_Some}
use Rattle.std.specs.Option.{is_some, IsSome}
use Rattle.redis_resp.specs.Tree.{Tree, nil, plain, single}
use Rattle.redis_resp.specs.Text.{text_reading, text_of_plain}
use Rattle.redis_resp.specs.Number.{unsigned_reading}
use Rattle.redis_resp.specs.Reading.{is_nil, both_read, four_in, option_reading}
use Rattle.redis_resp.specs.Table.{Fields}
use Rattle.stream_entries.specs.Entry.{Entry}
use Rattle.stream_entries.specs.Rows.{field_reading, standard_entries}
use Rattle.stream_entries.specs.Read.{Delivery, delivered_entry, delivery_reading, claim_entries}
use Rattle.stream_entries.specs.InForms.{item_in_forms, numbers_of_four, numbers_in}
use Rattle.stream_entries.specs.Overlap.{OverlapEntry, in_standard, in_claim}
use Rattle.stream_entries.proofs.InFormsLemmas.{in_both}
use Rattle.stream_entries.proofs.OverlapLemmas.{number_of_plain, option_of_plain, fourth, nil_only, number_text}
use Rattle.stream_entries.proofs.OverlapLemmas.{standard_parts, Members, standard_given, claim_given}
use Rattle.stream_entries.proofs.RespellingLemmas.{standard_of, standard_of_four, delivery_of}

pub four_numbers : (t : Tree) (q : Tree × Tree × Tree × Tree) → four_in t ≡ Some q → numbers_in t ≡ numbers_of_four q
four_numbers t q is = ap (option_and_then numbers_of_four) is

pub no_four : (t : Tree) → four_in t ≡ None → numbers_in t ≡ None
no_four t is = ap (option_and_then numbers_of_four) is

-- The elements of a delivery.

delivery_from : Option (List ℕ) → Option (Fields Tree) → Option (Option ℕ) → Option (Option ℕ) → Option Delivery
delivery_from i f e d = option_and_then
    (λ w. option_and_then (λ x. option_and_then (λ y. option_map (λ z. (w, x, y, z)) d) e) f) i

without_id : (i : Option (List ℕ)) (f : Option (Fields Tree)) (e d : Option (Option ℕ)) → i ≡ None
    → delivery_from i f e d ≡ None
unfolding delivery_from
without_id None f e d h = refl
without_id (Some i) f e d h = cc

without_fields : (i : Option (List ℕ)) (f : Option (Fields Tree)) (e d : Option (Option ℕ)) → f ≡ None
    → delivery_from i f e d ≡ None
unfolding delivery_from
without_fields None f e d h = refl
without_fields (Some i) None e d h = refl
without_fields (Some i) (Some f) e d h = cc

without_numbers : (i : Option (List ℕ)) (f : Option (Fields Tree)) (e d : Option (Option ℕ)) → both_read e d ≡ None
    → delivery_from i f e d ≡ None
unfolding delivery_from
without_numbers None f e d h = refl
without_numbers (Some i) None e d h = refl
without_numbers (Some i) (Some f) None d h = refl
without_numbers (Some i) (Some f) (Some e) None h = refl
without_numbers (Some i) (Some f) (Some e) (Some d) h = cc

members_of : (q : Tree × Tree × Tree × Tree) → delivery_of q
    ≡ delivery_from (text_reading q.0) (field_reading q.1) (option_reading (unsigned_reading 64) q.2)
    (option_reading (unsigned_reading 64) q.3)
unfolding delivery_from
members_of q = refl

no_claim : (t : Tree) (q : Tree × Tree × Tree × Tree) → four_in t ≡ Some q
    → delivery_from (text_reading q.0) (field_reading q.1) (option_reading (unsigned_reading 64) q.2)
    (option_reading (unsigned_reading 64) q.3) ≡ None → claim_entries t ≡ None
no_claim t q is none = ap (λ o. option_map (λ d. delivered_entry d ∷ []) (option_and_then delivery_of o)) is
    ∙ ap (option_map (λ d. delivered_entry d ∷ [])) (members_of q ∙ none)

-- without numbers there is no delivery
pub no_numbers : (t : Tree) → numbers_in t ≡ None → claim_entries t ≡ None
no_numbers t h = by (four_in t) refl
  where
    by : (o : Option (Tree × Tree × Tree × Tree)) → four_in t ≡ o → claim_entries t ≡ None
    by None is = ap (λ o. option_map (λ d. delivered_entry d ∷ []) (option_and_then delivery_of o)) is
    by (Some q) is =
        no_claim t q is (without_numbers (text_reading q.0) (field_reading q.1)
        (option_reading (unsigned_reading 64) q.2) (option_reading (unsigned_reading 64) q.3)
        (sym (four_numbers t q is) ∙ h))

-- the two numbers of an array of four
numbers_with : (t : Tree) (q : Tree × Tree × Tree × Tree) (e d : Option ℕ) → four_in t ≡ Some q
    → numbers_in t ≡ Some (e, d)
    → (option_of_plain (plain q.2) ≡ Some e) × (option_of_plain (plain q.3) ≡ Some d)
numbers_with t q e d is h = parts (option_of_plain (plain q.2)) (option_of_plain (plain q.3))
    (sym (four_numbers t q is) ∙ h)
  where
    parts : (o p : Option (Option ℕ)) → both_read o p ≡ Some (e, d) → (o ≡ Some e) × (p ≡ Some d)
    parts None p h = cc
    parts (Some x) None h = cc
    parts (Some x) (Some y) h = let s = same_Some (x, y) (e, d) h in (
      ap (λ (r : Option ℕ × Option ℕ). Some r.0) s,
      ap (λ (r : Option ℕ × Option ℕ). Some r.1) s,
    )

none_is_nil : (u : Tree) → option_of_plain u ≡ Some None → u ≡ nil
none_is_nil u h = by (is_nil u) (number_of_plain u) refl h
  where
    by : (b : Bool) (o : Option ℕ) → is_nil u ≡ b → (if b then Some None else option_map Some o) ≡ Some None → u ≡ nil
    by true o e h = nil_only u e
    by false None e h = cc
    by false (Some n) e h = cc

some_is_number : (u : Tree) (n : ℕ) → option_of_plain u ≡ Some (Some n) → number_of_plain u ≡ Some n
some_is_number u n h = by (is_nil u) (number_of_plain u) h
  where
    by : (b : Bool) (o : Option ℕ) → (if b then Some None else option_map Some o) ≡ Some (Some n) → o ≡ Some n
    by true o h = cc
    by false None h = cc
    by false (Some m) h = same_Some (Some m) (Some n) h

none_there : {A : Type 0} (o : Option A) → (IsSome o → ⊥) → o ≡ None
none_there None h = refl
none_there (Some x) h = absurd (h refl)

no_standard : (t : Tree) (q : Tree × Tree × Tree × Tree) → four_in t ≡ Some q → (IsSome (standard_of q) → ⊥)
    → standard_entries t ≡ None
no_standard t q is none = standard_of_four t q is ∙ none_there (standard_of q) none

-- if the third is nil, it is not the id of a row
pub nil_is_no_id : (t : Tree) (d : Option ℕ) → numbers_in t ≡ Some (None, d) → standard_entries t ≡ None
nil_is_no_id t d h = by (four_in t) refl
  where
    by : (o : Option (Tree × Tree × Tree × Tree)) → four_in t ≡ o → standard_entries t ≡ None
    by None is = absurd (none-some (None, d) (sym (no_four t is) ∙ h))
    by (Some q) is =
        let no_text : text_reading q.2 ≡ None =
        ap text_of_plain (none_is_nil (plain q.2) (numbers_with t q None d is h).0) in
        no_standard t q is (λ s. true≢false (sym (standard_parts q s).2 ∙ ap is_some no_text))

-- if the fourth is a number, it is not the fields of a row
pub number_is_no_fields : (t : Tree) (e : Option ℕ) (d : ℕ) → numbers_in t ≡ Some (e, Some d)
    → standard_entries t ≡ None
number_is_no_fields t e d h = by (four_in t) refl
  where
    by : (o : Option (Tree × Tree × Tree × Tree)) → four_in t ≡ o → standard_entries t ≡ None
    by None is = absurd (none-some (e, Some d) (sym (no_four t is) ∙ h))
    by (Some q) is =
        let number = (numbers_with t q e (Some d) is h).1 in
        let there : IsSome (option_of_plain (plain q.3)) = ap is_some number in
        no_standard t q is (λ s.
        let nothing : plain q.3 ≡ nil = nil_only (plain q.3)
        (sym (fourth (plain q.3)) ∙ rw ((standard_parts q s).3, there) refl) in
        none-some d (same_Some None (Some d) (sym (ap option_of_plain nothing) ∙ number)))

-- a pair of a map is not an array of four
pub pair_is_no_delivery : (p : Tree × Tree) → claim_entries (single p) ≡ None
pair_is_no_delivery p = refl

-- An entry of both forms, by its parts.

pub overlap_read : (t : Tree) (q : Tree × Tree × Tree × Tree) (o : OverlapEntry) → four_in t ≡ Some q
    → numbers_in t ≡ Some (Some o.number, None)
    → text_reading q.0 ≡ Some o.id → field_reading q.1 ≡ Some o.fields → text_reading q.2 ≡ Some o.text
    → item_in_forms t ≡ (Some (in_standard o), Some (in_claim o))
overlap_read t q o is h id fields text =
    let n = numbers_with t q (Some o.number) None is h in
    let number : unsigned_reading 64 q.2 ≡ Some o.number = some_is_number (plain q.2) o.number n.0 in
    let m : Members q = record {
      entry = o;
      is = rw (id, fields, number, text) refl;
      id = id;
      fields = fields;
      number = number;
      text = text;
      ends = none_is_nil (plain q.3) n.1;
    } in
    in_both (standard_entries t) (Some (in_standard o)) (claim_entries t) (Some (in_claim o))
    (standard_of_four t q is ∙ standard_given q m)
    (ap (λ r. option_map (λ d. delivered_entry d ∷ []) (option_and_then delivery_of r)) is ∙ claim_given q m)

-- a value without an id or fields has neither form
pub no_id : (t : Tree) (q : Tree × Tree × Tree × Tree) → four_in t ≡ Some q → text_reading q.0 ≡ None
    → item_in_forms t ≡ (None, None)
no_id t q is e =
    in_both (standard_entries t) None (claim_entries t) None
    (no_standard t q is (λ s. true≢false (sym (standard_parts q s).0 ∙ ap is_some e)))
    (no_claim t q is (without_id (text_reading q.0) (field_reading q.1) (option_reading (unsigned_reading 64) q.2)
    (option_reading (unsigned_reading 64) q.3) e))

pub no_fields : (t : Tree) (q : Tree × Tree × Tree × Tree) → four_in t ≡ Some q → field_reading q.1 ≡ None
    → item_in_forms t ≡ (None, None)
no_fields t q is e =
    in_both (standard_entries t) None (claim_entries t) None
    (no_standard t q is (λ s. true≢false (sym (standard_parts q s).1 ∙ ap is_some e)))
    (no_claim t q is (without_fields (text_reading q.0) (field_reading q.1) (option_reading (unsigned_reading 64) q.2)
    (option_reading (unsigned_reading 64) q.3) e))

-- a number always has a text
pub number_has_text : (t : Tree) (q : Tree × Tree × Tree × Tree) (n : ℕ) → four_in t ≡ Some q
    → numbers_in t ≡ Some (Some n, None) → text_reading q.2 ≡ None → item_in_forms t ≡ (None, None)
number_has_text t q n is h e =
    let number : unsigned_reading 64 q.2 ≡ Some n =
    some_is_number (plain q.2) n (numbers_with t q (Some n) None is h).0 in
    absurd (true≢false (sym (number_text (plain q.2) (ap is_some number)) ∙ ap is_some e))

pub four_of_numbers : (t : Tree) (n : ℕ) → numbers_in t ≡ Some (Some n, None) → four_in t ≡ None
    → item_in_forms t ≡ (None, None)
four_of_numbers t n h e = absurd (none-some (Some n, None) (sym (no_four t e) ∙ h))

-- a delivery after entries
pub delivery_behind : (t : Tree) (d : Delivery) (ids new : List Entry) → delivery_reading t ≡ Some d
    → new ≡ ids ++ delivered_entry d ∷ [] → option_map (λ es. ids ++ es) (claim_entries t) ≡ Some new
delivery_behind t d ids new is pushed =
    ap (λ o. option_map (λ es. ids ++ es) (option_map (λ e. delivered_entry e ∷ []) o)) is ∙ ap Some (sym pushed)

pub no_delivery : (t : Tree) → delivery_reading t ≡ None → claim_entries t ≡ None
no_delivery t is = ap (option_map (λ d. delivered_entry d ∷ [])) is

pub ruleset delivery_told = (delivery_behind, no_delivery, pair_is_no_delivery)

pub ruleset numbers_told = (no_numbers, nil_is_no_id, number_is_no_fields)

pub ruleset overlap_parts = (no_id, no_fields, number_has_text, four_of_numbers, overlap_read)
