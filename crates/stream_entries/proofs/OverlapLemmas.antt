-- The read replies with a record in both forms.
use Rattle.std.proofs.Common.{◌≡◌, ◌&&◌, ◌++◌, ℕ, List, [], ◌∷◌, Bool, true, false, true≢false, cond, if◌then◌else◌}
use Rattle.std.proofs.Common.{Option, Some, None, option_map, option_and_then, refl, sym, ◌∙◌, ap, subst, map, flat_map}
use Rattle.std.proofs.lemmas.Bool.{and_parts}
use Rattle.std.proofs.lemmas.Option.{same_Some}
use Rattle.std.proofs.lemmas.Slice.Eq.{bytes_eq-Decides}
use Rattle.std.proofs.lemmas.Str.{is_utf8-from_IsUtf8}
use Rattle.std.specs.Option.{is_some, IsSome, IsSomeAnd}
use Rattle.std.specs.List.{AllByRecursion}
use Rattle.std.specs.Str.{is_utf8, bytes_eq}
use Rattle.std.specs.FinMap.{from_entries, empty}
use Rattle.redis_resp.specs.Tree.{Tree, nil, int, bulk, array, simple, map_of_pairs, plain, pairs_of_plain}
use Rattle.redis_resp.specs.Text.{text_reading, text_of_plain}
use Rattle.redis_resp.specs.Number.{unsigned_of_plain, within, unsigned_reading}
use Rattle.redis_resp.specs.Reading.{is_nil, traverse, both_read, four_in}
use Rattle.redis_resp.specs.Table.{Fields, entry_reading, table_of, value_after, without, on_values}
use Rattle.redis_resp.proofs.NumberLemmas.{unsigned_no_text}
use Rattle.redis_resp.proofs.TraverseLemmas.{is_some_map}
use Rattle.stream_entries.specs.Entry.{Entry, entry_of}
use Rattle.stream_entries.specs.Rows.{field_reading, standard_entries}
use Rattle.stream_entries.specs.Read.{Delivery, delivered_entry, claim_entries, standard_reading, claim_reading}
use Rattle.stream_entries.specs.Overlap.{Skeleton, skeleton, entries_in, kept_lists, FourOverlap, HasOverlapShape}
use Rattle.stream_entries.specs.Overlap.{OverlapEntry, four_entry, overlap_entry, in_standard, in_claim, given}
use Rattle.stream_entries.specs.OverlapLaws.{BothRecordsAreShape, EachEntryIsRead, StandardIsGiven, ClaimIsGiven}
use Rattle.stream_entries.specs.OverlapLaws.{RecordsDiffer}
use Rattle.stream_entries.proofs.RespellingLemmas.{standard_of, standard_of_four, delivery_of}
use Rattle.stream_entries.proofs.SkeletonLemmas.{all_inside, all_joined, all_more, all_both, skeleton_there, streams_as}

and_false : (b : Bool) → (b && false) ≡ false
and_false true = refl
and_false false = refl

abbrev pub number_of_plain : Tree → Option ℕ
number_of_plain u = option_and_then (within 64) (unsigned_of_plain u)

-- a number that may be nil
abbrev pub option_of_plain : Tree → Option (Option ℕ)
option_of_plain u = if is_nil u then Some None else option_map Some (number_of_plain u)

abbrev pub fields_of_plain : Tree → Option (Fields Tree)
fields_of_plain u = option_map from_entries
    (option_map table_of (option_and_then (traverse (entry_reading (λ x. Some x))) (pairs_of_plain u)))

bulk_number : (b : List ℕ) (q : Bool) → is_utf8 b ≡ q
    → (is_some {T = List ℕ} (if q then Some b else None) && is_some (option_map Some (number_of_plain (bulk b))))
    ≡ is_some (number_of_plain (bulk b))
bulk_number b true e = is_some_map Some (number_of_plain (bulk b))
bulk_number b false e =
    sym
    (ap (λ o. is_some (option_and_then (within 64) o))
    (unsigned_no_text b (λ h. true≢false (sym (is_utf8-from_IsUtf8 b h) ∙ e))))

-- a text that is a number or nil is a number, since a number is a text
pub third : (u : Tree) → (is_some (text_of_plain u) && is_some (option_of_plain u)) ≡ is_some (number_of_plain u)
third (int z) = is_some_map Some (number_of_plain (int z))
third (bulk b) = bulk_number b (is_utf8 b) refl
third (simple s) = is_some_map Some (number_of_plain (simple s))
third _ = refl

-- fields that are a number or nil are nil, since no fields are a number
pub fourth : (u : Tree) → (is_some (fields_of_plain u) && is_some (option_of_plain u)) ≡ is_nil u
fourth (array us) = and_false (is_some (fields_of_plain (array us)))
fourth (map_of_pairs ps) = and_false (is_some (fields_of_plain (map_of_pairs ps)))
fourth _ = refl

pub nil_only : (u : Tree) → is_nil u ≡ true → u ≡ nil
nil_only nil e = refl
nil_only _ e = cc

-- An array of four in each form.

pub standard_parts : (q : Tree × Tree × Tree × Tree) → IsSome (standard_of q)
    → IsSome (text_reading q.0) × IsSome (field_reading q.1) × IsSome (text_reading q.2) × IsSome (field_reading q.3)
standard_parts q h = by (text_reading q.0) (field_reading q.1) (text_reading q.2) (field_reading q.3)
    (sym (is_some_map (map entry_of) _ ∙ is_some_map table_of _) ∙ h)
  where
    by : (i : Option (List ℕ)) (f : Option (Fields Tree)) (t : Option (List ℕ)) (g : Option (Fields Tree))
        → is_some
        (option_and_then
        (λ m. option_map (λ ms. m ∷ ms) (option_and_then (λ n. option_map (λ ns. n ∷ ns) (Some []))
        (both_read t g))) (both_read i f)) ≡ true
        → IsSome i × IsSome f × IsSome t × IsSome g
    by None f t g e = cc
    by (Some i) None t g e = cc
    by (Some i) (Some f) None g e = cc
    by (Some i) (Some f) (Some t) None e = cc
    by (Some i) (Some f) (Some t) (Some g) e = (refl, refl, refl, refl)

pub claim_parts : (q : Tree × Tree × Tree × Tree) → IsSome (delivery_of q)
    → IsSome (option_of_plain (plain q.2)) × IsSome (option_of_plain (plain q.3))
claim_parts q h = by (text_reading q.0) (field_reading q.1) (option_of_plain (plain q.2))
    (option_of_plain (plain q.3)) h
  where
    by : (i : Option (List ℕ)) (f : Option (Fields Tree)) (e d : Option (Option ℕ))
        → is_some {T = Delivery}
        (option_and_then
        (λ w. option_and_then (λ x. option_and_then (λ y. option_map (λ z. (w, x, y, z)) d) e) f) i) ≡ true
        → IsSome e × IsSome d
    by None f e d h = cc
    by (Some i) None e d h = cc
    by (Some i) (Some f) None d h = cc
    by (Some i) (Some f) (Some e) None h = cc
    by (Some i) (Some f) (Some e) (Some d) h = (refl, refl)

-- an item that both forms read has the overlap shape
shape_of_both : (e : Tree) → (is_some (standard_entries e) ≡ true) × (is_some (claim_entries e) ≡ true)
    → HasOverlapShape e
shape_of_both e h = by (four_in e) refl
    (sym (is_some_map (λ d. delivered_entry d ∷ []) (option_and_then delivery_of (four_in e))) ∙ h.1)
  where
    by : (o : Option (Tree × Tree × Tree × Tree)) → four_in e ≡ o → is_some (option_and_then delivery_of o) ≡ true
        → IsSomeAnd o FourOverlap
    by None is g = cc
    by (Some q) is g =
        let s = standard_parts q (sym (ap is_some (standard_of_four e q is)) ∙ h.0) in
        let c = claim_parts q g in (
          s.0,
          s.1,
          sym (third (plain q.2)) ∙ rw (s.2, c.0) refl,
          nil_only (plain q.3) (sym (fourth (plain q.3)) ∙ rw (s.3, c.1) refl),
        )

-- the parts of an item of the shape, and its entries in each form
record Given (e : Tree) : Type 0 where
  entry : OverlapEntry
  is : overlap_entry e ≡ Some entry
  standard : standard_entries e ≡ Some (given in_standard e)
  claim : claim_entries e ≡ Some (given in_claim e)

-- the readings of four elements, from the shape
pub record Members (q : Tree × Tree × Tree × Tree) : Type 0 where
  pub entry : OverlapEntry
  pub is : four_entry q ≡ Some entry
  pub id : text_reading q.0 ≡ Some entry.id
  pub fields : field_reading q.1 ≡ Some entry.fields
  pub number : unsigned_reading 64 q.2 ≡ Some entry.number
  pub text : text_reading q.2 ≡ Some entry.text
  pub ends : plain q.3 ≡ nil

pub number_text : (u : Tree) → is_some (number_of_plain u) ≡ true → is_some (text_of_plain u) ≡ true
number_text u e = (and_parts (is_some (text_of_plain u)) (is_some (option_of_plain u)) (third u ∙ e)).0

members : (q : Tree × Tree × Tree × Tree) → FourOverlap q → Members q
members q s = by (text_reading q.0) (field_reading q.1) (unsigned_reading 64 q.2)
    (text_reading q.2) refl refl refl refl s.0 s.1 s.2
  where
    by : (i : Option (List ℕ)) (f : Option (Fields Tree)) (n : Option ℕ) (t : Option (List ℕ)) → text_reading q.0 ≡ i
        → field_reading q.1 ≡ f → unsigned_reading 64 q.2 ≡ n → text_reading q.2 ≡ t
        → IsSome (text_reading q.0) → IsSome (field_reading q.1) → IsSome (unsigned_reading 64 q.2) → Members q
    by None f n t a b c d w x y = absurd (true≢false (sym w ∙ ap is_some a))
    by (Some i) None n t a b c d w x y = absurd (true≢false (sym x ∙ ap is_some b))
    by (Some i) (Some f) None t a b c d w x y = absurd (true≢false (sym y ∙ ap is_some c))
    by (Some i) (Some f) (Some n) None a b c d w x y =
        absurd (true≢false (sym (number_text (plain q.2) y) ∙ ap is_some d))
    by (Some i) (Some f) (Some n) (Some t) a b c d w x y = record {
      entry = record { id = i; fields = f; number = n; text = t };
      is = rw (a, b, c, d) refl;
      id = a;
      fields = b;
      number = c;
      text = d;
      ends = s.3;
    }

pub standard_given : (q : Tree × Tree × Tree × Tree) (m : Members q) → standard_of q ≡ Some (in_standard m.entry)
standard_given q m = rw (m.id, m.fields, m.text, ap fields_of_plain m.ends) (by (bytes_eq m.entry.id m.entry.text) refl)
  where
    by : (b : Bool) → bytes_eq m.entry.id m.entry.text ≡ b
        → Some (map entry_of ((m.entry.id, cond b empty m.entry.fields) ∷ cond b [] ((m.entry.text, empty) ∷ [])))
        ≡ Some
        (cond b (entry_of (m.entry.text, empty) ∷ [])
        (entry_of (m.entry.id, m.entry.fields) ∷ entry_of (m.entry.text, empty) ∷ []))
    by true e = rw ((bytes_eq-Decides m.entry.id m.entry.text).0 e) refl
    by false e = refl

some_number : (u : Tree) (n : ℕ) → number_of_plain u ≡ Some n → option_of_plain u ≡ Some (Some n)
some_number u n e = by (is_nil u) refl
  where
    by : (b : Bool) → is_nil u ≡ b → option_of_plain u ≡ Some (Some n)
    by true is = let gone = sym (ap number_of_plain (nil_only u is)) ∙ e in cc
    by false is = rw (is, e) refl

pub claim_given : (q : Tree × Tree × Tree × Tree) (m : Members q)
    → option_map (λ d. delivered_entry d ∷ []) (delivery_of q) ≡ Some (in_claim m.entry)
claim_given q m = rw (m.id, m.fields, some_number (plain q.2) m.entry.number m.number, ap option_of_plain m.ends) refl

given_of_shape : (e : Tree) → HasOverlapShape e → Given e
given_of_shape e s = by (four_in e) refl s
  where
    by : (o : Option (Tree × Tree × Tree × Tree)) → four_in e ≡ o → IsSomeAnd o FourOverlap → Given e
    by None is h = absurd h
    by (Some q) is h =
        let m = members q h in
        record {
          entry = m.entry;
          is = rw (is, m.is) refl;
          standard = standard_of_four e q is ∙ standard_given q m ∙ rw (is, m.is) refl;
          claim = rw (is, m.is) (claim_given q m);
        }

-- The two records.

all_given : (rows : Skeleton) → AllByRecursion HasOverlapShape (entries_in rows)
    → AllByRecursion Given (entries_in rows)
all_given rows h = all_more HasOverlapShape Given given_of_shape (entries_in rows) h

pub entries_read : EachEntryIsRead
entries_read t rows o = all_more Given (λ e. IsSome (overlap_entry e)) (λ e s. ap is_some s.is) (entries_in rows)
    (all_given rows o.1)

pub standard_is_given : StandardIsGiven
unfolding standard_reading
standard_is_given t rows o = streams_as standard_entries (given in_standard) t rows o.0
    (all_more Given (λ e. standard_entries e ≡ Some (given in_standard e)) (λ e s. s.standard) (entries_in rows)
    (all_given rows o.1))

pub claim_is_given : ClaimIsGiven
unfolding claim_reading
claim_is_given t rows o = streams_as claim_entries (given in_claim) t rows o.0
    (all_more Given (λ e. claim_entries e ≡ Some (given in_claim e)) (λ e s. s.claim) (entries_in rows)
    (all_given rows o.1))

standard_there : (t : Tree) → IsSome (standard_reading t) → (rows : Skeleton) × (skeleton t ≡ Some rows)
    × AllByRecursion (λ e. is_some (standard_entries e) ≡ true) (entries_in rows)
unfolding standard_reading
standard_there t h = skeleton_there standard_entries t h

claim_there : (t : Tree) → IsSome (claim_reading t) → (rows : Skeleton) × (skeleton t ≡ Some rows)
    × AllByRecursion (λ e. is_some (claim_entries e) ≡ true) (entries_in rows)
unfolding claim_reading
claim_there t h = skeleton_there claim_entries t h

pub both_are_shape : BothRecordsAreShape
both_are_shape t = (
  λ h.
      let s = standard_there t h.0 in
      let c = claim_there t h.1 in
      let same : c.0 ≡ s.0 = same_Some c.0 s.0 (sym c.1 ∙ s.1) in
      let claims : AllByRecursion (λ e. is_some (claim_entries e) ≡ true) (entries_in s.0) =
      subst (λ rows. AllByRecursion (λ e. is_some (claim_entries e) ≡ true) (entries_in rows)) same c.2 in (
        s.0,
        (
          s.1,
          all_more _ HasOverlapShape shape_of_both (entries_in s.0)
              (all_both (λ e. is_some (standard_entries e) ≡ true) (λ e. is_some (claim_entries e) ≡ true)
              (entries_in s.0) s.2 claims),
        ),
      ),
  λ o. (ap is_some (standard_is_given t o.0 o.1), ap is_some (claim_is_given t o.0 o.1)),
)

-- A property of all lists holds of those that are kept.
module _ {A : Type 0} (P : A → Type 0) where
  value_all : (k : List ℕ) (d : A) (ps : List (List ℕ × A)) → P d → AllByRecursion (λ p. P p.1) ps
      → P (value_after k d ps)
  value_all k d [] h e = h
  value_all k d (p ∷ ps) h e = value_all k (cond (bytes_eq k p.0) p.1 d) ps (either (bytes_eq k p.0)) e.1
    where
      either : (b : Bool) → P (cond b p.1 d)
      either true = e.0
      either false = h

  without_all : (k : List ℕ) (ps : List (List ℕ × A)) → AllByRecursion (λ p. P p.1) ps
      → AllByRecursion (λ p. P p.1) (without k ps)
  without_all k [] e = tt
  without_all k (p ∷ ps) e = by (bytes_eq k p.0) (without_all k ps e.1)
    where
      by : (b : Bool) → AllByRecursion (λ p. P p.1) (without k ps)
          → AllByRecursion (λ p. P p.1) (cond b (without k ps) (p ∷ without k ps))
      by true h = h
      by false h = (e.0, h)

  table_all : (ps : List (List ℕ × A)) → AllByRecursion (λ p. P p.1) ps → AllByRecursion (λ p. P p.1) (table_of ps)
  table_all [] e = tt
  table_all (p ∷ ps) e = (value_all p.0 p.1 ps e.0 e.1, without_all p.0 (table_of ps) (table_all ps e.1))

kept_given : (rows : Skeleton) → AllByRecursion Given (entries_in rows)
    → AllByRecursion (λ p. AllByRecursion Given p.1) (kept_lists rows)
kept_given rows h =
    let by_pair = all_more _ _ (λ row. all_inside Given (λ p. p.1) row) rows
    (all_inside Given (λ row. flat_map (λ p. p.1) row) rows h) in
    all_joined (λ p. AllByRecursion Given p.1) table_of rows
    (all_more _ _ (λ row. table_all (AllByRecursion Given) row) rows by_pair)

-- They differ if a kept list has an entry.

same_where_none : (g h : Tree → List Entry) (ks : List (List ℕ × List Tree)) → flat_map (λ p. p.1) ks ≡ []
    → on_values (flat_map g) ks ≡ on_values (flat_map h) ks
same_where_none g h [] e = refl
same_where_none g h ((k, []) ∷ ks) e = ap (λ r. (k, []) ∷ r) (same_where_none g h ks e)
same_where_none g h ((k, x ∷ xs) ∷ ks) e = cc

abbrev first_elapsed : List (List ℕ × List Entry) → Option (Option ℕ)
first_elapsed [] = None
first_elapsed ((k, []) ∷ ks) = None
first_elapsed ((k, e ∷ es) ∷ ks) = Some e.milliseconds_elapsed_from_delivery

abbrev rest_of : {A : Type 0} → List A → List A
rest_of [] = []
rest_of (x ∷ xs) = xs

apart : (k : List ℕ) (p : OverlapEntry) (es fs : List Entry) (ks ls : List (List ℕ × List Entry))
    → (k, in_standard p ++ es) ∷ ks ≡ (k, in_claim p ++ fs) ∷ ls → ⊥
apart k p es fs ks ls e = by (bytes_eq p.id p.text) (ap first_elapsed e)
  where
    by : (b : Bool)
        → first_elapsed
        ((k, cond b (entry_of (p.text, empty) ∷ []) (entry_of (p.id, p.fields) ∷ entry_of (p.text, empty) ∷ []) ++ es)
        ∷ ks) ≡ Some (Some p.number) → ⊥
    by true h = cc
    by false h = cc

none_where_same : (ks : List (List ℕ × List Tree)) → AllByRecursion (λ p. AllByRecursion Given p.1) ks
    → on_values (flat_map (given in_standard)) ks ≡ on_values (flat_map (given in_claim)) ks
    → flat_map (λ p. p.1) ks ≡ []
none_where_same [] h e = refl
none_where_same ((k, []) ∷ ks) h e = none_where_same ks h.1 (ap rest_of e)
none_where_same ((k, x ∷ xs) ∷ ks) h e = absurd (apart k h.0.0.entry _ _ _ _ (rw h.0.0.is at e))

pub records_differ : RecordsDiffer
records_differ t rows o =
    let a = standard_is_given t rows o in
    let b = claim_is_given t rows o in (
      λ differ none. differ (a ∙ ap Some (same_where_none (given in_standard) (given in_claim) (kept_lists rows) none)
          ∙ sym b),
      λ some same. some
          (none_where_same (kept_lists rows) (kept_given rows (all_given rows o.1)) (same_Some _ _ (sym a ∙ same ∙ b))),
    )

pub ruleset overlap_laws = (both_are_shape, entries_read, standard_is_given, claim_is_given, records_differ)
