-- The invalid-entries flag of an automatic claim.
use Rattle.std.proofs.Common.{◌≡◌, ◌⊎◌, ◌||◌, ℕ, ◌+◌, ◌≤◌, List, [], ◌∷◌, map, length, nat_lt, IsSome, Bool, true}
use Rattle.std.proofs.Common.{false, cond, Option, Some, None, option_map, option_and_then, refl, sym, ◌∙◌, ap, arith}
use Rattle.std.proofs.Common.{true≢false, inl, inr}
use Rattle.std.specs.List.{AllByRecursion, list_any}
use Rattle.std.proofs.lemmas.Bool.{lt-ltb, ltb_from_iff, ltb-true}
use Rattle.std.proofs.lemmas.List.{length-append}
use Rattle.std.proofs.lemmas.Option.{same_Some}
use Rattle.redis_resp.specs.Tree.{Tree, nil, int, bulk, array, simple, okay, map_of_pairs, set, boolean, verbatim, push}
use Rattle.redis_resp.specs.Tree.{attribute, plain, items, array_of_plain, pairs_in, pairs_of_plain}
use Rattle.redis_resp.specs.Text.{text_reading, text_of_plain}
use Rattle.redis_resp.specs.Reading.{is_nil, traverse, list_reading, option_reading}
use Rattle.redis_resp.specs.Table.{Fields, entry_reading, table_of}
use Rattle.stream_entries.specs.Entry.{Entry, entry_of}
use Rattle.stream_entries.specs.Rows.{joined, field_reading, standard_entries, rows_reading}
use Rattle.stream_entries.specs.AutoClaim.{AutoClaim, ClaimedKind, nils, ids, rows, kind_of_items, shape_of_items}
use Rattle.stream_entries.specs.AutoClaim.{claimed_by_shape, claimed_reading, entries_by_kind, id_entries, Parts}
use Rattle.stream_entries.specs.AutoClaim.{deleted_reading, autoclaim_of}
use Rattle.redis_streams.specs.AutoClaimLaws.{holds_nil, IsOneEntry, InvalidEntriesTellNil}
use Rattle.stream_entries.proofs.RowsLemmas.{list_shown}

-- the number of entries of an item: none if it is nil, and one otherwise
abbrev one_or_none : Tree → ℕ
one_or_none item = cond (holds_nil item) 0 1

-- an id that may be missing, as entries
abbrev id_form : Tree → Option (List Entry)
id_form t = option_map id_entries (option_reading text_reading t)

long : (es fs : List Entry) → Some es ≡ Some fs → length fs ≡ length es
long es fs h = ap length (sym (same_Some es fs h))

id_counted : (item : Tree) (es : List Entry) → id_form item ≡ Some es → length es ≡ one_or_none item
id_counted item es h = by (is_nil (plain item)) (text_reading item) h
  where
    by : (b : Bool) (o : Option (List ℕ)) → option_map id_entries (cond b (Some None) (option_map Some o)) ≡ Some es
        → length es ≡ cond b 0 1
    by true o h = long [] es h
    by false None h = cc
    by false (Some t) h = long (id_entries (Some t)) es h

-- what reads as a text has no pairs
text_or_pairs : (t : Tree) (text : List ℕ) → text_of_plain t ≡ Some text → pairs_of_plain t ≡ None
text_or_pairs nil text h = cc
text_or_pairs (array ts) text h = cc
text_or_pairs (map_of_pairs ps) text h = cc
text_or_pairs (int z) text h = refl
text_or_pairs (bulk b) text h = refl
text_or_pairs (simple s) text h = refl
text_or_pairs okay text h = refl
text_or_pairs (attribute u ps) text h = refl
text_or_pairs (set ts) text h = refl
text_or_pairs (boolean b) text h = refl
text_or_pairs (verbatim f s) text h = refl
text_or_pairs (push k ts) text h = refl

no_pairs_in_nil : (t : Tree) → is_nil t ≡ true → pairs_of_plain t ≡ Some []
no_pairs_in_nil nil h = refl
no_pairs_in_nil _ h = cc

-- the entries of a row by its pairs
abbrev of_pairs : Option (List (Tree × Tree)) → Option (List Entry)
of_pairs o = option_map (λ ps. map entry_of ps)
    (option_map table_of (option_and_then (traverse (entry_reading field_reading)) o))

none_counted : (item : Tree) (es : List Entry) → pairs_in item ≡ Some [] → standard_entries item ≡ Some es
    → length es ≡ 0
none_counted item es p h = long [] es (sym (ap of_pairs p) ∙ h)

one_counted : (item : Tree) (pair : Tree × Tree) (es : List Entry) → pairs_in item ≡ Some (pair ∷ [])
    → standard_entries item ≡ Some es → length es ≡ 1
one_counted item pair es p h = by (entry_reading field_reading pair) (sym (ap of_pairs p) ∙ h)
  where
    by : (o : Option (List ℕ × Fields Tree))
        → option_map (λ ps. map entry_of ps)
        (option_map table_of (option_and_then (λ m. option_map (λ ms. m ∷ ms) (Some [])) o)) ≡ Some es
        → length es ≡ 1
    by None h = cc
    by (Some m) h = long (entry_of m ∷ []) es h

row_counted : (item : Tree) (es : List Entry) → (holds_nil item ≡ true) ⊎ IsOneEntry item
    → standard_entries item ≡ Some es → length es ≡ one_or_none item
row_counted item es (inl n) h = none_counted item es (no_pairs_in_nil (plain item) n) h ∙ ap (λ b. cond b 0 1) (sym n)
row_counted item es (inr (inl t)) h = by (text_reading item) refl t
  where
    by : (o : Option (List ℕ)) → text_reading item ≡ o → IsSome o → length es ≡ one_or_none item
    by None e s = absurd (true≢false (sym s))
    by (Some text) e s = let none : pairs_in item ≡ None = text_or_pairs (plain item) text e in let refused : None
        ≡ Some es = sym (ap of_pairs none) ∙ h in cc
row_counted item es (inr (inr (pair, p))) h = one_counted item pair es p h ∙ by (is_nil (plain item)) refl
  where
    by : (b : Bool) → is_nil (plain item) ≡ b → ◌≡◌ {A = ℕ} 1 (cond b 0 1)
    by true n = let none : Some (pair ∷ []) ≡ Some [] = sym p ∙ no_pairs_in_nil (plain item) n in cc
    by false n = refl

-- fewer entries than items: some item is nil
pub record Fewer (items : List Tree) (count : ℕ) : Type 0 where
  pub most : count ≤ length items
  pub tells : nat_lt count (length items) ≡ list_any holds_nil items

fewer_more : (item : Tree) (rest : List Tree) (b : Bool) (count : ℕ) → holds_nil item ≡ b → Fewer rest count
    → Fewer (item ∷ rest) (cond b 0 1 + count)
fewer_more item rest true count n f = record {
  most = omega (arith, f.most);
  tells = lt-ltb (0 + count) (length (item ∷ rest)) (omega (arith, f.most))
      ∙ sym (ap (λ b. b || list_any holds_nil rest) n);
}
fewer_more item rest false count n f = record {
  most = omega (arith, f.most);
  tells =
      sym (ltb_from_iff {b = nat_lt count (length rest)} {m = 1 + count} {n = length (item ∷ rest)}
      (λ h. omega (arith, ltb-true count (length rest) h), λ h. lt-ltb count (length rest) (omega (arith, h))))
      ∙ f.tells ∙ sym (ap (λ b. b || list_any holds_nil rest) n);
}

-- items that are read by a form, each of which is one entry, or none if it is nil
module _ (form : Tree → Option (List Entry)) (P : Tree → Type 0)
    (counted : (item : Tree) (es : List Entry) → P item → form item ≡ Some es → length es ≡ one_or_none item) where
  more_counted : (t : Tree) (ts : List Tree) (ess : List (List Entry)) → P t → (o : Option (List Entry)) → form t ≡ o
      → (os : Option (List (List Entry)))
      → ((rest : List (List Entry)) → os ≡ Some rest → Fewer ts (length (joined rest)))
      → option_and_then (λ m. option_map (λ ms. m ∷ ms) os) o ≡ Some ess → Fewer (t ∷ ts) (length (joined ess))
  more_counted t ts ess p None e os tail h = cc
  more_counted t ts ess p (Some es) e None tail h = cc
  more_counted t ts ess p (Some es) e (Some rest) tail h =
      let sizes : length (joined ess) ≡ one_or_none t + length (joined rest) =
      ap (λ l. length (joined l)) (sym (same_Some (es ∷ rest) ess h)) ∙ length-append es (joined rest)
      ∙ ap (λ n. n + length (joined rest)) (counted t es p e) in
      rw sizes (fewer_more t ts (holds_nil t) (length (joined rest)) refl (tail rest refl))

  all_counted : (ts : List Tree) (ess : List (List Entry)) → AllByRecursion P ts → traverse form ts ≡ Some ess
      → Fewer ts (length (joined ess))
  all_counted [] ess a h = let none = same_Some [] ess h in record {
    most = omega (arith, ap (λ l. length (joined l)) none);
    tells = ap (λ l. nat_lt (length (joined l)) 0) (sym none);
  }
  all_counted (t ∷ ts) ess a h = more_counted t ts ess a.0 (form t) refl (traverse form ts)
      (λ rest e. all_counted ts rest a.1 e) h

  -- the entries of a list by the form
  by_form : (t : Tree) (ts : List Tree) (entries : List Entry) → items t ≡ Some ts → AllByRecursion P ts
      → option_map joined (list_reading form t) ≡ Some entries → Fewer ts (length entries)
  by_form t ts entries there a h = by (traverse form ts) refl
      (sym (ap (λ o. option_map joined (option_and_then (traverse form) o)) there) ∙ h)
    where
      by : (o : Option (List (List Entry))) → traverse form ts ≡ o → option_map joined o ≡ Some entries
          → Fewer ts (length entries)
      by None e h = cc
      by (Some ess) e h = rw (sym (same_Some (joined ess) entries h)) (all_counted ts ess a e)

-- nothing but nil
nils_counted : (ts : List Tree) → kind_of_items ts ≡ Some nils → nat_lt 0 (length ts) ≡ list_any holds_nil ts
nils_counted [] h = refl
nils_counted (nil ∷ ts) h = lt-ltb 0 (length (nil ∷ ts)) (omega arith)
nils_counted (_ ∷ ts) h = cc

-- the items of a value that is an array with no attribute around it
pub items_of_array : (t : Tree) (ts : List Tree) → array_of_plain t ≡ Some ts → items t ≡ Some ts
items_of_array (array us) ts h = h
items_of_array _ ts h = cc

-- what a claimed list was read as
pub record Claimed (t : Tree) (ts : List Tree) (entries : List Entry) (invalid : Bool) : Type 0 where
  pub kind : ClaimedKind
  pub decided : kind_of_items ts ≡ Some kind
  pub read : entries_by_kind kind t ≡ Some entries
  pub marked : invalid ≡ nat_lt (length entries) (length ts)

claimed_back : (t : Tree) (ts : List Tree) (entries : List Entry) (invalid : Bool) → array_of_plain t ≡ Some ts
    → claimed_reading t ≡ Some (entries, invalid) → Claimed t ts entries invalid
claimed_back t ts entries invalid there h =
    by (kind_of_items ts) refl
    (sym (ap (λ o. option_and_then (claimed_by_shape t) (option_and_then shape_of_items o)) there) ∙ h)
  where
    marked_so : (kind : ClaimedKind) (o : Option (List Entry)) → kind_of_items ts ≡ Some kind
        → entries_by_kind kind t ≡ o
        → option_map {U = List Entry × Bool} (λ es. (es, nat_lt (length es) (length ts))) o ≡ Some (entries, invalid)
        → Claimed t ts entries invalid
    marked_so kind None d e h = cc
    marked_so kind (Some es) d e h = let both =
        same_Some (es, nat_lt (length es) (length ts)) (entries, invalid) h in let same : es ≡ entries =
        ap (λ p. p.0) both in record {
          kind = kind;
          decided = d;
          read = e ∙ ap Some same;
          marked = sym (ap (λ p. p.1) both) ∙ ap (λ l. nat_lt (length l) (length ts)) same;
        }

    by : (o : Option ClaimedKind) → kind_of_items ts ≡ o
        → option_and_then (claimed_by_shape t) (option_map (λ kind. (kind, length ts)) o) ≡ Some (entries, invalid)
        → Claimed t ts entries invalid
    by None e h = cc
    by (Some kind) e h = marked_so kind (entries_by_kind kind t) e refl h

claimed_of_reply : (parts : Parts) (reply : AutoClaim) → autoclaim_of parts ≡ Some reply
    → claimed_reading parts.1 ≡ Some (reply.claimed, reply.invalid)
claimed_of_reply parts reply h = by (claimed_reading parts.1) (deleted_reading parts.2) (text_reading parts.0) h
  where
    by : (c : Option (List Entry × Bool)) (d : Option (List (List ℕ))) (n : Option (List ℕ))
        → option_and_then
        (λ claimed. option_and_then
        (λ deleted. option_map
        (λ next. record { next = next; claimed = claimed.0; deleted = deleted; invalid = claimed.1 }) n) d) c
        ≡ Some reply
        → c ≡ Some (reply.claimed, reply.invalid)
    by None d n h = cc
    by (Some c) None n h = cc
    by (Some c) (Some d) None h = cc
    by (Some c) (Some d) (Some n) h = ap (λ o. option_map (λ r. (r.claimed, r.invalid)) o) h

rows_form : (t : Tree) → option_map joined (list_reading standard_entries t) ≡ rows_reading t
unfolding rows_reading
rows_form t = refl

told : (t : Tree) (ts : List Tree) (entries : List Entry) (invalid : Bool) → array_of_plain t ≡ Some ts
    → Claimed t ts entries invalid
    → AllByRecursion (λ item. (holds_nil item ≡ true) ⊎ IsOneEntry item) ts → invalid ≡ list_any holds_nil ts
told t ts entries invalid there c a = c.marked ∙ by c.kind c.decided c.read
  where
    by : (kind : ClaimedKind) → kind_of_items ts ≡ Some kind → entries_by_kind kind t ≡ Some entries
        → nat_lt (length entries) (length ts) ≡ list_any holds_nil ts
    by nils d r = ap (λ l. nat_lt (length l) (length ts)) (sym (same_Some [] entries r)) ∙ nils_counted ts d
    by ids d r =
        (by_form id_form (λ item. (holds_nil item ≡ true) ⊎ IsOneEntry item)
        (λ item es p h. id_counted item es h) t ts entries (items_of_array t ts there) a
        (list_shown (option_reading text_reading) id_entries t ∙ r)).tells
    by rows d r =
        (by_form standard_entries (λ item. (holds_nil item ≡ true) ⊎ IsOneEntry item) row_counted t ts entries
        (items_of_array t ts there) a (rows_form t ∙ r)).tells

pub invalid_entries : InvalidEntriesTellNil
invalid_entries t reply parts ts read there list a =
    let of_parts : autoclaim_of parts ≡ Some reply = sym (ap (option_and_then autoclaim_of) there) ∙ read in
    told parts.1 ts reply.claimed reply.invalid list
    (claimed_back parts.1 ts reply.claimed reply.invalid list (claimed_of_reply parts reply of_parts)) a
