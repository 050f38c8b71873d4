-- The places that are found of an automatic claim are those of a reply.
use Rattle.std.proofs.Common.{◌≡◌, ◌≤◌, ◌-◌, ◌∙◌, ℕ, suc, List, [], ◌∷◌, ◌++◌, map, length, take, drop, Bool, true, false}
use Rattle.std.proofs.Common.{nat_lt, Option, Some, Ok, option_map, refl, sym, ap, arith}
use Rattle.std.specs.List.{AllByRecursion}
use Rattle.std.specs.Str.{is_utf8}
use Rattle.std.proofs.lemmas.Bool.{le-ltb}
use Rattle.std.proofs.lemmas.List.{length-append, length-map}
use Rattle.std.proofs.Math.Seq.{take-append_seam, drop-append_seam}
use Rattle.redis_resp.specs.Then.{◌>>=◌}
use Rattle.redis_resp.specs.Tree.{Tree, bulk, array, trees, list_of_trees}
use Rattle.redis_resp.specs.Reading.{list_reading, traverse}
use Rattle.redis_resp.specs.Text.{text_reading}
use Rattle.redis_resp.proofs.TreeLemmas.{listed_trees}
use Rattle.redis_wire.specs.declared.limits.Limits.{Limits}
use Rattle.redis_wire.specs.declared.place.Span.{Span}
use Rattle.redis_wire.specs.Reply.{value, values}
use Rattle.redis_wire.specs.Group.{many}
use Rattle.redis_wire.specs.Level.{value_at}
use Rattle.redis_wire.specs.Place.{text_in}
use Rattle.stream_entries.specs.AutoClaim.{AutoClaim, claimed_reading, autoclaim_reading}
use Rattle.stream_entries.specs.Entry.{Entry}
use Rattle.stream_entries.specs.JustId.{JustId, justid_reading}
use Rattle.stream_in_place.specs.Held.{Held, none_held}
use Rattle.stream_in_place.specs.Sent.{SentEntry, row_tree, rows_tree, IsTextEntry, IsStandard}
use Rattle.stream_in_place.specs.Copied.{copied}
use Rattle.stream_in_place.specs.Placed.{entry_in, IsField}
use Rattle.stream_in_place.specs.AutoClaim.{ids_tree, deleted_trees, autoclaim_tree, justid_tree}
use Rattle.stream_in_place.specs.Sent.{SentAutoClaim}
use Rattle.stream_in_place.specs.AutoClaim.{copied_autoclaim, IsAutoClaim, IsJustId}
use Rattle.stream_in_place.specs.ClaimPlaced.{id_at, autoclaim_in, justid_in, AreClaimPlaces, AreJustIdPlaces}
use Rattle.stream_in_place.specs.Added.{EntriesAdded}
use Rattle.stream_in_place.specs.AddedIds.{deleted_count, IdsAdded, DeletedAdded, IsClaimHead}
use Rattle.stream_in_place.proofs.FillLemmas.{array_of}
use Rattle.stream_in_place.proofs.ManyLemmas.{many_first}
use Rattle.stream_in_place.proofs.RowLemmas.{range_read}
use Rattle.stream_in_place.proofs.RangeLemmas.{sent_told, standard_told, rows_of, reply_is}
use Rattle.stream_in_place.proofs.IdLemmas.{ids_told}
use Rattle.stream_in_place.proofs.SentLemmas.{named_entries, sent_claim_read}

-- ---- its reading

text_read : (b : List ℕ) → is_utf8 b ≡ true → text_reading (bulk b) ≡ Some b
text_read b h = rw h refl

texts_read : (ids : List (List ℕ)) → AllByRecursion (λ i. is_utf8 i ≡ true) ids
    → traverse text_reading (map bulk ids) ≡ Some ids
texts_read [] h = refl
texts_read (i ∷ ids) h = rw (h.0, texts_read ids h.1) refl

pub ids_read : (ids : List (List ℕ)) → AllByRecursion (λ i. is_utf8 i ≡ true) ids
    → list_reading text_reading (ids_tree ids) ≡ Some ids
ids_read ids h = rw (listed_trees (map bulk ids), texts_read ids h) refl

claimed_read : (es : List SentEntry) → AllByRecursion IsTextEntry es → AllByRecursion IsStandard es
    → claimed_reading (rows_tree es) ≡ Some (map copied es, false)
claimed_read [] h s = refl
claimed_read (e ∷ es) h s =
    let items = list_of_trees (trees (map row_tree es)) in
    let le : suc (length items) ≤ suc (length (map copied es)) =
    omega (arith, ap length (listed_trees (map row_tree es)), length-map es copied, length-map es row_tree) in
    let lt : nat_lt (suc (length (map copied es))) (suc (length items)) ≡ false = le-ltb _ _ le in
    ap (λ (o : Option (List Entry)). option_map (λ entries. (entries, nat_lt (length entries) (suc (length items)))) o)
    (range_read (e ∷ es) h s) ∙ ap (λ (b : Bool). Some (copied e ∷ map copied es, b)) lt

abbrev autoclaim_made : Option (List Entry × Bool) → Option (List (List ℕ)) → Option (List ℕ) → Option AutoClaim
autoclaim_made c d t =
    c >>= λ claimed.
    d >>= λ deleted.
    t >>= λ next.
    Some (record { next = next; claimed = claimed.0; deleted = deleted; invalid = claimed.1 })

autoclaim_parts : (c : Option (List Entry × Bool)) (d : Option (List (List ℕ))) (t : Option (List ℕ)) (es : List Entry)
    (ids : List (List ℕ)) (next : List ℕ) → c ≡ Some (es, false) → d ≡ Some ids → t ≡ Some next
    → autoclaim_made c d t ≡ Some (record { next = next; claimed = es; deleted = ids; invalid = false })
autoclaim_parts c d t es ids next p q s = rw (p, q, s) refl

abbrev justid_made : Option (List (List ℕ)) → Option (List (List ℕ)) → Option (List ℕ) → Option JustId
justid_made c d t =
    c >>= λ claimed.
    d >>= λ deleted.
    t >>= λ next.
    Some (record { next = next; claimed = claimed; deleted = deleted })

justid_parts : (c d : Option (List (List ℕ))) (t : Option (List ℕ)) (r : JustId) → c ≡ Some r.claimed
    → d ≡ Some r.deleted → t ≡ Some r.next → justid_made c d t ≡ Some r
justid_parts c d t r p q s = rw (p, q, s) refl

pub autoclaim_read : (told : Bool) (r : SentAutoClaim) → is_utf8 r.next ≡ true → AllByRecursion IsTextEntry r.claimed
    → AllByRecursion IsStandard r.claimed → AllByRecursion (λ i. is_utf8 i ≡ true) r.deleted
    → (told ≡ false → r.deleted ≡ []) → autoclaim_reading (autoclaim_tree told r) ≡ Some (copied_autoclaim r)
autoclaim_read true r next h s deleted none =
    autoclaim_parts (claimed_reading (rows_tree r.claimed)) _ _ (map copied r.claimed) r.deleted r.next (claimed_read r.claimed h s)
    (ids_read r.deleted deleted) (text_read r.next next)
autoclaim_read false r next h s deleted none =
    autoclaim_parts (claimed_reading (rows_tree r.claimed)) _ _ (map copied r.claimed) r.deleted r.next (claimed_read r.claimed h s)
    (ap (λ (ids : List (List ℕ)). Some ids) (sym (none refl))) (text_read r.next next)

pub justid_read : (told : Bool) (r : JustId) → is_utf8 r.next ≡ true → AllByRecursion (λ i. is_utf8 i ≡ true) r.claimed
    → AllByRecursion (λ i. is_utf8 i ≡ true) r.deleted → (told ≡ false → r.deleted ≡ [])
    → justid_reading (justid_tree told r) ≡ Some r
justid_read true r next claimed deleted none =
    justid_parts _ _ _ r (ids_read r.claimed claimed) (ids_read r.deleted deleted) (text_read r.next next)
justid_read false r next claimed deleted none =
    justid_parts _ _ _ r (ids_read r.claimed claimed) (ap (λ (ids : List (List ℕ)). Some ids) (sym (none refl)))
    (text_read r.next next)

-- ---- the reply

module _ (limits : Limits) (bytes : List ℕ) (told : Bool) (next : Span) (count at middle len : ℕ)
    (head : IsClaimHead limits bytes told next count at) where
  claim_read : (d : ℕ) (ts us : List Tree) → many (value_at limits d) count (drop at bytes)
      ≡ Ok (values ts, drop middle bytes)
      → many (value_at limits (suc d)) (deleted_count told) (drop middle bytes) ≡ Ok (values us, drop len bytes)
      → value_at limits (suc (suc d)) bytes
      ≡ Ok (value (array (trees (bulk (text_in bytes next) ∷ array (trees ts) ∷ us))), drop len bytes)
  claim_read d ts us h k =
      let inner = value_at limits (suc d) in
      let rows = head.inner.reads d ∙ array_of (value_at limits d) count (drop at bytes) ts (drop middle bytes) h in
      let two = many_first inner (deleted_count told) (drop head.middle bytes) (array (trees ts)) (drop middle bytes) us
      (drop len bytes) rows k in
      let three = many_first inner (suc (deleted_count told)) (drop head.behind bytes) (bulk (text_in bytes next))
      (drop head.middle bytes) (array (trees ts) ∷ us) (drop len bytes) (head.name.reads d) two in
      head.outer.reads (suc d)
      ∙ array_of inner (suc (suc (deleted_count told))) (drop head.behind bytes) _ (drop len bytes) three

  module _ (n : ℕ) (mid new : Held) (n_is : n ≡ length mid.entries)
      (deleted : DeletedAdded limits bytes middle told len mid new) where
    entries_are : new.entries ≡ mid.entries ++ deleted.grown.more
    entries_are = ap (λ (h : Held). h.entries) deleted.grown.is

    taken : take n new.entries ≡ mid.entries
    taken = rw (n_is, entries_are) (take-append_seam mid.entries deleted.grown.more)

    left : drop n new.entries ≡ deleted.grown.more
    left = rw (n_is, entries_are) (drop-append_seam mid.entries deleted.grown.more)

    counted : n ≤ length new.entries
    counted = omega (arith, n_is, ap length entries_are, length-append mid.entries deleted.grown.more)

    none_told : told ≡ false → map (id_at bytes) deleted.grown.more ≡ []
    none_told e = ap (map (id_at bytes)) (deleted.none e)

    fields_are : new.fields ≡ mid.fields
    fields_are = ap (λ (h : Held). h.fields) deleted.grown.is

    module _ (h : EntriesAdded limits bytes at false count middle none_held mid) where
      rows_are : mid.entries ≡ h.grown.more
      rows_are = ap (λ (x : Held). x.entries) h.grown.is

      all_fields : AllByRecursion (IsField bytes) new.fields
      all_fields = rw (fields_are ∙ ap (λ (x : Held). x.fields) h.grown.is) h.grown.fields

      abbrev found : SentAutoClaim
      found = record {
        next = text_in bytes next;
        claimed = map (entry_in bytes mid.fields) h.grown.more;
        deleted = map (id_at bytes) deleted.grown.more;
      }

      found_is : 5 ≤ limits.depth → IsAutoClaim limits bytes found len
      found_is deep =
          let each : AllByRecursion (IsField bytes) mid.fields = rw fields_are at all_fields in
          let d : suc (suc (suc (suc (suc (limits.depth - 5))))) ≡ limits.depth = omega arith in
          let rows = rows_of bytes mid.fields h.grown.more in
          let entries_sent = sent_told bytes mid.fields each false h.grown.more h.grown.entries h.grown.forms in
          let ids = ids_told bytes deleted.grown.more deleted.grown.each in
          let read = claim_read (suc (suc (suc (limits.depth - 5)))) (map row_tree found.claimed)
          (deleted_trees told found.deleted) (rw rows at (h.reads (limits.depth - 5)))
          (deleted.reads (suc (suc (limits.depth - 5)))) in
          record {
            within = deleted.end;
            told = told;
            reply = reply_is limits (suc (suc (suc (suc (suc (limits.depth - 5)))))) bytes (autoclaim_tree told found)
                len d deleted.end read;
            sent = sent_claim_read told found head.is_text entries_sent (ids_read found.deleted ids) none_told;
            reading = λ named. autoclaim_read told found head.is_text (named_entries found.claimed entries_sent named)
                (standard_told bytes mid.fields each h.grown.more h.grown.forms) ids none_told;
          }

      pub autoclaim_is : 5 ≤ limits.depth → IsAutoClaim limits bytes
          (autoclaim_in bytes new.entries new.fields (record { next = next; claimed = n; len = len })) len
      autoclaim_is deep = rw (taken, left, fields_are, rows_are) (found_is deep)

      pub claim_places : AreClaimPlaces bytes new.entries new.fields (record { next = next; claimed = n; len = len })
      claim_places = record {
        next = head.name.within;
        is_text = head.is_text;
        count = counted;
        claimed = rw (taken, rows_are, fields_are) h.grown.entries;
        deleted = rw left deleted.grown.each;
        each_field = all_fields;
      }

    module _ (h : IdsAdded limits bytes at count middle none_held mid) where
      ids_are : mid.entries ≡ h.grown.more
      ids_are = ap (λ (x : Held). x.entries) h.grown.is

      abbrev found_ids : JustId
      found_ids = record {
        next = text_in bytes next;
        claimed = map (id_at bytes) h.grown.more;
        deleted = map (id_at bytes) deleted.grown.more;
      }

      found_ids_are : 3 ≤ limits.depth → IsJustId limits bytes found_ids len
      found_ids_are deep =
          let d : suc (suc (suc (limits.depth - 3))) ≡ limits.depth = omega arith in
          let read = claim_read (suc (limits.depth - 3)) (map bulk found_ids.claimed)
          (deleted_trees told found_ids.deleted) (h.reads (limits.depth - 3)) (deleted.reads (limits.depth - 3)) in
          record {
            within = deleted.end;
            told = told;
            reply = reply_is limits (suc (suc (suc (limits.depth - 3)))) bytes (justid_tree told found_ids) len d
                deleted.end read;
            reading = justid_read told found_ids head.is_text (ids_told bytes h.grown.more h.grown.each)
                (ids_told bytes deleted.grown.more deleted.grown.each) none_told;
          }

      pub justid_is : 3 ≤ limits.depth → IsJustId limits bytes
          (justid_in bytes new.entries (record { next = next; claimed = n; len = len })) len
      justid_is deep = rw (taken, left, ids_are) (found_ids_are deep)

      pub justid_places : AreJustIdPlaces bytes new.entries (record { next = next; claimed = n; len = len })
      justid_places = record {
        next = head.name.within;
        is_text = head.is_text;
        count = counted;
        claimed = rw (taken, ids_are) h.grown.each;
        deleted = rw left deleted.grown.each;
      }
