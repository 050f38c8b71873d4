-- Replies of XAUTOCLAIM as servers write them are found, and read as their trees.
use Rattle.std.proofs.Common.{◌≡◌, ◌≤◌, ◌-◌, ◌∙◌, ℕ, suc, List, [], ◌∷◌, ◌++◌, map, flat_map, length}
use Rattle.std.proofs.Common.{Bool, true, false, Option, Some, None, Ok, refl, sym, ap, arith, append_assoc}
use Rattle.std.specs.List.{AllByRecursion}
use Rattle.std.specs.Str.{is_utf8}
use Rattle.redis_resp.specs.Tree.{Tree, bulk, array, trees}
use Rattle.redis_wire.specs.declared.limits.Limits.{Limits}
use Rattle.redis_wire.specs.Reply.{value, values}
use Rattle.redis_wire.specs.Group.{many}
use Rattle.redis_wire.specs.Level.{value_at}
use Rattle.redis_wire.specs.Packed.{bulk_bytes}
use Rattle.redis_wire.specs.Written.{count_bytes}
use Rattle.redis_wire.specs.Place.{BeginsWithArray}
use Rattle.stream_in_place.specs.SentReading.{sent_autoclaim_reading}
use Rattle.stream_entries.specs.JustId.{JustId, justid_reading}
use Rattle.stream_in_place.specs.Sent.{SentEntry, SentAutoClaim, rows_tree}
use Rattle.stream_in_place.specs.AutoClaim.{ids_tree, deleted_trees, autoclaim_tree, justid_tree}
use Rattle.stream_in_place.specs.AutoClaim.{IsAutoClaim, IsJustId}
use Rattle.stream_in_place.specs.AddedIds.{deleted_count}
use Rattle.stream_in_place.specs.Shapes.{NilForm, entry_bytes, rows_bytes, ids_bytes, deleted_bytes, claim_start}
use Rattle.stream_in_place.specs.Shapes.{autoclaim_bytes, justid_bytes, AllowsRows, IsName, IsOfForm}
use Rattle.stream_in_place.specs.Shapes.{IsEntryOf, AreIdsOf, AreDeleted, BeginsWithAutoClaim, BeginsWithJustId}
use Rattle.stream_in_place.proofs.ManyLemmas.{no_more, many_first}
use Rattle.stream_in_place.proofs.AutoClaimLemmas.{justid_read, ids_read as texts_read}
use Rattle.stream_in_place.proofs.SentLemmas.{Fits, IsSent, sent_claim_read}
use Rattle.stream_in_place.proofs.BeginLemmas.{head_begins, rows_split}
use Rattle.stream_in_place.proofs.ShapeLemmas.{text_reads, array_reads, rows_read, one_reply}
use Rattle.stream_in_place.proofs.ShapeLemmas.{len_same}

-- ---- the parts of the bytes

pub ids_split : (ids : List (List ℕ)) (rest left : List ℕ) → left ≡ ids_bytes ids ++ rest
    → left ≡ count_bytes 42 (length ids) ++ (flat_map bulk_bytes ids ++ rest)
unfolding ids_bytes
ids_split ids rest left is = is ∙ append_assoc (count_bytes 42 (length ids)) (flat_map bulk_bytes ids) rest

pub told_split : (ids : List (List ℕ)) (rest left : List ℕ) → left ≡ deleted_bytes true ids ++ rest
    → left ≡ count_bytes 42 (length ids) ++ (flat_map bulk_bytes ids ++ rest)
unfolding deleted_bytes
told_split ids rest left is = ids_split ids rest left is

pub untold_split : (ids : List (List ℕ)) (rest left : List ℕ) → left ≡ deleted_bytes false ids ++ rest → left ≡ rest
unfolding deleted_bytes
untold_split ids rest left is = is

pub start_split : (told : Bool) (next rest left : List ℕ) → left ≡ claim_start told next ++ rest
    → left ≡ count_bytes 42 (suc (suc (deleted_count told))) ++ (bulk_bytes next ++ rest)
unfolding claim_start
start_split told next rest left is =
    is ∙ append_assoc (count_bytes 42 (suc (suc (deleted_count told)))) (bulk_bytes next) rest

deleted_count_le : (told : Bool) → deleted_count told ≤ 1
deleted_count_le true = omega arith
deleted_count_le false = omega arith

pub start_begins : (limits : Limits) (told : Bool) (next rest left : List ℕ) → AllowsRows limits
    → left ≡ claim_start told next ++ rest
    → BeginsWithArray limits left (suc (suc (deleted_count told))) (bulk_bytes next ++ rest)
start_begins limits told next rest left a is =
    head_begins limits a left 42 (suc (suc (deleted_count told))) (bulk_bytes next ++ rest)
    (omega (arith, a.row, deleted_count_le told)) (start_split told next rest left is)

regrouped : (start items last rest left : List ℕ) → left ≡ (start ++ (items ++ last)) ++ rest
    → left ≡ start ++ (items ++ (last ++ rest))
regrouped start items last rest left is =
    is ∙ append_assoc start (items ++ last) rest ∙ ap (λ (z : List ℕ). start ++ z) (append_assoc items last rest)

pub autoclaim_split : (told : Bool) (form : NilForm) (r : SentAutoClaim) (rest left : List ℕ)
    → left ≡ autoclaim_bytes told form r ++ rest
    → left ≡ claim_start told r.next ++ (rows_bytes form r.claimed ++ (deleted_bytes told r.deleted ++ rest))
unfolding autoclaim_bytes
autoclaim_split told form r rest left is =
    regrouped (claim_start told r.next) (rows_bytes form r.claimed) (deleted_bytes told r.deleted) rest left is

pub justid_split : (told : Bool) (r : JustId) (rest left : List ℕ) → left ≡ justid_bytes told r ++ rest
    → left ≡ claim_start told r.next ++ (ids_bytes r.claimed ++ (deleted_bytes told r.deleted ++ rest))
unfolding justid_bytes
justid_split told r rest left is =
    regrouped (claim_start told r.next) (ids_bytes r.claimed) (deleted_bytes told r.deleted) rest left is

-- the same with the header of the rows or ids
pub autoclaim_parts : (told : Bool) (form : NilForm) (r : SentAutoClaim) (rest left : List ℕ)
    → left ≡ autoclaim_bytes told form r ++ rest
    → left ≡ claim_start told r.next ++ (count_bytes 42 (length r.claimed)
    ++ (flat_map (entry_bytes form) r.claimed ++ (deleted_bytes told r.deleted ++ rest)))
autoclaim_parts told form r rest left is =
    autoclaim_split told form r rest left is
    ∙ ap (λ (z : List ℕ). claim_start told r.next ++ z) (rows_split form r.claimed
    (deleted_bytes told r.deleted ++ rest) (rows_bytes form r.claimed ++ (deleted_bytes told r.deleted ++ rest)) refl)

pub justid_parts : (told : Bool) (r : JustId) (rest left : List ℕ) → left ≡ justid_bytes told r ++ rest
    → left ≡ claim_start told r.next ++ (count_bytes 42 (length r.claimed)
    ++ (flat_map bulk_bytes r.claimed ++ (deleted_bytes told r.deleted ++ rest)))
justid_parts told r rest left is =
    justid_split told r rest left is
    ∙ ap (λ (z : List ℕ). claim_start told r.next ++ z) (ids_split r.claimed
    (deleted_bytes told r.deleted ++ rest) (ids_bytes r.claimed ++ (deleted_bytes told r.deleted ++ rest)) refl)

-- ---- how they are read

module _ (limits : Limits) (allows : AllowsRows limits) where
  ids_in_turn : (d : ℕ) (ids : List (List ℕ)) (rest : List ℕ) → AllByRecursion (IsName limits) ids
      → many (value_at limits (suc d)) (length ids) (flat_map bulk_bytes ids ++ rest)
      ≡ Ok (values (map bulk ids), rest)
  ids_in_turn d [] rest h = no_more (value_at limits (suc d)) rest
  ids_in_turn d (i ∷ ids) rest h =
      let behind = flat_map bulk_bytes ids ++ rest in
      let whole = (bulk_bytes i ++ flat_map bulk_bytes ids) ++ rest in
      many_first (value_at limits (suc d)) (length ids) whole (bulk i) behind (map bulk ids) rest
      (text_reads limits allows d i behind whole h.0.within
      (append_assoc (bulk_bytes i) (flat_map bulk_bytes ids) rest)) (ids_in_turn d ids rest h.1)

  ids_read : (d : ℕ) (ids : List (List ℕ)) (rest left : List ℕ) → AreIdsOf limits ids
      → left ≡ count_bytes 42 (length ids) ++ (flat_map bulk_bytes ids ++ rest)
      → value_at limits (suc (suc d)) left ≡ Ok (value (ids_tree ids), rest)
  ids_read d ids rest left h is =
      array_reads limits allows (suc d) (length ids) (flat_map bulk_bytes ids ++ rest) rest left (map bulk ids) h.few
      is (ids_in_turn d ids rest h.each)

  deleted_read : (d : ℕ) (told : Bool) (ids : List (List ℕ)) (rest left : List ℕ) → AreDeleted limits told ids
      → left ≡ deleted_bytes told ids ++ rest
      → many (value_at limits (suc (suc d))) (deleted_count told) left ≡ Ok (values (deleted_trees told ids), rest)
  deleted_read d true ids rest left h is =
      let inner = value_at limits (suc (suc d)) in
      many_first inner 0 left (ids_tree ids) rest [] rest (ids_read d ids rest left h (told_split ids rest left is))
      (no_more inner rest)
  deleted_read d false ids rest left h is =
      no_more (value_at limits (suc (suc d))) left
      ∙ ap (λ (z : List ℕ). Ok (values [], z)) (untold_split ids rest left is)

  -- the next id, a list and what follows it
  claim_reads : (d : ℕ) (told : Bool) (next : List ℕ) (second : Tree) (behind third rest left : List ℕ)
      (ts : List Tree) → IsName limits next → left ≡ claim_start told next ++ behind
      → value_at limits (suc d) behind ≡ Ok (value second, third)
      → many (value_at limits (suc d)) (deleted_count told) third ≡ Ok (values ts, rest)
      → value_at limits (suc (suc d)) left ≡ Ok (value (array (trees (bulk next ∷ second ∷ ts))), rest)
  claim_reads d told next second behind third rest left ts h is one two =
      let inner = value_at limits (suc d) in
      let members = bulk_bytes next ++ behind in
      array_reads limits allows (suc d) (suc (suc (deleted_count told))) members rest left (bulk next ∷ second ∷ ts)
      (omega (arith, allows.row, deleted_count_le told)) (start_split told next behind left is)
      (many_first inner (suc (deleted_count told)) members (bulk next) behind (second ∷ ts) rest
      (text_reads limits allows d next behind members h.within refl)
      (many_first inner (deleted_count told) behind second third ts rest one two))

-- ---- texts

no_delivery : (d : Option (ℕ × ℕ)) → IsOfForm false d → d ≡ None
no_delivery None h = refl
no_delivery (Some d) h = absurd h

no_fits : (d : Option (ℕ × ℕ)) → d ≡ None → Fits d
no_fits None e = tt
no_fits (Some d) e = absurd cc

sent_told : (limits : Limits) (es : List SentEntry) → AllByRecursion (IsEntryOf limits false) es
    → AllByRecursion IsSent es
sent_told limits [] h = tt
sent_told limits (e ∷ es) h = (
  record { id = h.0.id.is_text; delivery = no_fits e.delivery (no_delivery e.delivery h.0.form) },
  sent_told limits es h.1,
)

ids_told : (limits : Limits) (ids : List (List ℕ)) → AllByRecursion (IsName limits) ids
    → AllByRecursion (λ i. is_utf8 i ≡ true) ids
ids_told limits [] h = tt
ids_told limits (i ∷ ids) h = (h.0.is_text, ids_told limits ids h.1)

deleted_told : (limits : Limits) (told : Bool) (ids : List (List ℕ)) → AreDeleted limits told ids
    → AllByRecursion (λ i. is_utf8 i ≡ true) ids
deleted_told limits true ids h = ids_told limits ids h.each
deleted_told limits false [] h = tt
deleted_told limits false (i ∷ ids) h = absurd cc

deleted_none : (limits : Limits) (told : Bool) (ids : List (List ℕ)) → AreDeleted limits told ids → told ≡ false
    → ids ≡ []
deleted_none limits true ids h e = absurd cc
deleted_none limits false ids h e = h

-- ---- whole replies

pub autoclaim_same : (limits : Limits) (bytes : List ℕ) (r s : SentAutoClaim) (n len : ℕ)
    → IsAutoClaim limits bytes r n → BeginsWithAutoClaim limits bytes s len → (r ≡ s) × (n ≡ len)
autoclaim_same limits bytes r s n len h b =
    let depth = limits.depth - 5 in
    let d : suc (suc (suc (suc (suc depth)))) ≡ limits.depth = omega (arith, b.deep) in
    let third = deleted_bytes b.told s.deleted ++ b.rest in
    let behind = rows_bytes b.form s.claimed ++ third in
    let read = claim_reads limits b.allows (suc (suc (suc depth))) b.told s.next (rows_tree s.claimed) behind third
    b.rest bytes (deleted_trees b.told s.deleted) b.next (autoclaim_split b.told b.form s b.rest bytes b.is)
    (rows_read limits b.allows depth false b.form s.claimed third behind b.claimed refl)
    (deleted_read limits b.allows (suc (suc depth)) b.told s.deleted b.rest third b.deleted refl) in
    let one = one_reply limits (suc (suc (suc (suc (suc depth))))) bytes b.rest (value (autoclaim_tree b.told s))
    (value (autoclaim_tree h.told r)) n d h.within read h.reply in
    let same : autoclaim_tree h.told r ≡ autoclaim_tree b.told s = cc (one.0) in
    let told = sent_claim_read b.told s b.next.is_text (sent_told limits s.claimed b.claimed.each)
    (texts_read s.deleted (deleted_told limits b.told s.deleted b.deleted))
    (deleted_none limits b.told s.deleted b.deleted) in
    let both : Some r ≡ Some s = sym h.sent ∙ ap sent_autoclaim_reading same ∙ told in
    let record_is : r ≡ s = cc in (
      record_is,
      len_same bytes (autoclaim_bytes b.told b.form s) b.rest n len h.within b.is one.1 b.len_is,
    )

pub justid_same : (limits : Limits) (bytes : List ℕ) (r s : JustId) (n len : ℕ) → IsJustId limits bytes r n
    → BeginsWithJustId limits bytes s len → (r ≡ s) × (n ≡ len)
justid_same limits bytes r s n len h b =
    let depth = limits.depth - 3 in
    let d : suc (suc (suc depth)) ≡ limits.depth = omega (arith, b.deep) in
    let third = deleted_bytes b.told s.deleted ++ b.rest in
    let behind = ids_bytes s.claimed ++ third in
    let read = claim_reads limits b.allows (suc depth) b.told s.next (ids_tree s.claimed) behind third
    b.rest bytes (deleted_trees b.told s.deleted) b.next (justid_split b.told s b.rest bytes b.is)
    (ids_read limits b.allows depth s.claimed third behind b.claimed (ids_split s.claimed third behind refl))
    (deleted_read limits b.allows depth b.told s.deleted b.rest third b.deleted refl) in
    let one = one_reply limits (suc (suc (suc depth))) bytes b.rest (value (justid_tree b.told s))
    (value (justid_tree h.told r)) n d h.within read h.reply in
    let same : justid_tree h.told r ≡ justid_tree b.told s = cc (one.0) in
    let told = justid_read b.told s b.next.is_text (ids_told limits s.claimed b.claimed.each)
    (deleted_told limits b.told s.deleted b.deleted) (deleted_none limits b.told s.deleted b.deleted) in
    let both : Some r ≡ Some s = sym h.reading ∙ ap justid_reading same ∙ told in
    let record_is : r ≡ s = cc in (
      record_is,
      len_same bytes (justid_bytes b.told s) b.rest n len h.within b.is one.1 b.len_is,
    )
