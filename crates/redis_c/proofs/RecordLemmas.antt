-- Records whose texts are copied one after the other: texts appended later change none of them.
use Rattle.std.proofs.Common.{◌≡◌, ◌≤◌, ◌+◌, ◌∙◌, ℕ, List, [], ◌∷◌, ◌++◌, length, take, drop, map, refl, sym, ap, arith, subst}
use Rattle.std.proofs.Common.{◌<◌, get_or, add-one, flat_map, suc, Option, Some, None}
use Rattle.std.proofs.lemmas.List.{length-append, length-drop, drop-append-le, take-append-le, map-append, flat_map_more}
use Rattle.std.proofs.Math.Seq.{take-suc}
use Rattle.redis_wire.specs.declared.place.Span.{Span}
use Rattle.redis_streams.specs.Info.{Consumer, Group}
use Rattle.redis_streams.specs.Pending.{PendingEntry, PendingSummary}
use Rattle.redis_resp.specs.Tree.{Tree}
use Rattle.redis_c.specs.Records.{AreAt, IsCopyAt, IsGroupAt, IsPendingAt, IsConsumerAt, IsRecordAt, IsCopying, AreRecords}
use Rattle.redis_c.specs.Records.{IsSummaryAt, summary_consumers}
use Rattle.redis_c.specs.declared.records.SummaryRecord.{SummaryRecord}
use Rattle.redis_c.specs.declared.records.Records.{Records}
use Rattle.redis_c.specs.declared.records.Records.TheVariants as records
use Rattle.redis_c.specs.declared.records.ConsumerRecord.{ConsumerRecord}
use Rattle.redis_c.specs.declared.records.GroupRecord.{GroupRecord}
use Rattle.redis_c.specs.declared.records.PendingRecord.{PendingRecord}

-- one record more
pub are_more : {P M : Type 0} (Is : P → M → Type 0) (ps : List P) (ms : List M) (p : P) (m : M) → AreAt Is ps ms
    → Is p m → AreAt Is (ps ++ p ∷ []) (ms ++ m ∷ [])
are_more Is [] [] p m r i = (i, tt)
are_more Is [] (y ∷ ms) p m r i = absurd r
are_more Is (x ∷ ps) [] p m r i = absurd r
are_more Is (x ∷ ps) (y ∷ ms) p m r i = (r.0, are_more Is ps ms p m r.1 i)

-- the number of records is that of the described parts
pub are_as_many : {P M : Type 0} (Is : P → M → Type 0) (ps : List P) (ms : List M) → AreAt Is ps ms
    → length ps ≡ length ms
are_as_many Is [] [] r = refl
are_as_many Is [] (y ∷ ms) r = absurd r
are_as_many Is (x ∷ ps) [] r = absurd r
are_as_many Is (x ∷ ps) (y ∷ ms) r = ap (λ (n : ℕ). suc n) (are_as_many Is ps ms r.1)

-- records of one kind are of another, if each is
pub are_still : {P M : Type 0} (Is Also : P → M → Type 0) (ps : List P) (ms : List M)
    → ((p : P) (m : M) → Is p m → Also p m) → AreAt Is ps ms → AreAt Also ps ms
are_still Is Also [] [] f r = tt
are_still Is Also [] (y ∷ ms) f r = absurd r
are_still Is Also (x ∷ ps) [] f r = absurd r
are_still Is Also (x ∷ ps) (y ∷ ms) f r = (f x y r.0, are_still Is Also ps ms f r.1)

module _ (texts more : List ℕ) where
  -- a text is where it was
  pub copy_stays : (place : Span) (text : List ℕ) → IsCopyAt texts place text → IsCopyAt (texts ++ more) place text
  copy_stays place text c =
      let start : place.start ≤ length texts = omega (arith, c.within) in
      let len : place.len ≤ length (drop place.start texts) = omega
      (arith, c.within, length-drop place.start texts) in
      record {
        within = omega (arith, c.within, length-append texts more);
        is = ap (take place.len) (drop-append-le place.start texts more start)
            ∙ take-append-le place.len (drop place.start texts) more len ∙ c.is;
      }

  pub group_stays : (p : GroupRecord) (g : Group) → IsGroupAt texts p g → IsGroupAt (texts ++ more) p g
  group_stays p g i = record {
    name = copy_stays p.name g.name i.name;
    last_delivered_id = copy_stays p.last_delivered_id g.last_delivered_id i.last_delivered_id;
    consumers = i.consumers;
    pending = i.pending;
    entries_read = i.entries_read;
    lag = i.lag;
  }

  pub entry_stays : (p : PendingRecord) (e : PendingEntry) → IsPendingAt texts p e → IsPendingAt (texts ++ more) p e
  entry_stays p e i = record {
    id = copy_stays p.id e.id i.id;
    consumer = copy_stays p.consumer e.consumer i.consumer;
    last_delivered_ms = i.last_delivered_ms;
    times_delivered = i.times_delivered;
  }

  pub consumer_stays : (p : ConsumerRecord) (c : Consumer) → IsConsumerAt texts p c → IsConsumerAt (texts ++ more) p c
  consumer_stays p c i = record { name = copy_stays p.name c.name i.name; pending = i.pending }

-- one record more, whose texts were appended to the others
module _ {P M : Type 0} (Is : List ℕ → P → M → Type 0)
    (stays : (texts more : List ℕ) (p : P) (m : M) → Is texts p m → Is (texts ++ more) p m) where
  pub put_more : (texts more : List ℕ) (ps : List P) (ms : List M) (p : P) (m : M) → AreAt (Is texts) ps ms
      → Is (texts ++ more) p m → AreAt (Is (texts ++ more)) (ps ++ p ∷ []) (ms ++ m ∷ [])
  put_more texts more ps ms p m r i =
      are_more (Is (texts ++ more)) ps ms p m
      (are_still (Is texts) (Is (texts ++ more)) ps ms (stays texts more) r) i

  -- the same of the next item, as a loop over items puts it
  pub put_next : {G : Type 0} (text_of : M → List ℕ) (meaning : G → M) (gs : List G) (i : ℕ) (d g : G)
      (first texts after : List ℕ) (ps qs : List P) (p : P) → i < length gs → g ≡ get_or gs i d
      → (texts ≡ first ++ flat_map text_of (map meaning (take i gs))) × AreAt (Is texts) ps (map meaning (take i gs))
      → after ≡ texts ++ text_of (meaning g) → Is after p (meaning g) → qs ≡ ps ++ p ∷ []
      → (after ≡ first ++ flat_map text_of (map meaning (take (i + 1) gs)))
      × AreAt (Is after) qs (map meaning (take (i + 1) gs))
  put_next text_of meaning gs i d g first texts after ps qs p lt is so_far more at pushed =
      let ms : List M = map meaning (take i gs) in
      let m : M = meaning g in
      let grown : map meaning (take (i + 1) gs) ≡ ms ++ m ∷ [] =
      ap (λ (n : ℕ). map meaning (take n gs)) (add-one i) ∙ ap (map meaning) (take-suc gs i d lt)
      ∙ map-append meaning (take i gs) (get_or gs i d ∷ []) ∙ ap (λ (x : _). ms ++ meaning x ∷ []) (sym is) in
      let all : AreAt (Is (texts ++ text_of m)) (ps ++ p ∷ []) (ms ++ m ∷ []) =
      put_more texts (text_of m) ps ms p m so_far.1 (subst (λ (x : List ℕ). Is x p m) more at) in (
        more ∙ ap (λ (x : List ℕ). x ++ text_of m) so_far.0 ∙ flat_map_more text_of first ms m
            ∙ ap (λ (x : List M). first ++ flat_map text_of x) (sym grown),
        subst (λ (x : List M). AreAt (Is after) qs x) (sym grown)
            (subst (λ (x : List P). AreAt (Is after) x (ms ++ m ∷ [])) (sym pushed)
            (subst (λ (x : List ℕ). AreAt (Is x) (ps ++ p ∷ []) (ms ++ m ∷ [])) (sym more) all)),
      )

-- the result of copying rows is that of reading the record of the reply
module _ {M T : Type 0} (reading : Tree → Option M) (bytes : List ℕ) (Holds : ℕ → ℕ → M → Type 0) (records_of : M → ℕ)
    (text_of : M → List ℕ) (room text_room len : ℕ) (m : M) (rows : List T) (copies : List ℕ) (table : List T)
    (texts : List ℕ) where
  pub copied_are : (r : Records) → IsCopying rows copies room text_room table texts len r
      → IsRecordAt reading bytes len m → length rows ≡ records_of m → copies ≡ text_of m
      → ((count text : ℕ) → take count table ≡ rows → take text texts ≡ copies → Holds count text m)
      → AreRecords reading bytes Holds records_of text_of room text_room r
  copied_are (records.Copied l count text) c at many same holds = record {
    m = m;
    at = subst (λ (n : ℕ). IsRecordAt reading bytes n m) (sym c.0) at;
    count_is = c.1.count_is ∙ many;
    text_is = c.1.text_is ∙ ap length same;
    few = c.1.few;
    short = c.1.short;
    holds = holds count text c.1.rows_are c.1.copies_are;
  }
  copied_are (records.Room l count text) c at many same holds = record {
    m = m;
    at = subst (λ (n : ℕ). IsRecordAt reading bytes n m) (sym c.0) at;
    count_is = c.1.count_is ∙ many;
    text_is = c.1.text_is ∙ ap length same;
    more = c.1.more;
  }
  copied_are (records.Unread o) c at many same holds = absurd c

-- records that are copied describe the same
pub held_in_front : {P M : Type 0} (Is : List ℕ → P → M → Type 0) (rows table : List P) (copies texts : List ℕ) (ms : List M)
    → AreAt (Is copies) rows ms → (count text : ℕ) → take count table ≡ rows → take text texts ≡ copies
    → AreAt (Is (take text texts)) (take count table) ms
held_in_front Is rows table copies texts ms are count text front first =
    subst (λ (x : List ℕ). AreAt (Is x) (take count table) ms) (sym first)
    (subst (λ (x : List _). AreAt (Is copies) x ms) (sym front) are)

-- ---- for the functions that copy records

module _ {P M : Type 0} (Is : List ℕ → P → M → Type 0) (texts copies first : List ℕ) (items rows : List P)
    (told ms : List M) (there : copies ≡ texts) (rows_are : rows ≡ items) (told_is : told ≡ ms) where
  pub rows_at : AreAt (Is texts) items told → AreAt (Is copies) rows ms
  rows_at are =
      subst (λ (x : List ℕ). AreAt (Is x) rows ms) (sym there)
      (subst (λ (x : List P). AreAt (Is texts) x ms) (sym rows_are)
      (subst (λ (x : List M). AreAt (Is texts) items x) told_is are))

  pub copies_are : (text_of : M → List ℕ) → texts ≡ first ++ flat_map text_of told → first ≡ []
      → copies ≡ flat_map text_of ms
  copies_are text_of more none =
      there ∙ more ∙ ap (λ (x : List ℕ). x ++ flat_map text_of told) none ∙ ap (flat_map text_of) told_is

module _ (texts copies : List ℕ) (p : SummaryRecord) (items rows : List ConsumerRecord) (there : copies ≡ texts)
    (rows_are : rows ≡ items) (s : Option PendingSummary) where
  pub summary_at : IsSummaryAt texts p items s → IsSummaryAt copies p rows s
  summary_at is =
      subst (λ (x : List ℕ). IsSummaryAt x p rows s) (sym there)
      (subst (λ (x : List ConsumerRecord). IsSummaryAt texts p x s) (sym rows_are) is)

-- the number of consumers is that of the described ones
pub as_many_consumers : (texts : List ℕ) (p : SummaryRecord) (rows : List ConsumerRecord) (s : Option PendingSummary)
    → IsSummaryAt texts p rows s → length rows ≡ length (summary_consumers s)
as_many_consumers texts p rows None is = ap length is.1
as_many_consumers texts p rows (Some s) is = are_as_many (IsConsumerAt texts) rows s.consumers is.consumers

-- the copy of a summary describes the same
pub summary_in_front : (p : SummaryRecord) (rows table : List ConsumerRecord) (copies texts : List ℕ)
    (s : Option PendingSummary) → IsSummaryAt copies p rows s → (count text : ℕ) → take count table ≡ rows
    → take text texts ≡ copies → IsSummaryAt (take text texts) p (take count table) s
summary_in_front p rows table copies texts s is count text front first =
    subst (λ (x : List ℕ). IsSummaryAt x p (take count table) s) (sym first)
    (subst (λ (x : List ConsumerRecord). IsSummaryAt copies p x s) (sym front) is)
