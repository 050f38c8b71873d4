-- Streams that are found one after the other.
use Rattle.std.proofs.Common.{◌≡◌, ◌≤◌, ◌+◌, ◌-◌, ◌*◌, ◌∙◌, ℕ, suc, List, [], ◌∷◌, ◌++◌, map, flat_map, length, take}
use Rattle.std.proofs.Common.{drop, Bool, true, false, Ok, refl, sym, ap, arith, append_assoc, append-nil}
use Rattle.std.specs.List.{AllByRecursion}
use Rattle.std.specs.Str.{is_utf8}
use Rattle.std.proofs.lemmas.List.{drop-append-le, take-append-le, length-append, length-drop, take_all}
use Rattle.std.proofs.Math.Seq.{drop-append_seam}
use Rattle.redis_resp.specs.Tree.{Tree, bulk}
use Rattle.redis_wire.specs.declared.limits.Limits.{Limits}
use Rattle.redis_wire.specs.declared.place.Span.{Span}
use Rattle.redis_wire.specs.Reply.{value, values}
use Rattle.redis_wire.specs.Group.{many}
use Rattle.redis_wire.specs.Level.{value_at}
use Rattle.redis_wire.specs.Place.{text_in, IsTextAt, IsArrayAt}
use Rattle.stream_entries.proofs.SkeletonLemmas.{all_append, all_more}
use Rattle.stream_in_place.specs.declared.places.FieldPlace.{FieldPlace}
use Rattle.stream_in_place.specs.declared.places.EntryPlace.{EntryPlace}
use Rattle.stream_in_place.specs.declared.places.StreamPlace.{StreamPlace}
use Rattle.stream_in_place.specs.Held.{Held, none_held}
use Rattle.stream_in_place.specs.Sent.{SentEntry, SentStream, rows_tree, stream_tree}
use Rattle.stream_in_place.specs.Placed.{entry_in, own_entries, stream_in, IsField, IsEntry, IsStream}
use Rattle.stream_in_place.specs.Added.{IsForm, EntriesAdded, stream_members, stream_count}
use Rattle.stream_in_place.specs.Added.{IsStreamHead, StreamAdded, StreamsAdded}
use Rattle.stream_in_place.proofs.ManyLemmas.{no_more, many_first, many_append}
use Rattle.stream_in_place.proofs.FillLemmas.{array_of, map_more, entry_kept, more_within}
use Rattle.stream_in_place.proofs.RangeLemmas.{rows_of, all_taken, all_dropped}

own_new : (old more new : List EntryPlace) → new ≡ old ++ more
    → take (length new - length old) (drop (length old) new) ≡ more
own_new old more new is =
    let n : length new - length old ≡ length more = omega (arith, ap length is, length-append old more) in
    rw (n, is, drop-append_seam old more) (take_all (length more) more (omega arith))

-- ---- headers

module _ (limits : Limits) (bytes : List ℕ) (at : ℕ) where
  pub head_in_map : at ≤ length bytes → IsStreamHead limits bytes at true at
  head_in_map within = record { end = within; reads = λ d s after h. h (suc d) }

  pub head_in_array : (behind : ℕ) → IsArrayAt limits bytes at 2 behind → IsStreamHead limits bytes at false behind
  head_in_array behind head = record {
    end = head.end;
    reads = λ d s after h.
        let inner = value_at limits (suc (suc (suc (suc (suc d))))) in
        let one = head.reads (suc (suc (suc (suc d)))) ∙ array_of (value_at limits (suc (suc (suc (suc d))))) 2
        (drop behind bytes) (bulk s.name ∷ rows_tree s.entries ∷ []) (drop after bytes) (h d) in
        many_first inner 0 (drop at bytes) (stream_tree s) (drop after bytes) [] (drop after bytes) one
        (no_more inner (drop after bytes));
  }

module _ (limits : Limits) (bytes : List ℕ) (at behind middle head after count : ℕ) (in_map claim : Bool) (name : Span)
    (old new : Held)
    (from to : ℕ) (from_is : from ≡ length old.entries) (to_is : to ≡ length new.entries)
    (top : IsStreamHead limits bytes at in_map behind) (named : IsTextAt limits bytes behind name middle)
    (text : is_utf8 (text_in bytes name) ≡ true)
    (inner : IsArrayAt limits bytes middle count head)
    (h : EntriesAdded limits bytes head claim count after old new) where
  both_read : (d : ℕ) → many (value_at limits (suc (suc (suc (suc d))))) 2 (drop behind bytes)
      ≡ Ok (
        values (bulk (text_in bytes name) ∷ rows_tree (map (entry_in bytes new.fields) h.grown.more) ∷ []),
        drop after bytes,
      )
  both_read d =
      let at_four = value_at limits (suc (suc (suc (suc d)))) in
      let rows = rows_of bytes new.fields h.grown.more in
      let e = inner.reads (suc (suc (suc d))) ∙ array_of (value_at limits (suc (suc (suc d)))) count (drop head bytes) _
      (drop after bytes) (h.reads d) in
      let shown : value_at limits (suc (suc (suc (suc d)))) (drop middle bytes)
      ≡ Ok (value (rows_tree (map (entry_in bytes new.fields) h.grown.more)), drop after bytes) = rw rows at e in
      many_first at_four 1 (drop behind bytes) _ (drop middle bytes) _ (drop after bytes)
      (named.reads (suc (suc (suc d)))) (many_first at_four 0 (drop middle bytes) _ (drop after bytes) []
      (drop after bytes) shown (no_more at_four (drop after bytes)))

  pub stream_added : StreamAdded limits bytes at in_map claim after
      (record { name = name; from = from; to = to }) old new
  stream_added =
      let is = ap (λ (x : Held). x.entries) h.grown.is in
      record {
        grown = h.grown;
        stream =
            record {
              name = named.within;
              is_text = text;
              order = omega (arith, from_is, to_is, ap length is, length-append old.entries h.grown.more);
              within = omega arith;
            };
        end = h.end;
        reads = λ d. rw (from_is, to_is, own_new old.entries h.grown.more new.entries is)
            (top.reads d
            (record {
              name = text_in bytes name;
              entries = map (entry_in bytes new.fields) h.grown.more;
            }) after both_read);
      }

-- ---- streams

-- more entries and fields after them change no stream
module _ (bytes : List ℕ) (fields more_fields : List FieldPlace) where
  entries_kept : (es : List EntryPlace) → AllByRecursion (IsEntry bytes (length fields)) es
      → map (entry_in bytes (fields ++ more_fields)) es ≡ map (entry_in bytes fields) es
  entries_kept [] h = refl
  entries_kept (e ∷ es) h =
      ap (λ (p : SentEntry). p ∷ map (entry_in bytes (fields ++ more_fields)) es)
      (entry_kept bytes fields more_fields e h.0)
      ∙ ap (λ (ps : List SentEntry). entry_in bytes fields e ∷ ps) (entries_kept es h.1)

  module _ (entries more : List EntryPlace) (all : AllByRecursion (IsEntry bytes (length fields)) entries) where
    stream_kept : (s : StreamPlace) → IsStream bytes (length entries) s
        → stream_in bytes (entries ++ more) (fields ++ more_fields) s ≡ stream_in bytes entries fields s
    stream_kept s h =
        let n : s.to - s.from ≤ length (drop s.from entries) =
        omega (arith, h.order, h.within, length-drop s.from entries) in
        let same : own_entries (entries ++ more) s ≡ own_entries entries s =
        rw (drop-append-le s.from entries more (omega (arith, h.order, h.within)))
        (take-append-le (s.to - s.from) (drop s.from entries) more n) in
        let own : AllByRecursion (IsEntry bytes (length fields)) (own_entries entries s) =
        all_taken (IsEntry bytes (length fields)) (s.to - s.from) (drop s.from entries)
        (all_dropped (IsEntry bytes (length fields)) s.from entries all) in
        ap
        (λ (es : List EntryPlace). record {
          name = text_in bytes s.name;
          entries = map (entry_in bytes (fields ++ more_fields)) es;
        }) same
        ∙ ap (λ (ps : List SentEntry). record { name = text_in bytes s.name; entries = ps })
        (entries_kept (own_entries entries s) own)

    pub streams_kept : (ss : List StreamPlace) → AllByRecursion (IsStream bytes (length entries)) ss
        → map (stream_in bytes (entries ++ more) (fields ++ more_fields)) ss ≡ map (stream_in bytes entries fields) ss
    streams_kept [] h = refl
    streams_kept (s ∷ ss) h =
        ap (λ (p : SentStream). p ∷ map (stream_in bytes (entries ++ more) (fields ++ more_fields)) ss)
        (stream_kept s h.0)
        ∙ ap (λ (ps : List SentStream). stream_in bytes entries fields s ∷ ps) (streams_kept ss h.1)

stream_within : (bytes : List ℕ) (m n : ℕ) → m ≤ n → (s : StreamPlace) → IsStream bytes m s → IsStream bytes n s
stream_within bytes m n le s h =
    record { name = h.name; is_text = h.is_text; order = h.order; within = omega (arith, h.within, le) }

-- the values that streams are, concatenated
members_more : (in_map : Bool) (ss : List SentStream) (s : SentStream)
    → flat_map (stream_members in_map) (ss ++ s ∷ []) ≡ flat_map (stream_members in_map) ss ++ stream_members in_map s
members_more in_map [] s = append-nil (stream_members in_map s)
members_more in_map (x ∷ ss) s = ap (λ (ts : List Tree). stream_members in_map x ++ ts) (members_more in_map ss s)
    ∙ sym (append_assoc (stream_members in_map x) (flat_map (stream_members in_map) ss) (stream_members in_map s))

none_yet : (in_map : Bool) → stream_count in_map * 0 ≡ 0
none_yet true = refl
none_yet false = refl

one_more : (in_map : Bool) (i : ℕ) → stream_count in_map * (i + 1) ≡ stream_count in_map * i + stream_count in_map
one_more true i = omega arith
one_more false i = omega arith

abbrev with_streams : Held → List StreamPlace → Held
with_streams h ss = record { streams = ss; entries = h.entries; fields = h.fields }

module _ (limits : Limits) (bytes : List ℕ) (at : ℕ) (in_map claim : Bool) where
  pub streams_start : (held : Held) → held ≡ none_held → at ≤ length bytes
      → StreamsAdded limits bytes at in_map claim 0 at held
  streams_start held none within = rw none (record {
    within = record { streams = tt; entries = tt; forms = tt; fields = tt };
    end = within;
    reads = λ d.
        rw (none_yet in_map) (no_more (value_at limits (suc (suc (suc (suc (suc d)))))) (drop at bytes));
  })

  pub streams_more : (i behind after : ℕ) (s : StreamPlace) (before found new : Held)
      → StreamsAdded limits bytes at in_map claim i behind before
      → StreamAdded limits bytes behind in_map claim after s before found
      → new ≡ with_streams found (found.streams ++ s ∷ [])
      → StreamsAdded limits bytes at in_map claim (i + 1) after new
  streams_more i behind after s before found new h x pushed =
      let g = x.grown in
      let w = h.within in
      let made : new ≡ record {
        streams = before.streams ++ s ∷ [];
        entries = before.entries ++ g.more;
        fields = before.fields ++ g.more_fields;
      } =
      pushed ∙ ap (λ (y : Held). with_streams y (y.streams ++ s ∷ [])) g.is in
      let fields_are : found.fields ≡ before.fields ++ g.more_fields = ap (λ (y : Held). y.fields) g.is in
      let entries_are : found.entries ≡ before.entries ++ g.more = ap (λ (y : Held). y.entries) g.is in
      let fields_grow : length before.fields ≤ length (before.fields ++ g.more_fields) =
      omega (arith, length-append before.fields g.more_fields) in
      let entries_grow : length before.entries ≤ length (before.entries ++ g.more) =
      omega (arith, length-append before.entries g.more) in
      let stream : IsStream bytes (length (before.entries ++ g.more)) s =
      stream_within bytes (length found.entries) (length (before.entries ++ g.more))
      (omega (arith, ap length entries_are)) s x.stream in
      let more_entries : AllByRecursion (IsEntry bytes (length (before.fields ++ g.more_fields))) g.more =
      all_more (IsEntry bytes (length found.fields)) (IsEntry bytes (length (before.fields ++ g.more_fields)))
      (more_within bytes (length found.fields) (length (before.fields ++ g.more_fields))
      (omega (arith, ap length fields_are))) g.more g.entries in
      rw made (record {
        within = record {
          streams = all_append (IsStream bytes (length (before.entries ++ g.more))) before.streams (s ∷ [])
              (all_more (IsStream bytes (length before.entries)) (IsStream bytes (length (before.entries ++ g.more)))
              (stream_within bytes (length before.entries)
              (length (before.entries ++ g.more)) entries_grow) before.streams w.streams) (stream, tt);
          entries = all_append (IsEntry bytes (length (before.fields ++ g.more_fields))) before.entries g.more
              (all_more (IsEntry bytes (length before.fields)) (IsEntry bytes (length (before.fields ++ g.more_fields)))
              (more_within bytes (length before.fields)
              (length (before.fields ++ g.more_fields)) fields_grow) before.entries w.entries) more_entries;
          forms = all_append (IsForm claim) before.entries g.more w.forms g.forms;
          fields = all_append (IsField bytes) before.fields g.more_fields w.fields g.fields;
        };
        end = x.end;
        reads = λ d.
            let inner = value_at limits (suc (suc (suc (suc (suc d))))) in
            let shown = stream_in bytes (before.entries ++ g.more) (before.fields ++ g.more_fields) in
            let last : stream_in bytes found.entries found.fields s ≡ shown s =
            ap (λ (y : Held). stream_in bytes y.entries y.fields s) g.is in
            let b = many_append inner (stream_count in_map * i) (stream_count in_map) (drop at bytes)
            (flat_map (stream_members in_map) (map (stream_in bytes before.entries before.fields) before.streams))
            (drop behind bytes) (stream_members in_map (stream_in bytes found.entries found.fields s))
            (drop after bytes) (h.reads d) (x.reads d) in
            let kept =
            streams_kept bytes before.fields g.more_fields before.entries g.more w.entries before.streams
            w.streams in
            let all : flat_map (stream_members in_map) (map shown (before.streams ++ s ∷ []))
            ≡ flat_map (stream_members in_map) (map (stream_in bytes before.entries before.fields) before.streams)
            ++ stream_members in_map (stream_in bytes found.entries found.fields s) =
            ap (flat_map (stream_members in_map)) (map_more shown before.streams s)
            ∙ members_more in_map (map shown before.streams) (shown s)
            ∙ ap (λ (ps : List SentStream). flat_map (stream_members in_map) ps ++ stream_members in_map (shown s)) kept
            ∙ ap
            (λ (p : SentStream). flat_map (stream_members in_map)
            (map (stream_in bytes before.entries before.fields) before.streams) ++ stream_members in_map p)
            (sym last) in
            rw (one_more in_map i, all) b;
      })
