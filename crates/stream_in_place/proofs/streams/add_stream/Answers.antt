use Rattle.std.proofs.Common.{rules, ◌≡◌, ◌++◌, length, drop, flat_map, arith, ◌+◌}
use Rattle.stream_in_place.specs.Added.{EntriesAdded}
use Rattle.stream_in_place.specs.Shapes.{rows_bytes, entry_bytes}
use Rattle.stream_in_place.proofs.StreamLemmas.{stream_added}
use Rattle.stream_in_place.proofs.BeginLemmas.{head_begins, text_begins, rows_split}
use Rattle.stream_in_place.proofs.ShapeStreamLemmas.{behind_head, stream_split}
use Rattle.stream_in_place.proofs.CountLemmas.{fewer_entries}
use Rattle.stream_in_place.specs.Forms.{is_claim, is_map}
use Rattle.stream_in_place.proofs.streams.add_stream.Goals as goal

pub returns-clause-is : goal.returns-clause-is
returns-clause-is g c =
    let bytes = c.args.bytes.now in
    let old = g.P.Places.held c.args.places.now in
    let new = g.P.Places.held c.add_entries.new.places in
    let from : c.count_entries-from.result ≡ length old.entries = search rules in
    let to : c.count_entries-to.result ≡ length new.entries = search rules in
    let added : EntriesAdded c.args.limits bytes c.in-Some-array_at.behind (is_claim c.args.form) c.in-Some-array_at.count
    c.in-Some-2.after old new =
    rw c.in-Some-2.is at c.in_ok-after.ensures.is in
    stream_added c.args.limits bytes c.args.at c.in-Some.behind c.in-Some-name_at.behind c.in-Some-array_at.behind
    c.in-Some-2.after c.in-Some-array_at.count (is_map c.args.spelling) (is_claim c.args.form) c.in-Some-name_at.name old new
    c.count_entries-from.result c.count_entries-to.result from to c.in-Some.ensures.is c.in-Some-name_at.ensures.is
    c.in-Some-name_at.ensures.text c.in-Some-array_at.ensures.is added

pub returns-in_default-clause-found : goal.returns-in_default-clause-found
returns-in_default-clause-found g c = λ form s rest a h is.
    let left = drop c.args.at c.args.bytes.now in
    let top = stream_split (is_map c.args.spelling) form s rest left is in
    c.in_default.ensures.found (behind_head form s rest) a top

pub returns-in_default-name_at-clause-found : goal.returns-in_default-name_at-clause-found
returns-in_default-name_at-clause-found g c = λ form s rest a h is.
    let left = drop c.args.at c.args.bytes.now in
    let top = stream_split (is_map c.args.spelling) form s rest left is in
    let head = c.in-Some.ensures.found (behind_head form s rest) a top in
    let behind = rows_bytes form s.entries ++ rest in
    let name = text_begins c.args.limits a (drop c.in-Some.behind c.args.bytes.now) s.name behind h.name.within head in
    c.in_default-name_at.ensures.found s.name behind name h.name.is_text

pub returns-in_default-array_at-clause-found : goal.returns-in_default-array_at-clause-found
returns-in_default-array_at-clause-found g c = λ form s rest a h is.
    let left = drop c.args.at c.args.bytes.now in
    let top = stream_split (is_map c.args.spelling) form s rest left is in
    let head = c.in-Some.ensures.found (behind_head form s rest) a top in
    let behind = rows_bytes form s.entries ++ rest in
    let name = text_begins c.args.limits a (drop c.in-Some.behind c.args.bytes.now) s.name behind h.name.within head in
    let rows = (c.in-Some-name_at.ensures.found s.name behind name h.name.is_text).1 in
    let members = flat_map (entry_bytes form) s.entries ++ rest in
    let count = head_begins c.args.limits a (drop c.in-Some-name_at.behind c.args.bytes.now) 42 (length s.entries)
    members h.entries.few
    (rows_split form s.entries rest (drop c.in-Some-name_at.behind c.args.bytes.now) rows) in
    c.in_default-array_at.ensures.found (length s.entries) members count

pub returns-in_default-2-clause-found : goal.returns-in_default-2-clause-found
returns-in_default-2-clause-found g c = λ form s rest a h is.
    let left = drop c.args.at c.args.bytes.now in
    let top = stream_split (is_map c.args.spelling) form s rest left is in
    let head = c.in-Some.ensures.found (behind_head form s rest) a top in
    let behind = rows_bytes form s.entries ++ rest in
    let name = text_begins c.args.limits a (drop c.in-Some.behind c.args.bytes.now) s.name behind h.name.within head in
    let rows = (c.in-Some-name_at.ensures.found s.name behind name h.name.is_text).1 in
    let members = flat_map (entry_bytes form) s.entries ++ rest in
    let count = head_begins c.args.limits a (drop c.in-Some-name_at.behind c.args.bytes.now) 42 (length s.entries)
    members h.entries.few
    (rows_split form s.entries rest (drop c.in-Some-name_at.behind c.args.bytes.now) rows) in
    let inner = c.in-Some-array_at.ensures.found (length s.entries) members count in
    let all = c.in_ok-after.ensures.found form s.entries rest a h.entries.each inner.1 inner.0 in
    rw c.in_default-2.is at all

pub returns-clause-found : goal.returns-clause-found
returns-clause-found g c = λ form s rest a h is.
    let left = drop c.args.at c.args.bytes.now in
    let top = stream_split (is_map c.args.spelling) form s rest left is in
    let head = c.in-Some.ensures.found (behind_head form s rest) a top in
    let behind = rows_bytes form s.entries ++ rest in
    let name = text_begins c.args.limits a (drop c.in-Some.behind c.args.bytes.now) s.name behind h.name.within head in
    let rows = (c.in-Some-name_at.ensures.found s.name behind name h.name.is_text).1 in
    let members = flat_map (entry_bytes form) s.entries ++ rest in
    let count = head_begins c.args.limits a (drop c.in-Some-name_at.behind c.args.bytes.now) 42 (length s.entries)
    members h.entries.few
    (rows_split form s.entries rest (drop c.in-Some-name_at.behind c.args.bytes.now) rows) in
    let inner = c.in-Some-array_at.ensures.found (length s.entries) members count in
    let all = c.in_ok-after.ensures.found form s.entries rest a h.entries.each inner.1 inner.0 in
    rw c.in-Some-2.is at all

pub returns-clause-counts : goal.returns-clause-counts
returns-clause-counts g c = λ form s rest a h is.
    let left = drop c.args.at c.args.bytes.now in
    let top = stream_split (is_map c.args.spelling) form s rest left is in
    let head = c.in-Some.ensures.found (behind_head form s rest) a top in
    let behind = rows_bytes form s.entries ++ rest in
    let name = text_begins c.args.limits a (drop c.in-Some.behind c.args.bytes.now) s.name behind h.name.within head in
    let rows = (c.in-Some-name_at.ensures.found s.name behind name h.name.is_text).1 in
    let members = flat_map (entry_bytes form) s.entries ++ rest in
    let count = head_begins c.args.limits a (drop c.in-Some-name_at.behind c.args.bytes.now) 42 (length s.entries)
    members h.entries.few
    (rows_split form s.entries rest (drop c.in-Some-name_at.behind c.args.bytes.now) rows) in
    let inner = c.in-Some-array_at.ensures.found (length s.entries) members count in
    let old = g.P.Places.held c.args.places.now in
    let new = g.P.Places.held c.add_entries.new.places in
    let counted : length new.entries ≡ length old.entries + c.in-Some-array_at.count =
    rw c.in-Some-2.is at c.in_ok-after.ensures.counts in (
      omega (arith, counted, inner.0),
      rw c.in-Some-2.is at (c.in_ok-after.ensures.counts_fields form s.entries rest a h.entries.each inner.1 inner.0),
    )

pub returns-in_err-after-clause-fits : goal.returns-in_err-after-clause-fits
returns-in_err-after-clause-fits g c = λ form s rest a h is entries fields.
    let left = drop c.args.at c.args.bytes.now in
    let top = stream_split (is_map c.args.spelling) form s rest left is in
    let head = c.in-Some.ensures.found (behind_head form s rest) a top in
    let behind = rows_bytes form s.entries ++ rest in
    let name = text_begins c.args.limits a (drop c.in-Some.behind c.args.bytes.now) s.name behind h.name.within head in
    let rows = (c.in-Some-name_at.ensures.found s.name behind name h.name.is_text).1 in
    let members = flat_map (entry_bytes form) s.entries ++ rest in
    let count = head_begins c.args.limits a (drop c.in-Some-name_at.behind c.args.bytes.now) 42 (length s.entries)
    members h.entries.few
    (rows_split form s.entries rest (drop c.in-Some-name_at.behind c.args.bytes.now) rows) in
    let inner = c.in-Some-array_at.ensures.found (length s.entries) members count in
    let lent = g.P.Places.lent c.args.places.now in
    let old = length (g.P.Places.held c.args.places.now).entries in
    absurd (cc (c.in_err-after.ensures.fits form s.entries rest a h.entries.each inner.1 inner.0
    (fewer_entries lent (old + c.in-Some-array_at.count) (old + length s.entries) (omega (arith, inner.0)) entries)
    fields))
