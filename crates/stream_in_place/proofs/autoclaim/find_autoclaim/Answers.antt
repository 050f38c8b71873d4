use Rattle.std.proofs.Common.{rules, ◌≡◌, ◌≤◌, ◌++◌, arith, flat_map, length, false, ap, ◌+◌}
use Rattle.stream_in_place.specs.Held.{Held, none_held}
use Rattle.stream_in_place.specs.Added.{EntriesAdded}
use Rattle.stream_in_place.specs.AddedIds.{DeletedAdded}
use Rattle.stream_in_place.proofs.AutoClaimLemmas.{autoclaim_is, claim_places}
use Rattle.stream_in_place.specs.Shapes.{entry_bytes, deleted_bytes}
use Rattle.stream_in_place.specs.ClaimPlaced.{autoclaim_in}
use Rattle.stream_in_place.proofs.ShapeClaimLemmas.{autoclaim_parts, autoclaim_same}
use Rattle.stream_in_place.specs.Lent.{EntriesFit, FieldsFit}
use Rattle.stream_in_place.specs.Sent.{all_fields}
use Rattle.stream_in_place.proofs.CountLemmas.{fewer_entries, fewer_fields}
use Rattle.stream_in_place.proofs.autoclaim.find_autoclaim.Goals as goal

pub returns-clause-is : goal.returns-clause-is
returns-clause-is g c =
    let bytes = c.args.bytes.now in
    let mid = g.P.Places.held c.add_entries.new.places in
    let new = g.P.Places.held c.add_deleted.new.places in
    let head = c.in-Some.head in
    let deep : 5 ≤ c.args.limits.depth = omega arith in
    let n : c.count_entries-claimed.result ≡ length mid.entries = search rules in
    let added : EntriesAdded c.args.limits bytes head.at false head.count c.in-Some-2.at none_held mid =
    rw (c.clear.ensures.holds, c.in-Some-2.is) at c.in_ok-at.ensures.is in
    let deleted : DeletedAdded c.args.limits bytes c.in-Some-2.at head.told c.in-Some-3.len mid new =
    rw c.in-Some-3.is at c.in_ok-len.ensures.is in
    autoclaim_is c.args.limits bytes head.told head.next head.count head.at c.in-Some-2.at c.in-Some-3.len
    c.in-Some.ensures.is c.count_entries-claimed.result mid new n deleted added deep

pub returns-clause-within : goal.returns-clause-within
returns-clause-within g c =
    let bytes = c.args.bytes.now in
    let mid = g.P.Places.held c.add_entries.new.places in
    let new = g.P.Places.held c.add_deleted.new.places in
    let head = c.in-Some.head in
    let n : c.count_entries-claimed.result ≡ length mid.entries = search rules in
    let added : EntriesAdded c.args.limits bytes head.at false head.count c.in-Some-2.at none_held mid =
    rw (c.clear.ensures.holds, c.in-Some-2.is) at c.in_ok-at.ensures.is in
    let deleted : DeletedAdded c.args.limits bytes c.in-Some-2.at head.told c.in-Some-3.len mid new =
    rw c.in-Some-3.is at c.in_ok-len.ensures.is in
    claim_places c.args.limits bytes head.told head.next head.count head.at c.in-Some-2.at c.in-Some-3.len
    c.in-Some.ensures.is c.count_entries-claimed.result mid new n deleted added

pub returns-clause-found : goal.returns-clause-found
returns-clause-found g c = λ r len b.
    let bytes = c.args.bytes.now in
    let new = g.P.Places.held c.add_deleted.new.places in
    autoclaim_same c.args.limits bytes
    (autoclaim_in bytes new.entries new.fields (record {
      next = c.in-Some.head.next;
      claimed = c.count_entries-claimed.result;
      len = c.in-Some-3.len;
    })) r c.in-Some-3.len len (returns-clause-is g c) b

pub returns-in_default-clause-found : goal.returns-in_default-clause-found
returns-in_default-clause-found g c = λ r len b.
    let bytes = c.args.bytes.now in
    let third = deleted_bytes b.told r.deleted ++ b.rest in
    let behind = flat_map (entry_bytes b.form) r.claimed ++ third in
    let split = autoclaim_parts b.told b.form r b.rest bytes b.is in
    c.in_default.ensures.found b.told r.next (length r.claimed) behind b.allows b.next b.claimed.few split

pub returns-in_default-2-clause-found : goal.returns-in_default-2-clause-found
returns-in_default-2-clause-found g c = λ r len b.
    let bytes = c.args.bytes.now in
    let third = deleted_bytes b.told r.deleted ++ b.rest in
    let behind = flat_map (entry_bytes b.form) r.claimed ++ third in
    let split = autoclaim_parts b.told b.form r b.rest bytes b.is in
    let head = c.in-Some.ensures.found b.told r.next (length r.claimed) behind b.allows b.next b.claimed.few split in
    let all = c.in_ok-at.ensures.found b.form r.claimed third b.allows b.claimed.each head.2 head.1 in
    rw c.in_default-2.is at all

pub returns-in_default-3-clause-found : goal.returns-in_default-3-clause-found
returns-in_default-3-clause-found g c = λ r len b.
    let bytes = c.args.bytes.now in
    let third = deleted_bytes b.told r.deleted ++ b.rest in
    let behind = flat_map (entry_bytes b.form) r.claimed ++ third in
    let split = autoclaim_parts b.told b.form r b.rest bytes b.is in
    let head = c.in-Some.ensures.found b.told r.next (length r.claimed) behind b.allows b.next b.claimed.few split in
    let all = c.in_ok-at.ensures.found b.form r.claimed third b.allows b.claimed.each head.2 head.1 in
    let after = rw c.in-Some-2.is at all in
    rw c.in_default-3.is at (c.in_ok-len.ensures.found r.deleted b.rest b.allows (rw (head.0) b.deleted)
    (rw (head.0) after))

pub returns-then-limits-lt-CLAIM_DEPTH-clause-found : goal.returns-then-limits-lt-CLAIM_DEPTH-clause-found
returns-then-limits-lt-CLAIM_DEPTH-clause-found g c = λ r len b. absurd (omega (arith, b.deep))

pub returns-in_err-at-clause-fits : goal.returns-in_err-at-clause-fits
returns-in_err-at-clause-fits g c = λ r len b entries fields.
    let bytes = c.args.bytes.now in
    let lent = g.P.Places.lent c.clear.new.self in
    let held = g.P.Places.held c.clear.new.self in
    let none = c.clear.ensures.holds in
    let third = deleted_bytes b.told r.deleted ++ b.rest in
    let behind = flat_map (entry_bytes b.form) r.claimed ++ third in
    let split = autoclaim_parts b.told b.form r b.rest bytes b.is in
    let head = c.in-Some.ensures.found b.told r.next (length r.claimed) behind b.allows b.next b.claimed.few split in
    let room : EntriesFit lent (length r.claimed + length r.deleted) = rw c.clear.ensures.kept entries in
    let field_room : FieldsFit lent (length (all_fields r.claimed)) = rw c.clear.ensures.kept fields in
    absurd (cc (c.in_err-at.ensures.fits b.form r.claimed third b.allows b.claimed.each head.2 head.1
    (fewer_entries lent (length held.entries + c.in-Some.head.count) (length r.claimed + length r.deleted)
    (omega (arith, head.1, ap (λ (h : Held). length h.entries) none)) room)
    (fewer_fields lent (length held.fields + length (all_fields r.claimed)) (length (all_fields r.claimed))
    (omega (arith, ap (λ (h : Held). length h.fields) none)) field_room)))

pub returns-in_err-len-clause-fits : goal.returns-in_err-len-clause-fits
returns-in_err-len-clause-fits g c = λ r len b entries fields.
    let bytes = c.args.bytes.now in
    let lent = g.P.Places.lent c.clear.new.self in
    let held = g.P.Places.held c.clear.new.self in
    let none = c.clear.ensures.holds in
    let third = deleted_bytes b.told r.deleted ++ b.rest in
    let behind = flat_map (entry_bytes b.form) r.claimed ++ third in
    let split = autoclaim_parts b.told b.form r b.rest bytes b.is in
    let head = c.in-Some.ensures.found b.told r.next (length r.claimed) behind b.allows b.next b.claimed.few split in
    let room : EntriesFit lent (length r.claimed + length r.deleted) = rw c.clear.ensures.kept entries in
    let mid = g.P.Places.held c.add_entries.new.places in
    let mid_lent = g.P.Places.lent c.add_entries.new.places in
    let all = c.in_ok-at.ensures.found b.form r.claimed third b.allows b.claimed.each head.2 head.1 in
    let after = rw c.in-Some-2.is at all in
    let counted : length mid.entries ≡ length held.entries + c.in-Some.head.count =
    rw c.in-Some-2.is at c.in_ok-at.ensures.counts in
    let mid_room : EntriesFit mid_lent (length r.claimed + length r.deleted) = rw c.add_entries.ensures.kept room in
    absurd (cc (c.in_err-len.ensures.fits r.deleted b.rest b.allows (rw (head.0) b.deleted) (rw (head.0) after)
    (fewer_entries mid_lent (length mid.entries + length r.deleted) (length r.claimed + length r.deleted)
    (omega (arith, counted, head.1, ap (λ (h : Held). length h.entries) none)) mid_room)))

pub returns-clause-counts : goal.returns-clause-counts
returns-clause-counts g c = λ r len b.
    let bytes = c.args.bytes.now in
    let old = g.P.Places.held c.clear.new.self in
    let mid = g.P.Places.held c.add_entries.new.places in
    let new = g.P.Places.held c.add_deleted.new.places in
    let third = deleted_bytes b.told r.deleted ++ b.rest in
    let behind = flat_map (entry_bytes b.form) r.claimed ++ third in
    let split = autoclaim_parts b.told b.form r b.rest bytes b.is in
    let head = c.in-Some.ensures.found b.told r.next (length r.claimed) behind b.allows b.next b.claimed.few split in
    let deleted : DeletedAdded c.args.limits bytes c.in-Some-2.at c.in-Some.head.told c.in-Some-3.len mid new =
    rw c.in-Some-3.is at c.in_ok-len.ensures.is in
    let counted : length mid.fields ≡ length old.fields + length (all_fields r.claimed) = rw c.in-Some-2.is at
    (c.in_ok-at.ensures.counts_fields b.form r.claimed third b.allows b.claimed.each head.2 head.1) in
    omega (
      arith,
      counted,
      ap (λ (h : Held). length h.fields) c.clear.ensures.holds,
      ap (λ (h : Held). length h.fields) deleted.grown.is,
    )
