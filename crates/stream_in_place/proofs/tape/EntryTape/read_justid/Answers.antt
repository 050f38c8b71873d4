use Rattle.std.proofs.Common.{rules, ◌≡◌, ◌∙◌}
use Rattle.stream_entries.specs.JustId.{JustId}
use Rattle.stream_in_place.specs.ClaimPlaced.{justid_in}
use Rattle.stream_in_place.proofs.tape.EntryTape.read_justid.Goals as goal

pub returns-in-None-clause-found : goal.returns-in-None-clause-found
returns-in-None-clause-found c = λ sent len b. rw c.in-None.is at (c.in_ok-find_justid.ensures.found sent len b)

pub returns-in-Some-clause-found : goal.returns-in-Some-clause-found
returns-in-Some-clause-found c = λ sent len b.
    let new = c.find_justid.new.places in
    let found = rw c.in-Some.is at (c.in_ok-find_justid.ensures.found sent len b) in
    let at : ◌≡◌ {A = JustId} (record {
      next = c.justid_at.result.next_stream_id.now;
      claimed = c.justid_at.result.claimed;
      deleted = c.justid_at.result.deleted_ids;
    }) (justid_in c.args.bytes.now new.entries.items c.in-Some.place) = search rules in
    (at ∙ found.0, c.justid_at.ensures.len ∙ found.1)
