use Rattle.std.proofs.Common.{rules, ◌≡◌, ◌∙◌}
use Rattle.stream_in_place.specs.Sent.{SentAutoClaim}
use Rattle.stream_in_place.specs.ClaimPlaced.{autoclaim_in}
use Rattle.stream_in_place.proofs.tape.EntryTape.read_autoclaim.Goals as goal

pub returns-in-None-clause-found : goal.returns-in-None-clause-found
returns-in-None-clause-found c = λ sent len b. rw c.in-None.is at (c.in_ok-find_autoclaim.ensures.found sent len b)

pub returns-in-Some-clause-found : goal.returns-in-Some-clause-found
returns-in-Some-clause-found c = λ sent len b.
    let new = c.find_autoclaim.new.places in
    let found = rw c.in-Some.is at (c.in_ok-find_autoclaim.ensures.found sent len b) in
    let at : ◌≡◌ {A = SentAutoClaim} (record {
      next = c.autoclaim_at.result.next_stream_id.now;
      claimed = c.autoclaim_at.result.claimed;
      deleted = c.autoclaim_at.result.deleted_ids;
    }) (autoclaim_in c.args.bytes.now new.entries.items new.fields.items c.in-Some.place) = search rules in
    (at ∙ found.0, c.autoclaim_at.ensures.len ∙ found.1)
