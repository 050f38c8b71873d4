use Rattle.std.proofs.Common.{◌∙◌, inr, sym}
use Rattle.std.proofs.lemmas.Bool.{true≢false}
use Rattle.std.specs.Fmt.{digits}
use Rattle.redis_wire.specs.Packed.{bulk_bytes, command_bytes, head_bytes}
use Rattle.redis_connection.proofs.EarlyLemmas.{none_queued, queued_alike, queued_at}
use Rattle.redis_connection.proofs.early.find_queued.Goals as goal

pub returns-then-not-starts_with-clause-all : goal.returns-then-not-starts_with-clause-all
unfolding command_bytes head_bytes bulk_bytes digits
returns-then-not-starts_with-clause-all c queued q =
    absurd (true≢false (sym q.begins ∙ (sym c.starts_with.ensures.value ∙ c.if-not-starts_with.true)))

pub returns-in-Some-clause-only : goal.returns-in-Some-clause-only
unfolding command_bytes head_bytes bulk_bytes digits
returns-in-Some-clause-only c =
    inr (queued_at c.args.bytes.now c.take_front.result.now c.in-Some.len
    (sym c.starts_with.ensures.value ∙ c.if-not-starts_with.false) c.take_front.ensures c.in-Some.ensures)

pub returns-in-Some-clause-all : goal.returns-in-Some-clause-all
unfolding command_bytes head_bytes bulk_bytes digits
returns-in-Some-clause-all c queued q =
    queued_alike c.args.bytes.now c.take_front.result.now queued c.in-Some.len c.take_front.ensures c.in-Some.ensures q

pub returns-in-None-clause-all : goal.returns-in-None-clause-all
unfolding command_bytes head_bytes bulk_bytes digits
returns-in-None-clause-all c queued q = absurd (none_queued c.args.bytes.now queued c.in-None.ensures q)
