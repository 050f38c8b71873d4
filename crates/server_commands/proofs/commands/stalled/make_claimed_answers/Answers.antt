use Rattle.std.proofs.Common.{◌∙◌, ap, map}
use Rattle.std.specs.Global.{Vec}
use Rattle.server_commands.specs.Sent.{sent}
use Rattle.server_commands.specs.declared.answer.Answer.{Answer}
use Rattle.server_commands.proofs.ClaimAnswerLemmas.{claimed_more, claimed_none}
use Rattle.server_commands.proofs.commands.stalled.make_claimed_answers.Goals as goal
use Rattle.server_commands.proofs.commands.stalled.make_claimed_answers.Goals.{in-Some+in_ok-claimed_answer+in_ok-put, in_default}

pub loop-pending-preserved : goal.loop-pending-preserved
loop-pending-preserved c = λ up.
    let entries = c.args.stream.now.entries.items in
    elim c.match-get.branch [
      | in-Some+in_ok-claimed_answer+in_ok-put w ↦
          ap (λ (v : Vec Answer). map sent v.items) w.answers-is
          ∙ claimed_more c.args.only_ids entries c.args.claimed.now c.loop-pending.pending-index _ c.loop-pending-test.true up
          c.loop-pending.answers.items (c.loop-pending.invariant up) w.in-Some.entry.now _ w.put.new.answers.items
          w.in-Some.ensures.some w.in-Some.ensures.there w.in_ok-put.ensures w.in_ok-claimed_answer.ensures
      | in_default w ↦
          ap (λ (v : Vec Answer). map sent v.items) w.answers-is
          ∙ claimed_none c.args.only_ids entries c.args.claimed.now c.loop-pending.pending-index _ c.loop-pending-test.true up
          c.loop-pending.answers.items (c.loop-pending.invariant up) (w.in_default.ensures.none up)
    ]
