use Rattle.std.proofs.Common.{List, ap, ◌∙◌}
use Rattle.server_commands.specs.Rereading.{sent_row}
use Rattle.server_commands.specs.Sent.{Sent}
use Rattle.server_commands.proofs.commands.read.own.read_own.Goals as goal

pub returns-clause-ready : goal.returns-clause-ready
returns-clause-ready c = record {
  own = c.in_ok-own.own.items;
  are_own = c.in_ok-own.ensures.own;
  named = c.in_ok-room.ensures.named;
  has_room = c.in_ok-room.ensures.enough;
  contained = c.in_ok-own.ensures.contained;
  delivered = λ up. rw c.deref-2.ensures.value at (c.in_ok-delivered.ensures up);
  answered = λ up. c.in_ok-answer.ensures.sent
      ∙ ap (λ (xs : List Sent). sent_row c.args.key.now xs) (rw c.deref.ensures.value at (c.in_ok-answers.ensures up));
}
