use Rattle.std.proofs.Common.{◌≡◌, ◌<◌, length, arith}
use Rattle.std.proofs.lemmas.Bool.Decides.{nat_tests}
use Rattle.server_commands.proofs.ClaimCodeLemmas.{taken_none, taken_some}
use Rattle.server_commands.proofs.commands.stalled.settle.Goals as goal
use Rattle.server_commands.proofs.commands.stalled.settle.Goals.{then-not-is_empty, else-not-is_empty}

pub returns : goal.returns
returns c = λ room up all. record {
  between = c.if-not-is_empty.group;
  count = c.acknowledge_all-count.result;
  taken = elim c.if-not-is_empty.branch [
    | then-not-is_empty w ↦
        let some : 0 < length c.args.stalled.now.claimed.items =
        grind (arith, nat_tests, c.is_empty.ensures, w.if-not-is_empty.true, c.args.stalled.now.claimed.ok.0) in
        rw w.group-is
        (taken_some c.args.room.name.items c.args.claim.now.now c.args.claim.now.only_ids c.args.stalled.now.claimed.items
        c.args.group.now w.take_over.new.group some
        (rw w.deref.ensures.value at (w.take_over.ensures room up (rw w.deref.ensures.value all))))
    | else-not-is_empty w ↦
        let none : length c.args.stalled.now.claimed.items ≡ 0 =
        grind (arith, nat_tests, c.is_empty.ensures, w.if-not-is_empty.false, c.args.stalled.now.claimed.ok.0) in
        taken_none c.args.room.name.items c.args.claim.now.now c.args.claim.now.only_ids c.args.stalled.now.claimed.items
        c.args.group.now c.if-not-is_empty.group none w.group-is
  ];
  acknowledged = rw c.deref-2.ensures.value at c.acknowledge_all-count.ensures;
}
