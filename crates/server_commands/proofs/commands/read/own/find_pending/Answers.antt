use Rattle.server_commands.proofs.RereadLemmas.{nothing_own, own_found, own_passed}
use Rattle.server_commands.proofs.commands.read.own.find_pending.Goals as goal

pub loop-after-init : goal.loop-after-init
loop-after-init c = nothing_own c.new-own.result.items _ c.new-own.ensures.items

pub loop-after-preserved-in-Continue-1 : goal.loop-after-preserved-in-Continue-1
loop-after-preserved-in-Continue-1 c =
    own_found c.args.number c.loop-after.left c.in-Some.pending _ _ c.loop-after.own.items c.push.new.self.items _
    c.if-left-eq0.false c.in-Some.ensures.some c.if-pending-number.true c.in_ok-push.ensures.items c.loop-after.invariant

pub loop-after-preserved : goal.loop-after-preserved
loop-after-preserved c =
    own_passed c.args.number c.loop-after.left c.in-Some.pending _ _ c.loop-after.own.items _
    c.in-Some.ensures.some c.if-pending-number.false c.loop-after.invariant
