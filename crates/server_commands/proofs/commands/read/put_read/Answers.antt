use Rattle.std.proofs.Common.{ap, length, refl}
use Rattle.server_commands.proofs.PutLemmas.{put_all, put_more}
use Rattle.server_commands.proofs.commands.read.put_read.Goals as goal

pub loop-pending-preserved : goal.loop-pending-preserved
loop-pending-preserved c =
    put_more c.put-given.result c.in-Ok.number c.in-Some.pending c.see_in.new.self c.loop-pending.group c.put-given.new.self
    c.args.part.pending.items c.pop_first.new.self.items c.loop-pending.left.items c.in-Some.ensures.some
    (rw c.for_consumer.ensures at c.put-given.ensures.ok) c.put-given.ensures.full
    c.put-given.ensures.places c.put-given.ensures.others c.loop-pending.invariant

pub returns : goal.returns
returns c = λ has_room has_places.
    put_all c.args.room.name.items c.args.now c.in-Ok.number c.args.part c.args.group.now c.see_in.new.self c.loop-pending.group
    c.args.part.pending.items c.loop-pending.left.items
    c.in-Ok.ensures.ok c.in-Ok.ensures.pending c.in-Ok.ensures.others refl
    (c.in-Ok.ensures.places (length c.args.part.pending.items) has_places) c.loop-pending.invariant.1
    (ap length c.in_default-pop_first.ensures.none)
