use Rattle.server_commands.specs.Claiming.{ids_of}
use Rattle.server_commands.proofs.ClaimCodeLemmas.{taken_so}
use Rattle.server_commands.proofs.commands.stalled.take_over.Goals as goal

pub returns : goal.returns
returns c = λ room up all.
    taken_so c.args.room.name.items c.args.claim.now.now c.in-Ok.number c.args.claim.now.only_ids (ids_of c.args.claimed.now)
    c.args.group.now c.see_in.new.self c.give_all.new.group c.in-Ok.ensures.ok c.see_in.ensures.pending c.see_in.ensures.others
    (c.give_all.ensures.pending (rw c.see_in.ensures.pending up) (rw c.see_in.ensures.pending all)) c.give_all.ensures.names
    c.give_all.ensures.others
