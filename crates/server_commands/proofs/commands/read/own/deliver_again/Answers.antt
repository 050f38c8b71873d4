use Rattle.server_commands.specs.Claiming.{ids_of}
use Rattle.server_commands.proofs.RereadLemmas.{delivers_so}
use Rattle.server_commands.proofs.commands.read.own.deliver_again.Goals as goal

pub returns-clause-delivered : goal.returns-clause-delivered
returns-clause-delivered c = λ room up all.
    delivers_so c.args.read.room.name.items c.args.now c.in-Ok.number (ids_of c.args.read.delivered.items)
    c.args.group.now c.see_alone.new.group c.give_again.new.group c.in-Ok.ensures.ok c.see_alone.ensures.pending c.see_alone.ensures.others
    ((rw c.deref.ensures.value at c.give_again.ensures.pending) (rw c.see_alone.ensures.pending up) (rw c.see_alone.ensures.pending all))
    c.give_again.ensures.names c.give_again.ensures.others
