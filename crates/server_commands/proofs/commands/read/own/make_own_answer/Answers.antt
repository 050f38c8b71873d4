use Rattle.server_commands.proofs.RereadLemmas.{answered_none, answered_some}
use Rattle.server_commands.proofs.commands.read.own.make_own_answer.Goals as goal

pub returns-in-Some : goal.returns-in-Some
returns-in-Some c =
    answered_some c.entry_answer.result c.args.id c.args.stream.now.entries.items c.in-Some.entry.now c.in-Some.ensures.some
    c.in-Some.ensures.there c.entry_answer.ensures

pub returns-in-None : goal.returns-in-None
returns-in-None c =
    answered_none c.array.result c.args.id c.args.stream.now.entries.items c.in-None.ensures.none c.array.ensures
