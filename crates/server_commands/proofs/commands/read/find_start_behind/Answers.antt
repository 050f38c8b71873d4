use Rattle.server_commands.proofs.DeliveringLemmas.{behind_gap, behind_it}
use Rattle.server_commands.proofs.commands.read.find_start_behind.Goals as goal

pub returns-in-Ok-clause-behind : goal.returns-in-Ok-clause-behind
returns-in-Ok-clause-behind c =
    behind_it (λ entry. entry.id) c.args.id c.args.stream.now.entries.items c.in-Ok.index c.in-Ok.ensures.bound c.in-Ok.ensures.found

pub returns-in-Err-clause-behind : goal.returns-in-Err-clause-behind
returns-in-Err-clause-behind c = λ up.
    behind_gap (λ entry. entry.id) c.args.id c.args.stream.now.entries.items c.in-Err.index c.in-Err.ensures.bound (c.in-Err.ensures.missing up)
