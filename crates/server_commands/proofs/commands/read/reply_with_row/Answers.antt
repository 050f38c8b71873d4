use Rattle.server_commands.proofs.ReadOneLemmas.{row_sent}
use Rattle.server_commands.proofs.commands.read.reply_with_row.Goals as goal

pub returns-in-Ok-clause-sent : goal.returns-in-Ok-clause-sent
returns-in-Ok-clause-sent c =
    row_sent c.in-Ok.rows c.in_ok-key.key c.args.key.now c.args.entries c.in-Ok.ensures.items c.in_ok-key.ensures.items
