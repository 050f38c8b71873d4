use Rattle.std.proofs.Common.{rules}
use Rattle.server_commands.proofs.StartLemmas.{not_news}
use Rattle.server_commands.proofs.commands.read.parse_group_start.Goals as goal

pub returns-then-eq-2-clause-behind : goal.returns-then-eq-2-clause-behind
returns-then-eq-2-clause-behind c = λ id fit other word. absurd (not_news id c.args.text.now fit word (search rules))
