use Rattle.std.proofs.Common.{rules}
use Rattle.server_commands.proofs.AddLemmas.{not_automatic}
use Rattle.server_commands.proofs.commands.new_ids.new_id.Goals as goal

pub returns-then-eq-clause-given : goal.returns-then-eq-clause-given
returns-then-eq-clause-given c = λ id fit is. absurd (not_automatic id c.args.text.now fit is (search rules))
