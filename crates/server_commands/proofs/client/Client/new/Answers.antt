use Rattle.std.proofs.Common.{refl}
use Rattle.server_commands.proofs.ScanLemmas.{none_so}
use Rattle.server_commands.proofs.client.Client.new.Goals as goal

pub invariant_of-result : goal.invariant_of-result
invariant_of-result c = none_so _ _ refl refl
