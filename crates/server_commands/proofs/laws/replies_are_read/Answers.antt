use Rattle.server_commands.proofs.SentReadLemmas.{replies_are_read}
use Rattle.server_commands.proofs.laws.replies_are_read.Goals as goal

pub returns : goal.returns
returns c = replies_are_read
