use Rattle.std.proofs.Common.{length}
use Rattle.server_commands.specs.Serving.{Does}
use Rattle.server_commands.proofs.client.answer_all.Given as goal

-- the commands so far are done and got their replies
abbrev pub invariant-commands : goal.invariant-commands
invariant-commands l =
    Does l.bytes l.rest l.initial.answers.items l.answers.items
    (record { streams = l.initial.server; session = l.initial.session }) (record { streams = l.server; session = l.session })

abbrev pub decreases-commands : goal.decreases-commands
decreases-commands l = length l.rest
