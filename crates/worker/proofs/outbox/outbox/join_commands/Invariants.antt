use Rattle.std.proofs.Common.{◌≡◌, take}
use Rattle.worker.specs.Outbox.Sent.{all_bytes}
use Rattle.worker.proofs.OutboxLemmas.SentLemmas.{texts_of}
use Rattle.worker.proofs.outbox.outbox.join_commands.Given as goal

-- the bytes so far are those of the commands so far
abbrev pub invariant-loop-command : goal.invariant-loop-command
invariant-loop-command l = l.bytes.items ≡ all_bytes (texts_of (take l.command-index l.commands))
