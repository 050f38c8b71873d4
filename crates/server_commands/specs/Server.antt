-- Replies that report a refusal, and the reply of a command that waits.
use Rattle.server_commands.specs.declared.answer.Answer.TheVariants.{Status}
use Rattle.server_commands.specs.declared.answer.Reply.{Reply}
use Rattle.server_commands.specs.declared.answer.Reply.TheVariants.{Done, Refused, Executed}
use Rattle.server_commands.specs.declared.answer.Status.TheVariants.{Queued}

-- the command was refused
abbrev pub IsRefused : Reply → Type 0
IsRefused (Done answer) = ⊥
IsRefused (Refused text) = Unit {0}
IsRefused (Executed outcomes) = ⊥

-- the reply to a command that waits for EXEC
abbrev pub queued_reply : Reply
queued_reply = Done (Status Queued)
