-- What `Server::step` ensures, as a step from one state to the next.
use Rattle.std.specs.Prelude.{◌≡◌, ◌<◌, ℕ, List, length}
use Rattle.std.specs.Global.{Vec}
use Rattle.server_store.specs.Stream.{Seen}
use Rattle.server_commands.specs.Commands.{IsNamed, least_of}
use Rattle.server_commands.specs.IdWords.{texts_of}
use Rattle.server_commands.specs.Server.{IsRefused, queued_reply}
use Rattle.server_commands.specs.Session.{SeenSession, with_queued}
use Rattle.server_commands.specs.Stepping.{XackSteps, XaddSteps, XautoclaimSteps, XdelSteps, XreadgroupSteps}
use Rattle.server_commands.specs.declared.answer.Reply.{Reply}
use Rattle.server_commands.specs.declared.commands.Change.{Change}
use Rattle.server_commands.specs.declared.commands.Plain.TheVariants as plain
use Rattle.server_commands.specs.declared.session.Mode.TheVariants.{AtOnce, Queued}

-- the streams of a server, and one of its sessions
pub record State : Type 0 where
  pub streams : List Seen
  pub session : SeenSession

-- In a transaction a command that changes streams waits after those that wait, and no stream changes.
abbrev pub WaitsForExec : Vec (Vec ℕ) → Reply → State → State → Type 0
WaitsForExec words reply old new = old.session.mode ≡ Queued → (change : Change) → IsNamed change words.items
    → least_of change < length words.items → (reply ≡ queued_reply)
    × (new.session ≡ with_queued (plain.Change change) words old.session) × (new.streams ≡ old.streams)

-- the command of these words got this reply
pub record IsStep (words : List (List ℕ)) (reply : Reply) (old new : State) : Type 0 where
  pub command : Vec (Vec ℕ)
  pub read : texts_of command.items ≡ words
  pub refused : IsRefused reply → new.streams ≡ old.streams
  pub queued : WaitsForExec command reply old new
  pub xack : old.session.mode ≡ AtOnce → XackSteps command.items reply old.streams new.streams
  pub xdel : old.session.mode ≡ AtOnce → XdelSteps command.items reply old.streams new.streams
  pub xadd : old.session.mode ≡ AtOnce → XaddSteps command.items reply old.streams new.streams
  pub xautoclaim : old.session.mode ≡ AtOnce → XautoclaimSteps command.items reply old.streams new.streams
  pub xreadgroup : old.session.mode ≡ AtOnce → XreadgroupSteps command.items reply old.streams new.streams
