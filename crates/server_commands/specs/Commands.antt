-- Which command a word names, and what it does.
use Rattle.std.specs.Prelude.{◌≡◌, ◌≢◌, ◌≤◌, ℕ, List, Option, Some, None, codes, drop, length, map, if◌then◌else◌}
use Rattle.std.specs.Char.{to_ascii_lowercase}
use Rattle.std.specs.Global.{Vec}
use Rattle.std.specs.List.{HoldsAt}
use Rattle.std.specs.Str.{bytes_eq}
use Rattle.server_store.specs.declared.stream.Stream.{Stream}
use Rattle.server_commands.specs.Acknowledging.{AcknowledgesIn}
use Rattle.server_commands.specs.Adding.{IsXadd}
use Rattle.server_commands.specs.Claiming.{IsXautoclaim}
use Rattle.server_commands.specs.Deleting.{DeletesIn}
use Rattle.server_commands.specs.IdWords.{IsRefusedFor}
use Rattle.server_commands.specs.ReadGroup.{ReadsGroup}
use Rattle.server_commands.specs.declared.answer.Answer.{Answer}
use Rattle.server_commands.specs.declared.answer.Reply.{Reply}
use Rattle.server_commands.specs.declared.answer.Reply.TheVariants.{Done, Refused, Executed}
use Rattle.server_commands.specs.declared.commands.Change.{Change}
use Rattle.server_commands.specs.declared.commands.Change.TheVariants as changes
use Rattle.server_commands.specs.declared.commands.Plain.{Plain}
use Rattle.server_commands.specs.declared.commands.Plain.TheVariants as plain
use Rattle.server_commands.specs.declared.refusal.Refusal.{Refusal}
use Rattle.server_commands.specs.declared.refusal.Refusal.TheVariants.{Memory}

-- the bytes in lower case
abbrev pub lower_case : List ℕ → List ℕ
lower_case word = map to_ascii_lowercase word

-- the command of this name in lower case, of those that are events of the model of a group
abbrev pub event_called : List ℕ → Option Change
event_called name =
    if bytes_eq name (codes "xadd") then Some changes.Add
    else if bytes_eq name (codes "xreadgroup") then Some changes.ReadGroup
    else if bytes_eq name (codes "xack") then Some changes.Acknowledge
    else if bytes_eq name (codes "xautoclaim") then Some changes.AutoClaim
    else if bytes_eq name (codes "xdel") then Some changes.DeleteEntries
    else None

-- the command that the word names, in any case of its letters
abbrev pub event_of : List ℕ → Option Change
event_of word = event_called (lower_case word)

-- the first of the words names this command
abbrev pub IsNamed : Change → List (Vec ℕ) → Type 0
IsNamed change words = HoldsAt (λ word. event_of word.items ≡ Some change) words 0

-- how many arguments a command has at least
abbrev pub least_of : Change → ℕ
least_of changes.DeleteAll = 0
least_of changes.Delete = 1
least_of changes.Group = 1
least_of changes.DeleteEntries = 2
least_of changes.SetId = 2
least_of changes.Acknowledge = 3
least_of changes.Trim = 3
least_of changes.Add = 4
least_of changes.Claim = 5
least_of changes.AutoClaim = 5
least_of changes.ReadGroup = 6

-- what a command of these words does
abbrev pub IsDone : Change → List (Vec ℕ) → ℕ → Answer → List Stream → List Stream → Type 0
IsDone changes.Acknowledge words now answer old new = AcknowledgesIn (drop 1 words) answer old new
IsDone changes.DeleteEntries words now answer old new = DeletesIn (drop 1 words) answer old new
IsDone changes.Add words now answer old new = IsXadd words now answer old new
IsDone changes.AutoClaim words now answer old new = IsXautoclaim (drop 1 words) now answer old new
IsDone changes.ReadGroup words now answer old new = ReadsGroup (drop 1 words) now answer old new
IsDone change words now answer old new = Unit {0}

-- why XACK and XDEL of these words may be refused
abbrev pub MayRefuse : Change → List (Vec ℕ) → Refusal → Type 0
MayRefuse changes.Acknowledge words e = 2 ≤ length (drop 1 words) → IsRefusedFor (drop 2 (drop 1 words)) e
MayRefuse changes.DeleteEntries words e = 1 ≤ length (drop 1 words) → IsRefusedFor (drop 1 (drop 1 words)) e
MayRefuse change words e = Unit {0}

-- it is executed and has its reply, or is refused for another reason than memory
abbrev pub Replies : Change → List (Vec ℕ) → ℕ → List Stream → List Stream → Reply → Type 0
Replies change words now old new (Done answer) = IsDone change words now answer old new
Replies change words now old new (Refused text) = (e : Refusal) × (e ≢ Memory) × MayRefuse change words e
Replies change words now old new (Executed outcomes) = ⊥

-- what a command that may be queued does, if it changes streams
abbrev pub PlainIsDone : Plain → List (Vec ℕ) → ℕ → Answer → List Stream → List Stream → Type 0
PlainIsDone (plain.Change change) words now answer old new = IsDone change words now answer old new
PlainIsDone command words now answer old new = Unit {0}

-- why such a command may be refused
abbrev pub PlainMayRefuse : Plain → List (Vec ℕ) → Refusal → Type 0
PlainMayRefuse (plain.Change change) words e = MayRefuse change words e
PlainMayRefuse command words e = Unit {0}

-- the reply to such a command
abbrev pub PlainReplies : Plain → List (Vec ℕ) → ℕ → List Stream → List Stream → Reply → Type 0
PlainReplies (plain.Change change) words now old new reply = Replies change words now old new reply
PlainReplies command words now old new reply = Unit {0}
