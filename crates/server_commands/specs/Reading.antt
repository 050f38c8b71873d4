-- The new entries in the replies of XREADGROUP and XREAD.
use Rattle.std.specs.Prelude.{◌≡◌, ◌≢◌, ℕ, Bool, List, [], Option, Some, None, map, take}
use Rattle.std.specs.Global.{Vec}
use Rattle.server_store.specs.Laws.{AreInOrder}
use Rattle.server_store.specs.declared.group.Group.{Group}
use Rattle.server_store.specs.declared.stream.Entry.{Entry}
use Rattle.server_commands.specs.Claiming.{sent_entry}
use Rattle.server_commands.specs.Delivering.{HandsOut, entries_behind}
use Rattle.server_commands.specs.Sent.{sent}
use Rattle.server_commands.specs.declared.answer.Answer.{Answer}

-- the first n of these entries are found, or there are none
abbrev pub AreFound : ℕ → List Entry → Option (Vec Answer) → Type 0
AreFound most entries None = entries ≡ []
AreFound most entries (Some answers) = (entries ≢ []) × (map sent answers.items ≡ map sent_entry (take most entries))

-- If no entry is after the last one that the group delivered, there is no reply, and nothing changes. Else the first
-- `most` are delivered, and are the reply.
module _ (name : List ℕ) (now most : ℕ) (noack : Bool) (entries : List Entry) (old new : Group) where
  abbrev pub AreHandedOut : Option (Vec Answer) → Type 0
  AreHandedOut None = new ≡ old
  AreHandedOut (Some answers) = HandsOut name now most noack entries old new

  abbrev pub AreNews : Option (Vec Answer) → Type 0
  AreNews found = AreHandedOut found × (AreInOrder entries → AreFound most (entries_behind old.last_id entries) found)
