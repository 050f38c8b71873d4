-- XADD is the event of the model of a group that adds an entry.
use Rattle.std.specs.Global.{Vec}
use Rattle.std.specs.Prelude.{◌≡◌, ℕ, true, List, ◌∷◌, codes, map}
use Rattle.model_server.specs.Group.Group.{is_below}
use Rattle.model_server.specs.Group.World.{World, Append, happens}
use Rattle.server_store.specs.EntryId.{id_text}
use Rattle.server_store.specs.Stream.{Seen, seen_stream}
use Rattle.server_store.specs.declared.entry_id.EntryId.{EntryId}
use Rattle.server_store.specs.declared.stream.Stream.{Stream}
use Rattle.server_commands.specs.Adding.{IsXadd}
use Rattle.server_commands.specs.IdWords.{Fits, texts_of}
use Rattle.server_commands.specs.Model.{Fields, IsModelIn, numbers}
use Rattle.server_commands.specs.declared.answer.Answer.{Answer}
use Rattle.server_commands.specs.declared.answer.Answer.TheVariants.{Id}

-- an entry of this id and these fields is added to the world; the id is above the last one, and is the reply
pub record XaddAppends (key name : List ℕ) (id : EntryId) (fields : Fields) (answer : Answer) (new : List Seen) (w : World Fields) : Type 0 where
  pub answered : answer ≡ Id id
  pub above : is_below w.last (numbers id) ≡ true
  pub model : IsModelIn key name new (happens w (Append (numbers id) fields))

-- XADD of a key, the text of an id and fields is that an entry of that id is added, and with `*` of the id that is
-- the reply, whatever the group's world was
abbrev pub XaddIsTheEvent : Type 0
XaddIsTheEvent = (key name command asked : List ℕ) (fields : Fields) (words : List (Vec ℕ)) (now : ℕ) (answer : Answer)
    (old new : List Stream) (w : World Fields) → texts_of words ≡ command ∷ key ∷ asked ∷ fields
    → IsXadd words now answer old new → IsModelIn key name (map seen_stream old) w
    → ((id : EntryId) → Fits id → asked ≡ id_text id → XaddAppends key name id fields answer (map seen_stream new) w)
    × (asked ≡ codes "*" → (id : EntryId) × XaddAppends key name id fields answer (map seen_stream new) w)
