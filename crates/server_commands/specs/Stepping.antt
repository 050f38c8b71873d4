-- What `Server::step` does with a group that is that of a world.
use Rattle.std.specs.Prelude.{◌≡◌, ◌≢◌, ◌≤◌, ◌<◌, ℕ, Bool, false, List, [], ◌∷◌, ◌++◌, codes, length, map, slice_index_or}
use Rattle.std.specs.Global.{Vec}
use Rattle.model_server.specs.Group.Group.{Name}
use Rattle.model_server.specs.Group.World.{World, Delete, run}
use Rattle.server_store.specs.EntryId.{id_text}
use Rattle.server_store.specs.Stream.{Seen}
use Rattle.server_store.specs.declared.entry_id.EntryId.{EntryId}
use Rattle.server_store.specs.declared.group.Group.{Group}
use Rattle.server_commands.specs.Acknowledging.{count_answer}
use Rattle.server_commands.specs.Commands.{lower_case}
use Rattle.server_commands.specs.IdWords.{AreFit, Fits, texts_of, words_of_ids}
use Rattle.server_commands.specs.Model.{AreNumbered, Fields, IsModelIn, XackComes}
use Rattle.server_commands.specs.ModelAdding.{XaddAppends}
use Rattle.server_commands.specs.ModelClaiming.{PendingIsSeen, XautoclaimClaims}
use Rattle.server_commands.specs.ModelReading.{XreadgroupReads}
use Rattle.server_commands.specs.ModelRereading.{SeenAscends, XreadgroupRereads}
use Rattle.server_commands.specs.Places.{AreInOrder, consumer_names}
use Rattle.server_commands.specs.Rereading.{IsWordOf, largest}
use Rattle.server_commands.specs.declared.answer.Answer.{Answer}
use Rattle.server_commands.specs.declared.answer.Reply.{Reply}
use Rattle.server_commands.specs.declared.answer.Reply.TheVariants.{Done}

-- the streams of other keys are as they were
pub record OthersStay (key : List ℕ) (old new : List Seen) : Type 0 where
  pub count : length new ≡ length old
  pub same : (k : ℕ) (d : Seen) → k < length old → (slice_index_or old k d).key ≢ key
      → slice_index_or new k d ≡ slice_index_or old k d

-- If XACK of ids gets a reply, it is the event that an acknowledgement of them comes, and the reply is how many were
-- pending.
abbrev pub XackSteps : List (Vec ℕ) → Reply → List Seen → List Seen → Type 0
XackSteps words reply old new = (command key name : List ℕ) (ids : List EntryId) (consumer : Name) (w : World Fields)
    → lower_case command ≡ codes "xack" → 1 ≤ length ids → AreFit ids
    → texts_of words ≡ command ∷ key ∷ name ∷ words_of_ids ids → IsModelIn key name old w
    → (n : ℕ) × (reply ≡ Done (count_answer n)) × XackComes key name ids consumer n new w × OthersStay key old new

-- If XDEL of ids gets a reply, each of them is deleted, in the world of each group of the stream.
abbrev pub XdelSteps : List (Vec ℕ) → Reply → List Seen → List Seen → Type 0
XdelSteps words reply old new = (command key name : List ℕ) (ids : List EntryId) (w : World Fields)
    → lower_case command ≡ codes "xdel" → 1 ≤ length ids → AreFit ids
    → texts_of words ≡ command ∷ key ∷ words_of_ids ids → IsModelIn key name old w
    → (n : ℕ) × (reply ≡ Done (count_answer n)) × IsModelIn key name new (run (map Delete (words_of_ids ids)) w)
    × OthersStay key old new

-- If XADD of an id alone gets a reply, an entry of these fields is added in the world of each group of the stream: of
-- that id, and with `*` of the id that is the reply.
abbrev pub XaddSteps : List (Vec ℕ) → Reply → List Seen → List Seen → Type 0
XaddSteps words reply old new = (command key name asked : List ℕ) (fields : Fields) (answer : Answer) (w : World Fields)
    → lower_case command ≡ codes "xadd" → 2 ≤ length fields → texts_of words ≡ command ∷ key ∷ asked ∷ fields
    → IsModelIn key name old w → reply ≡ Done answer
    → ((id : EntryId) → Fits id → asked ≡ id_text id → XaddAppends key name id fields answer new w)
    × (asked ≡ codes "*" → (id : EntryId) × XaddAppends key name id fields answer new w) × OthersStay key old new

-- If XAUTOCLAIM gets a reply, the consumer claimed entries in the world of the group; without options it has no
-- JUSTID.
abbrev pub XautoclaimSteps : List (Vec ℕ) → Reply → List Seen → List Seen → Type 0
XautoclaimSteps words reply old new = (command key name consumer : List ℕ) (others : List (List ℕ)) (answer : Answer) (w : World Fields)
    → lower_case command ≡ codes "xautoclaim" → 2 ≤ length others
    → texts_of words ≡ command ∷ key ∷ name ∷ consumer ∷ others → (model : IsModelIn key name old w)
    → AreNumbered model.group → model.group.next_number < 18446744073709551615 → PendingIsSeen w → reply ≡ Done answer
    → (only_ids : Bool) × (claimed : List EntryId) × (gone : List EntryId) × (next : EntryId)
    × (length others ≡ 2 → only_ids ≡ false)
    × XautoclaimClaims key name consumer only_ids claimed gone next answer new w × OthersStay key old new

-- the words between the names and STREAMS: none, or COUNT and a number
abbrev pub IsCount : List (List ℕ) → Type 0
IsCount [] = Unit {0}
IsCount (word ∷ []) = ⊥
IsCount (word ∷ number ∷ []) = lower_case word ≡ codes "count"
IsCount (word ∷ number ∷ other ∷ others) = ⊥

-- how many entries are read at most
abbrev pub IsMost : List (List ℕ) → ℕ → Type 0
IsMost [] most = most ≡ 18446744073709551615
IsMost (word ∷ words) most = 0 < most

-- The consumer reads of one stream. If the text is `>`, it reads up to `most` new entries; if it is an id, its own
-- pending entries after it again. The group was this one.
pub record ReadsSo (key name consumer text : List ℕ) (most : ℕ) (answer : Answer) (group : Group) (old new : List Seen) (w : World Fields) : Type 0 where
  pub news : text ≡ codes ">" → XreadgroupReads key name consumer most answer new w × OthersStay key old new
  pub own : (id : EntryId) → Fits id → id ≢ largest → IsWordOf id text → AreInOrder (consumer_names group) → PendingIsSeen w
      → SeenAscends w → (own : List EntryId) × XreadgroupRereads key name consumer own answer new w × OthersStay key old new

-- If XREADGROUP of one stream gets a reply, the consumer reads so in the world of the group.
abbrev pub XreadgroupSteps : List (Vec ℕ) → Reply → List Seen → List Seen → Type 0
XreadgroupSteps words reply old new = (command first name consumer second key text : List ℕ) (asked : List (List ℕ))
    (answer : Answer) (w : World Fields)
    → lower_case command ≡ codes "xreadgroup" → lower_case first ≡ codes "group" → lower_case second ≡ codes "streams"
    → IsCount asked → texts_of words ≡ command ∷ first ∷ name ∷ consumer ∷ (asked ++ second ∷ key ∷ text ∷ [])
    → (model : IsModelIn key name old w) → AreNumbered model.group → model.group.next_number < 18446744073709551615
    → reply ≡ Done answer
    → (most : ℕ) × IsMost asked most × ReadsSo key name consumer text most answer model.group old new w
