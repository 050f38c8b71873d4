-- What XREADGROUP delivers is what the model of a group delivers.
use Rattle.std.specs.Global.{Vec}
use Rattle.std.specs.Prelude.{◌≡◌, ◌<◌, ℕ, false, List, [], ◌∷◌, Option, Some, None, map, take}
use Rattle.model_server.specs.Group.Group.{Name, given}
use Rattle.redis_resp.specs.Tree.{bulk}
use Rattle.model_server.specs.Group.Worker as worker_model
use Rattle.model_server.specs.Group.World.{World, Read, happens}
use Rattle.server_store.specs.declared.entry_id.EntryId.{EntryId}
use Rattle.server_store.specs.declared.group.Group.{Group}
use Rattle.server_store.specs.Stream.{Seen, seen_stream}
use Rattle.server_store.specs.declared.stream.Entry.{Entry}
use Rattle.server_store.specs.declared.stream.Stream.{Stream}
use Rattle.server_commands.specs.Delivering.{HandsOut, entries_behind}
use Rattle.server_commands.specs.Model.{AreNumbered, Fields, IsModelIn, IsModelOf, as_entry}
use Rattle.server_commands.specs.Reading.{AreNews}
use Rattle.server_commands.specs.ReadingOne.{IsReadIn}
use Rattle.server_commands.specs.Sent.{Sent, array_of, item_list, more_rows, no_array, no_rows, plain, rows_of, sent}
use Rattle.server_commands.specs.declared.answer.Answer.{Answer}

-- The consumer reads up to `most` new entries: the group is that of the world after it, and the entries are those
-- that the model gives.
pub record IsRead (consumer : Name) (most : ℕ) (entries : List Entry) (last_id : EntryId) (old new : Group) (w : World Fields) : Type 0 where
  pub model : IsModelOf entries last_id new (happens w (Read consumer most))
  pub numbered : AreNumbered new
  pub given : map as_entry (take most (entries_behind old.last_id entries)) ≡ given w.deleted most w.fresh

-- the law of this for delivered entries, whatever the group's world was, if a number is left for a new consumer
abbrev pub HandingOutIsTheEvent : Type 0
HandingOutIsTheEvent = (consumer : Name) (now most : ℕ) (entries : List Entry) (last_id : EntryId) (old new : Group) (w : World Fields)
    → HandsOut consumer now most false entries old new → IsModelOf entries last_id old w → AreNumbered old
    → old.next_number < 18446744073709551615 → IsRead consumer most entries last_id old new w

-- an entry of the model as it is sent with its fields
abbrev pub sent_whole : worker_model.Entry Fields → Sent
sent_whole e = array_of (item_list (plain (bulk e.0) ∷ array_of (item_list (map (λ f. plain (bulk f)) e.1)) ∷ []))

-- these entries are the reply, or there are none
abbrev pub IsAnswer : List (worker_model.Entry Fields) → Option (Vec Answer) → Type 0
IsAnswer given None = given ≡ []
IsAnswer given (Some answers) = map sent answers.items ≡ map sent_whole given

-- The consumer reads up to `most` new entries: the group is that of the world after it, and the reply is those that
-- the model gives, or none if it gives none.
pub record NewsAreRead (consumer : Name) (most : ℕ) (entries : List Entry) (last_id : EntryId) (new : Group) (w : World Fields) (found : Option (Vec Answer)) : Type 0 where
  pub model : IsModelOf entries last_id new (happens w (Read consumer most))
  pub numbered : AreNumbered new
  pub answered : IsAnswer (given w.deleted most w.fresh) found

-- the law of this for new entries, whatever the group's world was, if a number is left for a new consumer
abbrev pub ReadingNewsIsTheEvent : Type 0
ReadingNewsIsTheEvent = (consumer : Name) (now most : ℕ) (entries : List Entry) (last_id : EntryId) (old new : Group) (w : World Fields)
    (found : Option (Vec Answer)) → AreNews consumer now most false entries old new found → IsModelOf entries last_id old w
    → AreNumbered old → old.next_number < 18446744073709551615 → NewsAreRead consumer most entries last_id new w found

-- these entries of the stream of this key are the reply; nil if there are none
abbrev pub IsAnswerWith : List ℕ → List (worker_model.Entry Fields) → Answer → Type 0
IsAnswerWith key [] answer = sent answer ≡ no_array
IsAnswerWith key (e ∷ es) answer = sent answer ≡ rows_of (more_rows key (array_of (item_list (map sent_whole (e ∷ es)))) no_rows)

-- The consumer reads up to `most` new entries: the group is that of the world after it, and the reply is those that
-- the model gives, or nil.
pub record XreadgroupReads (key group consumer : List ℕ) (most : ℕ) (answer : Answer) (new : List Seen) (w : World Fields) : Type 0 where
  pub model : IsModelIn key group new (happens w (Read consumer most))
  pub numbered : AreNumbered model.group
  pub answered : IsAnswerWith key (given w.deleted most w.fresh) answer

-- the law of XREADGROUP of one key with `>`, whatever the group's world was, if a number is left for a new consumer
abbrev pub XreadgroupIsTheEvent : Type 0
XreadgroupIsTheEvent = (key group consumer : List ℕ) (now most : ℕ) (answer : Answer) (old new : List Stream) (w : World Fields)
    → 0 < most → IsReadIn key consumer now most group answer old new → (model : IsModelIn key group (map seen_stream old) w)
    → AreNumbered model.group → model.group.next_number < 18446744073709551615
    → XreadgroupReads key group consumer most answer (map seen_stream new) w
