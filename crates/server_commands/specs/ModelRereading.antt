-- XREADGROUP with an id is the event of the model of a group in which a consumer reads its own pending entries again.
use Rattle.std.specs.Prelude.{◌≡◌, ◌<◌, ℕ, List, [], ◌∷◌, Option, Some, None, map}
use Rattle.std.specs.List.{AllByRecursion}
use Rattle.std.specs.declared.cmp.Ordering.TheVariants.{Less}
use Rattle.redis_resp.specs.Tree.{bulk}
use Rattle.model_server.specs.Group.Group.{ids_of, listed, reread}
use Rattle.model_server.specs.Group.Worker.{Delivered, Id}
use Rattle.model_server.specs.Group.World.{World, Reread, happens}
use Rattle.server_store.specs.Order.{id_order}
use Rattle.server_store.specs.Stream.{Seen, seen_stream}
use Rattle.server_store.specs.declared.entry_id.EntryId.{EntryId}
use Rattle.server_store.specs.declared.stream.Stream.{Stream}
use Rattle.server_commands.specs.IdWords.{AreFit, words_of_ids}
use Rattle.server_commands.specs.Model.{AreNumbered, Fields, IsModelIn}
use Rattle.server_commands.specs.ModelClaiming.{PendingIsSeen}
use Rattle.server_commands.specs.ModelReading.{sent_whole}
use Rattle.server_commands.specs.Places.{AreInOrder, consumer_names}
use Rattle.server_commands.specs.Rereading.{IsRereadIn, sent_row}
use Rattle.server_commands.specs.Sent.{Sent, array_of, item_list, no_array, plain, sent}
use Rattle.server_commands.specs.declared.answer.Answer.{Answer}

-- an entry as it is sent: its id and its fields, or nil in their place
abbrev pub sent_parts_again : Id → Option Fields → Sent
sent_parts_again id (Some fields) = sent_whole (id, fields)
sent_parts_again id None = array_of (item_list (plain (bulk id) ∷ no_array ∷ []))

-- an entry that is delivered again as it is sent
abbrev pub sent_again : Delivered Fields → Sent
sent_again d = sent_parts_again d.0 d.1

-- each id is below those that follow
abbrev pub AscendIds : List EntryId → Type 0
AscendIds [] = Unit {0}
AscendIds (id ∷ ids) = AllByRecursion (λ x. id_order id x ≡ Less) ids × AscendIds ids

-- the entries that the world has seen are in the order of their ids
pub record SeenAscends (w : World Fields) : Type 0 where
  pub ids : List EntryId
  pub fit : AreFit ids
  pub are : ids_of w.seen ≡ words_of_ids ids
  pub ascend : AscendIds ids

-- The consumer reads those of its own again that have these ids: the group is that of the world after it, and the
-- reply is what the model replies, each entry with its fields or nil.
pub record XreadgroupRereads (key name consumer : List ℕ) (own : List EntryId) (answer : Answer) (new : List Seen) (w : World Fields) : Type 0 where
  pub model : IsModelIn key name new (happens w (Reread consumer (listed (words_of_ids own))))
  pub numbered : AreNumbered model.group
  pub seen : PendingIsSeen (happens w (Reread consumer (listed (words_of_ids own))))
  pub answered : sent answer
      ≡ sent_row key (map sent_again (reread (listed (words_of_ids own)) consumer w.pending w.deleted w.seen))

-- The law of XREADGROUP of one key with an id, whatever the group's world was, if a number is left for a new consumer,
-- the names of the consumers ascend, what is pending is of the log, and the log ascends.
abbrev pub XreadgroupWithAnIdIsTheEvent : Type 0
XreadgroupWithAnIdIsTheEvent = (key group consumer : List ℕ) (now most : ℕ) (behind : EntryId) (answer : Answer) (old new : List Stream)
    (w : World Fields) → IsRereadIn key consumer now most behind group answer old new
    → (model : IsModelIn key group (map seen_stream old) w) → AreNumbered model.group
    → model.group.next_number < 18446744073709551615 → AreInOrder (consumer_names model.group) → PendingIsSeen w → SeenAscends w
    → (own : List EntryId) × XreadgroupRereads key group consumer own answer (map seen_stream new) w
