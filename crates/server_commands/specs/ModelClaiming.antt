-- XAUTOCLAIM is the event of the model of a group in which a consumer claims.
use Rattle.std.specs.Global.{Vec}
use Rattle.std.specs.Prelude.{◌≡◌, ◌<◌, ℕ, Bool, true, List, ◌∷◌, [], Option, Some, None, map, if◌then◌else◌}
use Rattle.std.specs.List.{AllByRecursion}
use Rattle.redis_resp.specs.Tree.{bulk, nil}
use Rattle.model_server.specs.Group.Group.{Name, claim_answer, ids_of, listed}
use Rattle.model_server.specs.Group.Worker.{Delivered, Id}
use Rattle.model_server.specs.Group.World.{World, Event, Claim, Claim_ids, happens}
use Rattle.server_store.specs.EntryId.{id_text}
use Rattle.server_store.specs.Stream.{Seen, seen_stream}
use Rattle.server_store.specs.declared.entry_id.EntryId.{EntryId}
use Rattle.server_store.specs.declared.stream.Stream.{Stream}
use Rattle.server_commands.specs.Claiming.{IsXautoclaim, sent_claim}
use Rattle.server_commands.specs.IdWords.{texts_of, words_of_ids}
use Rattle.server_commands.specs.Model.{AreNumbered, Fields, IsModelIn}
use Rattle.server_commands.specs.Sent.{Sent, array_of, item_list, plain, sent}
use Rattle.server_commands.specs.declared.answer.Answer.{Answer}

-- what is pending is an entry that the group has seen, deleted or not
abbrev pub PendingIsSeen : World Fields → Type 0
PendingIsSeen w = AllByRecursion (λ p. listed (ids_of w.seen) p.id ≡ true) w.pending

-- an id is picked if it is one of these or of those
abbrev pub is_picked : List EntryId → List EntryId → Id → Bool
is_picked claimed gone id = if listed (words_of_ids claimed) id then true else listed (words_of_ids gone) id

-- an entry as it is sent: its id and its fields
abbrev pub sent_parts : Id → Option Fields → Sent
sent_parts id (Some fields) = array_of (item_list (plain (bulk id) ∷ array_of (item_list (map (λ f. plain (bulk f)) fields)) ∷ []))
sent_parts id None = plain nil

-- an entry that is delivered as it is sent, or its id alone
abbrev pub sent_delivered : Bool → Delivered Fields → Sent
sent_delivered only_id d = if only_id then plain (bulk d.0) else sent_parts d.0 d.1

-- the event that a consumer claims these entries, which are delivered but with JUSTID
abbrev pub claiming : Bool → Name → (Id → Bool) → Id → Event Fields
claiming only_ids consumer pick next = if only_ids then Claim_ids consumer pick else Claim consumer pick next

-- The group is that of the world after the consumer claimed these, and those that are gone were deleted. The reply is
-- where the next claim goes on, what the model replies, and the ids that are gone.
pub record XautoclaimClaims (key name consumer : List ℕ) (only_ids : Bool) (claimed gone : List EntryId) (next : EntryId) (answer : Answer) (new : List Seen) (w : World Fields) : Type 0 where
  pub model : IsModelIn key name new (happens w (claiming only_ids consumer (is_picked claimed gone) (id_text next)))
  pub numbered : AreNumbered model.group
  pub seen : PendingIsSeen (happens w (claiming only_ids consumer (is_picked claimed gone) (id_text next)))
  pub deleted : AllByRecursion (λ id. listed w.deleted (id_text id) ≡ true) gone
  pub answered : sent answer ≡ sent_claim next
      (map (sent_delivered only_ids) (claim_answer (is_picked claimed gone) w.pending w.deleted w.seen)) gone

-- The law of XAUTOCLAIM, whatever the group's world was, if a number is left for a new consumer, and what is pending is
-- of the log.
abbrev pub XautoclaimIsTheEvent : Type 0
XautoclaimIsTheEvent = (key name consumer : List ℕ) (others : List (List ℕ)) (arguments : List (Vec ℕ)) (now : ℕ) (answer : Answer)
    (old new : List Stream) (w : World Fields) → texts_of arguments ≡ key ∷ name ∷ consumer ∷ others
    → (does : IsXautoclaim arguments now answer old new) → (model : IsModelIn key name (map seen_stream old) w)
    → AreNumbered model.group → model.group.next_number < 18446744073709551615 → PendingIsSeen w
    → (claimed : List EntryId) × (gone : List EntryId) × (next : EntryId)
    × XautoclaimClaims key name consumer does.claim.only_ids claimed gone next answer (map seen_stream new) w
