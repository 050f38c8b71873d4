-- The laws of a stream with one group: no entry is lost, and none is made up.
use Rattle.std.specs.Prelude.{◌≡◌, ◌⊎◌, ℕ, ◌+◌, ◌≤◌, IsTrue, List, [], ◌∷◌, map, if◌then◌else◌}
use Rattle.std.specs.Str.{bytes_eq}
use Rattle.model_server.specs.Group.Worker.{Id, Entry}
use Rattle.model_server.specs.Group.Group.{Numbers, id_text, is_below, pending_ids, ids_of}
use Rattle.model_server.specs.Group.World.{World, Event, run, empty_world, log_of}

-- as `slice::contains`: `x` is in the list
abbrev pub Among : {A : Type 0} → A → List A → Type 0
Among x [] = ⊥
Among x (y ∷ ys) = (y ≡ x) ⊎ Among x ys

-- the entry of this id is pending
abbrev pub IsPending : {F : Type 0} → World F → Id → Type 0
IsPending w id = Among id (pending_ids w.pending)

-- the entry of this id was handled and committed, or it was deleted from the stream
abbrev pub IsSettled : {F : Type 0} → World F → Id → Type 0
IsSettled {F} w id = ((fields : F) × Among (id, fields) w.committed) ⊎ Among id w.deleted

-- the entry is undelivered, pending, handled and committed with its own fields, or deleted from the stream
abbrev pub IsKept : {F : Type 0} → World F → Entry F → Type 0
IsKept w e = Among e w.fresh ⊎ (IsPending w e.0 ⊎ (Among e w.committed ⊎ Among e.0 w.deleted))

-- each entry of the log after `events` is kept (`IsKept`) then, and after any `more` events
abbrev pub EachEntryIsKept : Type 0 → Type 0
EachEntryIsKept F = (events more : List (Event F)) (e : Entry F) → Among e (log_of (run events empty_world))
    → IsKept (run more (run events empty_world)) e

-- each acknowledged id is settled (`IsSettled`)
abbrev pub AcknowledgedIsSettled : Type 0 → Type 0
AcknowledgedIsSettled F = (events : List (Event F)) (id : Id)
    → Among id (run events empty_world).acknowledged_ids → IsSettled (run events empty_world) id

-- each handled entry is in the log, with the fields that it was handled with
abbrev pub HandledIsOfTheLog : Type 0 → Type 0
HandledIsOfTheLog F = (events : List (Event F)) (e : Entry F)
    → Among e (run events empty_world).handled → Among e (log_of (run events empty_world))

-- each committed entry was handled, with the same fields
abbrev pub CommittedIsHandled : Type 0 → Type 0
CommittedIsHandled F = (events : List (Event F)) (e : Entry F)
    → Among e (run events empty_world).committed → Among e (run events empty_world).handled

-- each of these ids is below all that follow
abbrev pub Ascends : List Numbers → Type 0
Ascends [] = Unit {0}
Ascends (n ∷ ns) = ((m : Numbers) → Among m ns → IsTrue (is_below n m)) × Ascends ns

-- the ids of the log ascend
abbrev pub LogAscends : Type 0 → Type 0
LogAscends F = (events : List (Event F))
    → (ns : List Numbers) × (ids_of (log_of (run events empty_world)) ≡ map id_text ns) × Ascends ns

-- two entries of the log with the same id have the same fields
abbrev pub IdsAreUnique : Type 0 → Type 0
IdsAreUnique F = (events : List (Event F)) (id : Id) (a b : F) → Among (id, a) (log_of (run events empty_world))
    → Among (id, b) (log_of (run events empty_world)) → a ≡ b

-- the number of times that `id` is in the list
abbrev pub times : Id → List Id → ℕ
times id [] = 0
times id (x ∷ xs) = (if bytes_eq x id then 1 else 0) + times id xs

-- an entry is handled at most as often as replies delivered it with its fields
abbrev pub HandledAsDelivered : Type 0 → Type 0
HandledAsDelivered F = (events : List (Event F)) (id : Id)
    → times id (ids_of (run events empty_world).handled) ≤ times id (run events empty_world).deliveries
