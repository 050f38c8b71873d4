-- Schedules in which one consumer reads all entries, in order.
use Rattle.std.specs.Prelude.{◌≡◌, ℕ, suc, List, [], ◌∷◌, take, Bool, true}
use Rattle.model_server.specs.Group.Worker.{Id, Verdict, done, left_pending, stop, Phase, own, claiming, reading}
use Rattle.model_server.specs.Group.Group.{Name, reread}
use Rattle.model_server.specs.Group.World.{Append, Delete, Read, Reread, Claim, Claim_ids, Comes, Commit, Acknowledge}
use Rattle.model_server.specs.Group.World.{Ack_comes, Go_back, Crash}
use Rattle.model_server.specs.Group.World as group
use Rattle.model_server.specs.Once.World.{Setting, World, Event, Ask, Take}
use Rattle.model_server.specs.Once.World.{Else, happens}

-- no verdict is `left_pending`: the handler returns `done` or `stop` for each entry
abbrev pub LeavesNone : List Verdict → Type 0
LeavesNone [] = Unit {0}
LeavesNone (done ∷ vs) = LeavesNone vs
LeavesNone (left_pending ∷ vs) = ⊥
LeavesNone (stop ∷ vs) = LeavesNone vs

-- if the consumer requests its own pending entries, the server returns the first `n + 1` of them. The request is from
-- the first entry on, with a COUNT that is not 0
abbrev pub FromFirst : {F : Type 0} → Name → ℕ → (Id → Bool) → Phase → group.World F → Type 0
FromFirst name n pick (own behind) w =
    reread pick name w.pending w.deleted w.seen
    ≡ take (suc n) (reread (λ id. true) name w.pending w.deleted w.seen)
FromFirst name n pick (claiming from) w = Unit {0}
FromFirst name n pick (reading rounds) w = Unit {0}

-- the event is an XADD by others, or an XACK that arrives late. It is no deletion, no read and no claim, and no late
-- read of a broken connection
abbrev pub KeepsOrder : {F : Type 0} → group.Event F → Type 0
KeepsOrder (Append id fields) = Unit {0}
KeepsOrder (Ack_comes which) = Unit {0}
KeepsOrder event = ⊥

-- the event is allowed in such a schedule, in the world `w`
abbrev pub InOrder : {F : Type 0} → Setting F → World F → Event F → Type 0
InOrder s w (Ask n pick next) = FromFirst s.name n pick w.consumer.machine.phase w.stream
InOrder s w (Take verdicts) = LeavesNone verdicts
InOrder s w (Else event) = KeepsOrder event
InOrder s w event = Unit {0}

-- `InOrder` holds for each of these events, in the world before it
abbrev pub AllInOrder : {F : Type 0} → Setting F → World F → List (Event F) → Type 0
AllInOrder s w [] = Unit {0}
AllInOrder s w (e ∷ es) = InOrder s w e × AllInOrder s (happens s w e) es
