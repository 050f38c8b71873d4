-- Schedules that refute wrong definitions, those of planted/ among them: a law does not hold after each.
use Rattle.std.proofs.Common.{◌≡◌, refl, inl, ℕ, nat_lt, Bool, true, not, List, [], ◌∷◌, ◌++◌, map, filter, codes, Option, Some}
use Rattle.std.proofs.Common.{None, if◌then◌else◌}
use Rattle.std.specs.Fmt.{digits}
use Rattle.std.specs.Str.{bytes_eq}
use Rattle.model_server.specs.Group.Worker.{Id, Delivered, Verdict, Answer, news, done, left_pending, entries_in, handled_in}
use Rattle.model_server.specs.Group.Group.{ids_of, id_text, listed}
use Rattle.model_server.specs.Group.World as group
use Rattle.model_server.specs.Once.Feed.{knows, entries}
use Rattle.model_server.specs.Once.Consumer.{Consumer, new_consumer, takes}
use Rattle.model_server.specs.Once.World.{Send, Arrive, Hear, Break, Ask, Take, Sync, Acknowledge_now, Reconnect}
use Rattle.model_server.specs.Once.World as once
use Rattle.model_server.specs.Once.Law.{log, Once}
use Rattle.model_server.specs.Failover.Lookup.{unwritten, Move, Told, Takes, Commits, moved}
use Rattle.model_server.specs.Failover.World.{World, Event, Plain, Arrive_waits, Ask_waits, Failover, remembers}
use Rattle.model_server.specs.Failover.World.{is_confirmed, happens, first_world}
use Rattle.model_server.proofs.FailoverLemmas.Without.{two, run_by, stage_and_log, file_pending_fresh, first_one}

-- the world after the reply to WAIT, if it is trusted in this way
abbrev waited_by : (asked said : ℕ) → Bool → List (group.World ℕ) → once.Event ℕ → once.World ℕ → World ℕ
waited_by asked said trusts kept break w = remembers
    (if is_confirmed asked said then [] else kept)
    (if trusts then w else once.happens two w break)

abbrev trusting : ((asked said : ℕ) → Bool) → World ℕ → Event ℕ → World ℕ
trusting trusts w (Arrive_waits executes asked said) =
    waited_by asked said (trusts asked said) w.kept Break (once.happens two w.now (Arrive executes))
trusting trusts w (Ask_waits n pick next asked said) =
    waited_by asked said (trusts asked said) w.kept Reconnect (once.happens two w.now (Ask n pick next))
trusting trusts w e = happens two w e

-- the producer sends this number of records, `said` of the requested replicas confirm, and the master fails
abbrev adding : (n asked said : ℕ) → List (Event ℕ) → List (Event ℕ)
adding n asked said more =
    Plain (Send 0) ∷ Arrive_waits true asked asked ∷ Plain Hear ∷ Plain (Send n) ∷ Arrive_waits true asked said ∷
    Plain Hear ∷ more

-- the reply to WAIT is not looked at: what no replica has is taken to be in
pub not_looked_at : stage_and_log (run_by (trusting (λ asked said. true)) (adding 2 1 0 []) first_world)
    ≡ (knows 2, entries 0 (7 ∷ 8 ∷ []))
unfolding digits
not_looked_at = refl

pub not_looked_at_is_lost : log (run_by (trusting (λ asked said. true)) (adding 2 1 0 (Failover 2 ∷ [])) first_world).now ≡ []
not_looked_at_is_lost = refl

-- two replicas have to confirm and one does, which is taken as enough
pub too_few : stage_and_log (run_by (trusting (λ asked said. nat_lt 0 said)) (adding 2 2 1 []) first_world)
    ≡ (knows 2, entries 0 (7 ∷ 8 ∷ []))
unfolding digits
too_few = refl

pub too_few_is_lost : log (run_by (trusting (λ asked said. nat_lt 0 said)) (adding 2 2 1 (Failover 2 ∷ [])) first_world).now ≡ []
too_few_is_lost = refl

abbrev ask : ℕ → Event ℕ
ask said = Ask_waits 4 (λ id. true) (codes "0-0") 1 said

-- the consumer gets the first record by a read that no replica has, handles and acknowledges it
abbrev handling : List (Event ℕ) → List (Event ℕ)
handling more =
    ask 1 ∷ Plain (Take []) ∷ ask 1 ∷ Plain (Take []) ∷ ask 0 ∷ Plain (Take (done ∷ [])) ∷ Plain Sync ∷
    Plain Acknowledge_now ∷ Plain (Take []) ∷ more

-- what is not confirmed is handled: after a failover it is undelivered again, to any consumer
pub handled_early : file_pending_fresh (run_by (trusting (λ asked said. true)) (adding 1 1 1 (handling (Failover 5 ∷ []))) first_world)
    ≡ (first_one, [], first_one)
unfolding digits
handled_early = refl

-- a WAIT covers what its connection wrote. If that is nothing, all replicas confirm, and none needs to have anything.
-- Here it follows a request for the last id, and is taken as a confirmation of all
abbrev wrote_nothing : World ℕ → Event ℕ → World ℕ
wrote_nothing w (Arrive_waits executes asked said) = remembers w.kept (once.happens two w.now (Arrive executes))
wrote_nothing w e = happens two w e

-- both are added, unconfirmed, and the producer requests the last id on another connection
abbrev asking_again : List (Event ℕ) → List (Event ℕ)
asking_again more = adding 2 1 0 (Plain Break ∷ Plain (Send 0) ∷ Arrive_waits true 1 1 ∷ Plain Hear ∷ more)

pub nothing_written : stage_and_log (run_by wrote_nothing (asking_again []) first_world) ≡ (knows 2, entries 0 (7 ∷ 8 ∷ []))
unfolding digits
nothing_written = refl

pub nothing_written_is_lost : log (run_by wrote_nothing (asking_again (Failover 6 ∷ [])) first_world).now ≡ []
nothing_written_is_lost = refl

-- a lookup that compares an id with the greatest one in the file: all records up to that have a line for it
abbrev up_to : Id → List Id → List Id
up_to id [] = []
up_to id (x ∷ xs) = if bytes_eq x id then x ∷ [] else x ∷ up_to id xs

abbrev all_up_to : List Id → List Id
all_up_to [] = []
all_up_to (id ∷ ids) = up_to id (ids_of (entries 0 two.records))

abbrev compares : List Verdict → Option (Answer ℕ) → Consumer ℕ → Consumer ℕ
compares verdicts None c = c
compares verdicts (Some a) c = record (takes verdicts (Some a) c) {
  lines = c.lines ++ unwritten (all_up_to (ids_of (c.file ++ c.lines))) (handled_in (entries_in a) verdicts);
}

abbrev compares_greatest : World ℕ → Event ℕ → World ℕ
compares_greatest w (Plain (Take verdicts)) =
    remembers w.kept (record w.now { consumer = compares verdicts w.now.consumer.answer w.now.consumer })
compares_greatest w e = happens two w e

-- the handler leaves the first pending and does the second; the first is redelivered, and acknowledged without a line
abbrev leaving_first : List (Event ℕ)
leaving_first =
    ask 1 ∷ Plain (Take []) ∷ ask 1 ∷ Plain (Take []) ∷ ask 1 ∷ Plain (Take (left_pending ∷ done ∷ [])) ∷ Plain Sync ∷
    Plain Acknowledge_now ∷ Plain (Take []) ∷ Plain Reconnect ∷ ask 1 ∷ Plain (Take (done ∷ [])) ∷ Plain Sync ∷
    Plain Acknowledge_now ∷ Plain (Take []) ∷ []

pub lower_is_lost : file_pending_fresh (run_by compares_greatest (adding 2 1 1 leaving_first) first_world)
    ≡ (map id_text ((2, 0) ∷ []), [], [])
unfolding digits
lower_is_lost = refl

-- a consumer that checks its file in this way, and any server
abbrev moving : (List Verdict → Option (Answer ℕ) → Consumer ℕ → Consumer ℕ) → List (Move ℕ) → Consumer ℕ → Consumer ℕ
moving looks [] c = c
moving looks (Takes verdicts ∷ ms) c = moving looks ms (looks verdicts c.answer c)
moving looks (m ∷ ms) c = moving looks ms (moved c m)

abbrev one : Delivered ℕ
one = (id_text (1, 0), Some 7)

abbrev one_twice : List Id
one_twice = map id_text ((1, 0) ∷ (1, 0) ∷ [])

-- a lookup in the file alone: an entry is redelivered before its line is synced
abbrev looks_in_file : List Verdict → Option (Answer ℕ) → Consumer ℕ → Consumer ℕ
looks_in_file verdicts None c = c
looks_in_file verdicts (Some a) c = record (takes verdicts (Some a) c) {
  lines = c.lines ++ unwritten (ids_of c.file) (handled_in (entries_in a) verdicts);
}

pub not_synced : ids_of (moving looks_in_file
    (Told (news (one ∷ [])) ∷ Takes (done ∷ []) ∷ Told (news (one ∷ [])) ∷ Takes (done ∷ []) ∷ Commits ∷ [])
    new_consumer).file ≡ one_twice
unfolding digits
not_synced = refl

-- a lookup that forgets the entries before it in the same reply
abbrev looks_before : List Verdict → Option (Answer ℕ) → Consumer ℕ → Consumer ℕ
looks_before verdicts None c = c
looks_before verdicts (Some a) c = record (takes verdicts (Some a) c) {
  lines =
      c.lines
      ++ filter (λ e. not (listed (ids_of (c.file ++ c.lines)) e.0)) (handled_in (entries_in a) verdicts);
}

pub same_answer : ids_of (moving looks_before
    (Told (news (one ∷ one ∷ [])) ∷ Takes (done ∷ done ∷ []) ∷ Commits ∷ []) new_consumer).file ≡ one_twice
unfolding digits
same_answer = refl

pub is_twice : Once one_twice → ⊥
is_twice h = h.0 (inl refl)
