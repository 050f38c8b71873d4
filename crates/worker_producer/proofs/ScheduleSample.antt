-- A schedule of the code that meets the premises: a producer of one record requests the last id without a stream,
-- adds its record, and then sends nothing. Then the law gives that the log is this record.
use Rattle.std.proofs.Common.{◌≡◌, ◌<◌, ℕ, arith, refl, sym, subst, true, List, [], ◌∷◌, ◌++◌, codes, Option, Some}
use Rattle.redis_connection.specs.Link.{Link}
use Rattle.model_server.specs.Once.Feed.{Answer, entries, executed, last_is}
use Rattle.model_server.specs.Once.Law.{Fit, after, log}
use Rattle.model_server.specs.Once.World.{Setting, Event, Send, Arrive, Hear, run}
use Rattle.worker_producer.specs.Machine.{Standing, idle}
use Rattle.worker_producer.specs.Records.{Fields}
use Rattle.worker_producer.specs.Schedule.{Meantime, comes, IsHeard, IsServed, heard_last}
use Rattle.worker_producer.specs.Schedule.{Runs, begins, turns}
use Rattle.worker_producer.specs.Session.{IsRound}
use Rattle.worker_producer.specs.declared.settings.Settings.{Settings}
use Rattle.worker_producer.specs.declared.stage.Asked.{Asked}
use Rattle.worker_producer.specs.declared.stage.Asked.TheVariants as asked
use Rattle.worker_producer.proofs.ScheduleLemmas.{told_records_are_sent, asking_nothing_is_all}

-- the producer adds one record
abbrev one : Setting Fields
one = record { records = ((codes "a", codes "b") ∷ []) ∷ []; base = 0; name = codes "ann" }

it_fits : Fit one
it_fits = omega arith

-- the commands arrive at the server, and no other client does anything
abbrev alone : Meantime
alone = record { earlier = []; fate = comes true; later = []; earlier_others = tt; later_others = tt }

-- a round with batches of n records, and what is on the way back as its last reply is there
abbrev a_round : ℕ → List (Event Fields)
a_round n = Send n ∷ Arrive true ∷ Hear ∷ []

abbrev answer_after : ℕ → List (Event Fields) → Option Answer
answer_after n events = (run one (Send n ∷ Arrive true ∷ []) (after one events)).producer.answer

module _ (s : Settings) (base : 0 ≡ s.base) (batch : s.batch ≡ 1) where
  abbrev known : Option (List Fields)
  known = Some one.records

  -- a round is served if it receives the reply on its way
  served : (events : List (Event Fields)) (old new : Link) (v x : Standing) (a : Asked)
      (r : IsRound s known 1 old new v x a) (answer : Answer) → answer_after s.batch events ≡ Some answer
      → heard_last s.base 1 r.standing.coming r.link new r.standing x r.hears ≡ Some answer
      → IsServed one s known 1 old new v x a alone (after one events) r
  served events old new v x a r answer there heard = (
    told_records_are_sent one s [] r.bytes v r.standing a r.asks base,
    subst (λ (o : Option Answer). IsHeard (answer_after s.batch events) o) (sym heard) there,
  )

  -- there is no stream, so the last id is `0-0`
  first_answer : answer_after s.batch [] ≡ Some (last_is (0, 0))
  first_answer = refl

  -- the record is added
  second_answer : answer_after s.batch (a_round s.batch) ≡ Some executed
  second_answer = subst (λ (n : ℕ). answer_after n (a_round n) ≡ Some executed) (sym batch) refl

  module _ (at_first asked_it added done : Link) (x y z : Standing)
      (r : IsRound s known 1 at_first asked_it idle x asked.LastId)
      (asks_it : heard_last s.base 1 r.standing.coming r.link asked_it r.standing x r.hears ≡ Some (last_is (0, 0)))
      (t : IsRound s known 1 asked_it added x y asked.Records)
      (adds_it : heard_last s.base 1 t.standing.coming t.link added t.standing y t.hears ≡ Some executed)
      (u : IsRound s known 1 added done y z asked.Nothing) where
    runs : Runs one s (a_round s.batch ++ a_round s.batch) y
    runs = turns s (a_round s.batch) known 1 asked_it added x y asked.Records alone t
        (served (a_round s.batch) asked_it added x y asked.Records t executed second_answer adds_it)
        (turns s [] known 1 at_first asked_it idle x asked.LastId alone r
        (served [] at_first asked_it idle x asked.LastId r (last_is (0, 0)) first_answer asks_it) (begins s))

    pub the_log : log (after one (a_round s.batch ++ a_round s.batch)) ≡ entries 0 one.records
    the_log =
        let some : 0 < s.batch = omega (arith, batch) in
        asking_nothing_is_all one it_fits s some (a_round s.batch ++ a_round s.batch) known 1 added done y z u
        (told_records_are_sent one s [] u.bytes y u.standing asked.Nothing u.asks base) runs
        (tt, (tt, (tt, (tt, (tt, (tt, tt))))))
