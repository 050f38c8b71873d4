-- A run of the program, by its outcome.
use Rattle.std.proofs.Common.{◌≡◌, ◌⊎◌, Bool, Err, IfErr, IfOk, IfSome, IsTrue, List, None, Ok, OnErr, OnOk, Option, Result, Some, false, inl, inr, refl, subst, sym, ℕ}
use Rattle.command_lines.specs.Words.{Text}
use Rattle.redis_connection.specs.Link.{Link}
use Rattle.model_server.specs.Group.Worker.{Machine, start}
use Rattle.worker.specs.Session.{Standing, standing_of}
use Rattle.worker.specs.declared.dead_letters.search.DeadLetterSearch.{DeadLetterSearch}
use Rattle.worker.specs.declared.state.Asked.{Asked}
use Rattle.worker.specs.declared.state.Asked.TheVariants.{Nothing}
use Rattle.worker.specs.declared.state.GroupState.{GroupState}
use Rattle.worker.specs.declared.state.GroupState.TheVariants.{Unknown}
use Rattle.worker.specs.declared.state.Settings.{Settings}
use Rattle.worker.specs.declared.worker.Worker.{Worker}
use Rattle.worker_jobs.specs.Talk.{Talk, over, talk_of}
use Rattle.stream_run.specs.Failures.{IsOfChild}
use Rattle.stream_run.specs.Options.{AreOptionsOf}
use Rattle.stream_run.specs.Program.{ChildFailsAsSaid, ChildFailsBy, EndsAsSaid, EndsBy, EndsSo, IsNew, OverSo, SearchesAfter, StopsAsSaid, StopsBy, StopsSo, newborn}
use Rattle.stream_run.specs.Rounds.{Rounds, Stops}
use Rattle.stream_run.specs.declared.failure.Failure.{Failure}
use Rattle.stream_run.specs.declared.options.Options.{Options}
use Rattle.stream_run.proofs.RoundsLemmas.{rounds_end}

-- a search that is due, if any, and then rounds
pub searched_first : (settings : Settings) (dead : Option DeadLetterSearch) (asked : Asked) (l m n : Link)
    (w x : Standing Talk) → IfSome dead (λ d. d.waits ≡ false → SearchesAfter d asked l m) → Rounds settings m w n x
    → IfSome dead (λ d. d.waits ≡ false → (k : Link) × SearchesAfter d asked l k × Rounds settings k w n x)
searched_first settings None asked l m n w x searched rounds = searched
searched_first settings (Some d) asked l m n w x searched rounds = λ waits. (m, searched waits, rounds)

over_talk : (o : Bool) (stream : List ℕ) (sent coming : Option (List ℕ)) → IsTrue o → talk_of o stream sent coming ≡ over
over_talk o stream sent coming is = subst (λ (b : Bool). talk_of b stream sent coming ≡ over) (sym is) refl

-- why the loop ended
why_so : (until_empty o : Bool) (stream : List ℕ) (sent coming : Option (List ℕ)) → IsTrue until_empty ⊎ IsTrue o
    → IsTrue until_empty ⊎ (talk_of o stream sent coming ≡ over)
why_so until_empty o stream sent coming (inl asked) = inl asked
why_so until_empty o stream sent coming (inr is) = inr (over_talk o stream sent coming is)

module _ {A E : Type 0} (r : Result A E) (settings : Settings) (until_empty : Bool) (old new : Link) (w : Standing Talk)
    (worker : Worker) (o : Bool) (stream : List ℕ) (sent coming : Option (List ℕ)) where
  abbrev after : Standing Talk
  after = standing_of worker (talk_of o stream sent coming)

  pub ends_so : OnOk r (Rounds settings old w new after) → IfOk r (λ a. IsTrue until_empty ⊎ IsTrue o)
      → OnOk r (EndsSo settings until_empty old new w)
  ends_so = elim r as (λ r. OnOk r (Rounds settings old w new after) → IfOk r (λ a. IsTrue until_empty ⊎ IsTrue o)
      → OnOk r (EndsSo settings until_empty old new w)) [
        | Ok a ↦ λ rounds why. record {
          last = after;
          rounds = rounds;
          why = why_so until_empty o stream sent coming why;
        }
        | Err e ↦ λ rounds why. tt
      ]

  pub stops_so : OnErr r (Stops settings old new w after) → OnErr r (StopsSo settings old new w)
  stops_so = elim r as (λ r. OnErr r (Stops settings old new w after) → OnErr r (StopsSo settings old new w))
      [ Ok a ↦ λ stops. tt | Err e ↦ λ stops. (after, stops) ]

  -- however it ended, it stopped
  pub either_way : OnOk r (Rounds settings old w new after) → OnErr r (Stops settings old new w after)
      → StopsSo settings old new w
  either_way = elim r as (λ r. OnOk r (Rounds settings old w new after) → OnErr r (Stops settings old new w after)
      → StopsSo settings old new w) [
        | Ok a ↦ λ rounds stops. (after, rounds_end settings old new w after rounds)
        | Err e ↦ λ rounds stops. (after, stops)
      ]

-- a failure of the child came after the talk was over
pub over_so : {A : Type 0} (r : Result A Failure) (settings : Settings) (old new : Link) (w : Standing Talk)
    (worker : Worker) (o : Bool) (stream : List ℕ) (sent coming : Option (List ℕ))
    → OnErr r (Stops settings old new w (standing_of worker (talk_of o stream sent coming)))
    → IfErr r (λ f. IsOfChild f → IsTrue o) → IfErr r (λ f. IsOfChild f → OverSo settings old new w)
over_so (Ok a) settings old new w worker o stream sent coming stops ended = tt
over_so (Err f) settings old new w worker o stream sent coming stops ended = λ is. (
  standing_of worker (talk_of o stream sent coming),
  stops,
  over_talk o stream sent coming (ended is),
)

abbrev stands : Machine → GroupState → Asked → Talk → Standing Talk
stands machine group asked talk = record { machine = machine; group = group; asked = asked; history = talk }

module _ (settings : Settings) (worker : Worker) (t u : Talk) (old new : Link) (is : IsNew settings worker)
    (same : t ≡ u) where
  -- its state is that of a new worker
  as_new : standing_of worker t ≡ newborn settings u
  as_new = subst (λ (m : Machine). stands m worker.group worker.asked t ≡ newborn settings u) (sym is.machine)
      (subst (λ (g : GroupState). stands (start settings.every) g worker.asked t ≡ newborn settings u) (sym is.group)
      (subst (λ (a : Asked). stands (start settings.every) Unknown a t ≡ newborn settings u) (sym is.asked)
      (subst (λ (x : Talk). stands (start settings.every) Unknown Nothing x ≡ newborn settings u) (sym same) refl)))

  -- what is so of that state and of its settings is so of a new worker with these
  of_new : (P : Settings → Standing Talk → Type 0) → P worker.settings (standing_of worker t) → P settings (newborn settings u)
  of_new P p = subst (λ (s : Settings). P s (newborn settings u)) is.has
      (subst (λ (x : Standing Talk). P worker.settings x) as_new p)

  -- nothing was sent, or it stopped
  pub fails_new : {A E : Type 0} (r : Result A E) → OnErr r (StopsSo worker.settings old new (standing_of worker t))
      → OnErr r ((new ≡ old) ⊎ StopsSo settings old new (newborn settings u))
  fails_new (Ok a) stops = tt
  fails_new (Err e) stops = inr (of_new (λ s x. StopsSo s old new x) stops)

  -- after a failure of the child the talk is over
  pub over_new : {A : Type 0} (r : Result A Failure)
      → IfErr r (λ f. IsOfChild f → OverSo worker.settings old new (standing_of worker t))
      → IfErr r (λ f. IsOfChild f → OverSo settings old new (newborn settings u))
  over_new (Ok a) ended = tt
  over_new (Err f) ended = λ is'. of_new (λ s x. OverSo s old new x) (ended is')

-- the options are those of the words
module _ {A : Type 0} (r : Result A Failure) (held coming : Text → Option Text) (words : List Text) (o : Options)
    (old new : Link) (said : AreOptionsOf words o) where
  pub ends_as_said : OnOk r (EndsBy held coming o old new) → OnOk r (EndsAsSaid held coming words old new)
  ends_as_said = elim r as (λ r. OnOk r (EndsBy held coming o old new) → OnOk r (EndsAsSaid held coming words old new))
      [ Ok a ↦ λ ends. record { options = o; said = said; ends = ends } | Err e ↦ λ ends. tt ]

  pub stops_as_said : OnErr r ((new ≡ old) ⊎ StopsBy held coming o old new)
      → OnErr r ((new ≡ old) ⊎ StopsAsSaid held coming words old new)
  stops_as_said = elim r as (λ r. OnErr r ((new ≡ old) ⊎ StopsBy held coming o old new)
      → OnErr r ((new ≡ old) ⊎ StopsAsSaid held coming words old new)) [
        | Ok a ↦ λ stops. tt
        | Err e ↦ elim [ inl same ↦ inl same | inr stops ↦ inr (record { options = o; said = said; stops = stops }) ]
      ]

  pub child_as_said : IfErr r (λ f. IsOfChild f → ChildFailsBy held coming o old new)
      → IfErr r (λ f. IsOfChild f → ChildFailsAsSaid held coming words old new)
  child_as_said = elim r as (λ r. IfErr r (λ f. IsOfChild f → ChildFailsBy held coming o old new)
      → IfErr r (λ f. IsOfChild f → ChildFailsAsSaid held coming words old new)) [
        | Ok a ↦ λ fails. tt
        | Err f ↦ λ fails is. record { options = o; said = said; fails = fails is }
      ]
