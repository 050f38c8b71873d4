-- The rounds of a worker's code are rounds of `model_server::rounds`, if the server delivers its page.
use Rattle.std.proofs.Common.{◌≡◌, refl, sym, ap, ◌∙◌, ℕ, zero, suc, Bool, not, ◌&&◌, List, [], ◌∷◌, Some, if◌then◌else◌}
use Rattle.model_server.specs.Group.Worker.{Id, Verdict, Machine, Answer, Phase, own, claiming, reading, entries_in, after}
use Rattle.model_server.specs.Group.Worker.{after_commit}
use Rattle.model_server.specs.Group.Group.{Name}
use Rattle.model_server.specs.Group.World.{World, Event, empty_world}
use Rattle.model_server.specs.Group.World as group
use Rattle.model_server.specs.Rounds.Rounds.{all_done, round, rounds}
use Rattle.model_server.proofs.RoundsLemmas.View.{View, view, commit_step, asks_step, asked_of, round_seen}
use Rattle.model_server.proofs.RoundsLemmas.Drained.{all_is_drained}
use Rattle.model_workers.specs.Files.Files.{Fields}
use Rattle.worker.specs.Answers.{group_after}
use Rattle.worker.specs.Gathered.{Doings, done_too, committed_too}
use Rattle.worker.specs.Machine.{is_empty, at_request}
use Rattle.worker.specs.Session.{Standing, asking, having_heard}
use Rattle.worker.specs.declared.state.Settings.{Settings}
use Rattle.model_workers.specs.System.Drained.{page_answer, page_for, OneRoundIsOne, RoundsOver, EnoughRoundsDrain}

-- what it commits
committed_seen : (to_acknowledge to_commit : List Id) (v : View Fields) → commit_step to_acknowledge to_commit v
    ≡ record v { machine = if is_empty to_acknowledge && not (is_empty to_commit) then after_commit v.machine else v.machine }
committed_seen [] [] v = refl
committed_seen [] (i ∷ ids) v = refl
committed_seen (i ∷ ids) to_commit v = refl

-- the machine after this reply, if all is done
abbrev taking : Machine → Answer Fields → Machine
taking m a = after m a (all_done (entries_in a))

module _ (n : ℕ) (name : Name) (w : World Fields) where
  asked_seen : (m : Machine) (to_acknowledge : List Id) (phase : Phase)
      → (asks_step n name to_acknowledge phase (record (view name w) { machine = m })).machine
      ≡ taking m (page_answer n name w to_acknowledge phase)
  asked_seen m (i ∷ ids) phase = refl
  asked_seen m [] (own id) = refl
  asked_seen m [] (claiming id) = refl
  asked_seen m [] (reading rounds) = refl

  abbrev was : Machine
  was = w.workers name

  model_round : (round n name w).workers name ≡ taking (at_request was) (page_for n name w)
  model_round =
      ap (λ (v : View Fields). v.machine) (round_seen n name w)
      ∙ (ap (λ (v : View Fields). (asked_of n name v).machine) (committed_seen was.to_acknowledge was.to_commit (view name w))
      ∙ asked_seen (at_request was) (at_request was).to_acknowledge (at_request was).phase)

pub one_round_is_one : OneRoundIsOne
one_round_is_one settings old new v x question p name w t same page =
    let u : Standing Doings = asking committed_too settings v in
    let a : Answer Fields = page_for settings.count name w in
    ap (λ (s : Standing Doings). s.machine) t.stands
    ∙ (ap (λ o. (having_heard done_too u (group_after settings u.group u.asked t.turn.answer) o t.turn.verdicts).machine)
    page.heard
    ∙ (ap (λ (vs : List Verdict). after (at_request v.machine) a vs) page.all
    ∙ (ap (λ (m : Machine). taking (at_request m) a) same
    ∙ sym (model_round settings.count name w))))

so_many_rounds : (so_many : ℕ) (settings : Settings) (name : Name) (w : World Fields) (v x : Standing Doings)
    → v.machine ≡ w.workers name → RoundsOver so_many settings name w v x
    → x.machine ≡ (rounds so_many settings.count name w).workers name
so_many_rounds zero settings name w v x same is = ap (λ (s : Standing Doings). s.machine) is ∙ same
so_many_rounds (suc so_many) settings name w v x same is =
    let r = is.1 in
    so_many_rounds so_many settings name (round settings.count name w) is.0 x
    (one_round_is_one settings r.old r.new v is.0 r.question r.progress name w r.turned same r.page) is.2

pub enough_rounds_drain : EnoughRoundsDrain
enough_rounds_drain settings name events v x so_many same is = (
  so_many_rounds so_many settings name (group.run events empty_world) v x same is,
  λ some enough. all_is_drained events name settings.count some so_many enough,
)
