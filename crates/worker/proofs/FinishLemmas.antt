-- The last rounds of a worker.
use Rattle.std.proofs.Common.{◌≡◌, inl, inr, ℕ, Bool, true, false, List, [], ◌∷◌, ◌++◌, Option, Some, None, arith}
use Rattle.std.proofs.Common.{refl, sym, ◌∙◌, ap, subst, if◌then◌else◌, append-nil}
use Rattle.std.specs.Prelude.{not, ◌&&◌, OnOk, Result, Ok, Err}
use Rattle.redis_wire.specs.Reply as wire
use Rattle.redis_connection.specs.Link.{Link}
use Rattle.model_server.specs.Group.Worker as machine
use Rattle.model_server.specs.Group.Worker.{Id, Verdict, Machine, acknowledged, after_commit}
use Rattle.stream_in_place.specs.Sent.{Pairs}
use Rattle.worker.specs.Answers.{Heard, told, hears, group_after}
use Rattle.worker.specs.Finish.{Acknowledge, Finished, FinishBroke, Settles, SettlesNot}
use Rattle.worker.specs.Machine.{is_empty, is_settled, commits, at_request}
use Rattle.worker.specs.Questions.{asks}
use Rattle.worker.specs.Session.{Standing, Turn, asking, after_turn, after_turns, having_heard, EndsBy, Rounds}
use Rattle.worker.specs.Session.{Turned, Fails}
use Rattle.worker.specs.declared.error.RunError.{RunError}
use Rattle.worker.specs.declared.state.Asked.{Asked}
use Rattle.worker.specs.declared.state.Asked.TheVariants.{Acknowledgement}
use Rattle.worker.specs.declared.state.GroupState.{GroupState}
use Rattle.worker.specs.declared.state.Settings.{Settings}
use Rattle.worker.specs.declared.worker.Progress.{Progress}
use Rattle.worker.specs.declared.worker.Progress.TheVariants.{GoesOn}
use Rattle.worker.proofs.PipelinedLemmas.{acknowledgement_said, goes_through}
use Rattle.worker.proofs.SessionLemmas.{rounds_none, rounds_more, none_turns, more_turns}

-- the answer to an acknowledgement
abbrev count_answer : machine.Answer Pairs
count_answer = acknowledged

-- ---- machines

both_empty : (c a : List Id) → (is_empty c && is_empty a) ≡ true → (c ≡ []) × (a ≡ [])
both_empty [] [] h = (refl, refl)
both_empty [] (i ∷ a) h = let wrong : false ≡ true = h in absurd cc
both_empty (i ∷ c) a h = let wrong : false ≡ true = h in absurd cc

-- the machine of these lists
abbrev of_lists : Machine → List Id → List Id → Machine
of_lists m c a = record { every = m.every; phase = m.phase; to_commit = c; to_acknowledge = a }

asks_of : (group : GroupState) (m : Machine) (c a : List Id) → (is_empty c && is_empty a) ≡ false
    → asks group (at_request (of_lists m c a)).phase (at_request (of_lists m c a)).to_acknowledge ≡ Acknowledgement
asks_of group m [] [] h = let wrong : true ≡ false = h in absurd cc
asks_of group m (i ∷ c) [] h = refl
asks_of group m [] (j ∷ a) h = refl
asks_of group m (i ∷ c) (j ∷ a) h = refl

left_of : (m : Machine) (c : List Id) → (at_request (of_lists m c [])).to_commit ≡ []
left_of m [] = refl
left_of m (i ∷ c) = refl

-- a machine that has nothing to acknowledge commits all that is done as it asks
all_committed : (m : Machine) → m.to_acknowledge ≡ [] → (at_request m).to_commit ≡ []
all_committed m none =
    ap (λ a. (at_request (of_lists m m.to_commit a)).to_commit) none ∙ left_of m m.to_commit

-- ---- rounds

module _ {R : Type 0} (with_verdict : R → List ℕ × Pairs → Verdict → R) (with_commit : R → R)
    (settings : Settings) where
  -- a worker that is not settled asks for an acknowledgement
  asks_it : (w : Standing R) → is_settled w.machine ≡ false → (asking with_commit settings w).asked ≡ Acknowledgement
  asks_it w due = asks_of w.group w.machine w.machine.to_commit w.machine.to_acknowledge due

  heard_by : (a : wire.Answer) (verdicts : List Verdict) (p : Progress) (o : Option Heard)
      → hears settings Acknowledgement a ≡ o → EndsBy o verdicts p
      → (hears settings Acknowledgement a ≡ Some (told acknowledged)) × (p ≡ GoesOn)
  heard_by a verdicts p None is e = absurd e
  heard_by a verdicts p (Some h) is e =
      let same = acknowledgement_said settings a h is in (
        is ∙ ap Some same,
        goes_through p (subst (λ (k : Heard). EndsBy (Some k) verdicts p) same e),
      )

  module _ (old new : Link) (w x : Standing R) (due : is_settled w.machine ≡ false) (q : Asked) (p : Progress)
      (t : Turned with_verdict with_commit settings old new w x q p) where
    abbrev y : Standing R
    y = asking with_commit settings w

    heard : (hears settings Acknowledgement t.turn.answer ≡ Some (told acknowledged)) × (p ≡ GoesOn)
    heard = heard_by t.turn.answer t.turn.verdicts p (hears settings Acknowledgement t.turn.answer) refl
        (subst (λ (k : Asked). EndsBy (hears settings k t.turn.answer) t.turn.verdicts p) (asks_it w due) t.ends)

    -- the round acknowledged
    pub acknowledges : Turned with_verdict with_commit settings old new w x Acknowledgement GoesOn
    acknowledges =
        subst (λ (k : Asked). Turned with_verdict with_commit settings old new w x k GoesOn) (t.asked ∙ asks_it w due)
        (subst (λ (k : Progress). Turned with_verdict with_commit settings old new w x q k) heard.1 t)

    machine_then : x.machine ≡ machine.after (at_request w.machine) count_answer t.turn.verdicts
    machine_then =
        ap (λ (v : Standing R). v.machine) t.stands
        ∙ ap (λ o. (having_heard with_verdict y (group_after settings y.group y.asked t.turn.answer) o
        t.turn.verdicts).machine)
        (ap (λ (k : Asked). hears settings k t.turn.answer) (asks_it w due) ∙ heard.0)

    none_left : x.machine.to_acknowledge ≡ []
    none_left = ap (λ (n : Machine). n.to_acknowledge) machine_then

    done_left : x.machine.to_commit ≡ (at_request w.machine).to_commit
    done_left = ap (λ (n : Machine). n.to_commit) machine_then ∙ append-nil (at_request w.machine).to_commit

  -- ---- what was asked in them

  acks_none : (link : Link) (w : Standing R)
      → Acknowledge with_verdict with_commit settings w (rounds_none with_verdict with_commit settings link w).turns
  acks_none link w =
      subst (λ (l : List Turn). Acknowledge with_verdict with_commit settings w l)
      (sym (none_turns with_verdict with_commit settings link w)) tt

  acks_more : (w : Standing R) (turns : List Turn) (t : Turn) → Acknowledge with_verdict with_commit settings w turns
      → (asking with_commit settings (after_turns with_verdict with_commit settings w turns)).asked ≡ Acknowledgement
      → Acknowledge with_verdict with_commit settings w (turns ++ t ∷ [])
  acks_more w [] t h e = (e, tt)
  acks_more w (u ∷ turns) t h e =
      (h.0, acks_more (after_turn with_verdict with_commit settings w u) turns t h.1 e)

  acks_on : (old mid new : Link) (w y x : Standing R) (n : ℕ) (q : Asked) (p : Progress)
      (r : Rounds with_verdict with_commit settings old mid w y n GoesOn)
      (t : Turned with_verdict with_commit settings mid new y x q p)
      → Acknowledge with_verdict with_commit settings w r.turns
      → (asking with_commit settings y).asked ≡ Acknowledgement
      → Acknowledge with_verdict with_commit settings w
      (rounds_more with_verdict with_commit settings old mid new w y x n q p r t).turns
  acks_on old mid new w y x n q p r t h e =
      subst (λ (l : List Turn). Acknowledge with_verdict with_commit settings w l)
      (sym (more_turns with_verdict with_commit settings old mid new w y x n q p r t))
      (acks_more w r.turns t.turn h
      (subst (λ (v : Standing R). (asking with_commit settings v).asked ≡ Acknowledgement) r.stands e))

  -- one such round
  module _ (old mid : Link) (w y : Standing R) (due : is_settled w.machine ≡ false)
      (t : Turned with_verdict with_commit settings old mid w y Acknowledgement GoesOn) where
    abbrev one : Rounds with_verdict with_commit settings old mid w y 1 GoesOn
    one = rounds_more with_verdict with_commit settings old old mid w w y 0 Acknowledgement GoesOn
        (rounds_none with_verdict with_commit settings old w) t

    one_asked : Acknowledge with_verdict with_commit settings w one.turns
    one_asked = acks_on old old mid w w y 0 Acknowledgement GoesOn
        (rounds_none with_verdict with_commit settings old w) t (acks_none old w) (asks_it w due)

  -- ---- both

  finished_none : (old : Link) (w : Standing R) → is_settled w.machine ≡ true
      → Finished with_verdict with_commit settings old old w w
  finished_none old w settled =
      let empty = both_empty w.machine.to_commit w.machine.to_acknowledge settled in
      record {
        n = 0;
        few = omega arith;
        made = rounds_none with_verdict with_commit settings old w;
        asked = acks_none old w;
        committed = empty.0;
        acknowledged = empty.1;
      }

  finished_one : (old mid : Link) (w y : Standing R) → is_settled w.machine ≡ false
      → Turned with_verdict with_commit settings old mid w y Acknowledgement GoesOn → is_settled y.machine ≡ true
      → Finished with_verdict with_commit settings old mid w y
  finished_one old mid w y due t settled =
      let empty = both_empty y.machine.to_commit y.machine.to_acknowledge settled in
      record {
        n = 1;
        few = omega arith;
        made = one old mid w y due t;
        asked = one_asked old mid w y due t;
        committed = empty.0;
        acknowledged = empty.1;
      }

  pub finished : (old mid new : Link) (w y x : Standing R) → Settles with_verdict with_commit settings old mid w y
      → Settles with_verdict with_commit settings mid new y x → Finished with_verdict with_commit settings old new w x
  finished old mid new w y x (inl a) (inl b) =
      subst (λ (l : Link). Finished with_verdict with_commit settings old l w x) (sym (b.1 ∙ a.1))
      (subst (λ (v : Standing R). Finished with_verdict with_commit settings old old w v) (sym (b.2 ∙ a.2))
      (finished_none old w a.0))
  finished old mid new w y x (inl a) (inr b) =
      let wrong : true ≡ false = sym a.0 ∙ sym (ap (λ (v : Standing R). is_settled v.machine) a.2) ∙ b.0 in absurd cc
  finished old mid new w y x (inr a) (inl b) =
      subst (λ (l : Link). Finished with_verdict with_commit settings old l w x) (sym b.1)
      (subst (λ (v : Standing R). Finished with_verdict with_commit settings old mid w v) (sym b.2)
      (finished_one old mid w y a.0 a.1 b.0))
  finished old mid new w y x (inr a) (inr b) = record {
    n = 2;
    few = omega arith;
    made = rounds_more with_verdict with_commit settings old mid new w y x 1 Acknowledgement GoesOn
        (one old mid w y a.0 a.1) b.1;
    asked = acks_on old mid new w y x 1 Acknowledgement GoesOn (one old mid w y a.0 a.1) b.1
        (one_asked old mid w y a.0 a.1) (asks_it y b.0);
    committed = done_left mid new y x b.0 Acknowledgement GoesOn b.1
        ∙ all_committed y.machine (none_left old mid w y a.0 Acknowledgement GoesOn a.1);
    acknowledged = none_left mid new y x b.0 Acknowledgement GoesOn b.1;
  }

  pub broke_first : (old new : Link) (w x : Standing R) (e : RunError)
      → SettlesNot with_verdict with_commit settings old new w x e
      → FinishBroke with_verdict with_commit settings old new w x e
  broke_first old new w x e f = record {
    broke = record {
      n = 0;
      fewer = omega arith;
      link = old;
      before = w;
      made = rounds_none with_verdict with_commit settings old w;
      fails = f.1;
    };
    asked = acks_none old w;
    last = asks_it w f.0;
  }

  pub broke_second : (old mid new : Link) (w y x : Standing R) (e : RunError)
      → Settles with_verdict with_commit settings old mid w y
      → SettlesNot with_verdict with_commit settings mid new y x e
      → FinishBroke with_verdict with_commit settings old new w x e
  broke_second old mid new w y x e (inl a) f =
      broke_first old new w x e
      (subst (λ (l : Link). SettlesNot with_verdict with_commit settings l new w x e) a.1
      (subst (λ (v : Standing R). SettlesNot with_verdict with_commit settings mid new v x e) a.2 f))
  broke_second old mid new w y x e (inr a) f = record {
    broke = record {
      n = 1;
      fewer = omega arith;
      link = mid;
      before = y;
      made = one old mid w y a.0 a.1;
      fails = f.1;
    };
    asked = one_asked old mid w y a.0 a.1;
    last = asks_it y f.0;
  }

pub on_ok_so : {A E : Type 0} (r : Result A E) (P Q : Type 0) → (P → Q) → OnOk r P → OnOk r Q
on_ok_so (Ok x) P Q f p = f p
on_ok_so (Err e) P Q f p = tt
