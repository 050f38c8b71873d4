-- What a round makes of the parts of the world that it depends on.
use Rattle.std.proofs.Common.{◌≡◌, refl, ap, ◌∙◌, ℕ, List, [], ◌∷◌, ◌++◌, map, if◌then◌else◌}
use Rattle.model_server.specs.Group.Worker.{Id, Entry, Delivered, Machine, Phase, own, claiming, reading, acknowledged}
use Rattle.model_server.specs.Group.Worker.{handled_in, own_pending, taken_over, news, after, after_commit}
use Rattle.model_server.specs.Group.Group.{Name, Pending, listed, ids_of, given, passed, behind, newly_pending, whole, reread}
use Rattle.model_server.specs.Group.Group.{raised, claimed, claim_answer, pending_after}
use Rattle.model_server.specs.Group.World.{World, Event, with_one, happens, run}
use Rattle.model_server.specs.Rounds.Page.{own_page, claim_page, next_claim}
use Rattle.model_server.specs.Rounds.Rounds.{all_done, commit_of, asks, commit_in, asked_in, round}
use Rattle.model_server.proofs.RoundsLemmas.Lists.{same_id}

-- the worker, and the entries that the server may deliver
pub record View (F : Type 0) : Type 0 where
  pub machine : Machine
  pub pending : List Pending
  pub seen : List (Entry F)
  pub fresh : List (Entry F)
  pub deleted : List Id
  pub handled : List (Entry F)
  pub acknowledged_ids : List Id

with_itself : {A : Type 0} (each : Name → A) (name : Name) (a : A) → with_one each name a name ≡ a
with_itself each name a = ap (λ b. if b then a else each name) (same_id name)

module _ {F : Type 0} where
  abbrev pub view : Name → World F → View F
  view name w = record {
    machine = w.workers name;
    pending = w.pending;
    seen = w.seen;
    fresh = w.fresh;
    deleted = w.deleted;
    handled = w.handled;
    acknowledged_ids = w.acknowledged_ids;
  }

  abbrev pub own_again : ℕ → Name → Id → View F → List (Delivered F)
  own_again n name id v = reread (listed (ids_of (own_page n name id v.pending v.seen))) name v.pending v.deleted v.seen

  abbrev pub claimed_now : ℕ → Id → View F → List (Delivered F)
  claimed_now n id v = claim_answer (listed (ids_of (claim_page n id v.pending v.seen))) v.pending v.deleted v.seen

  abbrev pub new_ones : ℕ → View F → List (Delivered F)
  new_ones n v = map whole (given v.deleted n v.fresh)

  abbrev pub commit_step : List Id → List Id → View F → View F
  commit_step [] [] v = v
  commit_step [] (i ∷ ids) v = record v { machine = after_commit v.machine }
  commit_step (i ∷ ids) to_commit v = v

  abbrev pub asks_step : ℕ → Name → List Id → Phase → View F → View F
  asks_step n name (i ∷ ids) phase v = record v {
    machine = after {F = F} v.machine acknowledged [];
    pending = pending_after v.machine.to_acknowledge v.pending;
    handled = v.handled ++ [];
    acknowledged_ids = v.acknowledged_ids ++ v.machine.to_acknowledge;
  }
  asks_step n name [] (own id) v = record v {
    machine = after v.machine (own_pending (own_again n name id v)) (all_done (own_again n name id v));
    pending = raised (listed (ids_of (own_page n name id v.pending v.seen))) name v.deleted v.pending;
    handled = v.handled ++ handled_in (own_again n name id v) (all_done (own_again n name id v));
  }
  asks_step n name [] (claiming id) v = record v {
    machine = after v.machine (taken_over (next_claim n id v.pending v.seen) (claimed_now n id v))
        (all_done (claimed_now n id v));
    pending = claimed 1 (listed (ids_of (claim_page n id v.pending v.seen))) name v.deleted v.pending;
    handled = v.handled ++ handled_in (claimed_now n id v) (all_done (claimed_now n id v));
  }
  asks_step n name [] (reading rounds) v = record v {
    machine = after v.machine (news (new_ones n v)) (all_done (new_ones n v));
    pending = v.pending ++ newly_pending name (given v.deleted n v.fresh);
    seen = v.seen ++ passed v.deleted n v.fresh;
    fresh = behind v.deleted n v.fresh;
    handled = v.handled ++ handled_in (new_ones n v) (all_done (new_ones n v));
  }

  abbrev pub asked_of : ℕ → Name → View F → View F
  asked_of n name v = asks_step n name v.machine.to_acknowledge v.machine.phase v

  abbrev pub step : ℕ → Name → View F → View F
  step n name v = asked_of n name (commit_step v.machine.to_acknowledge v.machine.to_commit v)

  commit_seen : (name : Name) (w : World F) (to_acknowledge to_commit : List Id)
      → view name (run (commit_of name to_acknowledge to_commit) w) ≡ commit_step to_acknowledge to_commit (view name w)
  commit_seen name w [] [] = refl
  commit_seen name w [] (i ∷ ids) =
      ap (λ (m : Machine). record (view name w) { machine = m })
      (with_itself w.workers name (after_commit (w.workers name)))
  commit_seen name w (i ∷ ids) to_commit = refl

  ask_seen : (n : ℕ) (name : Name) (w : World F) (to_acknowledge : List Id) (phase : Phase)
      → view name (run (asks n name w to_acknowledge phase) w) ≡ asks_step n name to_acknowledge phase (view name w)
  ask_seen n name w (i ∷ ids) phase =
      ap (λ (m : Machine). record (asks_step n name (i ∷ ids) phase (view name w)) { machine = m })
      (with_itself w.workers name (after {F = F} (w.workers name) acknowledged []))
  ask_seen n name w [] (own id) =
      ap (λ (m : Machine). record (asks_step n name [] (own id) (view name w)) { machine = m })
      (with_itself w.workers name (after (w.workers name) (own_pending (own_again n name id (view name w)))
      (all_done (own_again n name id (view name w)))))
  ask_seen n name w [] (claiming id) =
      ap (λ (m : Machine). record (asks_step n name [] (claiming id) (view name w)) { machine = m })
      (with_itself w.workers name (after (w.workers name)
      (taken_over (next_claim n id w.pending w.seen) (claimed_now n id (view name w)))
      (all_done (claimed_now n id (view name w)))))
  ask_seen n name w [] (reading rounds) =
      ap (λ (m : Machine). record (asks_step n name [] (reading rounds) (view name w)) { machine = m })
      (with_itself w.workers name (after (w.workers name) (news (new_ones n (view name w)))
      (all_done (new_ones n (view name w)))))

  pub run_more : (es more : List (Event F)) (w : World F) → run (es ++ more) w ≡ run more (run es w)
  run_more [] more w = refl
  run_more (e ∷ es) more w = run_more es more (happens w e)

  pub round_seen : (n : ℕ) (name : Name) (w : World F) → view name (round n name w) ≡ step n name (view name w)
  round_seen n name w =
      let v : World F = run (commit_in name w) w in
      ap (view name) (run_more (commit_in name w) (asked_in n name v) w)
      ∙ (ask_seen n name v (v.workers name).to_acknowledge (v.workers name).phase
      ∙ ap (asked_of n name) (commit_seen name w (w.workers name).to_acknowledge (w.workers name).to_commit))
