-- The events of a worker's round if nothing fails.
use Rattle.std.specs.Prelude.{ℕ, zero, suc, Bool, List, [], ◌∷◌, ◌++◌, map}
use Rattle.model_server.specs.Group.Worker.{Id, Delivered, Verdict, done, Phase, own, claiming, reading}
use Rattle.model_server.specs.Group.Group.{Name, listed, ids_of, given, whole, reread, claim_answer}
use Rattle.model_server.specs.Group.World.{World, Event, Read, Reread, Claim, Comes, Commit, Acknowledge, Ack_comes, run}
use Rattle.model_server.specs.Rounds.Page.{own_page, claim_page, next_claim}

module _ {F : Type 0} where
  -- the verdicts of a handler that returns `done` for each entry
  abbrev pub all_done : List (Delivered F) → List Verdict
  all_done ds = map (λ d. done) ds

  -- a commit, if there are ids to commit and none to acknowledge; else no event
  abbrev pub commit_of : Name → (to_acknowledge to_commit : List Id) → List (Event F)
  commit_of name [] [] = []
  commit_of name [] (id ∷ ids) = Commit name ∷ []
  commit_of name (id ∷ ids) to_commit = []

  -- whether an id is in `own_page`: the choice of XREADGROUP after `id`
  abbrev pub own_pick : ℕ → Name → Id → World F → Id → Bool
  own_pick n name id w = listed (ids_of (own_page n name id w.pending w.seen))

  -- whether an id is in `claim_page`: the choice of XAUTOCLAIM from `id` on
  abbrev pub claim_pick : ℕ → Id → World F → Id → Bool
  claim_pick n id w = listed (ids_of (claim_page n id w.pending w.seen))

  -- the events of a request and its reply. If there are ids to acknowledge, it is an XACK. Otherwise it is the request
  -- of the phase, and the reply has the server's page
  abbrev pub asks : ℕ → Name → World F → (to_acknowledge : List Id) → Phase → List (Event F)
  asks n name w (i ∷ ids) phase = Acknowledge name ∷ Ack_comes 0 ∷ Comes 0 [] ∷ []
  asks n name w [] (own id) =
      Reread name (own_pick n name id w)
      ∷ Comes 0 (all_done (reread (own_pick n name id w) name w.pending w.deleted w.seen)) ∷ []
  asks n name w [] (claiming id) =
      Claim name (claim_pick n id w) (next_claim n id w.pending w.seen)
      ∷ Comes 0 (all_done (claim_answer (claim_pick n id w) w.pending w.deleted w.seen)) ∷ []
  asks n name w [] (reading rounds) =
      Read name n ∷ Comes 0 (all_done (map whole (given w.deleted n w.fresh))) ∷ []

  -- the events of a round's commit, in this world
  abbrev pub commit_in : Name → World F → List (Event F)
  commit_in name w = commit_of name (w.workers name).to_acknowledge (w.workers name).to_commit

  -- the events of a round's request and its reply, in this world
  abbrev pub asked_in : ℕ → Name → World F → List (Event F)
  asked_in n name w = asks n name w (w.workers name).to_acknowledge (w.workers name).phase

  -- the events of a round: its commit, and then its request and the reply
  abbrev pub events_of_round : ℕ → Name → World F → List (Event F)
  events_of_round n name w = commit_in name w ++ asked_in n name (run (commit_in name w) w)

  -- the world after a round of the worker `name` with COUNT `n`
  abbrev pub round : ℕ → Name → World F → World F
  round n name w = run (events_of_round n name w) w

  -- the world after `so_many` rounds of the worker, and no other event between them
  abbrev pub rounds : (so_many : ℕ) → ℕ → Name → World F → World F
  rounds zero n name w = w
  rounds (suc so_many) n name w = rounds so_many n name (round n name w)

  -- the events of `so_many` rounds of the worker
  abbrev pub events_of_rounds : (so_many : ℕ) → ℕ → Name → World F → List (Event F)
  events_of_rounds zero n name w = []
  events_of_rounds (suc so_many) n name w =
      events_of_round n name w ++ events_of_rounds so_many n name (round n name w)
