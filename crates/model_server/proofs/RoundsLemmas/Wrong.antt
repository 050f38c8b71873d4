-- Rounds and bounds that are wrong: after as many rounds as are enough, something is left.
use Rattle.std.proofs.Common.{◌≡◌, refl, ℕ, zero, suc, List, [], ◌∷◌, codes, length}
use Rattle.std.specs.Fmt.{digits}
use Rattle.model_server.specs.Group.Worker.{Id, Phase, own, claiming, reading}
use Rattle.model_server.specs.Group.Group.{pending_ids, claim_answer}
use Rattle.model_server.specs.Group.World.{World, Event, Acknowledge, Claim, Comes, run}
use Rattle.model_server.specs.Rounds.Rounds.{all_done, claim_pick, commit_in, asks, rounds}
use Rattle.model_server.proofs.RoundsLemmas.Sample.{ann, before}

-- a page of no entries delivers nothing
pub none_in_a_page : length (pending_ids (rounds 7 0 ann before).pending) ≡ 2
unfolding digits
none_in_a_page = refl

-- what a worker requests, by what is to be acknowledged and by its phase
abbrev Asks : Type 0
Asks = World ℕ → List Id → Phase → List (Event ℕ)

-- this number of rounds of ann, if it requests this
abbrev rounds_by : Asks → ℕ → World ℕ → World ℕ
rounds_by ask zero w = w
rounds_by ask (suc so_many) w =
    let v : World ℕ = run (commit_in ann w) w in
    rounds_by ask so_many (run (ask v (v.workers ann).to_acknowledge (v.workers ann).phase) v)

pub as_it_asks : (rounds_by (asks 1 ann) 7 before).fresh ≡ []
unfolding digits
as_it_asks = refl

-- it claims where it has to read
abbrev never_reads : Asks
never_reads w (i ∷ ids) phase = asks 1 ann w (i ∷ ids) phase
never_reads w [] (own id) = asks 1 ann w [] (own id)
never_reads w [] (claiming id) = asks 1 ann w [] (claiming id)
never_reads w [] (reading n) = asks 1 ann w [] (claiming (codes "0-0"))

pub one_to_come : length (rounds_by never_reads 7 before).fresh ≡ 1
unfolding digits
one_to_come = refl

-- its XACK is lost
abbrev loses_acks : Asks
loses_acks w (i ∷ ids) phase = Acknowledge ann ∷ []
loses_acks w [] phase = asks 1 ann w [] phase

pub both_are_pending : length (pending_ids (rounds_by loses_acks 7 before).pending) ≡ 2
unfolding digits
both_are_pending = refl

-- the server reports after each page that the claim is at its end
abbrev ends_early : Asks
ends_early w (i ∷ ids) phase = asks 1 ann w (i ∷ ids) phase
ends_early w [] (own id) = asks 1 ann w [] (own id)
ends_early w [] (claiming id) =
    Claim ann (claim_pick 1 id w) (codes "0-0")
    ∷ Comes 0 (all_done (claim_answer (claim_pick 1 id w) w.pending w.deleted w.seen)) ∷ []
ends_early w [] (reading n) = asks 1 ann w [] (reading n)

pub one_is_pending : length (pending_ids (rounds_by ends_early 7 before).pending) ≡ 1
unfolding digits
one_is_pending = refl
