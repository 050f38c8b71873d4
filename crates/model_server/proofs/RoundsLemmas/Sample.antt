-- A world where one round less is not enough.
use Rattle.std.proofs.Common.{◌≡◌, refl, ℕ, false, [], ◌∷◌, codes}
use Rattle.std.specs.Fmt.{digits}
use Rattle.model_server.specs.Group.Group.{Name, pending_ids}
use Rattle.model_server.specs.Group.Group as group
use Rattle.model_server.specs.Group.Worker.{own}
use Rattle.model_server.specs.Group.World.{World, Append, Read, Crash, run, empty_world}
use Rattle.model_server.specs.Rounds.Rounds.{rounds}
use Rattle.model_server.specs.Rounds.Bound.{enough_rounds, again_rounds}

abbrev pub ann : Name
ann = codes "ann"

abbrev pub bob : Name
bob = codes "bob"

-- three entries were added; bob was handed two of them and is gone; ann is new
abbrev pub before : World ℕ
before = run (
    Append (1, 0) 7 ∷ Append (1, 1) 8 ∷ Append (2, 0) 9 ∷ Read bob 2 ∷ Crash ann 10 (λ e. false) [] ∷ []
    ) empty_world

-- with a COUNT of 1 they need one round of their own, four of claims, and two of reads
pub the_bound : enough_rounds 1 ann before ≡ 7
unfolding digits
the_bound = refl

pub is_enough : (rounds 7 1 ann before).pending ≡ []
unfolding digits
is_enough = refl

pub none_to_come : (rounds 7 1 ann before).fresh ≡ []
unfolding digits
none_to_come = refl

-- one less is not enough
pub one_less : pending_ids (rounds 6 1 ann before).pending ≡ codes "2-0" ∷ []
unfolding digits
one_less = refl

-- ann was handed two of three entries, did neither, and begins again
abbrev begun : World ℕ
begun = run (
    Append (1, 0) 7 ∷ Append (1, 1) 8 ∷ Append (2, 0) 9 ∷ Read ann 2 ∷ Crash ann 10 (λ e. false) [] ∷ []
    ) empty_world

pub it_begins : (begun.workers ann).phase ≡ own (codes "0")
it_begins = refl

pub mine : group.own ann begun.pending ≡ codes "1-0" ∷ codes "1-1" ∷ []
unfolding digits
mine = refl

-- with a COUNT of 1 these need two rounds each
pub again : again_rounds 1 ann begun ≡ 4
unfolding digits
again = refl

pub both_are_handled : (rounds 4 1 ann begun).handled ≡ (codes "1-0", 7) ∷ (codes "1-1", 8) ∷ []
unfolding digits
both_are_handled = refl

pub both_are_acknowledged : (rounds 4 1 ann begun).acknowledged_ids ≡ codes "1-0" ∷ codes "1-1" ∷ []
unfolding digits
both_are_acknowledged = refl

-- one less is not enough
pub one_of_them : (rounds 3 1 ann begun).acknowledged_ids ≡ codes "1-0" ∷ []
unfolding digits
one_of_them = refl

-- three new entries, and a worker that claims after each read
abbrev new_ones : World ℕ
new_ones = run (Append (1, 0) 7 ∷ Append (1, 1) 8 ∷ Append (2, 0) 9 ∷ Crash ann 1 (λ e. false) [] ∷ []) empty_world

pub claims_between : enough_rounds 1 ann new_ones ≡ 10
unfolding digits
claims_between = refl

pub all_are_done : (rounds 10 1 ann new_ones).acknowledged_ids ≡ codes "1-0" ∷ codes "1-1" ∷ codes "2-0" ∷ []
unfolding digits
all_are_done = refl

pub one_is_not : (rounds 9 1 ann new_ones).acknowledged_ids ≡ codes "1-0" ∷ codes "1-1" ∷ []
unfolding digits
one_is_not = refl
