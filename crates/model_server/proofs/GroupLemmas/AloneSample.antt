-- Two schedules in which an entry ends its worker: in one both entries come again at once, and in the other one at a
-- time. The first refutes the law without its premise, and a wrong definition of planted/.
use Rattle.std.proofs.Common.{◌≡◌, refl, ℕ, arith, false, true, List, [], ◌∷◌, ◌++◌, codes}
use Rattle.std.specs.Fmt.{digits}
use Rattle.std.specs.Str.{bytes_eq}
use Rattle.model_server.specs.Group.Worker.{Id}
use Rattle.model_server.specs.Group.Group.{Name, Pending}
use Rattle.model_server.specs.Group.World.{Event, Append, Read, Reread, Crash, run, empty_world}
use Rattle.model_server.specs.Group.Alone.{times_alone, OneAtATime}

abbrev ann : Name
ann = codes "ann"

abbrev first : Id
first = codes "1-0"

abbrev second : Id
second = codes "2-0"

-- the fields of the entries do not matter
abbrev F : Type 0
F = ℕ

abbrev counted : Id → ℕ → Pending
counted id count = record { id = id; consumer = ann; count = count }

-- two entries are read at once, and the worker is started again
abbrev read_both : List (Event F)
read_both = Append (1, 0) 7 ∷ Append (2, 0) 8 ∷ Read ann 2 ∷ Crash ann 1 (λ e. false) [] ∷ []

-- both are redelivered at once
abbrev at_once : List (Event F)
at_once = read_both ++ Reread ann (λ id. true) ∷ []

-- the first is redelivered alone, two times
abbrev by_itself : List (Event F)
by_itself = read_both ++ Reread ann (bytes_eq first) ∷ Crash ann 1 (λ e. false) [] ∷ Reread ann (bytes_eq first) ∷ []

pub both_are_counted : (run at_once empty_world).pending ≡ counted first 2 ∷ counted second 2 ∷ []
unfolding digits
both_are_counted = refl

pub second_never_alone : times_alone second at_once empty_world ≡ 0
unfolding digits
second_never_alone = refl

pub one_is_counted : (run by_itself empty_world).pending ≡ counted first 3 ∷ counted second 1 ∷ []
unfolding digits
one_is_counted = refl

pub first_alone : times_alone first by_itself empty_world ≡ 2
unfolding digits
first_alone = refl

pub one_at_a_time : OneAtATime by_itself empty_world
unfolding digits
one_at_a_time =
    (omega arith, (omega arith, (omega arith, (omega arith, (omega arith, (omega arith, (omega arith, tt)))))))
