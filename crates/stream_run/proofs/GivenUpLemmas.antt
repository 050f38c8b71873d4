-- Lemmas on entries that are given up at once.
use Rattle.std.proofs.Common.{◌≡◌, ◌++◌, ◌∷◌, [], refl, sym, subst, List, Bool, true, false, Option, Some, None, string_bytes}
use Rattle.redis_connection.specs.Link.{Link}
use Rattle.stream_run.specs.GivenUp.{GivesUpDead, GivesUpEach, GivesUpIf}
use Rattle.worker.proofs.DeadLettersLemmas.BesidesLemmas.{besides_both, now_besides}
use Rattle.worker.specs.DeadLetters.Besides.{Besides, GivesUpNow, nothing}
use Rattle.worker.specs.DeadLetters.Dead.{Claimer}
use Rattle.worker.specs.Letters.{Names}
use Rattle.worker_jobs.specs.declared.jobs.Note.{Note}

same_link : (l n : Link) → n ≡ l → Besides l n
same_link l n same = subst (λ x. Besides l x) (sym same) (nothing l)

if_besides : (dead : Bool) (p : Claimer × Names) (note : Note) (l n : Link) → GivesUpIf dead p note l n → Besides l n
if_besides true p note l n g = now_besides l n p.0 p.1 (string_bytes note.id) note.text.items g
if_besides false p note l n g = same_link l n g

pub each_besides : (p : Claimer × Names) (notes : List Note) (l n : Link) → GivesUpEach p notes l n → Besides l n
each_besides p [] l n g = same_link l n g
each_besides p (note ∷ notes) l n g =
    besides_both l g.0 n (if_besides note.dead p note l g.0 g.1) (each_besides p notes g.0 n g.2)

-- they are commands between two rounds
pub dead_besides : (q : Option (Claimer × Names)) (notes : List Note) (l n : Link) → GivesUpDead q notes l n → Besides l n
dead_besides (Some p) notes l n g = each_besides p notes l n g
dead_besides None notes l n g = same_link l n g

-- one more note
pub each_more : (p : Claimer × Names) (notes : List Note) (note : Note) (l m n : Link) → GivesUpEach p notes l m
    → GivesUpIf note.dead p note m n → GivesUpEach p (notes ++ note ∷ []) l n
each_more p [] note l m n a b = (n, subst (λ x. GivesUpIf note.dead p note x n) a b, refl)
each_more p (x ∷ notes) note l m n a b = (a.0, a.1, each_more p notes note a.0 m n a.2 b)

-- the entry of a note whose reply was `dead` was given up
pub when_dead : (p : Claimer × Names) (note : Note) (l m : Link) → note.dead ≡ true
    → GivesUpNow p.0 p.1 (string_bytes note.id) note.text.items l m → GivesUpIf note.dead p note l m
when_dead p note l m dead gives = subst (λ d. GivesUpIf d p note l m) (sym dead) gives

-- nothing was sent for another note
pub when_left : (p : Claimer × Names) (note : Note) (l : Link) → note.dead ≡ false → GivesUpIf note.dead p note l l
when_left p note l left = subst (λ d. GivesUpIf d p note l l) (sym left) refl
