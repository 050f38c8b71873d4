-- Lemmas on commands that go out between two rounds.
use Rattle.std.proofs.Common.{inl, inr, refl, ℕ, List, [], ◌∷◌, Option, codes}
use Rattle.redis_connection.specs.Ask.{Asks, HasNoAnswer}
use Rattle.redis_connection.specs.Link.{Link}
use Rattle.redis_connection.specs.declared.error.AskError.{AskError}
use Rattle.redis_connection.specs.declared.error.AskError.TheVariants as errors
use Rattle.redis_resp.specs.Tree.{Tree}
use Rattle.redis_resp.specs.declared.value.error.ParsingError.{ParsingError}
use Rattle.redis_wire.specs.Reply.{value}
use Rattle.worker.specs.DeadLetters.Besides.{Besides, BreaksBesides, BreaksLooking, GivesUpNow, Looks, LooksNot, OnlyLooks}
use Rattle.worker.specs.DeadLetters.Besides.{nothing, looks, gives_up}
use Rattle.worker.specs.DeadLetters.Dead.{Claimer, GivesUp, GivesUpSome}
use Rattle.worker.specs.declared.dead_letters.search.Waiting.{Waiting}
use Rattle.worker.specs.Letters.{Names}

-- ---- a question

-- a command that only looks was answered
pub looked : {M : Type 0} (old new : Link) (words : List (List ℕ)) (reading : Tree → Option M) (m : M) → OnlyLooks words
    → Asks old new words reading m → Looks old new
looked old new words reading m only a = record { words = words; only = only; answer = value a.0; exchanges = a.1 }

-- or it was not as was wanted
pub looked_not : {M : Type 0} (old new : Link) (words : List (List ℕ)) (reading : Tree → Option M)
    (may_refuse : Tree → ParsingError → Type 0) (e : AskError) → OnlyLooks words
    → HasNoAnswer old new words reading may_refuse e → LooksNot old new e
looked_not old new words reading may_refuse (errors.Connection e) only a =
    record { words = words; only = only; breaks = inr (inl a) }
looked_not old new words reading may_refuse (errors.Server e) only a =
    record { words = words; only = only; answer = a.0; exchanges = a.1 }
looked_not old new words reading may_refuse (errors.Parsing e) only a =
    record { words = words; only = only; answer = value a.0; exchanges = a.1 }
looked_not old new words reading may_refuse errors.NotAnAnswer only a =
    record { words = words; only = only; answer = a.0; exchanges = a.1 }

-- in any case the look breaks off there
pub look_breaks : (old new : Link) → Looks old new → BreaksLooking old new
look_breaks old new l = record { words = l.words; only = l.only; breaks = inr (inr (l.answer, l.exchanges)) }

pub look_not_breaks : (old new : Link) (e : AskError) → LooksNot old new e → BreaksLooking old new
look_not_breaks old new (errors.Connection e) l = l
look_not_breaks old new (errors.Server e) l = look_breaks old new l
look_not_breaks old new (errors.Parsing e) l = look_breaks old new l
look_not_breaks old new errors.NotAnAnswer l = look_breaks old new l

-- ---- one after the other

pub besides_both : (l m n : Link) → Besides l m → Besides m n → Besides l n
besides_both l m n a (nothing k) = a
besides_both l m n a (looks i j k b q) = looks l j k (besides_both l i j a b) q
besides_both l m n a (gives_up i j k c names entries b q) = gives_up l j k c names entries (besides_both l i j a b) q

pub besides_breaks : (l m n : Link) → Besides l m → BreaksBesides m n → BreaksBesides l n
besides_breaks l m n a b = record { between = b.between; besides = besides_both l m b.between a b.besides; breaks = b.breaks }

pub one_look : (old new : Link) → Looks old new → Besides old new
one_look old new l = looks old old new (nothing old) l

pub one_break : (old new : Link) → BreaksLooking old new → BreaksBesides old new
one_break old new b = record { between = old; besides = nothing old; breaks = inl b }

-- nothing more goes out
pub no_look : (l : Link) → BreaksLooking l l
no_look l = record { words = codes "XPENDING" ∷ []; only = inl refl; breaks = inl refl }

pub no_more : (l : Link) → BreaksBesides l l
no_more l = one_break l l (no_look l)

pub ends_so : (l m : Link) → Besides l m → BreaksBesides l m
ends_so l m a = besides_breaks l m m a (no_more m)

-- entries were given up after that, or as far as it came
pub then_gives_up : (l m n : Link) (c : Claimer) (names : Names) (entries : List Waiting) → Looks l m
    → GivesUp c names entries m n → Besides l n
then_gives_up l m n c names entries a g = gives_up l m n c names entries (one_look l m a) g

pub then_gives_some : (l m n : Link) (c : Claimer) (names : Names) (entries : List Waiting) → Looks l m
    → GivesUpSome c names entries m n → BreaksBesides l n
then_gives_some l m n c names entries a g = record {
  between = m;
  besides = one_look l m a;
  breaks = inr (record { claimer = c; names = names; entries = entries; breaks = g });
}

-- an entry was given up at once, or it is not pending for the consumer
pub now_besides : (l n : Link) (c : Claimer) (names : Names) (id reason : List ℕ) → GivesUpNow c names id reason l n
    → Besides l n
now_besides l n c names id reason (inl look) = one_look l n look
now_besides l n c names id reason (inr g) = then_gives_up l g.0 n c names (g.1 ∷ []) g.2 g.5
