-- Commands that are done and get replies one after the other.
use Rattle.std.proofs.Common.{◌≡◌, ℕ, List, [], ◌∷◌, ◌++◌, Result, Ok, Err, Option, Some, None, length, map, inl, inr, refl, sym, ap, subst, append_assoc, append-nil, ◌∙◌}
use Rattle.redis_wire.specs.declared.written.Protocol.{Protocol}
use Rattle.std.specs.List.{flat_map}
use Rattle.std.specs.Prelude.{OnOk, OnErr}
use Rattle.std.proofs.lemmas.List.{flat_map_more}
use Rattle.server_commands.specs.declared.answer.Reply.{Reply}
use Rattle.server_commands.specs.Incoming.{command_at}
use Rattle.server_commands.specs.Serving.{Turn, IsAnswered, turn_bytes, AreAnswered, Does, MayStep, Serves, GivesUp}
use Rattle.server_commands.specs.Steps.{IsStep, State}

-- nothing was done yet
pub no_turns : (bytes before : List ℕ) (s : State) → Does bytes bytes before before s s
no_turns bytes before s = record { turns = []; answered = (refl, refl); wrote = sym (append-nil before) }

-- nothing was done, and memory is refused
pub gives_up_now : (bytes before after : List ℕ) (old new : State) → after ≡ before → new ≡ old
    → GivesUp bytes before after old new
gives_up_now bytes before after old new same still =
    rw (same, still) (bytes, old, no_turns bytes before old, inl refl)

-- memory is refused after the last command
pub gives_up_behind : (bytes before after rest : List ℕ) (left : Option (List ℕ)) (old new : State)
    → Serves bytes before after left old new → left ≡ Some rest → GivesUp bytes before after old new
gives_up_behind bytes before after rest left old new serves is =
    let some : Serves bytes before after (Some rest) old new = rw is at serves in (rest, new, some.0, inl refl)

-- a list that is not empty has words
pub some_words : {A : Type 0} (f : A → List ℕ) (xs : List A) (r : Protocol × Reply) (old new : State) → (length xs ≡ 0 → ⊥)
    → IsStep (map f xs) r.1 old new → r.0 ≡ new.session.protocol → IsAnswered (map f xs) (Some r) old new
some_words f [] r old new some step same = absurd (some refl)
some_words f (x ∷ xs) r old new some step same = (step, same)

turn_more : (turns : List Turn) (turn : Turn) (bytes rest behind : List ℕ) (words : List (List ℕ)) (old between new : State)
    → AreAnswered turns bytes rest old between → command_at rest ≡ Ok (words, behind) → IsAnswered words turn between new
    → AreAnswered (turns ++ turn ∷ []) bytes behind old new
turn_more [] turn bytes rest behind words old between new (is, same) h a = (
  words,
  behind,
  new,
  subst (λ (b : List ℕ). command_at b ≡ Ok (words, behind)) (sym is) h,
  subst (λ (s : State). IsAnswered words turn s new) same a,
  (refl, refl),
)
turn_more (t ∷ turns) turn bytes rest behind words old between new (first, next, then, read, answered, others) h a =
    (first, next, then, read, answered, turn_more turns turn next rest behind words then between new others h a)

-- one command more
pub one_more_turn : (bytes rest behind : List ℕ) (words : List (List ℕ)) (before written after : List ℕ) (old between new : State)
    → Does bytes rest before written old between → command_at rest ≡ Ok (words, behind)
    → ((turn : Turn) × IsAnswered words turn between new × (after ≡ written ++ turn_bytes turn))
    → Does bytes behind before after old new
one_more_turn bytes rest behind words before written after old between new d h (turn, answered, wrote) = record {
  turns = d.turns ++ turn ∷ [];
  answered = turn_more d.turns turn bytes rest behind words old between new d.answered h answered;
  wrote =
      wrote ∙ subst (λ (b : List ℕ). b ++ turn_bytes turn ≡ before ++ flat_map turn_bytes (d.turns ++ turn ∷ [])) (sym d.wrote)
      (flat_map_more turn_bytes before d.turns turn);
}

-- memory is refused within a command
pub gives_up_within : (bytes rest behind : List ℕ) (words : List (List ℕ)) (before written after : List ℕ) (old between new : State)
    → Does bytes rest before written old between → command_at rest ≡ Ok (words, behind) → after ≡ written
    → MayStep words between new → GivesUp bytes before after old new
gives_up_within bytes rest behind words before written after old between new d h same may =
    (rest, between, rw same d, inr (words, behind, h, may))

-- what holds anyway
pub on_err_any : {A E P : Type 0} (r : Result A E) → P → OnErr r P
on_err_any (Ok x) p = tt
on_err_any (Err e) p = p

-- what follows from what holds of an outcome
pub on_ok_so : {A E P Q : Type 0} (r : Result A E) → (P → Q) → OnOk r P → OnOk r Q
on_ok_so (Ok x) so p = so p
on_ok_so (Err e) so p = tt

pub on_err_so : {A E P Q : Type 0} (r : Result A E) → (P → Q) → OnErr r P → OnErr r Q
on_err_so (Ok x) so p = tt
on_err_so (Err e) so p = so p

-- one command, and those after it
module _ (bytes behind : List ℕ) (words : List (List ℕ)) (before written : List ℕ) (old between : State)
    (read : command_at bytes ≡ Ok (words, behind))
    (first : (turn : Turn) × IsAnswered words turn old between × (written ≡ before ++ turn_bytes turn)) where
  does_first : (rest after : List ℕ) (new : State) → Does behind rest written after between new
      → Does bytes rest before after old new
  does_first rest after new d = record {
    turns = first.0 ∷ d.turns;
    answered = (words, behind, between, read, first.1, d.answered);
    wrote = d.wrote ∙ ap (λ (b : List ℕ). b ++ flat_map turn_bytes d.turns) first.2
        ∙ append_assoc before (turn_bytes first.0) (flat_map turn_bytes d.turns);
  }

  pub serves_first : (after : List ℕ) (left : Option (List ℕ)) (new : State) → Serves behind written after left between new
      → Serves bytes before after left old new
  serves_first after (Some rest) new (does, ends) = (does_first rest after new does, ends)
  serves_first after None new r = record {
    rest = r.rest;
    between = r.between;
    error = r.error;
    does = does_first r.rest r.between new r.does;
    fault = r.fault;
    wrote = r.wrote;
  }

  pub gives_up_first : (after : List ℕ) (new : State) → GivesUp behind written after between new
      → GivesUp bytes before after old new
  gives_up_first after new (rest, then, does, ends) = (rest, then, does_first rest after then does, ends)
