-- Lists that a loop reads member by member, and the errors of the whole.
use Rattle.std.proofs.Common.{◌≡◌, ◌<◌, inl, inr, ⊎_elim, suc, List, [], ◌∷◌, ◌++◌, length, append_assoc, sym, ◌∙◌, ap}
use Rattle.std.proofs.Common.{refl, arith, Option, Some, None, option_map}
use Rattle.std.proofs.lemmas.List.{append-nil}
use Rattle.std.specs.List.{Any}
use Rattle.redis_resp.specs.Reading.{traverse}
use Rattle.redis_resp.specs.Refusal.{Refuses, MemoryOr, OneRefused}
use Rattle.redis_resp.specs.declared.value.error.ParsingError.{ParsingError}
use Rattle.redis_resp.specs.declared.value.error.ParsingError.TheVariants.{Memory}

-- one more at the end of what is done
pub one_more : {M : Type 0} (done : List M) (m : M) (o : Option (List M))
    → option_map (λ ms. (done ++ m ∷ []) ++ ms) o ≡ option_map (λ ms. done ++ ms) (option_map (λ ms. m ∷ ms) o)
one_more done m None = refl
one_more done m (Some ms) = ap Some (append_assoc done (m ∷ []) ms)

-- one of these has it
pub any_behind : {X : Type 0} (P : X → Type 0) (front : List X) (x : X) (rest : List X) → P x
    → Any P (front ++ x ∷ rest)
any_behind P [] x rest p = (0, x, omega arith, refl, p)
any_behind P (y ∷ front) x rest p = let a = any_behind P front x rest p in (suc a.0, a.1, omega (arith, a.2), a.3, a.4)

-- the list is not empty
some_behind : {X : Type 0} (front : List X) (x : X) (rest : List X) → 0 < length (front ++ x ∷ rest)
some_behind [] x rest = omega arith
some_behind (y ∷ front) x rest = omega arith

-- what was read so far, before what the rest reads as, is what the whole reads as
pub record ReadSoFar {A M : Type 0} (f : A → Option M) (all rest : List A) (done : List M) : Type 0 where
  pub so_far : option_map (λ ms. done ++ ms) (traverse f rest) ≡ traverse f all
  pub front : List A
  pub splits : all ≡ front ++ rest

nothing_before : {M : Type 0} (o : Option (List M)) → option_map (λ ms. [] ++ ms) o ≡ o
nothing_before None = refl
nothing_before (Some ms) = refl

module _ {A M : Type 0} (f : A → Option M) (all : List A) where
  pub read_start : (done : List M) → done ≡ [] → ReadSoFar f all all done
  read_start done e = record { so_far = rw e (nothing_before (traverse f all)); front = []; splits = refl }

  -- one more member is read
  pub read_next : (items rest : List A) (x : A) (m : M) (done more : List M) → items ≡ x ∷ rest → f x ≡ Some m
      → more ≡ done ++ m ∷ []
      → ReadSoFar f all items done → ReadSoFar f all rest more
  read_next items rest x m done more steps is pushed r =
      let before = rw (steps, is) at r.so_far in
      record {
        so_far = rw pushed (one_more done m (traverse f rest) ∙ before);
        front = r.front ++ x ∷ [];
        splits = r.splits ∙ rw steps (sym (append_assoc r.front (x ∷ []) rest));
      }

  -- nothing is left
  pub read_all : (items : List A) (done : List M) → items ≡ [] → ReadSoFar f all items done → traverse f all ≡ Some done
  read_all items done e r = sym (rw e at r.so_far) ∙ ap Some (append-nil done)

  module _ (refuses : A → ParsingError → Type 0) (error : ParsingError) where
    -- a member that is refused
    pub read_refused : (items rest : List A) (x : A) (done : List M) → items ≡ x ∷ rest
        → Refuses f (MemoryOr refuses) x error → ReadSoFar f all items done
        → Refuses (traverse f) (OneRefused refuses) all error
    read_refused items rest x done steps refused r = (
      ⊎_elim (λ e. inl (e, rw (r.splits, steps) (some_behind r.front x rest)))
          (λ p. inr (rw (r.splits, steps) (any_behind (λ y. refuses y error) r.front x rest p))) refused.0,
      λ h. sym (rw (steps, refused.1 h) at r.so_far),
    )

    -- memory ran out at a member
    pub no_memory : (items rest : List A) (x : A) (done : List M) → items ≡ x ∷ rest → error ≡ Memory
        → ReadSoFar f all items done
        → Refuses (traverse f) (OneRefused refuses) all error
    no_memory items rest x done steps e r = read_refused items rest x done steps (inl e, λ h. absurd (h e)) r

-- a refusal of a member means that the member has no record
pub with_reading : {A M : Type 0} (f : A → Option M) (refuses : A → ParsingError → Type 0) (x : A)
    (error : ParsingError) → Refuses f (MemoryOr refuses) x error → Refuses f (MemoryOr (Refuses f refuses)) x error
with_reading f refuses x error r = (⊎_elim inl (λ p. inr (p, r.1)) r.0, r.1)

-- and an error of the member is one of the two
pub also_memory : {A M : Type 0} (f : A → Option M) (refuses : A → ParsingError → Type 0) (x : A) (error : ParsingError)
    → Refuses f refuses x error → Refuses f (MemoryOr refuses) x error
also_memory f refuses x error r = (inr r.0, r.1)
