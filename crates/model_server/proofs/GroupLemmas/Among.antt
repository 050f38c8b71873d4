-- What is among the items of a list.
use Rattle.std.proofs.Common.{◌≡◌, ◌⊎◌, inl, inr, refl, sym, ap, ◌∙◌, ℕ, zero, suc, Bool, true, false, ◌&&◌, List, []}
use Rattle.std.proofs.Common.{◌∷◌, ◌++◌, map, filter, Some, None, if◌then◌else◌}
use Rattle.std.proofs.lemmas.Slice.Eq.{bytes_eq-Decides}
use Rattle.std.specs.Str.{bytes_eq}
use Rattle.model_server.specs.Group.Worker.{Id}
use Rattle.model_server.specs.Group.Group.{listed}
use Rattle.model_server.specs.Group.World.{item, but}
use Rattle.model_server.specs.Group.Law.{Among}

pub among_left : {A : Type 0} (x : A) (xs ys : List A) → Among x xs → Among x (xs ++ ys)
among_left x [] ys h = absurd h
among_left x (z ∷ xs) ys (inl e) = inl e
among_left x (z ∷ xs) ys (inr h) = inr (among_left x xs ys h)

pub among_right : {A : Type 0} (x : A) (xs ys : List A) → Among x ys → Among x (xs ++ ys)
among_right x [] ys h = h
among_right x (z ∷ xs) ys h = inr (among_right x xs ys h)

pub among_split : {A : Type 0} (x : A) (xs ys : List A) → Among x (xs ++ ys) → Among x xs ⊎ Among x ys
among_split x [] ys h = inr h
among_split x (z ∷ xs) ys (inl e) = inl (inl e)
among_split x (z ∷ xs) ys (inr h) = elim (among_split x xs ys h) [ inl a ↦ inl (inr a) | inr b ↦ inr b ]

pub among_map : {A B : Type 0} (f : A → B) (x : A) (xs : List A) → Among x xs → Among (f x) (map f xs)
among_map f x [] h = absurd h
among_map f x (z ∷ xs) (inl e) = inl (ap f e)
among_map f x (z ∷ xs) (inr h) = inr (among_map f x xs h)

pub record Source {A B : Type 0} (f : A → B) (y : B) (xs : List A) : Type 0 where
  pub x : A
  pub within : Among x xs
  pub is : f x ≡ y

pub among_of_map : {A B : Type 0} (f : A → B) (y : B) (xs : List A) → Among y (map f xs) → Source f y xs
among_of_map f y [] h = absurd h
among_of_map f y (z ∷ xs) (inl e) = record { x = z; within = inl refl; is = e }
among_of_map f y (z ∷ xs) (inr h) =
    let s = among_of_map f y xs h in record { x = s.x; within = inr s.within; is = s.is }

pub among_filtered : {A : Type 0} (p : A → Bool) (x : A) (xs : List A) → Among x (filter p xs) → Among x xs
among_filtered p x [] h = absurd h
among_filtered p x (z ∷ xs) h =
    let case : (b : Bool) → Among x (if b then z ∷ filter p xs else filter p xs) → Among x (z ∷ xs)
    = λ b. elim b as (λ v. Among x (if v then z ∷ filter p xs else filter p xs) → Among x (z ∷ xs)) [
      | true ↦ λ k. elim k [ inl e ↦ inl e | inr r ↦ inr (among_filtered p x xs r) ]
      | false ↦ λ k. inr (among_filtered p x xs k)
    ]
    in case (p z) h

pub filtered_passes : {A : Type 0} (p : A → Bool) (x : A) (xs : List A) → Among x (filter p xs) → p x ≡ true
filtered_passes p x [] h = absurd h
filtered_passes p x (z ∷ xs) h =
    let case : (b : Bool) → p z ≡ b → Among x (if b then z ∷ filter p xs else filter p xs) → p x ≡ true
    = λ b. elim b as (λ v. p z ≡ v → Among x (if v then z ∷ filter p xs else filter p xs) → p x ≡ true) [
      | true ↦ λ q k. elim k [ inl e ↦ (ap p (sym e) ∙ q) | inr r ↦ filtered_passes p x xs r ]
      | false ↦ λ q k. filtered_passes p x xs k
    ]
    in case (p z) refl h

pub among_filter : {A : Type 0} (p : A → Bool) (x : A) (xs : List A) → Among x xs → p x ≡ true → Among x (filter p xs)
among_filter p x [] h q = absurd h
among_filter p x (z ∷ xs) (inl e) q =
    let case : (b : Bool) → p z ≡ b → Among x (if b then z ∷ filter p xs else filter p xs)
    = λ b. elim b as (λ v. p z ≡ v → Among x (if v then z ∷ filter p xs else filter p xs)) [
      | true ↦ λ k. inl e
      | false ↦ λ k. absurd (let t : true ≡ false = sym q ∙ (ap p (sym e) ∙ k) in cc)
    ]
    in case (p z) refl
among_filter p x (z ∷ xs) (inr h) q =
    let case : (b : Bool) → Among x (if b then z ∷ filter p xs else filter p xs)
    = λ b. elim b as (λ v. Among x (if v then z ∷ filter p xs else filter p xs)) [
      | true ↦ inr (among_filter p x xs h q)
      | false ↦ among_filter p x xs h q
    ]
    in case (p z)

pub listed_among : (ids : List Id) (id : Id) → listed ids id ≡ true → Among id ids
listed_among [] id h = absurd (let t : false ≡ true = h in cc)
listed_among (x ∷ xs) id h =
    let case : (b : Bool) → bytes_eq x id ≡ b → (if b then true else listed xs id) ≡ true → Among id (x ∷ xs)
    = λ b. elim b as (λ v. bytes_eq x id ≡ v → (if v then true else listed xs id) ≡ true → Among id (x ∷ xs)) [
      | true ↦ λ q k. inl ((bytes_eq-Decides x id).0 q)
      | false ↦ λ q k. inr (listed_among xs id k)
    ]
    in case (bytes_eq x id) refl h

pub among_item : {A : Type 0} (xs : List A) (n : ℕ) (x : A) → item xs n ≡ Some x → Among x xs
among_item [] n x h = absurd (let t : None ≡ Some x = h in cc)
among_item (z ∷ xs) zero x h = inl (let t : Some z ≡ Some x = h in cc)
among_item (z ∷ xs) (suc n) x h = inr (among_item xs n x h)

pub among_but : {A : Type 0} (xs : List A) (n : ℕ) (x : A) → Among x (but xs n) → Among x xs
among_but [] n x h = absurd h
among_but (z ∷ xs) zero x h = inr h
among_but (z ∷ xs) (suc n) x (inl e) = inl e
among_but (z ∷ xs) (suc n) x (inr h) = inr (among_but xs n x h)

pub and_left : (a b : Bool) → (a && b) ≡ true → a ≡ true
and_left true b h = refl
and_left false b h = absurd (let t : false ≡ true = h in cc)

pub and_right : (a b : Bool) → (a && b) ≡ true → b ≡ true
and_right true b h = h
and_right false b h = absurd (let t : false ≡ true = h in cc)
