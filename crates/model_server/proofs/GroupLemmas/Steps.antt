-- What reads and claims give, pass by and leave pending.
use Rattle.std.proofs.Common.{◌≡◌, ◌⊎◌, inl, inr, refl, ap, ◌∙◌, subst, ℕ, ◌+◌, zero, suc, Bool, true, false, not, ◌&&◌}
use Rattle.std.proofs.Common.{List, [], ◌∷◌, ◌++◌, Option, Some, None, if◌then◌else◌}
use Rattle.model_server.specs.Group.Worker.{Id, Entry, Delivered, Verdict, done, left_pending, stop, follows, handled_one}
use Rattle.model_server.specs.Group.Worker.{acks_one, handled_in, acks_in}
use Rattle.std.specs.Str.{bytes_eq}
use Rattle.model_server.specs.Group.Group.{Name, Pending, raised, listed, given, passed, claimed, claimed_one}
use Rattle.model_server.specs.Group.Group.{pending_ids, pending_after}
use Rattle.model_server.specs.Group.Law.{Among}
use Rattle.model_server.proofs.GroupLemmas.Among.{among_left, among_right, among_split, listed_among}

-- what is passed by is given, or was deleted
pub passed_given : {F : Type 0} (deleted : List Id) (n : ℕ) (es : List (Entry F)) (e : Entry F)
    → Among e (passed deleted n es) → Among e (given deleted n es) ⊎ Among e.0 deleted
passed_given deleted n [] e h = absurd h
passed_given deleted zero (x ∷ es) e h = absurd h
passed_given {F} deleted (suc n) (x ∷ es) e h =
    let case : (b : Bool) → listed deleted x.0 ≡ b
    → Among e (x ∷ (if b then passed deleted (suc n) es else passed deleted n es))
    → Among e (if b then given deleted (suc n) es else x ∷ given deleted n es) ⊎ Among e.0 deleted
    = λ b. elim b as (λ v. listed deleted x.0 ≡ v
    → Among e (x ∷ (if v then passed deleted (suc n) es else passed deleted n es))
    → Among e (if v then given deleted (suc n) es else x ∷ given deleted n es) ⊎ Among e.0 deleted) [
      | true ↦ λ q k. elim k [
        | inl p ↦ inr (let P : Entry F → Type 0 = λ y. Among y.0 deleted in subst P p (listed_among deleted x.0 q))
        | inr r ↦ passed_given deleted (suc n) es e r
      ]
      | false ↦ λ q k. elim k [
        | inl p ↦ inl (inl p)
        | inr r ↦ elim (passed_given deleted n es e r) [ inl g ↦ inl (inr g) | inr d ↦ inr d ]
      ]
    ]
    in case (listed deleted x.0) refl h

-- what is given is passed by
pub given_passed : {F : Type 0} (deleted : List Id) (n : ℕ) (es : List (Entry F)) (e : Entry F)
    → Among e (given deleted n es) → Among e (passed deleted n es)
given_passed deleted n [] e h = absurd h
given_passed deleted zero (x ∷ es) e h = absurd h
given_passed deleted (suc n) (x ∷ es) e h =
    let case : (b : Bool)
    → Among e (if b then given deleted (suc n) es else x ∷ given deleted n es)
    → Among e (x ∷ (if b then passed deleted (suc n) es else passed deleted n es))
    = λ b. elim b as (λ v.
    Among e (if v then given deleted (suc n) es else x ∷ given deleted n es)
    → Among e (x ∷ (if v then passed deleted (suc n) es else passed deleted n es))) [
      | true ↦ λ k. inr (given_passed deleted (suc n) es e k)
      | false ↦ λ k. elim k [ inl p ↦ inl p | inr r ↦ inr (given_passed deleted n es e r) ]
    ]
    in case (listed deleted x.0) h

-- of one pending entry a claim leaves its id, or it was deleted
pub claimed_one_keeps : (more : ℕ) (pick : Id → Bool) (consumer : Name) (deleted : List Id) (p : Pending)
    → Among p.id (pending_ids (claimed_one more pick consumer deleted p)) ⊎ Among p.id deleted
claimed_one_keeps more pick consumer deleted p =
    let inner : (b : Bool) → listed deleted p.id ≡ b
    → Among p.id
    (pending_ids (if b then [] else record { id = p.id; consumer = consumer; count = p.count + more } ∷ []))
    ⊎ Among p.id deleted
    = λ b. elim b as (λ v. listed deleted p.id ≡ v
    → Among p.id
    (pending_ids (if v then [] else record { id = p.id; consumer = consumer; count = p.count + more } ∷ []))
    ⊎ Among p.id deleted) [
      | true ↦ λ q. inr (listed_among deleted p.id q)
      | false ↦ λ q. inl (inl refl)
    ]
    in
    let outer : (b : Bool)
    → Among p.id
    (pending_ids
    (if b
    then (if listed deleted p.id then [] else record { id = p.id; consumer = consumer; count = p.count + more }
    ∷ []) else p ∷ [])) ⊎ Among p.id deleted
    = λ b. elim b as
    (λ v. Among p.id
    (pending_ids
    (if v
    then (if listed deleted p.id then [] else record { id = p.id; consumer = consumer; count = p.count + more }
    ∷ []) else p ∷ [])) ⊎ Among p.id deleted) [
      | true ↦ inner (listed deleted p.id) refl
      | false ↦ inl (inl refl)
    ]
    in outer (pick p.id)

-- handing out again changes no id
pub raised_ids : (pick : Id → Bool) (consumer : Name) (deleted : List Id) (ps : List Pending)
    → pending_ids (raised pick consumer deleted ps) ≡ pending_ids ps
raised_ids pick consumer deleted [] = refl
raised_ids pick consumer deleted (p ∷ ps) =
    let case : (b : Bool) → (if b then record p { count = p.count + 1 } else p).id ≡ p.id
    = λ b. elim b as (λ v. (if v then record p { count = p.count + 1 } else p).id ≡ p.id)
    [ true ↦ refl | false ↦ refl ] in
    ap (λ i. i ∷ pending_ids (raised pick consumer deleted ps))
    (case (pick p.id && (bytes_eq p.consumer consumer && not (listed deleted p.id))))
    ∙ ap (λ ids. p.id ∷ ids) (raised_ids pick consumer deleted ps)

pub ids_append : (ps qs : List Pending) → pending_ids (ps ++ qs) ≡ pending_ids ps ++ pending_ids qs
ids_append [] qs = refl
ids_append (p ∷ ps) qs = ap (λ ids. p.id ∷ ids) (ids_append ps qs)

pub claimed_keeps : (more : ℕ) (pick : Id → Bool) (consumer : Name) (deleted : List Id) (ps : List Pending) (id : Id)
    → Among id (pending_ids ps) → Among id (pending_ids (claimed more pick consumer deleted ps)) ⊎ Among id deleted
claimed_keeps more pick consumer deleted [] id h = absurd h
claimed_keeps more pick consumer deleted (p ∷ ps) id (inl e) =
    let P : Id → Type 0 =
    λ i. Among i (pending_ids (claimed_one more pick consumer deleted p ++ claimed more pick consumer deleted ps))
    ⊎ Among i deleted in
    subst P e (elim (claimed_one_keeps more pick consumer deleted p) [
      | inl a ↦ inl (rw (ids_append (claimed_one more pick consumer deleted p) (claimed more pick consumer deleted ps))
          (among_left p.id _ _ a))
      | inr d ↦ inr d
    ])
claimed_keeps more pick consumer deleted (p ∷ ps) id (inr h) =
    elim (claimed_keeps more pick consumer deleted ps id h) [
      | inl a ↦ inl (rw (ids_append (claimed_one more pick consumer deleted p) (claimed more pick consumer deleted ps))
          (among_right id (pending_ids (claimed_one more pick consumer deleted p)) _ a))
      | inr d ↦ inr d
    ]

-- an acknowledgement takes away what it names, and nothing else
pub acknowledged_keeps : (ids : List Id) (ps : List Pending) (id : Id)
    → Among id (pending_ids ps) → Among id (pending_ids (pending_after ids ps)) ⊎ Among id ids
acknowledged_keeps ids [] id h = absurd h
acknowledged_keeps ids (p ∷ ps) id h =
    let case : (b : Bool) → listed ids p.id ≡ b → Among id (p.id ∷ pending_ids ps)
    → Among id (pending_ids (if not b then p ∷ pending_after ids ps else pending_after ids ps)) ⊎ Among id ids
    = λ b. elim b as (λ v. listed ids p.id ≡ v → Among id (p.id ∷ pending_ids ps)
    → Among id (pending_ids (if not v then p ∷ pending_after ids ps else pending_after ids ps)) ⊎ Among id ids) [
      | true ↦ λ q k. elim k [
        | inl e ↦ inr (let P : Id → Type 0 = λ i. Among i ids in subst P e (listed_among ids p.id q))
        | inr r ↦ acknowledged_keeps ids ps id r
      ]
      | false ↦ λ q k. elim k [
        | inl e ↦ inl (inl e)
        | inr r ↦ elim (acknowledged_keeps ids ps id r) [ inl a ↦ inl (inr a) | inr d ↦ inr d ]
      ]
    ]
    in case (listed ids p.id) refl h

module _ {F : Type 0} (deleted : List Id) (seen : List (Entry F)) where
  -- a delivered entry is in the log, or was deleted
  abbrev pub IsTrueOf : Id → Option F → Type 0
  IsTrueOf id None = Among id deleted
  IsTrueOf id (Some fields) = Among (id, fields) seen

  -- what is acknowledged of one was handled, or it was deleted
  pub one_acked : (id : Id) (o : Option F) (v : Verdict) (x : Id) → IsTrueOf id o → Among x (acks_one id o v)
      → ((fields : F) × Among (x, fields) (handled_one id o v)) ⊎ Among x deleted
  one_acked id None v x t (inl e) = inr (let P : Id → Type 0 = λ i. Among i deleted in subst P e t)
  one_acked id None v x t (inr h) = absurd h
  one_acked id (Some fields) done x t (inl e) = inl (fields, inl (ap (λ i. (i, fields)) e))
  one_acked id (Some fields) done x t (inr h) = absurd h
  one_acked id (Some fields) left_pending x t h = absurd h
  one_acked id (Some fields) stop x t h = absurd h

  -- what is handled of one is of the log
  pub one_handled : (id : Id) (o : Option F) (v : Verdict) (x : Entry F) → IsTrueOf id o → Among x (handled_one id o v)
      → Among x seen
  one_handled id None v x t h = absurd h
  one_handled id (Some fields) done x t (inl e) = let P : Entry F → Type 0 = λ i. Among i seen in subst P e t
  one_handled id (Some fields) done x t (inr h) = absurd h
  one_handled id (Some fields) left_pending x t h = absurd h
  one_handled id (Some fields) stop x t h = absurd h

  pub acked : (es : List (Delivered F)) (vs : List Verdict) (x : Id)
      → ((d : Delivered F) → Among d es → IsTrueOf d.0 d.1)
      → Among x (acks_in es vs) → ((fields : F) × Among (x, fields) (handled_in es vs)) ⊎ Among x deleted
  acked [] vs x t h = absurd h
  acked (e ∷ es) [] x t h = absurd h
  acked (e ∷ es) (v ∷ vs) x t h =
      let rest : (b : Bool) → Among x (if b then acks_in es vs else [])
      → ((fields : F) × Among (x, fields) (if b then handled_in es vs else [])) ⊎ Among x deleted
      = λ b. elim b as (λ c. Among x (if c then acks_in es vs else [])
      → ((fields : F) × Among (x, fields) (if c then handled_in es vs else [])) ⊎ Among x deleted)
      [ true ↦ λ a. acked es vs x (λ d k. t d (inr k)) a | false ↦ λ a. absurd a ] in
      elim (among_split x (acks_one e.0 e.1 v) (if follows e.1 v then acks_in es vs else []) h) [
        | inl a ↦ elim (one_acked e.0 e.1 v x (t e (inl refl)) a)
            [ inl b ↦ inl (b.0, among_left (x, b.0) _ _ b.1) | inr d ↦ inr d ]
        | inr a ↦ elim (rest (follows e.1 v) a)
            [ inl b ↦ inl (b.0, among_right (x, b.0) (handled_one e.0 e.1 v) _ b.1) | inr d ↦ inr d ]
      ]

  pub handled_seen : (es : List (Delivered F)) (vs : List Verdict) (x : Entry F)
      → ((d : Delivered F) → Among d es → IsTrueOf d.0 d.1)
      → Among x (handled_in es vs) → Among x seen
  handled_seen [] vs x t h = absurd h
  handled_seen (e ∷ es) [] x t h = absurd h
  handled_seen (e ∷ es) (v ∷ vs) x t h =
      let rest : (b : Bool) → Among x (if b then handled_in es vs else []) → Among x seen
      = λ b. elim b as (λ c. Among x (if c then handled_in es vs else []) → Among x seen)
      [ true ↦ λ a. handled_seen es vs x (λ d k. t d (inr k)) a | false ↦ λ a. absurd a ] in
      elim (among_split x (handled_one e.0 e.1 v) (if follows e.1 v then handled_in es vs else []) h) [
        | inl a ↦ one_handled e.0 e.1 v x (t e (inl refl)) a
        | inr a ↦ rest (follows e.1 v) a
      ]
