-- What the parts of a round do to what is pending and not held.
use Rattle.std.proofs.Common.{◌≡◌, inl, inr, refl, sym, ap, subst, ◌∙◌, ℕ, zero, suc, ◌+◌, ◌-◌, ◌≤◌, arith, Bool, true}
use Rattle.std.proofs.Common.{false, not, ◌&&◌, List, [], ◌∷◌, ◌++◌, map, filter, length, Option, Some, None, if◌then◌else◌}
use Rattle.std.proofs.lemmas.Slice.Eq.{bytes_eq-Decides}
use Rattle.std.specs.Str.{bytes_eq}
use Rattle.model_server.specs.Group.Worker.{Id, Entry, Delivered, done, Ending, went_through, ending, acks_in, acks_one}
use Rattle.model_server.specs.Group.Worker.{follows, last_id}
use Rattle.model_server.specs.Group.Group.{Name, Pending, listed, ids_of, behind, whole}
use Rattle.model_server.specs.Group.Group.{as_it_is, own, raised, claimed, claimed_one, pending_after, pending_ids}
use Rattle.model_server.specs.Group.Law.{Among}
use Rattle.model_server.proofs.GroupLemmas.Among.{among_split}
use Rattle.model_server.proofs.GroupLemmas.Steps.{ids_append}
use Rattle.model_server.specs.Rounds.Rounds.{all_done}
use Rattle.model_server.proofs.RoundsLemmas.Lists.{AreDistinct, clash, not_true, listed_here, listed_more}

-- the two tests of what is listed in two lists
pub listed_both : (xs ys : List Id) (x : Id) → listed (xs ++ ys) x ≡ (if listed xs x then true else listed ys x)
listed_both [] ys x = refl
listed_both (y ∷ xs) ys x =
    let case : (b : Bool) → (if b then true else listed (xs ++ ys) x)
    ≡ (if (if b then true else listed xs x) then true else listed ys x)
    = λ b. elim b as (λ v. (if v then true else listed (xs ++ ys) x)
    ≡ (if (if v then true else listed xs x) then true else listed ys x))
    [ true ↦ refl | false ↦ listed_both xs ys x ] in
    case (bytes_eq y x)

pub none_more : (xs : List Id) → xs ++ [] ≡ xs
none_more [] = refl
none_more (x ∷ xs) = ap (λ l. x ∷ l) (none_more xs)

-- what is pending after an acknowledgement is what it did not name
pub listed_after : (ids : List Id) (ps : List Pending) (x : Id)
    → listed (pending_ids (pending_after ids ps)) x ≡ (if listed ids x then false else listed (pending_ids ps) x)
listed_after ids [] x =
    let case : (b : Bool) → false ≡ (if b then false else false)
    = λ b. elim b as (λ v. false ≡ (if v then false else false)) [ true ↦ refl | false ↦ refl ] in
    case (listed ids x)
listed_after ids (p ∷ ps) x =
    let old = listed_after ids ps x in
    let case : (gone here named : Bool) → listed ids p.id ≡ gone → bytes_eq p.id x ≡ here → listed ids x ≡ named
    → listed (pending_ids (if not gone then p ∷ pending_after ids ps else pending_after ids ps)) x
    ≡ (if named then false else (if here then true else listed (pending_ids ps) x))
    = λ gone here named. elim gone as (λ g. listed ids p.id ≡ g → bytes_eq p.id x ≡ here → listed ids x ≡ named
    → listed (pending_ids (if not g then p ∷ pending_after ids ps else pending_after ids ps)) x
    ≡ (if named then false else (if here then true else listed (pending_ids ps) x))) [
      | true ↦ elim here as (λ h. listed ids p.id ≡ true → bytes_eq p.id x ≡ h → listed ids x ≡ named
          → listed (pending_ids (pending_after ids ps)) x
          ≡ (if named then false else (if h then true else listed (pending_ids ps) x))) [
            | true ↦ λ g h k.
                let is : listed ids x ≡ true = ap (listed ids) (sym ((bytes_eq-Decides p.id x).0 h)) ∙ g in
                let yes : named ≡ true = sym k ∙ is in
                old ∙ (ap (λ v. if v then false else listed (pending_ids ps) x) is ∙ sym (ap (λ v. if v then false else true) yes))
            | false ↦ λ g h k. old ∙ ap (λ v. if v then false else listed (pending_ids ps) x) k
          ]
      | false ↦ elim here as (λ h. listed ids p.id ≡ false → bytes_eq p.id x ≡ h → listed ids x ≡ named
          → (if bytes_eq p.id x then true else listed (pending_ids (pending_after ids ps)) x)
          ≡ (if named then false else (if h then true else listed (pending_ids ps) x))) [
            | true ↦ λ g h k.
                let is : listed ids x ≡ false = ap (listed ids) (sym ((bytes_eq-Decides p.id x).0 h)) ∙ g in
                let no : named ≡ false = sym k ∙ is in
                ap (λ v. if v then true else listed (pending_ids (pending_after ids ps)) x) h
                ∙ sym (ap (λ v. if v then false else true) no)
            | false ↦ λ g h k.
                ap (λ v. if v then true else listed (pending_ids (pending_after ids ps)) x) h
                ∙ (old ∙ ap (λ v. if v then false else listed (pending_ids ps) x) k)
          ]
    ] in
    case (listed ids p.id) (bytes_eq p.id x) (listed ids x) refl refl refl

filters_swap : {A : Type 0} (p q : A → Bool) (xs : List A) → filter p (filter q xs) ≡ filter q (filter p xs)
filters_swap p q [] = refl
filters_swap p q (x ∷ xs) =
    let case : (a b : Bool) → p x ≡ a → q x ≡ b
    → filter p (if b then x ∷ filter q xs else filter q xs) ≡ filter q (if a then x ∷ filter p xs else filter p xs)
    = λ a b. elim a as (λ v. p x ≡ v → q x ≡ b
    → filter p (if b then x ∷ filter q xs else filter q xs) ≡ filter q (if v then x ∷ filter p xs else filter p xs)) [
      | true ↦ elim b as (λ w. p x ≡ true → q x ≡ w
          → filter p (if w then x ∷ filter q xs else filter q xs) ≡ filter q (x ∷ filter p xs)) [
            | true ↦ λ h k. ap (λ v. if v then x ∷ filter p (filter q xs) else filter p (filter q xs)) h
                ∙ (ap (λ l. x ∷ l) (filters_swap p q xs)
                ∙ sym (ap (λ v. if v then x ∷ filter q (filter p xs) else filter q (filter p xs)) k))
            | false ↦ λ h k. filters_swap p q xs
                ∙ sym (ap (λ v. if v then x ∷ filter q (filter p xs) else filter q (filter p xs)) k)
          ]
      | false ↦ elim b as (λ w. p x ≡ false → q x ≡ w
          → filter p (if w then x ∷ filter q xs else filter q xs) ≡ filter q (filter p xs)) [
            | true ↦ λ h k. ap (λ v. if v then x ∷ filter p (filter q xs) else filter p (filter q xs)) h
                ∙ filters_swap p q xs
            | false ↦ λ h k. filters_swap p q xs
          ]
    ] in
    case (p x) (q x) refl refl

pub mine_after : (name : Name) (ids : List Id) (ps : List Pending) (x : Id)
    → listed (own name (pending_after ids ps)) x ≡ (if listed ids x then false else listed (own name ps) x)
mine_after name ids ps x =
    ap (λ l. listed (pending_ids l) x)
    (filters_swap (λ p. bytes_eq p.consumer name) (λ p. not (listed ids p.id)) ps)
    ∙ listed_after ids (filter (λ p. bytes_eq p.consumer name) ps) x

-- what is pending for it is pending
pub mine_is_pending : (name : Name) (ps : List Pending) (x : Id) → listed (own name ps) x ≡ true
    → listed (pending_ids ps) x ≡ true
mine_is_pending name [] x h = h
mine_is_pending name (p ∷ ps) x h =
    let inner : (b : Bool) → (if b then true else listed (own name ps) x) ≡ true
    → (if b then true else listed (pending_ids ps) x) ≡ true
    = λ b. elim b as (λ v. (if v then true else listed (own name ps) x) ≡ true
    → (if v then true else listed (pending_ids ps) x) ≡ true)
    [ true ↦ λ k. refl | false ↦ λ k. mine_is_pending name ps x k ] in
    let case : (b : Bool)
    → listed (pending_ids (if b then p ∷ filter (λ q. bytes_eq q.consumer name) ps
    else filter (λ q. bytes_eq q.consumer name) ps)) x ≡ true → listed (pending_ids (p ∷ ps)) x ≡ true
    = λ b. elim b as (λ v.
    listed (pending_ids (if v then p ∷ filter (λ q. bytes_eq q.consumer name) ps
    else filter (λ q. bytes_eq q.consumer name) ps)) x ≡ true → listed (pending_ids (p ∷ ps)) x ≡ true) [
      | true ↦ λ k. inner (bytes_eq p.id x) k
      | false ↦ λ k. listed_more p.id x (pending_ids ps) (mine_is_pending name ps x k)
    ] in
    case (bytes_eq p.consumer name) h

-- handing out again changes neither an id nor a consumer
pub mine_raised : (pick : Id → Bool) (name : Name) (deleted : List Id) (ps : List Pending)
    → own name (raised pick name deleted ps) ≡ own name ps
mine_raised pick name deleted [] = refl
mine_raised pick name deleted (p ∷ ps) =
    let rest = filter (λ (q : Pending). bytes_eq q.consumer name) (raised pick name deleted ps) in
    let case : (b : Bool)
    → pending_ids (if bytes_eq (if b then record p { count = p.count + 1 } else p).consumer name
    then (if b then record p { count = p.count + 1 } else p) ∷ rest else rest)
    ≡ pending_ids (if bytes_eq p.consumer name then p ∷ rest else rest)
    = λ b. elim b as (λ v.
    pending_ids (if bytes_eq (if v then record p { count = p.count + 1 } else p).consumer name
    then (if v then record p { count = p.count + 1 } else p) ∷ rest else rest)
    ≡ pending_ids (if bytes_eq p.consumer name then p ∷ rest else rest)) [
      | true ↦ raised_here (bytes_eq p.consumer name) p rest
      | false ↦ refl
    ] in
    case (pick p.id && (bytes_eq p.consumer name && not (listed deleted p.id)))
    ∙ both (bytes_eq p.consumer name) p rest (filter (λ (q : Pending). bytes_eq q.consumer name) ps)
    (mine_raised pick name deleted ps)
  where
    raised_here : (b : Bool) (p : Pending) (rest : List Pending)
        → pending_ids (if b then record p { count = p.count + 1 } ∷ rest else rest)
        ≡ pending_ids (if b then p ∷ rest else rest)
    raised_here true p rest = refl
    raised_here false p rest = refl

    both : (b : Bool) (p : Pending) (rest more : List Pending) → pending_ids rest ≡ pending_ids more
        → pending_ids (if b then p ∷ rest else rest) ≡ pending_ids (if b then p ∷ more else more)
    both true p rest more h = ap (λ l. p.id ∷ l) h
    both false p rest more h = h

-- what a claim leaves pending of what it picks was not deleted
pub claimed_is_there : (more : ℕ) (pick : Id → Bool) (name : Name) (deleted : List Id) (ps : List Pending) (x : Id)
    → Among x (pending_ids (claimed more pick name deleted ps)) → pick x ≡ true → listed deleted x ≡ false
claimed_is_there more pick name deleted [] x h k = absurd h
claimed_is_there more pick name deleted (p ∷ ps) x h k =
    let P : List Id → Type 0 = λ l. Among x l in
    let one : (a b : Bool) → pick p.id ≡ a → listed deleted p.id ≡ b
    → Among x (pending_ids (if a
    then (if b then [] else record { id = p.id; consumer = name; count = p.count + more } ∷ []) else p ∷ []))
    → listed deleted x ≡ false
    = λ a b. elim a as (λ v. pick p.id ≡ v → listed deleted p.id ≡ b
    → Among x (pending_ids (if v
    then (if b then [] else record { id = p.id; consumer = name; count = p.count + more } ∷ []) else p ∷ []))
    → listed deleted x ≡ false) [
      | true ↦ elim b as (λ w. pick p.id ≡ true → listed deleted p.id ≡ w
          → Among x (pending_ids (if w then [] else record { id = p.id; consumer = name; count = p.count + more } ∷ []))
          → listed deleted x ≡ false) [
            | true ↦ λ u w z. absurd z
            | false ↦ λ u w z. elim z [ inl e ↦ (ap (listed deleted) (sym e) ∙ w) | inr y ↦ absurd y ]
          ]
      | false ↦ λ u w z. elim z [ inl e ↦ absurd (clash (pick x) k (ap pick (sym e) ∙ u)) | inr y ↦ absurd y ]
    ] in
    elim (among_split x (pending_ids (claimed_one more pick name deleted p))
    (pending_ids (claimed more pick name deleted ps))
    (subst P (ids_append (claimed_one more pick name deleted p) (claimed more pick name deleted ps)) h)) [
      | inl a ↦ one (pick p.id) (listed deleted p.id) refl refl a
      | inr a ↦ claimed_is_there more pick name deleted ps x a k
    ]

module _ {F : Type 0} where
  -- the ids of the delivered entries
  abbrev pub ids_in : List (Delivered F) → List Id
  ids_in ds = map (λ d. d.0) ds

  -- it goes through all of them
  pub all_through : (ds : List (Delivered F)) → ending ds (all_done ds) ≡ went_through
  all_through [] = refl
  all_through (d ∷ ds) = goes d.1 ∙ all_through ds
    where
      goes : (o : Option F) → (if follows o done then ending ds (all_done ds) else Ending.stopped)
          ≡ ending ds (all_done ds)
      goes None = refl
      goes (Some f) = refl

  -- and all are to be acknowledged
  pub all_acked : (ds : List (Delivered F)) → acks_in ds (all_done ds) ≡ ids_in ds
  all_acked [] = refl
  all_acked (d ∷ ds) = one d.0 d.1 ∙ ap (λ l. d.0 ∷ l) (all_acked ds)
    where
      one : (i : Id) (o : Option F) → acks_one i o done ++ (if follows o done then acks_in ds (all_done ds) else [])
          ≡ i ∷ acks_in ds (all_done ds)
      one i None = refl
      one i (Some f) = refl

  pub as_it_is_ids : (deleted : List Id) (es : List (Entry F)) → ids_in (map (as_it_is deleted) es) ≡ ids_of es
  as_it_is_ids deleted [] = refl
  as_it_is_ids deleted (e ∷ es) = ap (λ l. e.0 ∷ l) (as_it_is_ids deleted es)

  pub whole_same_ids : (es : List (Entry F)) → ids_in (map whole es) ≡ ids_of es
  whole_same_ids [] = refl
  whole_same_ids (e ∷ es) = ap (λ l. e.0 ∷ l) (whole_same_ids es)

  pub last_listed : (ds : List (Delivered F)) (i : Id) → listed (i ∷ ids_in ds) (last_id ds i) ≡ true
  last_listed [] i = listed_here i []
  last_listed (d ∷ ds) i = listed_more i (last_id ds d.0) (d.0 ∷ ids_in ds) (last_listed ds d.0)

  pub filtered_listed : (g : Id → Bool) (es : List (Entry F)) (x : Id) → listed (ids_of es) x ≡ true → g x ≡ true
      → listed (ids_of (filter (λ e. g e.0) es)) x ≡ true
  filtered_listed g [] x h k = h
  filtered_listed g (e ∷ es) x h k =
      let rest = filter (λ (z : Entry F). g z.0) es in
      let keeps : (b : Bool) → listed (ids_of rest) x ≡ true
      → listed (ids_of (if b then e ∷ rest else rest)) x ≡ true
      = λ b. elim b as (λ v. listed (ids_of rest) x ≡ true → listed (ids_of (if v then e ∷ rest else rest)) x ≡ true)
      [ true ↦ λ z. listed_more e.0 x (ids_of rest) z | false ↦ λ z. z ] in
      let case : (b : Bool) → bytes_eq e.0 x ≡ b → (if b then true else listed (ids_of es) x) ≡ true
      → listed (ids_of (if g e.0 then e ∷ rest else rest)) x ≡ true
      = λ b. elim b as (λ v. bytes_eq e.0 x ≡ v → (if v then true else listed (ids_of es) x) ≡ true
      → listed (ids_of (if g e.0 then e ∷ rest else rest)) x ≡ true) [
        | true ↦ λ q z.
            let is : e.0 ≡ x = (bytes_eq-Decides e.0 x).0 q in
            let yes : g e.0 ≡ true = ap g is ∙ k in
            ap (λ v. listed (ids_of (if v then e ∷ rest else rest)) x) yes
            ∙ ap (λ v. if v then true else listed (ids_of rest) x) q
        | false ↦ λ q z. keeps (g e.0) (filtered_listed g es x z k)
      ] in
      case (bytes_eq e.0 x) refl h

  pub listed_filtered : (g : Id → Bool) (es : List (Entry F)) (x : Id)
      → listed (ids_of (filter (λ e. g e.0) es)) x ≡ true → (g x ≡ true) × (listed (ids_of es) x ≡ true)
  listed_filtered g [] x h = absurd (clash false h refl)
  listed_filtered g (e ∷ es) x h =
      let rest = filter (λ (z : Entry F). g z.0) es in
      let more : (g x ≡ true) × (listed (ids_of es) x ≡ true) → (g x ≡ true) × (listed (ids_of (e ∷ es)) x ≡ true)
      = λ z. (z.0, listed_more e.0 x (ids_of es) z.1) in
      let inner : g e.0 ≡ true → (b : Bool) → bytes_eq e.0 x ≡ b
      → (if b then true else listed (ids_of rest) x) ≡ true → (g x ≡ true) × (listed (ids_of (e ∷ es)) x ≡ true)
      = λ y b. elim b as (λ v. bytes_eq e.0 x ≡ v
      → (if v then true else listed (ids_of rest) x) ≡ true → (g x ≡ true) × (listed (ids_of (e ∷ es)) x ≡ true)) [
        | true ↦ λ q z.
            let is : e.0 ≡ x = (bytes_eq-Decides e.0 x).0 q in
            (ap g (sym is) ∙ y, ap (λ v. if v then true else listed (ids_of es) x) q)
        | false ↦ λ q z. more (listed_filtered g es x z)
      ] in
      let case : (b : Bool) → g e.0 ≡ b → listed (ids_of (if b then e ∷ rest else rest)) x ≡ true
      → (g x ≡ true) × (listed (ids_of (e ∷ es)) x ≡ true)
      = λ b. elim b as (λ v. g e.0 ≡ v → listed (ids_of (if v then e ∷ rest else rest)) x ≡ true
      → (g x ≡ true) × (listed (ids_of (e ∷ es)) x ≡ true)) [
        | true ↦ λ q z. inner q (bytes_eq e.0 x) refl z
        | false ↦ λ q z. more (listed_filtered g es x z)
      ] in
      case (g e.0) refl h

  -- a read takes a page of what is undelivered
  pub page_read : (deleted : List Id) (n : ℕ) (es : List (Entry F)) → length (behind deleted n es) ≤ length es - n
  page_read deleted n [] = omega arith
  page_read deleted zero (e ∷ es) = omega arith
  page_read deleted (suc n) (e ∷ es) =
      let case : (b : Bool) → length (if b then behind deleted (suc n) es else behind deleted n es)
      ≤ length (e ∷ es) - suc n
      = λ b. elim b as (λ v. length (if v then behind deleted (suc n) es else behind deleted n es)
      ≤ length (e ∷ es) - suc n) [
        | true ↦ omega (arith, page_read deleted (suc n) es)
        | false ↦ omega (arith, page_read deleted n es)
      ] in
      case (listed deleted e.0)

  pub distinct_left : (es fs : List (Entry F)) → AreDistinct (es ++ fs) → AreDistinct es
  distinct_left [] fs d = tt
  distinct_left (e ∷ es) fs d = (
    not_true (listed (ids_of es) e.0) (λ h. clash (listed (ids_of (es ++ fs)) e.0) (listed_left es e.0 h) d.0),
    distinct_left es fs d.1,
  )
    where
      listed_left : (gs : List (Entry F)) (x : Id) → listed (ids_of gs) x ≡ true → listed (ids_of (gs ++ fs)) x ≡ true
      listed_left [] x h = absurd (clash false h refl)
      listed_left (g ∷ gs) x h =
          let case : (b : Bool) → (if b then true else listed (ids_of gs) x) ≡ true
          → (if b then true else listed (ids_of (gs ++ fs)) x) ≡ true
          = λ b. elim b as (λ v. (if v then true else listed (ids_of gs) x) ≡ true
          → (if v then true else listed (ids_of (gs ++ fs)) x) ≡ true)
          [ true ↦ λ z. refl | false ↦ λ z. listed_left gs x z ] in
          case (bytes_eq g.0 x) h

  pub listed_right : (es fs : List (Entry F)) (x : Id) → listed (ids_of fs) x ≡ true
      → listed (ids_of (es ++ fs)) x ≡ true
  listed_right [] fs x h = h
  listed_right (e ∷ es) fs x h = listed_more e.0 x (ids_of (es ++ fs)) (listed_right es fs x h)

  -- what is undelivered has none of the ids before it
  pub not_before : (es fs : List (Entry F)) → AreDistinct (es ++ fs) → (x : Id) → listed (ids_of fs) x ≡ true
      → listed (ids_of es) x ≡ true → ⊥
  not_before [] fs d x h k = clash false k refl
  not_before (e ∷ es) fs d x h k =
      let case : (b : Bool) → bytes_eq e.0 x ≡ b → (if b then true else listed (ids_of es) x) ≡ true → ⊥
      = λ b. elim b as (λ v. bytes_eq e.0 x ≡ v → (if v then true else listed (ids_of es) x) ≡ true → ⊥) [
        | true ↦ λ q z.
            let is : e.0 ≡ x = (bytes_eq-Decides e.0 x).0 q in
            clash (listed (ids_of (es ++ fs)) e.0)
            (ap (listed (ids_of (es ++ fs))) is ∙ listed_right es fs x h) d.0
        | false ↦ λ q z. not_before es fs d.1 x h z
      ] in
      case (bytes_eq e.0 x) refl k
