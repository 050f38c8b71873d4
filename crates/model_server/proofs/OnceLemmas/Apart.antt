-- Lists in which no item is twice.
use Rattle.std.proofs.Common.{◌≡◌, inl, inr, refl, sym, ap, subst, ◌∙◌, ℕ, zero, suc}
use Rattle.std.proofs.Common.{Bool, true, false, List, [], ◌∷◌, ◌++◌, map, filter, Option, Some, None}
use Rattle.std.proofs.Common.{if◌then◌else◌}
use Rattle.std.specs.Str.{bytes_eq}
use Rattle.std.proofs.lemmas.Slice.Eq.{bytes_eq-Decides}
use Rattle.model_server.specs.Group.Worker.{Id, Entry, Delivered, Verdict, done, left_pending, stop, follows, handled_one}
use Rattle.model_server.specs.Group.Worker.{acks_one, handled_in, acks_in}
use Rattle.model_server.specs.Group.Group.{listed, ids_of, given, whole, as_it_is}
use Rattle.model_server.specs.Group.Law.{Among}
use Rattle.model_server.proofs.GroupLemmas.Among.{among_left, among_right, among_split, among_map, among_of_map}
use Rattle.model_server.proofs.GroupLemmas.Among.{among_filtered}
use Rattle.model_server.specs.Once.Law.{Once}

pub once_left : (xs ys : List Id) → Once (xs ++ ys) → Once xs
once_left [] ys h = tt
once_left (x ∷ xs) ys h = (λ a. h.0 (among_left x xs ys a), once_left xs ys h.1)

pub once_right : (xs ys : List Id) → Once (xs ++ ys) → Once ys
once_right [] ys h = h
once_right (x ∷ xs) ys h = once_right xs ys h.1

pub once_apart : (xs ys : List Id) (id : Id) → Once (xs ++ ys) → Among id xs → Among id ys → ⊥
once_apart [] ys id h a b = a
once_apart (x ∷ xs) ys id h (inl e) b =
    let P : Id → Type 0 = λ i. Among i (xs ++ ys) → ⊥ in (subst P e h.0) (among_right id xs ys b)
once_apart (x ∷ xs) ys id h (inr a) b = once_apart xs ys id h.1 a b

pub once_both : (xs ys : List Id) → Once xs → Once ys → ((id : Id) → Among id xs → Among id ys → ⊥) → Once (xs ++ ys)
once_both [] ys h k d = k
once_both (x ∷ xs) ys h k d = (
  λ a. elim (among_split x xs ys a) [ inl b ↦ h.0 b | inr b ↦ d x (inl refl) b ],
  once_both xs ys h.1 k (λ id a b. d id (inr a) b),
)

pub among_listed : (ids : List Id) (id : Id) → Among id ids → listed ids id ≡ true
among_listed [] id h = absurd h
among_listed (x ∷ xs) id h =
    let case : (b : Bool) → bytes_eq x id ≡ b → (if b then true else listed xs id) ≡ true
    = λ b. elim b as (λ v. bytes_eq x id ≡ v → (if v then true else listed xs id) ≡ true) [
      | true ↦ λ q. refl
      | false ↦ λ q. elim h [
        | inl e ↦ absurd (let t : bytes_eq x id ≡ true = (bytes_eq-Decides x id).1 e in
            let u : false ≡ true = sym q ∙ t in cc)
        | inr r ↦ among_listed xs id r
      ]
    ] in
    case (bytes_eq x id) refl

module _ {F : Type 0} where
  pub ids_both : (xs ys : List (Entry F)) → ids_of (xs ++ ys) ≡ ids_of xs ++ ids_of ys
  ids_both [] ys = refl
  ids_both (x ∷ xs) ys = ap (λ l. x.0 ∷ l) (ids_both xs ys)

  pub id_among : (e : Entry F) (es : List (Entry F)) → Among e es → Among e.0 (ids_of es)
  id_among e es h = among_map (λ (x : Entry F). x.0) e es h

  pub once_filter : (p : Entry F → Bool) (es : List (Entry F)) → Once (ids_of es) → Once (ids_of (filter p es))
  once_filter p [] h = tt
  once_filter p (x ∷ es) h =
      let fewer : (id : Id) → Among id (ids_of (filter p es)) → Among id (ids_of es)
      = λ id a. let s = among_of_map (λ (e : Entry F). e.0) id (filter p es) a in
      let Q : Id → Type 0 = λ i. Among i (ids_of es) in
      subst Q s.is (id_among s.x es (among_filtered p s.x es s.within)) in
      let case : (b : Bool) → Once (ids_of (if b then x ∷ filter p es else filter p es))
      = λ b. elim b as (λ b. Once (ids_of (if b then x ∷ filter p es else filter p es))) [
        | true ↦ (λ a. h.0 (fewer x.0 a), once_filter p es h.1)
        | false ↦ once_filter p es h.1
      ] in
      case (p x)

  pub given_within : (deleted : List Id) (n : ℕ) (es : List (Entry F)) (e : Entry F)
      → Among e (given deleted n es) → Among e es
  given_within deleted n [] e h = absurd h
  given_within deleted zero (x ∷ es) e h = absurd h
  given_within deleted (suc n) (x ∷ es) e h =
      let case : (b : Bool) → Among e (if b then given deleted (suc n) es else x ∷ given deleted n es)
      → Among e (x ∷ es)
      = λ b. elim b as (λ b. Among e (if b then given deleted (suc n) es else x ∷ given deleted n es)
      → Among e (x ∷ es)) [
        | true ↦ λ a. inr (given_within deleted (suc n) es e a)
        | false ↦ λ a. elim a [ inl q ↦ inl q | inr r ↦ inr (given_within deleted n es e r) ]
      ] in
      case (listed deleted x.0) h

  pub once_given : (deleted : List Id) (n : ℕ) (es : List (Entry F)) → Once (ids_of es)
      → Once (ids_of (given deleted n es))
  once_given deleted n [] h = tt
  once_given deleted zero (x ∷ es) h = tt
  once_given deleted (suc n) (x ∷ es) h =
      let fewer : (id : Id) → Among id (ids_of (given deleted n es)) → Among id (ids_of es)
      = λ id a. let s = among_of_map (λ (e : Entry F). e.0) id (given deleted n es) a in
      let Q : Id → Type 0 = λ i. Among i (ids_of es) in
      subst Q s.is (id_among s.x es (given_within deleted n es s.x s.within)) in
      let case : (b : Bool) → Once (ids_of (if b then given deleted (suc n) es else x ∷ given deleted n es))
      = λ b. elim b as (λ b. Once (ids_of (if b then given deleted (suc n) es else x ∷ given deleted n es))) [
        | true ↦ once_given deleted (suc n) es h.1
        | false ↦ (λ a. h.0 (fewer x.0 a), once_given deleted n es h.1)
      ] in
      case (listed deleted x.0)

  -- the ids of the delivered entries
  abbrev pub outs : List (Delivered F) → List Id
  outs ds = map (λ d. d.0) ds

  pub outs_whole : (es : List (Entry F)) → outs (map whole es) ≡ ids_of es
  outs_whole [] = refl
  outs_whole (x ∷ es) = ap (λ l. x.0 ∷ l) (outs_whole es)

  pub outs_as : (deleted : List Id) (es : List (Entry F)) → outs (map (as_it_is deleted) es) ≡ ids_of es
  outs_as deleted [] = refl
  outs_as deleted (x ∷ es) = ap (λ l. x.0 ∷ l) (outs_as deleted es)

  -- each handled entry was delivered with its fields
  one_from : (id : Id) (o : Option F) (v : Verdict) (x : Entry F) → Among x (handled_one id o v)
      → ◌≡◌ {A = Delivered F} (id, o) (x.0, Some x.1)
  one_from id None v x h = absurd h
  one_from id (Some f) done x (inl e) = ap (λ (y : Entry F). let d : Delivered F = (y.0, Some y.1) in d) e
  one_from id (Some f) done x (inr h) = absurd h
  one_from id (Some f) left_pending x h = absurd h
  one_from id (Some f) stop x h = absurd h

  pub handled_from : (ds : List (Delivered F)) (vs : List Verdict) (x : Entry F) → Among x (handled_in ds vs)
      → Among (x.0, Some x.1) ds
  handled_from [] vs x h = absurd h
  handled_from (d ∷ ds) [] x h = absurd h
  handled_from (d ∷ ds) (v ∷ vs) x h =
      let rest : (b : Bool) → Among x (if b then handled_in ds vs else []) → Among (x.0, Some x.1) ds
      = λ b. elim b as (λ b. Among x (if b then handled_in ds vs else []) → Among (x.0, Some x.1) ds)
      [ true ↦ λ a. handled_from ds vs x a | false ↦ λ a. absurd a ] in
      elim (among_split x (handled_one d.0 d.1 v) (if follows d.1 v then handled_in ds vs else []) h) [
        | inl a ↦ inl (one_from d.0 d.1 v x a)
        | inr a ↦ inr (rest (follows d.1 v) a)
      ]

  -- what is handled is to be acknowledged
  one_acks : (id : Id) (o : Option F) (v : Verdict) (x : Id) → Among x (ids_of (handled_one id o v))
      → Among x (acks_one id o v)
  one_acks id None v x h = absurd h
  one_acks id (Some f) done x h = h
  one_acks id (Some f) left_pending x h = absurd h
  one_acks id (Some f) stop x h = absurd h

  pub handled_acks : (ds : List (Delivered F)) (vs : List Verdict) (x : Id) → Among x (ids_of (handled_in ds vs))
      → Among x (acks_in ds vs)
  handled_acks [] vs x h = absurd h
  handled_acks (d ∷ ds) [] x h = absurd h
  handled_acks (d ∷ ds) (v ∷ vs) x h =
      let rest : (b : Bool) → Among x (ids_of (if b then handled_in ds vs else []))
      → Among x (if b then acks_in ds vs else [])
      = λ b. elim b as (λ b. Among x (ids_of (if b then handled_in ds vs else []))
      → Among x (if b then acks_in ds vs else []))
      [ true ↦ λ a. handled_acks ds vs x a | false ↦ λ a. absurd a ] in
      let more : List (Entry F) = if follows d.1 v then handled_in ds vs else [] in
      let P : List Id → Type 0 = λ l. Among x l in
      elim (among_split x (ids_of (handled_one d.0 d.1 v)) (ids_of more)
      (subst P (ids_both (handled_one d.0 d.1 v) more) h)) [
        | inl a ↦ among_left x (acks_one d.0 d.1 v) _ (one_acks d.0 d.1 v x a)
        | inr a ↦ among_right x (acks_one d.0 d.1 v) _ (rest (follows d.1 v) a)
      ]

  pub handled_out : (ds : List (Delivered F)) (vs : List Verdict) (x : Id) → Among x (ids_of (handled_in ds vs))
      → Among x (outs ds)
  handled_out ds vs x h =
      let s = among_of_map (λ (e : Entry F). e.0) x (handled_in ds vs) h in
      let P : Id → Type 0 = λ i. Among i (outs ds) in
      subst P s.is (among_map (λ (d : Delivered F). d.0) (s.x.0, Some s.x.1) ds (handled_from ds vs s.x s.within))

  once_one : (id : Id) (o : Option F) (v : Verdict) → Once (ids_of (handled_one id o v))
  once_one id None v = tt
  once_one id (Some f) done = (λ a. absurd a, tt)
  once_one id (Some f) left_pending = tt
  once_one id (Some f) stop = tt

  one_id : (id : Id) (o : Option F) (v : Verdict) (x : Id) → Among x (ids_of (handled_one id o v)) → id ≡ x
  one_id id None v x h = absurd h
  one_id id (Some f) done x (inl e) = e
  one_id id (Some f) done x (inr h) = absurd h
  one_id id (Some f) left_pending x h = absurd h
  one_id id (Some f) stop x h = absurd h

  pub once_handled : (ds : List (Delivered F)) (vs : List Verdict) → Once (outs ds) → Once (ids_of (handled_in ds vs))
  once_handled [] vs h = tt
  once_handled (d ∷ ds) [] h = tt
  once_handled (d ∷ ds) (v ∷ vs) h =
      let rest : (b : Bool) → Once (ids_of (if b then handled_in ds vs else []))
      = λ b. elim b as (λ b. Once (ids_of (if b then handled_in ds vs else [])))
      [ true ↦ once_handled ds vs h.1 | false ↦ tt ] in
      let out : (b : Bool) (x : Id) → Among x (ids_of (if b then handled_in ds vs else [])) → Among x (outs ds)
      = λ b. elim b as (λ b. (x : Id) → Among x (ids_of (if b then handled_in ds vs else [])) → Among x (outs ds))
      [ true ↦ λ x a. handled_out ds vs x a | false ↦ λ x a. absurd a ] in
      let more : List (Entry F) = if follows d.1 v then handled_in ds vs else [] in
      subst Once (sym (ids_both (handled_one d.0 d.1 v) more))
      (once_both (ids_of (handled_one d.0 d.1 v)) (ids_of more) (once_one d.0 d.1 v) (rest (follows d.1 v))
      (λ x a b. let P : Id → Type 0 = λ i. Among i (outs ds) → ⊥ in
      (subst P (one_id d.0 d.1 v x a) h.0) (out (follows d.1 v) x b)))
