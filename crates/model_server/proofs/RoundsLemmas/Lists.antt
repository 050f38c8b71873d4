-- Entries of a list that are meant, pages of them, and what is left.
use Rattle.std.proofs.Common.{◌≡◌, ◌⊎◌, inl, inr, refl, sym, ap, subst, ◌∙◌, ℕ, zero, suc, ◌+◌, ◌-◌, ◌≤◌, arith, Bool, true}
use Rattle.std.proofs.Common.{false, List, [], ◌∷◌, ◌++◌, if◌then◌else◌}
use Rattle.std.proofs.lemmas.Slice.Eq.{bytes_eq-Decides}
use Rattle.std.specs.Str.{bytes_eq}
use Rattle.model_server.specs.Group.Worker.{Id, Entry}
use Rattle.model_server.specs.Group.Group.{listed, ids_of}
use Rattle.model_server.specs.Group.Law.{Among}
use Rattle.model_server.specs.Rounds.Page.{from_id, behind_id, first_of, beyond, how_many}

pub not_true : (b : Bool) → (b ≡ true → ⊥) → b ≡ false
not_true true h = absurd (h refl)
not_true false h = refl

pub clash : (b : Bool) → b ≡ true → b ≡ false → ⊥
clash b h k = let t : true ≡ false = sym h ∙ k in cc

pub same_id : (x : Id) → bytes_eq x x ≡ true
same_id x = (bytes_eq-Decides x x).1 refl

pub listed_here : (x : Id) (xs : List Id) → listed (x ∷ xs) x ≡ true
listed_here x xs = ap (λ b. if b then true else listed xs x) (same_id x)

pub listed_more : (y x : Id) (xs : List Id) → listed xs x ≡ true → listed (y ∷ xs) x ≡ true
listed_more y x xs h =
    let case : (b : Bool) → (if b then true else listed xs x) ≡ true
    = λ b. elim b as (λ v. (if v then true else listed xs x) ≡ true) [ true ↦ refl | false ↦ h ] in
    case (bytes_eq y x)

pub among_listed : (x : Id) (xs : List Id) → Among x xs → listed xs x ≡ true
among_listed x [] h = absurd h
among_listed x (y ∷ xs) (inl e) = let P : Id → Type 0 = λ z. listed (y ∷ xs) z ≡ true in subst P e (listed_here y xs)
among_listed x (y ∷ xs) (inr h) = listed_more y x xs (among_listed x xs h)

plus_both : (a b : Bool) (m k : ℕ) → (a ≡ true → b ≡ true) → m ≤ k
    → (if a then 1 + m else m) ≤ (if b then 1 + k else k)
plus_both true true m k h l = omega (arith, l)
plus_both true false m k h l = absurd (clash false (h refl) refl)
plus_both false true m k h l = omega (arith, l)
plus_both false false m k h l = l

pub plus_none : (a : Bool) (m : ℕ) → a ≡ false → (if a then 1 + m else m) ≡ m
plus_none true m h = absurd (clash true refl h)
plus_none false m h = refl

pub plus_one : (a : Bool) (m : ℕ) → a ≡ true → (if a then 1 + m else m) ≡ 1 + m
plus_one true m h = refl
plus_one false m h = absurd (clash false h refl)

plus_more : (a : Bool) (m : ℕ) → m ≤ (if a then 1 + m else m)
plus_more true m = omega arith
plus_more false m = omega arith

module _ {F : Type 0} where
  pub count_less : (p q : Id → Bool) (es : List (Entry F)) → ((x : Id) → p x ≡ true → q x ≡ true)
      → how_many p es ≤ how_many q es
  count_less p q [] h = omega arith
  count_less p q (e ∷ es) h =
      plus_both (p e.0) (q e.0) (how_many p es) (how_many q es) (h e.0) (count_less p q es h)

  pub count_append : (p : Id → Bool) (es fs : List (Entry F)) → how_many p (es ++ fs) ≡ how_many p es + how_many p fs
  count_append p [] fs = omega arith
  count_append p (e ∷ es) fs =
      let case : (b : Bool) → (if b then 1 + how_many p (es ++ fs) else how_many p (es ++ fs))
      ≡ (if b then 1 + how_many p es else how_many p es) + how_many p fs
      = λ b. elim b as (λ v. (if v then 1 + how_many p (es ++ fs) else how_many p (es ++ fs))
      ≡ (if v then 1 + how_many p es else how_many p es) + how_many p fs) [
        | true ↦ omega (arith, count_append p es fs)
        | false ↦ count_append p es fs
      ] in
      case (p e.0)

  pub count_some : (p : Id → Bool) (es : List (Entry F)) (x : Id) → listed (ids_of es) x ≡ true → p x ≡ true
      → 1 ≤ how_many p es
  count_some p [] x h k = absurd (clash false h refl)
  count_some p (e ∷ es) x h k =
      let case : (b : Bool) → bytes_eq e.0 x ≡ b → (if b then true else listed (ids_of es) x) ≡ true
      → 1 ≤ how_many p (e ∷ es)
      = λ b. elim b as (λ v. bytes_eq e.0 x ≡ v → (if v then true else listed (ids_of es) x) ≡ true
      → 1 ≤ how_many p (e ∷ es)) [
        | true ↦ λ q z. omega (arith, plus_one (p e.0) (how_many p es) (ap p ((bytes_eq-Decides e.0 x).0 q) ∙ k))
        | false ↦ λ q z. omega (arith, count_some p es x z k, plus_more (p e.0) (how_many p es))
      ] in
      case (bytes_eq e.0 x) refl h

  pub count_none : (p : Id → Bool) (es : List (Entry F)) → how_many p es ≡ 0 → (x : Id)
      → listed (ids_of es) x ≡ true → p x ≡ false
  count_none p es z x h = not_true (p x) (λ k. absurd (omega (arith, count_some p es x h k, z)))

  pub none_counted : (p : Id → Bool) (es : List (Entry F)) → ((x : Id) → listed (ids_of es) x ≡ true → p x ≡ false)
      → how_many p es ≡ 0
  none_counted p [] h = refl
  none_counted p (e ∷ es) h =
      plus_none (p e.0) (how_many p es) (h e.0 (listed_here e.0 (ids_of es)))
      ∙ none_counted p es (λ x k. h x (listed_more e.0 x (ids_of es) k))

  -- what is on a page is meant, and one of the entries
  pub page_meant : (n : ℕ) (p : Id → Bool) (es : List (Entry F)) (x : Id) → listed (ids_of (first_of n p es)) x ≡ true
      → p x ≡ true
  page_meant n p [] x h = absurd (clash false h refl)
  page_meant zero p (e ∷ es) x h = absurd (clash false h refl)
  page_meant (suc n) p (e ∷ es) x h =
      let here : p e.0 ≡ true → (b : Bool) → bytes_eq e.0 x ≡ b
      → (if b then true else listed (ids_of (first_of n p es)) x) ≡ true → p x ≡ true
      = λ y b. elim b as (λ v. bytes_eq e.0 x ≡ v
      → (if v then true else listed (ids_of (first_of n p es)) x) ≡ true → p x ≡ true) [
        | true ↦ λ q z. (ap p (sym ((bytes_eq-Decides e.0 x).0 q)) ∙ y)
        | false ↦ λ q z. page_meant n p es x z
      ] in
      let case : (b : Bool) → p e.0 ≡ b
      → listed (ids_of (if b then e ∷ first_of n p es else first_of (suc n) p es)) x ≡ true → p x ≡ true
      = λ b. elim b as (λ v. p e.0 ≡ v
      → listed (ids_of (if v then e ∷ first_of n p es else first_of (suc n) p es)) x ≡ true → p x ≡ true) [
        | true ↦ λ q z. here q (bytes_eq e.0 x) refl z
        | false ↦ λ q z. page_meant (suc n) p es x z
      ] in
      case (p e.0) refl h

  pub page_within : (n : ℕ) (p : Id → Bool) (es : List (Entry F)) (x : Id) → listed (ids_of (first_of n p es)) x ≡ true
      → listed (ids_of es) x ≡ true
  page_within n p [] x h = absurd (clash false h refl)
  page_within zero p (e ∷ es) x h = absurd (clash false h refl)
  page_within (suc n) p (e ∷ es) x h =
      let here : (b : Bool) → bytes_eq e.0 x ≡ b
      → (if b then true else listed (ids_of (first_of n p es)) x) ≡ true
      → (if b then true else listed (ids_of es) x) ≡ true
      = λ b. elim b as (λ v. bytes_eq e.0 x ≡ v
      → (if v then true else listed (ids_of (first_of n p es)) x) ≡ true
      → (if v then true else listed (ids_of es) x) ≡ true) [
        | true ↦ λ q z. refl
        | false ↦ λ q z. page_within n p es x z
      ] in
      let case : (b : Bool)
      → listed (ids_of (if b then e ∷ first_of n p es else first_of (suc n) p es)) x ≡ true
      → listed (ids_of (e ∷ es)) x ≡ true
      = λ b. elim b as (λ v.
      listed (ids_of (if v then e ∷ first_of n p es else first_of (suc n) p es)) x ≡ true
      → listed (ids_of (e ∷ es)) x ≡ true) [
        | true ↦ λ z. here (bytes_eq e.0 x) refl z
        | false ↦ λ z. listed_more e.0 x (ids_of es) (page_within (suc n) p es x z)
      ] in
      case (p e.0) h

  -- q means no more than p, and nothing that is on the page
  abbrev pub LeavesPage : ℕ → (Id → Bool) → (Id → Bool) → List (Entry F) → Type 0
  LeavesPage n p q es = (x : Id) → listed (ids_of (first_of n p es)) x ≡ true → q x ≡ false

  -- so at least a page less is meant
  pub page_taken : (n : ℕ) (p q : Id → Bool) (es : List (Entry F)) → ((x : Id) → q x ≡ true → p x ≡ true)
      → LeavesPage n p q es → how_many q es ≤ how_many p es - n
  page_taken n p q [] h k = omega arith
  page_taken zero p q (e ∷ es) h k = omega (arith, count_less q p (e ∷ es) h)
  page_taken (suc n) p q (e ∷ es) h k =
      let case : (b : Bool) → p e.0 ≡ b
      → ((x : Id) → listed (ids_of (if b then e ∷ first_of n p es else first_of (suc n) p es)) x ≡ true
      → q x ≡ false)
      → how_many q (e ∷ es) ≤ (if b then 1 + how_many p es else how_many p es) - suc n
      = λ b. elim b as (λ v. p e.0 ≡ v
      → ((x : Id) → listed (ids_of (if v then e ∷ first_of n p es else first_of (suc n) p es)) x ≡ true
      → q x ≡ false)
      → how_many q (e ∷ es) ≤ (if v then 1 + how_many p es else how_many p es) - suc n) [
        | true ↦ λ y z. omega (
          arith,
          plus_none (q e.0) (how_many q es) (z e.0 (listed_here e.0 (ids_of (first_of n p es)))),
          page_taken n p q es h (λ x w. z x (listed_more e.0 x (ids_of (first_of n p es)) w)),
        )
        | false ↦ λ y z. omega (
          arith,
          plus_none (q e.0) (how_many q es) (not_true (q e.0) (λ w. clash (p e.0) (h e.0 w) y)),
          page_taken (suc n) p q es h z,
        )
      ] in
      case (p e.0) refl k

  beyond_first : (p q : Id → Bool) (es : List (Entry F)) → ((x : Id) → q x ≡ true → p x ≡ true)
      → how_many q es ≤ how_many q (beyond zero p es)
  beyond_first p q [] h = omega arith
  beyond_first p q (e ∷ es) h =
      let case : (b : Bool) → p e.0 ≡ b → how_many q (e ∷ es) ≤ how_many q (if b then e ∷ es else beyond zero p es)
      = λ b. elim b as (λ v. p e.0 ≡ v → how_many q (e ∷ es) ≤ how_many q (if v then e ∷ es else beyond zero p es)) [
        | true ↦ λ y. omega arith
        | false ↦ λ y. omega (
          arith,
          plus_none (q e.0) (how_many q es) (not_true (q e.0) (λ w. clash (p e.0) (h e.0 w) y)),
          beyond_first p q es h,
        )
      ] in
      case (p e.0) refl

  -- and all that is meant is beyond the page
  pub all_beyond : (n : ℕ) (p q : Id → Bool) (es : List (Entry F)) → ((x : Id) → q x ≡ true → p x ≡ true)
      → LeavesPage n p q es → how_many q es ≤ how_many q (beyond n p es)
  all_beyond n p q [] h k = omega arith
  all_beyond zero p q (e ∷ es) h k = beyond_first p q (e ∷ es) h
  all_beyond (suc n) p q (e ∷ es) h k =
      let case : (b : Bool) → p e.0 ≡ b
      → ((x : Id) → listed (ids_of (if b then e ∷ first_of n p es else first_of (suc n) p es)) x ≡ true
      → q x ≡ false)
      → how_many q (e ∷ es) ≤ how_many q (if b then beyond n p es else beyond (suc n) p es)
      = λ b. elim b as (λ v. p e.0 ≡ v
      → ((x : Id) → listed (ids_of (if v then e ∷ first_of n p es else first_of (suc n) p es)) x ≡ true
      → q x ≡ false)
      → how_many q (e ∷ es) ≤ how_many q (if v then beyond n p es else beyond (suc n) p es)) [
        | true ↦ λ y z. omega (
          arith,
          plus_none (q e.0) (how_many q es) (z e.0 (listed_here e.0 (ids_of (first_of n p es)))),
          all_beyond n p q es h (λ x w. z x (listed_more e.0 x (ids_of (first_of n p es)) w)),
        )
        | false ↦ λ y z. omega (
          arith,
          plus_none (q e.0) (how_many q es) (not_true (q e.0) (λ w. clash (p e.0) (h e.0 w) y)),
          all_beyond (suc n) p q es h z,
        )
      ] in
      case (p e.0) refl k

  -- if there is one beyond a page, the page is full
  pub beyond_some : (n : ℕ) (p : Id → Bool) (es : List (Entry F)) (y : Entry F) (ys : List (Entry F))
      → beyond n p es ≡ y ∷ ys → n + 1 ≤ how_many p es
  beyond_some n p [] y ys h = absurd (let t : [] ≡ y ∷ ys = h in cc)
  beyond_some zero p (e ∷ es) y ys h =
      let case : (b : Bool) → (if b then e ∷ es else beyond zero p es) ≡ y ∷ ys
      → 0 + 1 ≤ (if b then 1 + how_many p es else how_many p es)
      = λ b. elim b as (λ v. (if v then e ∷ es else beyond zero p es) ≡ y ∷ ys
      → 0 + 1 ≤ (if v then 1 + how_many p es else how_many p es)) [
        | true ↦ λ z. omega arith
        | false ↦ λ z. beyond_some zero p es y ys z
      ] in
      case (p e.0) h
  beyond_some (suc n) p (e ∷ es) y ys h =
      let case : (b : Bool) → (if b then beyond n p es else beyond (suc n) p es) ≡ y ∷ ys
      → suc n + 1 ≤ (if b then 1 + how_many p es else how_many p es)
      = λ b. elim b as (λ v. (if v then beyond n p es else beyond (suc n) p es) ≡ y ∷ ys
      → suc n + 1 ≤ (if v then 1 + how_many p es else how_many p es)) [
        | true ↦ λ z. omega (arith, beyond_some n p es y ys z)
        | false ↦ λ z. beyond_some (suc n) p es y ys z
      ] in
      case (p e.0) h

  -- the one list is an end of the other
  abbrev pub IsEnd : List (Entry F) → List (Entry F) → Type 0
  IsEnd fs [] = fs ≡ []
  IsEnd fs (e ∷ es) = (fs ≡ e ∷ es) ⊎ IsEnd fs es

  pub end_same : (es : List (Entry F)) → IsEnd es es
  end_same [] = refl
  end_same (e ∷ es) = inl refl

  pub end_of_end : (gs fs es : List (Entry F)) → IsEnd gs fs → IsEnd fs es → IsEnd gs es
  end_of_end gs fs [] h k = let P : List (Entry F) → Type 0 = λ l. IsEnd gs l in subst P k h
  end_of_end gs fs (e ∷ es) h (inl k) = let P : List (Entry F) → Type 0 = λ l. IsEnd gs l in subst P k h
  end_of_end gs fs (e ∷ es) h (inr k) = inr (end_of_end gs fs es h k)

  pub end_count : (p : Id → Bool) (fs es : List (Entry F)) → IsEnd fs es → how_many p fs ≤ how_many p es
  end_count p fs [] h = let P : List (Entry F) → Type 0 = λ l. how_many p l ≤ 0 in subst P (sym h) (omega arith)
  end_count p fs (e ∷ es) (inl h) =
      let P : List (Entry F) → Type 0 = λ l. how_many p l ≤ how_many p (e ∷ es) in subst P (sym h) (omega arith)
  end_count p fs (e ∷ es) (inr h) = omega (arith, end_count p fs es h, plus_more (p e.0) (how_many p es))

  pub end_listed : (fs es : List (Entry F)) (x : Id) → IsEnd fs es → listed (ids_of fs) x ≡ true
      → listed (ids_of es) x ≡ true
  end_listed fs [] x h k = let P : List (Entry F) → Type 0 = λ l. listed (ids_of l) x ≡ true in subst P h k
  end_listed fs (e ∷ es) x (inl h) k = let P : List (Entry F) → Type 0 = λ l. listed (ids_of l) x ≡ true in subst P h k
  end_listed fs (e ∷ es) x (inr h) k = listed_more e.0 x (ids_of es) (end_listed fs es x h k)

  pub from_end : (id : Id) (es : List (Entry F)) → IsEnd (from_id id es) es
  from_end id [] = refl
  from_end id (e ∷ es) =
      let case : (b : Bool) → IsEnd (if b then from_id id es else e ∷ es) (e ∷ es)
      = λ b. elim b as (λ v. IsEnd (if v then from_id id es else e ∷ es) (e ∷ es))
      [ true ↦ inr (from_end id es) | false ↦ inl refl ] in
      case (listed (ids_of es) id)

  pub behind_end : (id : Id) (es : List (Entry F)) → IsEnd (behind_id id es) es
  behind_end id [] = refl
  behind_end id (e ∷ es) =
      let inner : (b : Bool) → IsEnd (if b then es else e ∷ es) (e ∷ es)
      = λ b. elim b as (λ v. IsEnd (if v then es else e ∷ es) (e ∷ es)) [ true ↦ inr (end_same es) | false ↦ inl refl ] in
      let case : (b : Bool) → IsEnd (if b then behind_id id es else (if bytes_eq e.0 id then es else e ∷ es)) (e ∷ es)
      = λ b. elim b as (λ v. IsEnd (if v then behind_id id es else (if bytes_eq e.0 id then es else e ∷ es)) (e ∷ es))
      [ true ↦ inr (behind_end id es) | false ↦ inner (bytes_eq e.0 id) ] in
      case (listed (ids_of es) id)

  pub beyond_end : (n : ℕ) (p : Id → Bool) (es : List (Entry F)) → IsEnd (beyond n p es) es
  beyond_end n p [] = refl
  beyond_end zero p (e ∷ es) =
      let case : (b : Bool) → IsEnd (if b then e ∷ es else beyond zero p es) (e ∷ es)
      = λ b. elim b as (λ v. IsEnd (if v then e ∷ es else beyond zero p es) (e ∷ es))
      [ true ↦ inl refl | false ↦ inr (beyond_end zero p es) ] in
      case (p e.0)
  beyond_end (suc n) p (e ∷ es) =
      let case : (b : Bool) → IsEnd (if b then beyond n p es else beyond (suc n) p es) (e ∷ es)
      = λ b. elim b as (λ v. IsEnd (if v then beyond n p es else beyond (suc n) p es) (e ∷ es))
      [ true ↦ inr (beyond_end n p es) | false ↦ inr (beyond_end (suc n) p es) ] in
      case (p e.0)

  -- no two have one id
  abbrev pub AreDistinct : List (Entry F) → Type 0
  AreDistinct [] = Unit {0}
  AreDistinct (e ∷ es) = (listed (ids_of es) e.0 ≡ false) × AreDistinct es

  pub from_there : (y : Entry F) (ys es : List (Entry F)) → AreDistinct es → IsEnd (y ∷ ys) es
      → from_id y.0 es ≡ y ∷ ys
  from_there y ys [] d h = absurd (let t : y ∷ ys ≡ [] = h in cc)
  from_there y ys (e ∷ es) d (inl h) =
      let first : y ≡ e = let t : y ∷ ys ≡ e ∷ es = h in cc in
      let case : (b : Bool) → b ≡ false → (if b then from_id y.0 es else e ∷ es) ≡ e ∷ es
      = λ b. elim b as (λ v. v ≡ false → (if v then from_id y.0 es else e ∷ es) ≡ e ∷ es)
      [ true ↦ λ q. absurd (clash true refl q) | false ↦ λ q. refl ] in
      case (listed (ids_of es) y.0) (ap (λ (z : Entry F). listed (ids_of es) z.0) first ∙ d.0) ∙ sym h
  from_there y ys (e ∷ es) d (inr h) =
      let case : (b : Bool) → b ≡ true → (if b then from_id y.0 es else e ∷ es) ≡ y ∷ ys
      = λ b. elim b as (λ v. v ≡ true → (if v then from_id y.0 es else e ∷ es) ≡ y ∷ ys)
      [ true ↦ λ q. from_there y ys es d.1 h | false ↦ λ q. absurd (clash false q refl) ] in
      case (listed (ids_of es) y.0) (end_listed (y ∷ ys) es y.0 h (listed_here y.0 (ids_of ys)))

  pub from_nowhere : (id : Id) (es : List (Entry F)) → listed (ids_of es) id ≡ false → from_id id es ≡ es
  from_nowhere id [] h = refl
  from_nowhere id (e ∷ es) h =
      let case : (b : Bool) → b ≡ false → (if b then from_id id es else e ∷ es) ≡ e ∷ es
      = λ b. elim b as (λ v. v ≡ false → (if v then from_id id es else e ∷ es) ≡ e ∷ es)
      [ true ↦ λ q. absurd (clash true refl q) | false ↦ λ q. refl ] in
      case (listed (ids_of es) id)
      (not_true (listed (ids_of es) id) (λ k. clash (listed (ids_of (e ∷ es)) id) (listed_more e.0 id (ids_of es) k) h))

  -- after one of those after an id there are no others
  pub behind_further : (id x : Id) (es : List (Entry F)) → listed (ids_of (behind_id id es)) x ≡ true
      → IsEnd (behind_id x es) (behind_id id es)
  behind_further id x [] h = refl
  behind_further id x (e ∷ es) h =
      let skips : listed (ids_of es) x ≡ true → behind_id x (e ∷ es) ≡ behind_id x es
      = λ k. ap (λ b. if b then behind_id x es else (if bytes_eq e.0 x then es else e ∷ es)) k in
      let P : List (Entry F) → List (Entry F) → Type 0 = λ a l. IsEnd a l in
      let inner : (b : Bool) → listed (ids_of (if b then es else e ∷ es)) x ≡ true
      → IsEnd (behind_id x (e ∷ es)) (if b then es else e ∷ es)
      = λ b. elim b as (λ v. listed (ids_of (if v then es else e ∷ es)) x ≡ true
      → IsEnd (behind_id x (e ∷ es)) (if v then es else e ∷ es)) [
        | true ↦ λ k. subst (λ (a : List (Entry F)). IsEnd a es) (sym (skips k)) (behind_end x es)
        | false ↦ λ k. behind_end x (e ∷ es)
      ] in
      let case : (b : Bool)
      → listed (ids_of (if b then behind_id id es else (if bytes_eq e.0 id then es else e ∷ es))) x ≡ true
      → IsEnd (behind_id x (e ∷ es)) (if b then behind_id id es else (if bytes_eq e.0 id then es else e ∷ es))
      = λ b. elim b as (λ v.
      listed (ids_of (if v then behind_id id es else (if bytes_eq e.0 id then es else e ∷ es))) x ≡ true
      → IsEnd (behind_id x (e ∷ es)) (if v then behind_id id es else (if bytes_eq e.0 id then es else e ∷ es))) [
        | true ↦ λ k. subst (λ (a : List (Entry F)). IsEnd a (behind_id id es))
            (sym (skips (end_listed (behind_id id es) es x (behind_end id es) k))) (behind_further id x es k)
        | false ↦ λ k. inner (bytes_eq e.0 id) k
      ] in
      case (listed (ids_of es) id) h

  -- if all that p means is in an end, so is all that q means
  pub stays_swept : (p q : Id → Bool) (fs es : List (Entry F)) → ((x : Id) → q x ≡ true → p x ≡ true) → IsEnd fs es
      → how_many p es ≤ how_many p fs → how_many q es ≤ how_many q fs
  stays_swept p q fs [] h k l = omega arith
  stays_swept p q fs (e ∷ es) h (inl k) l =
      let P : List (Entry F) → Type 0 = λ z. how_many q (e ∷ es) ≤ how_many q z in subst P (sym k) (omega arith)
  stays_swept p q fs (e ∷ es) h (inr k) l =
      let less = end_count p fs es k in
      let no : p e.0 ≡ false
      = not_true (p e.0) (λ y. absurd (omega (arith, plus_one (p e.0) (how_many p es) y, l, less))) in
      omega (
        arith,
        plus_none (q e.0) (how_many q es) (not_true (q e.0) (λ w. clash (p e.0) (h e.0 w) no)),
        stays_swept p q fs es h k (omega (arith, plus_none (p e.0) (how_many p es) no, l)),
      )

  pub end_among : (e : Entry F) (fs es : List (Entry F)) → IsEnd fs es → Among e fs → Among e es
  end_among e fs [] h k = let P : List (Entry F) → Type 0 = λ l. Among e l in subst P h k
  end_among e fs (x ∷ es) (inl h) k = let P : List (Entry F) → Type 0 = λ l. Among e l in subst P h k
  end_among e fs (x ∷ es) (inr h) k = inr (end_among e fs es h k)

  pub end_distinct : (fs es : List (Entry F)) → IsEnd fs es → AreDistinct es → AreDistinct fs
  end_distinct fs [] h d = let P : List (Entry F) → Type 0 = λ l. AreDistinct l in subst P (sym h) tt
  end_distinct fs (x ∷ es) (inl h) d = let P : List (Entry F) → Type 0 = λ l. AreDistinct l in subst P (sym h) d
  end_distinct fs (x ∷ es) (inr h) d = end_distinct fs es h d.1

  behind_skips : (x : Id) (e : Entry F) (es : List (Entry F)) → listed (ids_of es) x ≡ true
      → behind_id x (e ∷ es) ≡ behind_id x es
  behind_skips x e es k = ap (λ b. if b then behind_id x es else (if bytes_eq e.0 x then es else e ∷ es)) k

  pub behind_in_end : (x : Id) (fs es : List (Entry F)) → IsEnd fs es → listed (ids_of fs) x ≡ true
      → behind_id x es ≡ behind_id x fs
  behind_in_end x fs [] h k = ap (behind_id x) (sym h)
  behind_in_end x fs (e ∷ es) (inl h) k = ap (behind_id x) (sym h)
  behind_in_end x fs (e ∷ es) (inr h) k =
      behind_skips x e es (end_listed fs es x h k) ∙ behind_in_end x fs es h k

  -- what is beyond a page is after each entry on it
  pub beyond_behind : (n : ℕ) (p : Id → Bool) (es : List (Entry F)) (x : Id) → AreDistinct es
      → listed (ids_of (first_of n p es)) x ≡ true → IsEnd (beyond n p es) (behind_id x es)
  beyond_behind n p [] x d h = refl
  beyond_behind zero p (e ∷ es) x d h = absurd (clash false h refl)
  beyond_behind (suc n) p (e ∷ es) x d h =
      let onward : listed (ids_of es) x ≡ true → (fs : List (Entry F)) → IsEnd fs (behind_id x es)
      → IsEnd fs (behind_id x (e ∷ es))
      = λ k fs z. subst (λ (l : List (Entry F)). IsEnd fs l) (sym (behind_skips x e es k)) z in
      let first : bytes_eq e.0 x ≡ true → behind_id x (e ∷ es) ≡ es
      = λ q. let no : listed (ids_of es) x ≡ false = ap (listed (ids_of es)) (sym ((bytes_eq-Decides e.0 x).0 q)) ∙ d.0 in
      ap (λ b. if b then behind_id x es else (if bytes_eq e.0 x then es else e ∷ es)) no
      ∙ ap (λ b. if b then es else e ∷ es) q in
      let here : (b : Bool) → bytes_eq e.0 x ≡ b
      → (if b then true else listed (ids_of (first_of n p es)) x) ≡ true
      → IsEnd (beyond n p es) (behind_id x (e ∷ es))
      = λ b. elim b as (λ v. bytes_eq e.0 x ≡ v
      → (if v then true else listed (ids_of (first_of n p es)) x) ≡ true
      → IsEnd (beyond n p es) (behind_id x (e ∷ es))) [
        | true ↦ λ q z. subst (λ (l : List (Entry F)). IsEnd (beyond n p es) l) (sym (first q)) (beyond_end n p es)
        | false ↦ λ q z. onward (page_within n p es x z) (beyond n p es) (beyond_behind n p es x d.1 z)
      ] in
      let case : (b : Bool) → listed (ids_of (if b then e ∷ first_of n p es else first_of (suc n) p es)) x ≡ true
      → IsEnd (if b then beyond n p es else beyond (suc n) p es) (behind_id x (e ∷ es))
      = λ b. elim b as (λ v. listed (ids_of (if v then e ∷ first_of n p es else first_of (suc n) p es)) x ≡ true
      → IsEnd (if v then beyond n p es else beyond (suc n) p es) (behind_id x (e ∷ es))) [
        | true ↦ λ z. here (bytes_eq e.0 x) refl z
        | false ↦ λ z. onward (page_within (suc n) p es x z) (beyond (suc n) p es) (beyond_behind (suc n) p es x d.1 z)
      ] in
      case (p e.0) h

  beyond_starts : (p : Id → Bool) (es : List (Entry F)) (e : Entry F) → Among e es → p e.0 ≡ true
      → Among e (beyond zero p es)
  beyond_starts p [] e h k = absurd h
  beyond_starts p (x ∷ es) e h k =
      let case : (b : Bool) → p x.0 ≡ b → Among e (if b then x ∷ es else beyond zero p es)
      = λ b. elim b as (λ v. p x.0 ≡ v → Among e (if v then x ∷ es else beyond zero p es)) [
        | true ↦ λ q. h
        | false ↦ λ q. elim h [
          | inl i ↦ absurd (clash (p e.0) k (ap (λ (z : Entry F). p z.0) (sym i) ∙ q))
          | inr i ↦ beyond_starts p es e i k
        ]
      ] in
      case (p x.0) refl

  -- what is meant and not on the page is beyond it
  pub beyond_has : (n : ℕ) (p : Id → Bool) (es : List (Entry F)) (e : Entry F) → Among e es → p e.0 ≡ true
      → listed (ids_of (first_of n p es)) e.0 ≡ false → Among e (beyond n p es)
  beyond_has n p [] e h k l = absurd h
  beyond_has zero p (x ∷ es) e h k l = beyond_starts p (x ∷ es) e h k
  beyond_has (suc n) p (x ∷ es) e h k l =
      let case : (b : Bool) → p x.0 ≡ b
      → listed (ids_of (if b then x ∷ first_of n p es else first_of (suc n) p es)) e.0 ≡ false
      → Among e (if b then beyond n p es else beyond (suc n) p es)
      = λ b. elim b as (λ v. p x.0 ≡ v
      → listed (ids_of (if v then x ∷ first_of n p es else first_of (suc n) p es)) e.0 ≡ false
      → Among e (if v then beyond n p es else beyond (suc n) p es)) [
        | true ↦ λ q z. elim h [
          | inl i ↦ absurd (clash (listed (x.0 ∷ ids_of (first_of n p es)) e.0)
              (ap (λ (y : Entry F). listed (x.0 ∷ ids_of (first_of n p es)) y.0) (sym i)
              ∙ listed_here x.0 (ids_of (first_of n p es))) z)
          | inr i ↦ beyond_has n p es e i k (not_true (listed (ids_of (first_of n p es)) e.0)
              (λ y. clash (listed (x.0 ∷ ids_of (first_of n p es)) e.0)
              (listed_more x.0 e.0 (ids_of (first_of n p es)) y) z))
        ]
        | false ↦ λ q z. elim h [
          | inl i ↦ absurd (clash (p e.0) k (ap (λ (y : Entry F). p y.0) (sym i) ∙ q))
          | inr i ↦ beyond_has (suc n) p es e i k z
        ]
      ] in
      case (p x.0) refl l
