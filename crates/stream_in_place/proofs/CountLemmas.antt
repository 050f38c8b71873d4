-- Parts of items that are counted one after the other, and what fits.
use Rattle.std.proofs.Common.{◌≡◌, ◌≤◌, ◌<◌, ◌+◌, ◌∙◌, ℕ, zero, suc, List, [], ◌∷◌, ◌++◌, length, Option, Some, None}
use Rattle.std.proofs.Common.{drop, refl, ap, arith, flat_map}
use Rattle.std.specs.List.{AllByRecursion}
use Rattle.std.proofs.lemmas.List.{length-append}
use Rattle.redis_wire.specs.declared.limits.Limits.{Limits}
use Rattle.stream_in_place.specs.Lent.{Lent, StreamsFit, EntriesFit, FieldsFit}
use Rattle.stream_in_place.specs.Shapes.{AllowsRows}
use Rattle.stream_in_place.proofs.BeginLemmas.{IsLeft, IsNext, next_is}

pub fewer_streams : (lent : Option Lent) (m n : ℕ) → m ≤ n → StreamsFit lent n → StreamsFit lent m
fewer_streams None m n le h = h
fewer_streams (Some lent) m n le h = omega (arith, le, h)

pub fewer_entries : (lent : Option Lent) (m n : ℕ) → m ≤ n → EntriesFit lent n → EntriesFit lent m
fewer_entries None m n le h = h
fewer_entries (Some lent) m n le h = omega (arith, le, h)

pub fewer_fields : (lent : Option Lent) (m n : ℕ) → m ≤ n → FieldsFit lent n → FieldsFit lent m
fewer_fields None m n le h = h
fewer_fields (Some lent) m n le h = omega (arith, le, h)

-- one more
pub one_more : {A : Type 0} (new old : List A) (x : A) → new ≡ old ++ x ∷ [] → length new ≡ suc (length old)
one_more new old x is = omega (arith, ap length is, length-append old (x ∷ []))

-- the next item, of those that are there
pub next_left : {A : Type 0} (f : A → List ℕ) (P : A → Type 0) (limits : Limits) (bytes : List ℕ)
    (at count i behind : ℕ) → IsLeft f P limits bytes at count i behind → i < count → (xs : List A) (rest : List ℕ)
    → AllowsRows limits → AllByRecursion P xs → drop at bytes ≡ flat_map f xs ++ rest → count ≡ length xs
    → IsNext f P xs i (drop behind bytes) rest
next_left f P limits bytes at count i behind h lt xs rest allows each is n =
    next_is f P xs i (drop behind bytes) rest (omega arith) each (h.left xs rest allows each is n)

-- After `i` items, the parts counted and the parts of the items that are left are all parts.
pub record IsCounted {A B : Type 0} (f : A → List ℕ) (P : A → Type 0) (parts : A → List B) (limits : Limits)
    (bytes : List ℕ) (at count i old new : ℕ) : Type 0 where
  pub counted : (xs : List A) (rest : List ℕ) → AllowsRows limits → AllByRecursion P xs
      → drop at bytes ≡ flat_map f xs ++ rest → count ≡ length xs
      → new + length (flat_map parts (drop i xs)) ≡ old + length (flat_map parts xs)

no_parts : {A B : Type 0} (parts : A → List B) (xs : List A) (i : ℕ) → i ≡ length xs
    → length (flat_map parts (drop i xs)) ≡ 0
no_parts parts [] zero e = refl
no_parts parts [] (suc i) e = refl
no_parts parts (x ∷ xs) zero e = absurd (omega (arith, e))
no_parts parts (x ∷ xs) (suc i) e = no_parts parts xs i (omega arith)

module _ {A B : Type 0} (f : A → List ℕ) (P : A → Type 0) (parts : A → List B) (limits : Limits) (bytes : List ℕ)
    (at count old : ℕ) where
  pub counted_start : IsCounted f P parts limits bytes at count 0 old old
  counted_start = record { counted = λ xs rest allows each is n. refl }

  module _ (i behind new : ℕ) (h : IsLeft f P limits bytes at count i behind)
      (k : IsCounted f P parts limits bytes at count i old new) where
    -- the parts of one more item were counted
    pub counted_more : (next : ℕ) → i < count
        → ((x : A) (rest : List ℕ) → AllowsRows limits → P x → drop behind bytes ≡ f x ++ rest
        → next ≡ new + length (parts x))
        → IsCounted f P parts limits bytes at count (i + 1) old next
    counted_more next lt step = record {
      counted = λ xs rest allows each is n.
          let x = next_is f P xs i (drop behind bytes) rest (omega arith) each (h.left xs rest allows each is n) in
          let s = step x.item (flat_map f (drop (i + 1) xs) ++ rest) allows x.holds x.is in
          let split = ap (λ (ys : List A). length (flat_map parts ys)) x.tail
          ∙ length-append (parts x.item) (flat_map parts (drop (i + 1) xs)) in
          omega (arith, s, split, k.counted xs rest allows each is n);
    }

    -- with the parts of the next item there are no more than all of them
    pub counted_next : (xs : List A) (rest : List ℕ) → AllowsRows limits → AllByRecursion P xs
        → drop at bytes ≡ flat_map f xs ++ rest → count ≡ length xs
        → (x : A) → drop i xs ≡ x ∷ drop (i + 1) xs → new + length (parts x) ≤ old + length (flat_map parts xs)
    counted_next xs rest allows each is n x tail =
        let split = ap (λ (ys : List A). length (flat_map parts ys)) tail
        ∙ length-append (parts x) (flat_map parts (drop (i + 1) xs)) in
        omega (arith, split, k.counted xs rest allows each is n)

    -- all were counted
    pub counted_end : i ≡ count → (xs : List A) (rest : List ℕ) → AllowsRows limits → AllByRecursion P xs
        → drop at bytes ≡ flat_map f xs ++ rest → count ≡ length xs → new ≡ old + length (flat_map parts xs)
    counted_end e xs rest allows each is n =
        let none = no_parts parts xs i (e ∙ n) in
        omega (arith, none, k.counted xs rest allows each is n)
