-- One stream after the other is removed.
use Rattle.std.proofs.Common.{◌≡◌, ℕ, zero, suc, ◌+◌, ◌-◌, ◌<◌, List, [], ◌∷◌, Bool, true, false, filter, length, get_or, take, inl, inr, refl, sym, ap, ◌∙◌, arith}
use Rattle.std.proofs.lemmas.Bool.{cases_Bool, cases_lt}
use Rattle.std.proofs.lemmas.List.{get_or-map, length-map}
use Rattle.std.proofs.lemmas.List.Edits.{get_or-remove_above, get_or-remove_below, length-remove}
use Rattle.std.proofs.lemmas.List.Folds.{list_any_more}
use Rattle.std.proofs.lemmas.Slice.Eq.{bytes_eq-Decides}
use Rattle.std.specs.Prelude.{not, ◌&&◌, ◌||◌}
use Rattle.std.specs.Global.{Vec}
use Rattle.std.specs.List.{HoldsAt, remove}
use Rattle.std.specs.Str.{bytes_eq}
use Rattle.server_store.specs.declared.stream.Stream.{Stream}
use Rattle.server_commands.specs.Places.{AreInOrder, IsMissing, keys_of}
use Rattle.server_commands.specs.Removing.{AreRemoved, IsWithout, has_this, is_listed}
use Rattle.server_commands.proofs.NameLemmas.{not_before_itself}

-- ---- names in order

map_remove : (xs : List Stream) (i : ℕ) → i < length xs → keys_of (remove xs i) ≡ remove (keys_of xs) i
map_remove [] i within = absurd (omega (arith, within))
map_remove (x ∷ xs) zero within = refl
map_remove (x ∷ xs) (suc i) within =
    ap (λ (names : List (List ℕ)). x.key.items ∷ names) (map_remove xs i (omega (arith, within)))

stay_in_order : (names : List (List ℕ)) (i : ℕ) → i < length names → AreInOrder names → AreInOrder (remove names i)
stay_in_order names i within up j k d lt bound =
    let shorter = length-remove names i within in
    elim (cases_lt k i) [
      | inl low ↦
          rw (get_or-remove_below names i d j (omega arith) within, get_or-remove_below names i d k low within)
          (up j k d lt (omega arith))
      | inr high ↦ elim (cases_lt j i) [
        | inl low ↦
            rw (get_or-remove_below names i d j low within, get_or-remove_above names i d k high within)
            (up j (k + 1) d (omega arith) (omega arith))
        | inr above ↦
            rw (get_or-remove_above names i d j above within, get_or-remove_above names i d k high within)
            (up (j + 1) (k + 1) d (omega arith) (omega arith))
      ]
    ]

-- ---- one key

differs : (a b : List ℕ) → (a ≡ b → ⊥) → bytes_eq a b ≡ false
differs a b other = elim (cases_Bool (bytes_eq a b)) [
  | inl t ↦ absurd (other ((bytes_eq-Decides a b).0 t))
  | inr f ↦ f
]

module _ (key : List ℕ) where
  without_none : (xs : List Stream) → IsMissing key (keys_of xs) → filter (λ s. not (has_this key s)) xs ≡ xs
  without_none [] none = refl
  without_none (x ∷ xs) none =
      rw (differs x.key.items key (none 0 [] (omega arith)), without_none xs (λ k d lt. none (suc k) d (omega (arith, lt)))) refl

  without_one : (xs : List Stream) (i : ℕ) → i < length xs → HoldsAt (λ s. s.key.items ≡ key) xs i → AreInOrder (keys_of xs)
      → remove xs i ≡ filter (λ s. not (has_this key s)) xs
  without_one [] i within named up = absurd (omega (arith, within))
  without_one (x ∷ xs) zero within named up =
      let after : IsMissing key (keys_of xs) =
      λ k d bound is. not_before_itself x.key.items (get_or (keys_of xs) k d) (named x ∙ sym is)
      (up 0 (suc k) d (omega arith) (omega (arith, bound))) in
      rw ((bytes_eq-Decides x.key.items key).1 (named x)) (sym (without_none xs after))
  without_one (x ∷ xs) (suc i) within named up =
      let long = length-map xs (λ (s : Stream). s.key.items) in
      let there : get_or (keys_of xs) i [] ≡ key =
      get_or-map (λ (s : Stream). s.key.items) xs i x [] (omega (arith, within)) ∙ named x in
      let other : x.key.items ≡ key → ⊥ =
      λ is. not_before_itself x.key.items (get_or (keys_of xs) i []) (is ∙ sym there)
      (up 0 (suc i) [] (omega arith) (omega (arith, within, long))) in
      let rest = without_one xs i (omega (arith, within)) (λ d. named d)
      (λ a b d less bound. up (suc a) (suc b) d (omega (arith, less)) (omega (arith, bound))) in
      rw (differs x.key.items key other) (ap (λ (ys : List Stream). x ∷ ys) rest)

-- a stream of the key is removed
pub removed_one : (key : List ℕ) (xs : List Stream) (i : ℕ) → i < length xs → HoldsAt (λ s. s.key.items ≡ key) xs i
    → IsWithout key xs (remove xs i)
removed_one key xs i within named =
    let long : i < length (keys_of xs) = omega (arith, within, length-map xs (λ (s : Stream). s.key.items)) in
    let shorter = length-remove xs i within in
    record {
      others = without_one key xs i within named;
      order = λ up. rw (map_remove xs i within) (stay_in_order (keys_of xs) i long up);
      fewer = omega (arith, shorter);
    }

-- no stream has the key
pub removed_none : (key : List ℕ) (xs : List Stream) → (AreInOrder (keys_of xs) → IsMissing key (keys_of xs))
    → IsWithout key xs xs
removed_none key xs none = record {
  others = λ up. sym (without_none key xs (none up));
  order = λ up. up;
  fewer = omega arith;
}

-- ---- one key after the other

filter_twice : (p q r : Stream → Bool) → ((x : Stream) → r x ≡ (q x && p x)) → (xs : List Stream)
    → filter r xs ≡ filter p (filter q xs)
filter_twice p q r same [] = refl
filter_twice p q r same (x ∷ xs) = elim (cases_Bool (q x)) [
  | inl qt ↦ elim (cases_Bool (p x)) [
    | inl pt ↦ rw (same x, qt) (rw pt (ap (λ (ys : List Stream). x ∷ ys) (filter_twice p q r same xs)))
    | inr pf ↦ rw (same x, qt) (rw pf (filter_twice p q r same xs))
  ]
  | inr qf ↦ rw (same x, qf) (filter_twice p q r same xs)
]

neither : (a b : Bool) → not (a || b) ≡ (not a && not b)
neither true b = refl
neither false b = refl

all_pass : (xs : List Stream) → filter (λ s. true) xs ≡ xs
all_pass [] = refl
all_pass (x ∷ xs) = ap (λ (ys : List Stream). x ∷ ys) (all_pass xs)

-- none of the keys is removed yet
pub removed_not_yet : (xs : List Stream) → AreRemoved [] (length xs - length xs) xs xs
removed_not_yet xs = record { others = λ up. sym (all_pass xs); order = λ up. up; counted = omega arith }

-- one key more
pub removed_more : (keys : List (Vec ℕ)) (i count : ℕ) (old between new : List Stream) (key : Vec ℕ) → i < length keys
    → AreRemoved (take i keys) count old between → IsWithout (get_or keys i key).items between new
    → AreRemoved (take (i + 1) keys) (length old - length new) old new
removed_more keys i count old between new key within so_far step =
    let is_key = (get_or keys i key).items in
    record {
      others = λ up.
          step.others (so_far.order up)
          ∙ ap (filter (λ s. not (has_this is_key s))) (so_far.others up)
          ∙ sym (filter_twice (λ s. not (has_this is_key s)) (λ s. not (is_listed (take i keys) s))
          (λ s. not (is_listed (take (i + 1) keys) s))
          (λ s. ap not (list_any_more (λ k. has_this k.items s) keys i key within) ∙ neither _ _) old);
      order = λ up. step.order (so_far.order up);
      counted = omega (arith, step.fewer, so_far.counted);
    }
