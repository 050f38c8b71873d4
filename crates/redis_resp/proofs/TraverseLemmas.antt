-- Lists that are read member by member: one reading after another, and when there is a record.
use Rattle.std.proofs.Common.{◌≡◌, ◌&&◌, List, [], ◌∷◌, map, Bool, Option, Some, None, option_map, option_and_then}
use Rattle.std.proofs.Common.{refl, sym, ◌∙◌}
use Rattle.std.specs.Option.{is_some}
use Rattle.std.specs.List.{AllByRecursion, list_all}
use Rattle.redis_resp.specs.Tree.{Tree, items}
use Rattle.redis_resp.specs.Reading.{traverse, list_reading}

after_none : {A B : Type 0} (o : Option A) → None ≡ option_and_then {U = B} (λ _. None) o
after_none None = refl
after_none (Some x) = refl

-- reading each by one reading and then by another is reading all by the one and then all by the other
pub traverse_then : {A B C : Type 0} (f : A → Option B) (g : B → Option C) (xs : List A)
    → traverse (λ x. option_and_then g (f x)) xs ≡ option_and_then (traverse g) (traverse f xs)
traverse_then f g [] = refl
traverse_then {B = B} {C = C} f g (x ∷ xs) = rw (traverse_then f g xs) (by (f x) (traverse f xs))
  where
    by : (o : Option B) (os : Option (List B))
        → option_and_then (λ m. option_map (λ ms. m ∷ ms) (option_and_then (traverse g) os)) (option_and_then g o)
        ≡ option_and_then (traverse g) (option_and_then (λ m. option_map (λ ms. m ∷ ms) os) o)
    by None os = refl
    by (Some m) None = sym (after_none (g m))
    by (Some m) (Some ms) = refl

pub traverse_same : {A B : Type 0} (f g : A → Option B) → ((x : A) → f x ≡ g x) → (xs : List A)
    → traverse f xs ≡ traverse g xs
traverse_same f g h [] = refl
traverse_same f g h (x ∷ xs) = rw (h x, traverse_same f g h xs) refl

then_same : {A B C : Type 0} (f : A → Option B) (g : A → Option C) (k : C → Option B)
    → ((x : A) → f x ≡ option_and_then k (g x)) → (o : Option A)
    → option_and_then f o ≡ option_and_then k (option_and_then g o)
then_same f g k h None = refl
then_same f g k h (Some x) = h x

-- the same of the items of a value
pub list_then : {B C : Type 0} (h : Tree → Option C) (f : Tree → Option B) (g : B → Option C)
    → ((x : Tree) → h x ≡ option_and_then g (f x)) → (t : Tree)
    → list_reading h t ≡ option_and_then (traverse g) (list_reading f t)
list_then h f g e t = then_same (traverse h) (traverse f) (traverse g)
    (λ xs. traverse_same h (λ x. option_and_then g (f x)) e xs ∙ traverse_then f g xs) (items t)

pub is_some_map : {A B : Type 0} (f : A → B) (o : Option A) → is_some (option_map f o) ≡ is_some o
is_some_map f None = refl
is_some_map f (Some x) = refl

-- all are read exactly if each is
pub is_some_traverse : {A B : Type 0} (f : A → Option B) (p : A → Bool) → ((x : A) → is_some (f x) ≡ p x)
    → (xs : List A) → is_some (traverse f xs) ≡ list_all p xs
is_some_traverse f p h [] = refl
is_some_traverse {B = B} f p h (x ∷ xs) = rw (← h x, ← is_some_traverse f p h xs) (by (f x) (traverse f xs))
  where
    by : (o : Option B) (os : Option (List B))
        → is_some (option_and_then (λ m. option_map (λ ms. m ∷ ms) os) o) ≡ (is_some o && is_some os)
    by None os = refl
    by (Some m) None = refl
    by (Some m) (Some ms) = refl

-- if each is read as a function gives, all are
pub traverse_each : {A B : Type 0} (f : A → Option B) (g : A → B) (xs : List A)
    → AllByRecursion (λ x. f x ≡ Some (g x)) xs → traverse f xs ≡ Some (map g xs)
traverse_each f g [] e = refl
traverse_each f g (x ∷ xs) e = rw (e.0, traverse_each f g xs e.1) refl
