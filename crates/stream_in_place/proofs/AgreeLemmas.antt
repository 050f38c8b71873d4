-- Readings that have no record, or this one.
use Rattle.std.proofs.Common.{◌≡◌, List, [], ◌∷◌, map, Option, Some, None, option_map, refl, ap}
use Rattle.std.specs.List.{AllByRecursion}
use Rattle.std.specs.Option.{option_or}
use Rattle.redis_resp.specs.Then.{◌>>=◌}
use Rattle.redis_resp.specs.Tree.{Tree}
use Rattle.redis_resp.specs.Reading.{traverse}

-- if there is a record, it is this one
abbrev pub Agrees : {A : Type 0} → Option A → A → Type 0
Agrees None r = Unit {0}
Agrees (Some x) r = x ≡ r

pub agrees_map : {A B : Type 0} (f : A → B) (o : Option A) (r : A) → Agrees o r → Agrees (option_map f o) (f r)
agrees_map f None r h = tt
agrees_map f (Some x) r h = ap f h

agrees_first : {A : Type 0} (o : Option A) (r : A) (os : Option (List A)) (rs : List A) → Agrees o r → Agrees os rs
    → Agrees (o >>= λ m. option_map (λ ms. m ∷ ms) os) (r ∷ rs)
agrees_first None r os rs h t = tt
agrees_first (Some x) r None rs h t = tt
agrees_first (Some x) r (Some xs) rs h t = rw (h, t) refl

pub agrees_all : {A B : Type 0} (reading : Tree → Option B) (tree : A → Tree) (g : A → B) (xs : List A)
    → AllByRecursion (λ x. Agrees (reading (tree x)) (g x)) xs → Agrees (traverse reading (map tree xs)) (map g xs)
agrees_all reading tree g [] h = refl
agrees_all reading tree g (x ∷ xs) h = agrees_first (reading (tree x)) (g x) (traverse reading (map tree xs)) (map g xs)
    h.0 (agrees_all reading tree g xs h.1)

pub agrees_or : {A : Type 0} (o p : Option A) (r : A) → Agrees o r → p ≡ Some r → option_or o p ≡ Some r
agrees_or None p r h is = is
agrees_or (Some x) p r h is = ap Some h
