-- The contents of a value, and what is left of it while it is read.
use Rattle.std.specs.Prelude.{List, [], ◌∷◌, Option, Some, None, map, take}
use Rattle.std.specs.Borrow.{Bor}
use Rattle.std.specs.Vec.Iter.{into_iter_items, into_iter_len}
use Rattle.std.specs.declared.alloc.Global.{Global}
use Rattle.std.specs.declared.vec.IntoIter.{IntoIter}
use Rattle.redis_resp.specs.Tree.{Tree, single, two_by_two}
use Rattle.redis_resp.specs.Value.{tree}
use Rattle.redis_resp.specs.declared.value.Value.{Value}
use Rattle.redis_resp.specs.declared.value.contents.Contents.{Contents}
use Rattle.redis_resp.specs.declared.value.contents.Contents.TheVariants.{Nothing, Array, Set, Map, Other}
use Rattle.redis_resp.specs.declared.value.pairs_left.PairsLeft.{PairsLeft}
use Rattle.redis_resp.specs.declared.value.pairs_left.PairsLeft.TheVariants.{Nothing as no_pairs_left, TwoByTwo}
use Rattle.redis_resp.specs.declared.value.pairs_left.PairsLeft.TheVariants.{Entries}

-- the tree of a borrowed value
abbrev pub lent_tree : Bor Value → Tree
lent_tree v = tree v.now

-- the trees of the values that are left in a `Vec`'s iterator
abbrev pub owned_left : {P A : Type 0} → (P → A) → IntoIter P Global → List A
owned_left view it = map view (take (into_iter_len it) (into_iter_items it))

-- a function applied to both of two
abbrev pub both : {A B : Type 0} → (A → B) → A × A → B × B
both f p = (f p.0, f p.1)

-- a function applied to all of three
abbrev pub all_three : {A B : Type 0} → (A → B) → A × A × A → B × B × B
all_three f q = (f q.0, f q.1, f q.2)

-- a function applied to all of four
abbrev pub all_four : {A B : Type 0} → (A → B) → A × A × A × A → B × B × B × B
all_four f q = (f q.0, f q.1, f q.2, f q.3)

-- the items, if the contents are a list
abbrev pub items_held : {V P : Type 0} → (V → List Tree) → (P → List (Tree × Tree)) → Contents V P → Option (List Tree)
items_held values pairs Nothing = Some []
items_held values pairs (Array v) = Some (values v)
items_held values pairs (Set v) = Some (values v)
items_held values pairs (Map p) = Some (map single (pairs p))
items_held values pairs Other = None

-- the pairs that the contents hold
abbrev pub pairs_held : {V P : Type 0} → (V → List Tree) → (P → List (Tree × Tree)) → Contents V P
    → Option (List (Tree × Tree))
pairs_held values pairs Nothing = Some []
pairs_held values pairs (Array v) = two_by_two (values v)
pairs_held values pairs (Map p) = Some (pairs p)
pairs_held values pairs _ = None

-- the members of a list two by two, without one that is left over
abbrev pub two_each : List Tree → List (Tree × Tree)
two_each (k ∷ x ∷ ts) = (k, x) ∷ two_each ts
two_each _ = []

-- the pairs that are left
abbrev pub all_left : {V P : Type 0} → (V → List Tree) → (P → List (Tree × Tree)) → PairsLeft V P → List (Tree × Tree)
all_left values pairs no_pairs_left = []
all_left values pairs (TwoByTwo v) = two_each (values v)
all_left values pairs (Entries p) = pairs p
