-- What is left of a list while its items are taken.
use Rattle.std.specs.Prelude.{List, [], ◌∷◌, Option, Some, None, map, option_and_then}
use Rattle.redis_resp.specs.Tree.{Tree, single, pairs_in}
use Rattle.stream_entries.specs.declared.items_left.Item.{Item}
use Rattle.stream_entries.specs.declared.items_left.Item.TheVariants.{Whole, Pair}
use Rattle.stream_entries.specs.declared.items_left.ItemsLeft.{ItemsLeft}
use Rattle.stream_entries.specs.declared.items_left.ItemsLeft.TheVariants.{Nothing, Values, Pairs}

-- the tree of an item: a pair is a map of this one pair
abbrev pub item_tree : {S : Type 0} → (S → Tree) → Item S → Tree
item_tree seen (Whole v) = seen v
item_tree seen (Pair key value) = single (seen key, seen value)

-- the trees of the items that are left
abbrev pub trees_left : {V P : Type 0} → (V → List Tree) → (P → List (Tree × Tree)) → ItemsLeft V P → List Tree
trees_left values pairs Nothing = []
trees_left values pairs (Values v) = values v
trees_left values pairs (Pairs p) = map single (pairs p)

-- the element of a list of exactly one
abbrev pub exactly_one : {A : Type 0} → List A → Option A
exactly_one (x ∷ []) = Some x
exactly_one _ = None

-- the pair of a value that has exactly one
abbrev pub pair_in : Tree → Option (Tree × Tree)
pair_in t = option_and_then exactly_one (pairs_in t)
