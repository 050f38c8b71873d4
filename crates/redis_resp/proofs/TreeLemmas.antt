-- A value's tree, variant by variant.
use Rattle.std.proofs.Common.{◌≡◌, ℕ, ℤ, List, [], ◌∷◌, map, String, Vec, Box, Global, string_bytes, refl, ap, rules}
use Rattle.std.proofs.Common.{sym, ◌∙◌, Some}
use Rattle.std.proofs.lemmas.List.{take_all}
use Rattle.redis_resp.specs.Tree.{Tree, int, bulk, array, simple, map_of_pairs, attribute, set, trees, pairs}
use Rattle.redis_resp.specs.Tree.{list_of_trees, list_of_pairs, plain, items, items_of_plain, single, pairs_in}
use Rattle.redis_resp.specs.Tree.{pairs_of_plain, two_by_two, array_of_plain}
use Rattle.redis_resp.specs.Value.{tree, tree_of_pair}
use Rattle.redis_resp.specs.declared.value.Value.{Value, Int, BulkString, Array, SimpleString, Map, Attribute, Set}
use Rattle.redis_resp.specs.declared.value.Value.{the_lemmas}

pub tree-BulkString : (b : Vec ℕ Global) → tree (BulkString b) ≡ bulk b.items
tree-BulkString b = search (rules, the_lemmas)

pub tree-Array : (v : Vec Value Global) → tree (Array v) ≡ array (trees (map tree v.items))
tree-Array v = search (rules, the_lemmas)

pub tree-Set : (v : Vec Value Global) → tree (Set v) ≡ set (trees (map tree v.items))
tree-Set v = search (rules, the_lemmas)

pub tree-Map : (v : Vec (Value × Value) Global) → tree (Map v) ≡ map_of_pairs (pairs (map tree_of_pair v.items))
tree-Map v = search (rules, the_lemmas)

pub tree-Attribute : (p : Box Value Global) (v : Vec (Value × Value) Global)
    → tree (Attribute p v) ≡ attribute (tree p.value) (pairs (map tree_of_pair v.items))
tree-Attribute p v = search (rules, the_lemmas)

pub listed_trees : (ts : List Tree) → list_of_trees (trees ts) ≡ ts
listed_trees [] = refl
listed_trees (t ∷ ts) = ap (λ us. t ∷ us) (listed_trees ts)

pub listed_pairs : (ps : List (Tree × Tree)) → list_of_pairs (pairs ps) ≡ ps
listed_pairs [] = refl
listed_pairs (p ∷ ps) = ap (λ us. p ∷ us) (listed_pairs ps)

pub tree_of_map : (v : Vec (Value × Value) Global) → tree (Map v) ≡ map_of_pairs (pairs (map tree_of_pair v.items))
tree_of_map v = tree-Map v

-- what a list is read from
pub items_Array : (t : Tree) (w : Value) (v : Vec Value Global) → tree w ≡ plain t → w ≡ Array v
    → items t ≡ Some (map tree v.items)
items_Array t w v h is = ap items_of_plain (sym h ∙ ap tree is ∙ tree-Array v)
    ∙ ap Some (listed_trees (map tree v.items))

pub items_Set : (t : Tree) (w : Value) (v : Vec Value Global) → tree w ≡ plain t → w ≡ Set v
    → items t ≡ Some (map tree v.items)
items_Set t w v h is = ap items_of_plain (sym h ∙ ap tree is ∙ tree-Set v) ∙ ap Some (listed_trees (map tree v.items))

pub items_Map : (t : Tree) (w : Value) (v : Vec (Value × Value) Global) → tree w ≡ plain t → w ≡ Map v
    → items t ≡ Some (map single (map tree_of_pair v.items))
items_Map t w v h is = ap items_of_plain (sym h ∙ ap tree is ∙ tree-Map v)
    ∙ ap (λ ps. Some (map single ps)) (listed_pairs (map tree_of_pair v.items))

pub tree-SimpleString : (s : String Global) → tree (SimpleString s) ≡ simple (string_bytes s)
tree-SimpleString s = search (rules, the_lemmas)

pub pairs_in_Array : (t : Tree) (w : Value) (v : Vec Value Global) → tree w ≡ plain t → w ≡ Array v
    → pairs_in t ≡ two_by_two (map tree v.items)
pairs_in_Array t w v h is = ap pairs_of_plain (sym h ∙ ap tree is ∙ tree-Array v)
    ∙ ap two_by_two (listed_trees (map tree v.items))

pub pairs_in_Map : (t : Tree) (w : Value) (v : Vec (Value × Value) Global) → tree w ≡ plain t → w ≡ Map v
    → pairs_in t ≡ Some (map tree_of_pair v.items)
pairs_in_Map t w v h is = ap pairs_of_plain (sym h ∙ ap tree is ∙ tree-Map v)
    ∙ ap Some (listed_pairs (map tree_of_pair v.items))

pub tree-Int : (z : ℤ) → tree (Int z) ≡ int z
tree-Int z = search (rules, the_lemmas)

-- the items of an array with no attribute around it
pub array_there : (w : Value) (v : Vec Value Global) → w ≡ Array v → array_of_plain (tree w) ≡ Some (map tree v.items)
array_there w v is = ap array_of_plain (ap tree is ∙ tree-Array v) ∙ ap Some (listed_trees (map tree v.items))

-- the contents of a value
pub ruleset contents_read = (items_Array, items_Set, items_Map, pairs_in_Array, pairs_in_Map)

-- the same if all elements of a `Vec` are still left
pub ruleset owned_contents_read = (items_Array, items_Set, items_Map, pairs_in_Array, pairs_in_Map, take_all)

pub ruleset owned_array_there = (array_there, take_all)
