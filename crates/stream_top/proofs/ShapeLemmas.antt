-- The shapes of lists, and of values with lists in them.
use Rattle.std.proofs.Common.{◌≡◌, ◌∷◌, ◌∙◌, [], List, ap, map, refl, sym}
use Rattle.std.specs.Prelude.{Vec}
use Rattle.std.specs.declared.alloc.Global.{Global}
use Rattle.redis_resp.specs.Tree.{Pairs, Trees, array, map_of_pairs, more_pairs, more_trees, pairs, set, trees}
use Rattle.redis_resp.specs.Value.{tree, tree_of_pair}
use Rattle.redis_resp.specs.declared.value.Value.{Value}
use Rattle.redis_resp.specs.declared.value.Value.TheVariants as values
use Rattle.redis_resp.proofs.TreeLemmas.{tree-Array, tree-Map, tree-Set}
use Rattle.stream_top.specs.Shape.{pair_shapes, shape, shape_of, shape_of_pair, shapes}

shapes_of : (vs : List Value) → shapes (trees (map tree vs)) ≡ trees (map shape_of vs)
shapes_of [] = refl
shapes_of (v ∷ vs) = ap (λ (ts : Trees). more_trees (shape_of v) ts) (shapes_of vs)

shapes_of_pairs : (ps : List (Value × Value)) → pair_shapes (pairs (map tree_of_pair ps)) ≡ pairs (map shape_of_pair ps)
shapes_of_pairs [] = refl
shapes_of_pairs (p ∷ ps) = ap (λ (qs : Pairs). more_pairs (shape_of p.0) (shape_of p.1) qs) (shapes_of_pairs ps)

-- lists of the same shapes
same_shapes : (old new : List Value) → map shape_of new ≡ map shape_of old
    → shapes (trees (map tree new)) ≡ shapes (trees (map tree old))
same_shapes old new same = shapes_of new ∙ (ap trees same ∙ sym (shapes_of old))

same_pairs : (old new : List (Value × Value)) → map shape_of_pair new ≡ map shape_of_pair old
    → pair_shapes (pairs (map tree_of_pair new)) ≡ pair_shapes (pairs (map tree_of_pair old))
same_pairs old new same = shapes_of_pairs new ∙ (ap pairs same ∙ sym (shapes_of_pairs old))

-- values with such lists in them
module _ (v : Value) (old new : Vec Value Global) (same : map shape_of new.items ≡ map shape_of old.items) where
  pub array_shape : v ≡ values.Array old → shape_of (values.Array new) ≡ shape_of v
  array_shape is = ap shape (tree-Array new)
      ∙ (ap array (same_shapes old.items new.items same) ∙ sym (ap shape (ap tree is ∙ tree-Array old)))

  pub set_shape : v ≡ values.Set old → shape_of (values.Set new) ≡ shape_of v
  set_shape is = ap shape (tree-Set new)
      ∙ (ap set (same_shapes old.items new.items same) ∙ sym (ap shape (ap tree is ∙ tree-Set old)))

pub map_shape : (v : Value) (old new : Vec (Value × Value) Global)
    → map shape_of_pair new.items ≡ map shape_of_pair old.items → v ≡ values.Map old
    → shape_of (values.Map new) ≡ shape_of v
map_shape v old new same is = ap shape (tree-Map new)
    ∙ (ap map_of_pairs (same_pairs old.items new.items same) ∙ sym (ap shape (ap tree is ∙ tree-Map old)))
