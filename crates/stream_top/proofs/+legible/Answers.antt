use Rattle.stream_top.proofs.ShapeLemmas.{array_shape, map_shape, set_shape}
use Rattle.stream_top.proofs.+legible.Goals as goal

pub copy_value-returns-in_ok-copy_values-in-Array : goal.copy_value-returns-in_ok-copy_values-in-Array
copy_value-returns-in_ok-copy_values-in-Array t c =
    array_shape c.args.value.now c.in-Array.values c.in_ok-copy_values-in-Array.field-0
    c.in_ok-copy_values-in-Array.ensures c.in-Array.is

pub copy_value-returns-in_ok-copy_values-in-Set : goal.copy_value-returns-in_ok-copy_values-in-Set
copy_value-returns-in_ok-copy_values-in-Set t c =
    set_shape c.args.value.now c.in-Set.values c.in_ok-copy_values-in-Set.field-0
    c.in_ok-copy_values-in-Set.ensures c.in-Set.is

pub copy_value-returns-in_ok-copy_pairs-in-Map : goal.copy_value-returns-in_ok-copy_pairs-in-Map
copy_value-returns-in_ok-copy_pairs-in-Map t c =
    map_shape c.args.value.now c.in-Map.pairs c.in_ok-copy_pairs-in-Map.field-0
    c.in_ok-copy_pairs-in-Map.ensures c.in-Map.is
