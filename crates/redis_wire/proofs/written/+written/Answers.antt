use Rattle.std.proofs.Common.{◌≡◌, ◌++◌, List, ℕ, ◌+◌, length, map, refl, ap, ◌∙◌, rules, string_bytes}
use Rattle.redis_wire.specs.Packed.{bulk_bytes}
use Rattle.redis_resp.specs.Tree.{Tree, trees, pairs}
use Rattle.redis_resp.specs.Value.{tree, tree_of_pair}
use Rattle.redis_wire.specs.Written.{tree_bytes, trees_bytes, pairs_bytes, count_bytes, set_head, map_head}
use Rattle.redis_wire.proofs.WrittenLemmas.{trees_push, pairs_push, written_more, two_more, on_two, count_pairs}
use Rattle.redis_wire.proofs.WrittenLemmas.{array_is, set_is, map_is, push_is, attribute_is}
use Rattle.redis_wire.proofs.written.+written.Goals as goal

pub push_values-loop-value-preserved : goal.push_values-loop-value-preserved
push_values-loop-value-preserved t c =
    written_more tree (λ (ts : List Tree). trees_bytes c.args.protocol (trees ts)) (tree_bytes c.args.protocol)
    (trees_push c.args.protocol) c.deref-value-items.result.now c.args.out.now.items c.loop-value.out.items
    c.push_value.new.out.items c.value-item.result c.loop-value.value-index c.loop-value-test.true c.value-item.is
    c.loop-value.invariant c.in_ok-push_value.ensures

pub push_pairs-loop-key-preserved : goal.push_pairs-loop-key-preserved
push_pairs-loop-key-preserved t c =
    written_more tree_of_pair (λ (ps : List (Tree × Tree)). pairs_bytes c.args.protocol (pairs ps))
    (λ (x : Tree × Tree). tree_bytes c.args.protocol x.0 ++ tree_bytes c.args.protocol x.1)
    (pairs_push c.args.protocol) c.deref-key-items.result.now c.args.out.now.items c.loop-key.out.items
    c.push_value-in-loop-key.new.out.items c.loop-key-item.result c.loop-key.key-index c.loop-key-test.true
    c.loop-key-item.is c.loop-key.invariant
    (two_more c.loop-key.out.items c.push_value.new.out.items c.push_value-in-loop-key.new.out.items
    (tree_bytes c.args.protocol (tree c.loop-key-item.result.0))
    (tree_bytes c.args.protocol (tree c.loop-key-item.result.1))
    c.in_ok-push_value.ensures c.in_ok-push_value-2.ensures)

pub push_attributes-returns-in_ok-push_count-in-Resp3 : goal.push_attributes-returns-in_ok-push_count-in-Resp3
push_attributes-returns-in_ok-push_count-in-Resp3 t c =
    let len : c.len.result ≡ length c.args.attributes.now.items = search rules in
    on_two c.push_pairs.result c.args.out.now.items c.push_count.new.out.items c.push_pairs.new.out.items
    (count_bytes 124 c.len.result) (pairs_bytes c.args.protocol (pairs (map tree_of_pair c.args.attributes.now.items)))
    _ c.in_ok-push_count-in-Resp3.ensures c.push_pairs.ensures
    (rw (c.in-Resp3.is, count_pairs c.args.attributes.now.items c.len.result len) refl)

pub push_value-returns-in_ok-push_count-in-Array : goal.push_value-returns-in_ok-push_count-in-Array
push_value-returns-in_ok-push_count-in-Array t c =
    let len : c.len.result ≡ length c.in-Array.values.items = search rules in
    on_two c.push_values.result c.args.out.now.items c.push_count.new.out.items c.push_values.new.out.items
    (count_bytes 42 c.len.result) (trees_bytes c.args.protocol (trees (map tree c.in-Array.values.items)))
    (tree_bytes c.args.protocol (tree c.args.value.now)) c.in_ok-push_count-in-Array.ensures c.push_values.ensures
    (array_is c.args.protocol c.args.value.now c.len.result c.in-Array.values c.in-Array.is len)

pub push_value-returns-in_ok-push_map_head-in-Map : goal.push_value-returns-in_ok-push_map_head-in-Map
push_value-returns-in_ok-push_map_head-in-Map t c =
    let len : c.len-in-Map.result ≡ length c.in-Map.entries.items = search rules in
    on_two c.push_pairs.result c.args.out.now.items c.push_map_head.new.out.items c.push_pairs.new.out.items
    (map_head c.args.protocol c.len-in-Map.result)
    (pairs_bytes c.args.protocol (pairs (map tree_of_pair c.in-Map.entries.items)))
    (tree_bytes c.args.protocol (tree c.args.value.now)) c.in_ok-push_map_head-in-Map.ensures c.push_pairs.ensures
    (map_is c.args.protocol c.args.value.now c.len-in-Map.result c.in-Map.entries c.in-Map.is len)

pub push_value-returns-in_ok-push_attributes-in-Attribute : goal.push_value-returns-in_ok-push_attributes-in-Attribute
push_value-returns-in_ok-push_attributes-in-Attribute t c =
    let same : c.deref-in-Attribute.result.now ≡ c.in-Attribute.payload.value = search rules in
    on_two c.push_value.result c.args.out.now.items c.push_attributes.new.out.items c.push_value.new.out.items
    _ _ (tree_bytes c.args.protocol (tree c.args.value.now)) c.in_ok-push_attributes-in-Attribute.ensures
    c.push_value.ensures
    (attribute_is c.args.protocol c.args.value.now 0 c.in-Attribute.payload c.in-Attribute.attributes
    c.deref-in-Attribute.result.now c.in-Attribute.is same)

pub push_value-returns-in_ok-push_set_head-in-Set : goal.push_value-returns-in_ok-push_set_head-in-Set
push_value-returns-in_ok-push_set_head-in-Set t c =
    let len : c.len-in-Set.result ≡ length c.in-Set.values.items = search rules in
    on_two c.push_values-in-Set.result c.args.out.now.items c.push_set_head.new.out.items
    c.push_values-in-Set.new.out.items (set_head c.args.protocol c.len-in-Set.result)
    (trees_bytes c.args.protocol (trees (map tree c.in-Set.values.items)))
    (tree_bytes c.args.protocol (tree c.args.value.now)) c.in_ok-push_set_head-in-Set.ensures
    c.push_values-in-Set.ensures
    (set_is c.args.protocol c.args.value.now c.len-in-Set.result c.in-Set.values c.in-Set.is len)

pub push_value-returns-in_ok-push_bulk-in-Push : goal.push_value-returns-in_ok-push_bulk-in-Push
push_value-returns-in_ok-push_bulk-in-Push t c =
    let len : c.len-in-Push.result ≡ length c.in-Push.payload.items = search rules in
    let kind : c.as_bytes-in-Push.result.now ≡ string_bytes c.in-Push.kind = search rules in
    let head : c.push_bulk-in-Push.new.out.items ≡ c.args.out.now.items
    ++ (count_bytes 42 (c.len-in-Push.result + 1) ++ bulk_bytes (string_bytes c.in-Push.kind)) =
    two_more c.args.out.now.items c.push_count-in-Push.new.out.items c.push_bulk-in-Push.new.out.items _ _
    c.in_ok-push_count-in-Push.ensures (c.in_ok-push_bulk-in-Push.ensures.ok ∙ ap (λ (z : List ℕ).
    c.push_count-in-Push.new.out.items ++ bulk_bytes z) kind) in
    on_two c.push_values-in-Push.result c.args.out.now.items c.push_bulk-in-Push.new.out.items
    c.push_values-in-Push.new.out.items _ _ (tree_bytes c.args.protocol (tree c.args.value.now)) head
    c.push_values-in-Push.ensures
    (push_is c.args.protocol c.args.value.now c.len-in-Push.result c.in-Push.kind c.in-Push.payload c.in-Push.is len)
