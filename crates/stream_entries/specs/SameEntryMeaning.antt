-- Whether two `StreamId`s are the same, by their parts.
use Rattle.std.specs.Prelude.{Bool, ◌==◌, ◌&&◌}
use Rattle.std.specs.HashMap.{hash_map_eq}
use Rattle.std.specs.Option.{option_eq}
use Rattle.std.specs.String.{string_eq}
use Rattle.redis_resp.specs.Same.{same}
use Rattle.redis_resp.specs.Value.{tree}
use Rattle.redis_resp.specs.declared.value.Value.{Value}
use Rattle.stream_entries.specs.declared.stream_id.StreamId.{StreamId}

-- the two values have the same tree
abbrev pub same_value : Value → Value → Bool
same_value v w = same (tree v) (tree w)

-- the same id, the same fields in any order, and the same two numbers
abbrev pub same_entry : StreamId → StreamId → Bool
same_entry a b = string_eq a.id b.id && (hash_map_eq string_eq same_value a.map b.map
    && (option_eq ◌==◌ a.milliseconds_elapsed_from_delivery b.milliseconds_elapsed_from_delivery
    && option_eq ◌==◌ a.delivered_count b.delivered_count))
