-- What a map of fields means.
use Rattle.std.specs.Prelude.{String}
use Rattle.std.specs.declared.alloc.Global.{Global}
use Rattle.std.specs.FinMap.{from_entries}
use Rattle.std.specs.HashMap.{HashMap}
use Rattle.redis_resp.specs.Tree.{Tree}
use Rattle.redis_resp.specs.Table.{Fields, entries_meaning}
use Rattle.redis_resp.specs.Value.{tree}
use Rattle.redis_resp.specs.declared.value.Value.{Value}

-- the fields by name, each as its tree
abbrev pub fields_of : {S : Type 0} → HashMap (String Global) Value S → Fields Tree
fields_of m = from_entries (entries_meaning tree m.entries)
