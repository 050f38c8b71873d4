-- A field of a map, by its name.
use Rattle.std.proofs.Common.{◌≡◌, ℕ, List, option_map, Global, String}
use Rattle.std.specs.FinMap.{get}
use Rattle.std.specs.HashMap.{HashMap, get_by_text}
use Rattle.redis_resp.specs.FieldsMeaning.{fields_of}
use Rattle.redis_resp.specs.Value.{tree}
use Rattle.redis_resp.specs.declared.value.Value.{Value}
use Rattle.redis_resp.proofs.TableLemmas.{get_of_fields}

pub get_field : {S : Type 0} (m : HashMap (String Global) Value S) (name : List ℕ)
    → get (fields_of m) name ≡ option_map tree (get_by_text m name)
get_field m name = get_of_fields tree m name
