-- Records, and their arguments.
use Rattle.std.specs.Prelude.{◌≡◌, ℕ, List, [], ◌∷◌, map, Option, Some, None, Vec}
use Rattle.std.specs.List.{flat_map}
use Rattle.std.specs.declared.alloc.Global.{Global}

-- a record: its names and values, in order
abbrev pub Fields : Type 0
Fields = List (List ℕ × List ℕ)

-- a field of the code: its name and its value
abbrev pub field_of : Vec ℕ Global × Vec ℕ Global → List ℕ × List ℕ
field_of field = (field.0.items, field.1.items)

-- a record of the code
abbrev pub fields_of : Vec (Vec ℕ Global × Vec ℕ Global) Global → Fields
fields_of record_of = map field_of record_of.items

-- the arguments of XADD after the id: each name and its value in turn
abbrev pub arguments_of : Fields → List (List ℕ)
arguments_of fields = flat_map (λ field. field.0 ∷ field.1 ∷ []) fields

-- these are all records, if they are known
abbrev pub AreAll : Option (List Fields) → List Fields → Type 0
AreAll None all = Unit {0}
AreAll (Some known) all = all ≡ known
