-- The value of one setting after a list of calls. A call is a pair: the setting that it names, and
-- its value.
use Rattle.std.specs.Prelude.{List, [], ◌∷◌, Option, None}
use Rattle.std.specs.Option.{option_or}

-- the value of the last call in the list that names the setting, if there is one
abbrev pub last_said : {C T : Type 0} → (C → Option T) → List C → Option T
last_said said [] = None
last_said said (call ∷ calls) = option_or (last_said said calls) (said call)
