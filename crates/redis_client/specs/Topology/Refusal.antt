-- The errors with which a value may be refused as a node of a row of CLUSTER SLOTS.
use Rattle.std.specs.Prelude.{◌≡◌, ◌⊎◌, List, ◌∷◌, MatchOption}
use Rattle.redis_resp.specs.Tree.{Tree, plain, array_of_plain}
use Rattle.redis_resp.specs.Number.{unsigned_reading}
use Rattle.redis_resp.specs.Reading.{option_reading}
use Rattle.redis_resp.specs.Refusal.{Refuses, RefusesNumber, RefusesOption, RefusesText}
use Rattle.redis_resp.specs.Text.{text_reading}
use Rattle.redis_resp.specs.declared.value.error.ParsingError.{ParsingError}
use Rattle.redis_resp.specs.declared.value.error.ParsingError.TheVariants.{NotArray}

-- a host, which may be nil: what it is refused with as a text
abbrev pub RefusesHost : Tree → ParsingError → Type 0
RefusesHost = Refuses (option_reading text_reading) (RefusesOption (Refuses text_reading RefusesText))

-- a port: what it is refused with as a number
abbrev pub RefusesPort : Tree → ParsingError → Type 0
RefusesPort = Refuses (unsigned_reading 16) RefusesNumber

-- the members of a node: `NotArray` if they are fewer than two, and otherwise what the host or the port is refused
-- with
abbrev pub RefusesMembers : List Tree → ParsingError → Type 0
RefusesMembers (host ∷ port ∷ more) error = RefusesHost host error ⊎ RefusesPort port error
RefusesMembers _ error = error ≡ NotArray

-- a node of a row: `NotArray` if it is no array, and otherwise what its members are refused with
abbrev pub RefusesReplica : Tree → ParsingError → Type 0
RefusesReplica t error = MatchOption (array_of_plain (plain t)) (error ≡ NotArray) (λ ts. RefusesMembers ts error)
