-- The result that a server receives for the options of a command.
use Rattle.std.specs.Prelude.{◌≡◌, ℕ, List, Option, Some, None, option_map, if◌then◌else◌}
use Rattle.redis_resp.specs.Reading.{both_read}
use Rattle.stream_options.specs.Read.{Read}
use Rattle.stream_option_parsing.specs.Split.{IsOneSplit, HasNoSplit}
use Rattle.redis_c.specs.declared.commands.ReadSettings.{ReadSettings}
use Rattle.redis_c.specs.declared.server.GroupPlace.{GroupPlace}
use Rattle.redis_c.specs.declared.server.Reading.{Reading}
use Rattle.redis_c.specs.declared.server.Reading.TheVariants as readings
use Rattle.redis_c.specs.Placed.{text_at}
use Rattle.redis_c.specs.Commands.{reading_of, read_of}

-- the status code of parsing; no two kinds have the same
abbrev pub reading_number : Reading → ℕ
reading_number (readings.Options count) = 0
reading_number readings.Memory = 5
reading_number readings.Outside = 7
reading_number readings.NoOptions = 10

-- the number of arguments of the options
abbrev pub reading_count : Reading → ℕ
reading_count (readings.Options count) = count
reading_count readings.Memory = 0
reading_count readings.Outside = 0
reading_count readings.NoOptions = 0

-- the settings of a read for this consumer of this group
abbrev pub read_for : ReadSettings → List ℕ × List ℕ → Read
read_for s names = read_of s names.0 names.1

-- the settings of a read, for a consumer of a group if one is given
abbrev pub read_in : List ℕ → ReadSettings → GroupPlace → Option Read
read_in bytes s place = if place.has_group
    then option_map (read_for s) (both_read (text_at bytes place.group) (text_at bytes place.consumer))
    else Some (reading_of s)

module _ {T : Type 0} (Fits : T → Type 0) (sentence : T → List (List ℕ)) (words : List (List ℕ))
    (Alike : T → T → Type 0) (texts : Option (List (List ℕ))) (meant : Option T) where
  -- The outcome of parsing: the settings are the options at the start, and the number of their arguments; memory ran
  -- out; a place is outside the bytes; or there are no options at the start.
  abbrev pub IsReading : Reading → Type 0
  IsReading (readings.Options k) =
      (args : List (List ℕ)) × (texts ≡ Some args) × (settings : T) × (meant ≡ Some settings)
      × IsOneSplit Fits sentence words Alike args settings k
  IsReading readings.Memory = Unit {0}
  IsReading readings.Outside = texts ≡ None
  IsReading readings.NoOptions = (args : List (List ℕ)) × (texts ≡ Some args) × HasNoSplit Fits sentence words args

-- The status code of parsing is returned to C, and the number of arguments of the options.
pub record IsReadAs (P : Reading → Type 0) (n count : ℕ) : Type 0 where
  pub reading : Reading
  pub told : n ≡ reading_number reading
  pub counted : count ≡ reading_count reading
  pub is : P reading
