-- The words of a reading of bytes.
use Rattle.std.specs.Prelude.{ℕ, List, Option, Some, None, codes, if◌then◌else◌}
use Rattle.std.specs.Str.{bytes_eq}
use Rattle.test_costs.specs.declared.answer.Form.{Form}
use Rattle.test_costs.specs.declared.answer.Form.TheVariants.{Array, Map}
use Rattle.test_costs.specs.declared.bytes.Reading.{Reading}
use Rattle.test_costs.specs.declared.bytes.Reading.TheVariants.{Print, Places, Fields, Gets, Received, Decoded, Copied, Fed, FedBytes}

-- the reading of this name
abbrev pub reading_named : List ℕ → Option Reading
reading_named name = if bytes_eq name (codes "print") then Some Print
    else if bytes_eq name (codes "places") then Some Places
    else if bytes_eq name (codes "fields") then Some Fields
    else if bytes_eq name (codes "gets") then Some Gets
    else if bytes_eq name (codes "received") then Some Received
    else if bytes_eq name (codes "decoded") then Some Decoded
    else if bytes_eq name (codes "copied") then Some Copied
    else if bytes_eq name (codes "fed") then Some (Fed 10)
    else if bytes_eq name (codes "fed-bytes") then Some (FedBytes 10)
    else if bytes_eq name (codes "fed-one") then Some (Fed 1)
    else if bytes_eq name (codes "fed-one-bytes") then Some (FedBytes 1)
    else None

-- the form of this name
abbrev pub form_named : List ℕ → Option Form
form_named name = if bytes_eq name (codes "array") then Some Array
    else if bytes_eq name (codes "map") then Some Map
    else None
