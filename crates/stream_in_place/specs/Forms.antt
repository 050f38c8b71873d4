-- The forms of streams and rows in a reply.
use Rattle.std.specs.Prelude.{Bool, true, false}
use Rattle.stream_in_place.specs.declared.form.Spelling.{Spelling}
use Rattle.stream_in_place.specs.declared.form.Spelling.TheVariants.{Array, Map}
use Rattle.stream_in_place.specs.declared.form.Form.{Form}
use Rattle.stream_in_place.specs.declared.form.Form.TheVariants.{Standard, Claim}

-- whether streams are in a map
abbrev pub is_map : Spelling → Bool
is_map Array = false
is_map Map = true

-- whether rows have the claim form
abbrev pub is_claim : Form → Bool
is_claim Standard = false
is_claim Claim = true
