-- The kinds of replies.
use Rattle.std.specs.Prelude.{◌≡◌, Bool, true, false}
use Rattle.server_commands.specs.declared.answer.Answer.{Answer, fold-Answer}
use Rattle.server_commands.specs.declared.answer.Answer.TheOpen.{Answer-F}

-- one level of a reply: whether it is an array, or a null array
abbrev pub array_step : Answer-F Bool → Bool
array_step (Answer-F.Array items) = true
array_step Answer-F.NilArray = true
array_step answer = false

-- one level of a reply: whether it is names with their replies, or a null array
abbrev pub rows_step : Answer-F Bool → Bool
rows_step (Answer-F.Rows rows) = true
rows_step Answer-F.NilArray = true
rows_step answer = false

-- one level of a reply: whether it is names with their replies as a map, or an array
abbrev pub info_step : Answer-F Bool → Bool
info_step (Answer-F.Map rows) = true
info_step (Answer-F.Array items) = true
info_step answer = false

-- one level of a reply: whether it is bytes
abbrev pub bytes_step : Answer-F Bool → Bool
bytes_step (Answer-F.Bytes bytes) = true
bytes_step answer = false

-- an array, or a null array
abbrev pub IsArray : Answer → Type 0
IsArray answer = fold-Answer Bool array_step answer ≡ true

-- names with their replies, or a null array
abbrev pub IsRows : Answer → Type 0
IsRows answer = fold-Answer Bool rows_step answer ≡ true

-- names with their replies as one map, or an array of such maps
abbrev pub IsInfo : Answer → Type 0
IsInfo answer = fold-Answer Bool info_step answer ≡ true

-- bytes
abbrev pub IsBytes : Answer → Type 0
IsBytes answer = fold-Answer Bool bytes_step answer ≡ true
