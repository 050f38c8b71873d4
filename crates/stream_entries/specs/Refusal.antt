-- The errors with which a value may be refused as a reply that holds entries.
use Rattle.std.specs.Prelude.{◌≡◌, ◌<◌, ◌⊎◌, Option, Some, MatchOption, length}
use Rattle.redis_resp.specs.Tree.{Tree, items, array_of_plain}
use Rattle.redis_resp.specs.Text.{text_reading}
use Rattle.redis_resp.specs.Reading.{option_reading}
use Rattle.redis_resp.specs.Refusal.{Refuses, RefusesText, RefusesValue, RefusesOption, RefusesList, RefusesPairs}
use Rattle.redis_resp.specs.declared.value.error.ParsingError.{ParsingError}
use Rattle.redis_resp.specs.declared.value.error.ParsingError.TheVariants.{NotArray, WrongItemCount, WrongClaimedType}
use Rattle.redis_resp.specs.declared.value.error.ParsingError.TheVariants.{UnknownReadFormat, Memory}
use Rattle.stream_entries.specs.AutoClaim.{ClaimedKind, nils, ids, rows, Parts, two_or_three, claimed_shape}
use Rattle.stream_entries.specs.Rows.{field_reading, row_reading}

-- a text
abbrev pub RefusesTextIn : Tree → ParsingError → Type 0
RefusesTextIn = Refuses text_reading RefusesText

-- a text, if there is one
abbrev pub RefusesOptionalText : Tree → ParsingError → Type 0
RefusesOptionalText = Refuses (option_reading text_reading) (RefusesOption RefusesTextIn)

-- the fields of an entry
abbrev pub RefusesFields : Tree → ParsingError → Type 0
RefusesFields = RefusesPairs (Refuses (λ u. Some u) RefusesValue)

-- a row of ids and their fields
abbrev pub RefusesRow : Tree → ParsingError → Type 0
RefusesRow = RefusesPairs (Refuses field_reading RefusesFields)

-- a range or a claim: a list of rows
abbrev pub RefusesRows : Tree → ParsingError → Type 0
RefusesRows = RefusesList (Refuses row_reading RefusesRow)

-- a list with at least one item
abbrev pub HasItems : Tree → Type 0
HasItems t = MatchOption (items t) ⊥ (λ ts. 0 < length ts)

-- a read reply: `UnknownReadFormat`, or out of memory if the value is a list with at least one item
abbrev pub RefusesRead : Tree → ParsingError → Type 0
RefusesRead t error = (error ≡ UnknownReadFormat) ⊎ ((error ≡ Memory) × HasItems t)

-- the entries of a claimed list of that kind; a list of nil only is never refused
abbrev pub RefusesByKind : ClaimedKind → Tree → ParsingError → Type 0
RefusesByKind nils t error = ⊥
RefusesByKind ids t error = RefusesList RefusesOptionalText t error
RefusesByKind rows t error = RefusesRows t error

-- a claimed list: `WrongClaimedType` if it has no shape, and else the error of its entries
abbrev pub RefusesClaimed : Tree → ParsingError → Type 0
RefusesClaimed t error = MatchOption (claimed_shape t) (error ≡ WrongClaimedType)
    (λ shape. RefusesByKind shape.0 t error)

-- the deleted ids, if the reply has such an item: a list of texts
abbrev pub RefusesDeleted : Option Tree → ParsingError → Type 0
RefusesDeleted deleted error = MatchOption deleted ⊥ (λ t. RefusesList RefusesTextIn t error)

-- an array: `NotArray` if it is none, `WrongItemCount` if it does not have two or three items, and else the error of
-- its parts
abbrev pub RefusesParts : (Parts → ParsingError → Type 0) → Tree → ParsingError → Type 0
RefusesParts refuses t error = MatchOption (array_of_plain t) (error ≡ NotArray)
    (λ ts. MatchOption (two_or_three ts) (error ≡ WrongItemCount (length ts)) (λ parts. refuses parts error))

-- the claimed list, the deleted ids or the next id
abbrev pub RefusesPart : Parts → ParsingError → Type 0
RefusesPart parts error = RefusesClaimed parts.1 error ⊎ (RefusesDeleted parts.2 error ⊎ RefusesTextIn parts.0 error)

-- an automatic claim: each of its three outer errors occurs exactly if the shape is wrong; an unreadable part is
-- refused with its own error
abbrev pub RefusesAutoClaim : Tree → ParsingError → Type 0
RefusesAutoClaim = RefusesParts RefusesPart
