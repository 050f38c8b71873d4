-- The errors with which a value may be refused as a reply of XPENDING.
use Rattle.std.specs.Prelude.{◌≡◌, ◌⊎◌, List, Option, Some, None, MatchOption, false, nat_eq}
use Rattle.redis_resp.specs.Tree.{Tree, array_of_plain, exactly_four}
use Rattle.redis_resp.specs.Text.{text_reading}
use Rattle.redis_resp.specs.Number.{unsigned_reading}
use Rattle.redis_resp.specs.Reading.{option_reading, list_reading, two_reading}
use Rattle.redis_resp.specs.Refusal.{Refuses, OneRefused, RefusesNumber, RefusesOption, RefusesList, RefusesTwo}
use Rattle.redis_resp.specs.Refusal.{RefusesFour}
use Rattle.redis_resp.specs.declared.value.error.ParsingError.{ParsingError}
use Rattle.redis_resp.specs.declared.value.error.ParsingError.TheVariants.{PendingWithoutStart, PendingWithoutEnd}
use Rattle.redis_resp.specs.declared.value.error.ParsingError.TheVariants.{NotPendingRow, Memory}
use Rattle.redis_streams.specs.Pending.{SummaryParts, summary_parts, Members, row_numbers, pending_row}
use Rattle.stream_entries.specs.Refusal.{RefusesTextIn, RefusesOptionalText}

-- a row of a summary: a consumer's name and the text of its count, if it has them
abbrev pub RefusesSummaryRow : Tree → ParsingError → Type 0
RefusesSummaryRow = Refuses (option_reading (two_reading text_reading text_reading))
    (RefusesOption (Refuses (two_reading text_reading text_reading) (RefusesTwo RefusesTextIn RefusesTextIn)))

-- the four parts of a summary
abbrev pub RefusesSummaryParts : Tree → ParsingError → Type 0
RefusesSummaryParts = RefusesFour (Refuses (unsigned_reading 64) RefusesNumber) RefusesOptionalText RefusesOptionalText
    (Refuses (list_reading (option_reading (two_reading text_reading text_reading))) (RefusesList RefusesSummaryRow))

-- the error of a positive count by its first and its last id; if both are there the only error is out of memory
abbrev pub error_by_ids : {A : Type 0} → Option A → Option A → ParsingError
error_by_ids None last = PendingWithoutStart
error_by_ids (Some first) None = PendingWithoutEnd
error_by_ids (Some first) (Some last) = Memory

-- the summary of the parts: nothing is refused if the count is 0
abbrev pub RefusesSummary : SummaryParts → ParsingError → Type 0
RefusesSummary parts error = (nat_eq parts.0 0 ≡ false) × (error ≡ error_by_ids parts.1 parts.2)

-- the reply of XPENDING: the errors of its parts, and if they are read the errors of their summary
abbrev pub RefusesPending : Tree → ParsingError → Type 0
RefusesPending t error = RefusesSummaryParts t error
    ⊎ MatchOption (summary_parts t) ⊥ (λ parts. RefusesSummary parts error)

-- the members of a pending entry: `NotPendingRow(3)` if one has another kind, and otherwise what the id or the name is
-- refused with as a text
abbrev pub RefusesMembers : Members → ParsingError → Type 0
RefusesMembers q error = MatchOption (row_numbers q) (error ≡ NotPendingRow 3)
    (λ _. RefusesTextIn q.0 error ⊎ RefusesTextIn q.1 error)

-- the same of a list, which has exactly four members or is refused with `NotPendingRow(3)`
abbrev pub RefusesFourMembers : List Tree → ParsingError → Type 0
RefusesFourMembers ts error = MatchOption (exactly_four ts) (error ≡ NotPendingRow 3) (λ q. RefusesMembers q error)

-- a pending entry: `NotPendingRow(2)` if it is no array, and otherwise what its members are refused with
abbrev pub RefusesPendingRow : Tree → ParsingError → Type 0
RefusesPendingRow t error = MatchOption (array_of_plain t) (error ≡ NotPendingRow 2) (λ ts. RefusesFourMembers ts error)

-- the pending entries of a range: `NotPendingRow(1)` if it is no array, and otherwise what one of them is refused with
abbrev pub RefusesPendingCount : Tree → ParsingError → Type 0
RefusesPendingCount t error = MatchOption (array_of_plain t) (error ≡ NotPendingRow 1)
    (λ ts. OneRefused (Refuses pending_row RefusesPendingRow) ts error)
