-- The values that read as the reply of an automatic claim with `JUSTID`.
use Rattle.std.specs.Prelude.{◌⊎◌, ℕ, List, [], Option, Some}
use Rattle.redis_resp.specs.Reading.{list_reading}
use Rattle.redis_resp.specs.Refusal.{RefusesList}
use Rattle.redis_resp.specs.Text.{text_reading}
use Rattle.redis_resp.specs.Then.{◌>>=◌}
use Rattle.redis_resp.specs.Tree.{Tree}
use Rattle.redis_resp.specs.declared.value.error.ParsingError.{ParsingError}
use Rattle.stream_entries.specs.AutoClaim.{Parts, parts_in, deleted_reading}
use Rattle.stream_entries.specs.Refusal.{RefusesTextIn, RefusesDeleted, RefusesParts}

-- the id to continue with, the ids of the entries that were claimed, and those of entries that were deleted
pub record JustId : Type 0 where
  pub next : List ℕ
  pub claimed : List (List ℕ)
  pub deleted : List (List ℕ)

-- an empty reply
abbrev pub empty_justid : JustId
empty_justid = record { next = []; claimed = []; deleted = [] }

-- the next id is a text, and the others are lists of texts
abbrev pub justid_of : Parts → Option JustId
justid_of parts =
    list_reading text_reading parts.1 >>= λ claimed.
    deleted_reading parts.2 >>= λ deleted.
    text_reading parts.0 >>= λ next.
    Some (record { next = next; claimed = claimed; deleted = deleted })

-- an array of two or three: the next id, the claimed ids and the deleted ids
abbrev pub justid_reading : Tree → Option JustId
justid_reading t = parts_in t >>= justid_of

-- the errors of the claimed ids, the deleted ids or the next id
abbrev pub RefusesIds : Parts → ParsingError → Type 0
RefusesIds parts error = RefusesList RefusesTextIn parts.1 error
    ⊎ (RefusesDeleted parts.2 error ⊎ RefusesTextIn parts.0 error)

-- `NotArray` and `WrongItemCount` are the errors exactly if the shape is wrong; an unreadable part is refused with its
-- own error
abbrev pub RefusesJustId : Tree → ParsingError → Type 0
RefusesJustId = RefusesParts RefusesIds
