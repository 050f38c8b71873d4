-- How a refusal is printed in a line.
use Rattle.std.specs.Prelude.{ℕ, List, ◌++◌, Result, Ok, Err, codes, decimal}
use Rattle.redis_resp.specs.declared.value.error.ParsingError.{ParsingError}
use Rattle.redis_resp.specs.declared.value.error.ParsingError.TheVariants.{NotText, NotNumber, NotList, NotPairs}
use Rattle.redis_resp.specs.declared.value.error.ParsingError.TheVariants.{NotTuple, NotArray, WrongItemCount}
use Rattle.redis_resp.specs.declared.value.error.ParsingError.TheVariants.{WrongClaimedType, UnknownReadFormat}
use Rattle.redis_resp.specs.declared.value.error.ParsingError.TheVariants.{PendingWithoutStart, PendingWithoutEnd}
use Rattle.redis_resp.specs.declared.value.error.ParsingError.TheVariants.{NotPendingRow, UnknownXDelEx, UnknownXAckDel}
use Rattle.redis_resp.specs.declared.value.error.ParsingError.TheVariants.{NotXDelEx, NotXAckDel, NotBytes, Memory}

-- the position of a cause in the order of their declaration, from 1
abbrev pub refusal_number : ParsingError → ℕ
refusal_number NotText = 1
refusal_number NotNumber = 2
refusal_number NotList = 3
refusal_number NotPairs = 4
refusal_number (NotTuple _) = 5
refusal_number NotArray = 6
refusal_number (WrongItemCount _) = 7
refusal_number WrongClaimedType = 8
refusal_number UnknownReadFormat = 9
refusal_number PendingWithoutStart = 10
refusal_number PendingWithoutEnd = 11
refusal_number (NotPendingRow _) = 12
refusal_number (UnknownXDelEx _) = 13
refusal_number (UnknownXAckDel _) = 14
refusal_number NotXDelEx = 15
refusal_number NotXAckDel = 16
refusal_number NotBytes = 17
refusal_number Memory = 18

-- a refusal by its number
abbrev pub refusal_form : ParsingError → List ℕ
refusal_form e = codes "refused " ++ decimal (refusal_number e)

-- a record by its form, or the refusal
abbrev pub answer_form : {T : Type 0} → (T → List ℕ) → Result T ParsingError → List ℕ
answer_form form (Ok answer) = form answer
answer_form form (Err error) = refusal_form error
