-- The words of the arguments.
use Rattle.std.specs.Prelude.{ℕ, List, Option, Some, None, codes, option_and_then, if◌then◌else◌}
use Rattle.std.specs.Str.{bytes_eq}
use Rattle.redis_resp.specs.Number.{unsigned_of, within}
use Rattle.redis_resp.specs.Then.{◌>>=◌}
use Rattle.test_costs.specs.declared.job.Job.{Job}
use Rattle.test_costs.specs.declared.job.Operation.{Operation}
use Rattle.test_costs.specs.declared.job.Operation.TheVariants.{Range, RangeOfOneField, Read, ReadWithClaim, Autoclaim}
use Rattle.test_costs.specs.declared.job.Operation.TheVariants.{AutoclaimOfIds, Pending, Table, Add}
use Rattle.test_costs.specs.declared.job.Way.{Way}
use Rattle.test_costs.specs.declared.job.Way.TheVariants.{Copied, Owned, Borrowed}

-- the operation of this name
abbrev pub operation_named : List ℕ → Option Operation
operation_named name = if bytes_eq name (codes "range") then Some Range
    else if bytes_eq name (codes "range-of-one-field") then Some RangeOfOneField
    else if bytes_eq name (codes "read") then Some Read
    else if bytes_eq name (codes "read-with-claim") then Some ReadWithClaim
    else if bytes_eq name (codes "autoclaim") then Some Autoclaim
    else if bytes_eq name (codes "autoclaim-of-ids") then Some AutoclaimOfIds
    else if bytes_eq name (codes "pending") then Some Pending
    else if bytes_eq name (codes "table") then Some Table
    else if bytes_eq name (codes "add") then Some Add
    else None

-- the way of this name
abbrev pub way_named : List ℕ → Option Way
way_named name = if bytes_eq name (codes "copied") then Some Copied
    else if bytes_eq name (codes "owned") then Some Owned
    else if bytes_eq name (codes "borrowed") then Some Borrowed
    else None

-- the number below 2 to the 64th that a word writes
abbrev pub number_of : List ℕ → Option ℕ
number_of word = option_and_then (within 64) (unsigned_of word)

-- the job that the four words name
abbrev pub job_of : List ℕ → List ℕ → List ℕ → List ℕ → Option Job
job_of operation way count rows = operation_named operation >>= λ o. way_named way >>= λ w. number_of count
    >>= λ n. number_of rows >>= λ m.
    Some (record { operation = o; way = w; count = n; rows = m })
