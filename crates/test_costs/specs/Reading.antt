-- What was read after an operation.
use Rattle.std.specs.Prelude.{◌≡◌, ◌≢◌, ◌<◌, ℕ, Bool, true}
use Rattle.std.specs.Option.{is_some}
use Rattle.redis_resp.specs.Number.{signed_reading}
use Rattle.redis_resp.specs.Table.{table_reading}
use Rattle.redis_resp.specs.Tree.{Tree}
use Rattle.stream_entries.specs.AutoClaim.{autoclaim_reading}
use Rattle.redis_streams.specs.Pending.{pending_count_reading}
use Rattle.stream_entries.specs.Read.{read_reading}
use Rattle.stream_entries.specs.Rows.{rows_reading}
use Rattle.test_costs.specs.declared.job.Operation.{Operation}
use Rattle.test_costs.specs.declared.job.Operation.TheVariants.{Range, RangeOfOneField, Read, ReadWithClaim, Autoclaim}
use Rattle.test_costs.specs.declared.job.Operation.TheVariants.{AutoclaimOfIds, Pending, Table, Add}
use Rattle.test_costs.specs.declared.job.Way.{Way}
use Rattle.test_costs.specs.declared.job.Way.TheVariants.{Copied}

-- a value that is read `count` times in this way has a record; a copy is not read
abbrev pub IsRead : Way → ℕ → Bool → Type 0
IsRead way count readable = way ≢ Copied → 0 < count → readable ≡ true

-- whether a tree has a record of the type that the operation reads; `Add` reads nothing
abbrev pub has_record : Operation → Tree → Bool
has_record Range t = is_some (rows_reading t)
has_record RangeOfOneField t = is_some (rows_reading t)
has_record Read t = is_some (read_reading t)
has_record ReadWithClaim t = is_some (read_reading t)
has_record Autoclaim t = is_some (autoclaim_reading t)
has_record AutoclaimOfIds t = is_some (autoclaim_reading t)
has_record Pending t = is_some (pending_count_reading t)
has_record Table t = is_some (table_reading (signed_reading 63) t)
has_record Add t = true
