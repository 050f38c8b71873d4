-- The public enums as settings: texts by their bytes, without their location in memory.
use Rattle.std.specs.Prelude.{string_bytes}
use Rattle.stream_options.specs.Idempotency.{Idempotency, manual, automatic}
use Rattle.stream_options.specs.Maxlen.{Maxlen}
use Rattle.stream_options.specs.Nack.{Nack, silent, fail, fatal}
use Rattle.stream_options.specs.Policy.{Policy, keep_ref, del_ref, acked}
use Rattle.stream_options.specs.Trim.{Mode, exact, approx, max_len, min_id, Strategy}
use Rattle.stream_options.specs.declared.options.idempotency.StreamIdempotencyMode.{StreamIdempotencyMode}
use Rattle.stream_options.specs.declared.options.idempotency.StreamIdempotencyMode.TheVariants as idempotency
use Rattle.stream_options.specs.declared.options.maxlen.StreamMaxlen.{StreamMaxlen}
use Rattle.stream_options.specs.declared.options.maxlen.StreamMaxlen.TheVariants as maxlen
use Rattle.stream_options.specs.declared.options.nack.StreamNackMode.{StreamNackMode}
use Rattle.stream_options.specs.declared.options.nack.StreamNackMode.TheVariants as nack
use Rattle.stream_options.specs.declared.options.policy.StreamDeletionPolicy.{StreamDeletionPolicy}
use Rattle.stream_options.specs.declared.options.policy.StreamDeletionPolicy.TheVariants as policy
use Rattle.stream_options.specs.declared.options.trim.StreamTrimmingMode.{StreamTrimmingMode}
use Rattle.stream_options.specs.declared.options.trim.StreamTrimmingMode.TheVariants as mode
use Rattle.stream_options.specs.declared.options.trim.StreamTrimStrategy.{StreamTrimStrategy}
use Rattle.stream_options.specs.declared.options.trim.StreamTrimStrategy.TheVariants as strategy

-- the mode of trimming
abbrev pub mode_of : StreamTrimmingMode → Mode
mode_of mode.Exact = exact
mode_of mode.Approx = approx

-- the settings of a strategy
abbrev pub strategy_of : StreamTrimStrategy → Strategy
strategy_of (strategy.MaxLen m n limit) = record { bound = max_len (mode_of m) n; limit = limit }
strategy_of (strategy.MinId m id limit) = record { bound = min_id (mode_of m) (string_bytes id); limit = limit }

-- the policy
abbrev pub policy_of : StreamDeletionPolicy → Policy
policy_of policy.KeepRef = keep_ref
policy_of policy.DelRef = del_ref
policy_of policy.Acked = acked

-- how a duplicate entry is detected
abbrev pub idempotency_of : StreamIdempotencyMode → Idempotency
idempotency_of (idempotency.Manual producer idempotent) = manual (string_bytes producer) (string_bytes idempotent)
idempotency_of (idempotency.Automatic producer) = automatic (string_bytes producer)

-- the length and its mode
abbrev pub maxlen_of : StreamMaxlen → Maxlen
maxlen_of (maxlen.Equals n) = record { mode = exact; count = n }
maxlen_of (maxlen.Approx n) = record { mode = approx; count = n }

-- the mode of a negative acknowledgement
abbrev pub nack_of : StreamNackMode → Nack
nack_of nack.Silent = silent
nack_of nack.Fail = fail
nack_of nack.Fatal = fatal
