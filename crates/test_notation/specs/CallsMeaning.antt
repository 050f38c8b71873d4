-- The calls of a sequence as settings: texts by their bytes, names by their argument lists.
use Rattle.std.specs.Prelude.{ℕ, true, List, [], ◌∷◌, string_bytes}
use Rattle.std.specs.Global.{Vec}
use Rattle.std.specs.List.{flat_map}
use Rattle.redis_args.specs.declared.raw_bytes.RawBytes.{RawBytes}
use Rattle.stream_options.specs.Idempotency.{manual, automatic}
use Rattle.stream_options.specs.View.{strategy_of, policy_of}
use Rattle.stream_options.specs.AddCalls as add
use Rattle.stream_options.specs.ReadCalls as read
use Rattle.test_notation.specs.declared.call_sequences.AddCall.{AddCall}
use Rattle.test_notation.specs.declared.call_sequences.AddCall.TheVariants as add_call
use Rattle.test_notation.specs.declared.call_sequences.ReadCall.{ReadCall}
use Rattle.test_notation.specs.declared.call_sequences.ReadCall.TheVariants as read_call

-- the setting that a call on the options of an addition makes
abbrev pub add_call_of : AddCall → add.AddCall
add_call_of add_call.Nomkstream = (add.nomkstream, true)
add_call_of (add_call.Trim s) = (add.trim, strategy_of s)
add_call_of (add_call.Policy p) = (add.policy, policy_of p)
add_call_of (add_call.Idmp producer idempotent) =
    (add.idempotency, manual (string_bytes producer) (string_bytes idempotent))
add_call_of (add_call.Idmpauto producer) = (add.idempotency, automatic (string_bytes producer))

-- the arguments of a name: one for each of its parts
abbrev pub name_args : Vec RawBytes → List (List ℕ)
name_args parts = flat_map (λ part. part.0.items ∷ []) parts.items

-- the setting that a call on the options of a read makes
abbrev pub read_call_of : ReadCall → read.ReadCall
read_call_of read_call.Noack = (read.noack, true)
read_call_of (read_call.Block n) = (read.block, n)
read_call_of (read_call.Count n) = (read.count, n)
read_call_of (read_call.Claim n) = (read.claim, n)
read_call_of (read_call.Group g c) = (read.group, record { group = name_args g; consumer = name_args c })
