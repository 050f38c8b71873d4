-- The error of a connection for each error of the layers below.
use Rattle.std.specs.Prelude.{ℕ, zero, suc, Result, Ok, Err}
use Rattle.std.specs.declared.io.Error.{Error}
use Rattle.redis_args.specs.declared.writer.WriteError.{WriteError}
use Rattle.redis_args.specs.declared.writer.WriteError.TheVariants as write_errors
use Rattle.redis_wire.specs.declared.fault.WireError.{WireError}
use Rattle.redis_wire.specs.declared.fault.WireError.TheVariants as wire_errors
use Rattle.redis_wire.specs.declared.pack_error.PackError.{PackError}
use Rattle.redis_wire.specs.declared.pack_error.PackError.TheVariants as pack_errors
use Rattle.redis_wire.specs.declared.reply.ReplyError.{ReplyError}
use Rattle.redis_wire.specs.declared.reply.ReplyError.TheVariants as reply_errors
use Rattle.redis_connection.specs.declared.error.ConnectionError.{ConnectionError}
use Rattle.redis_connection.specs.declared.error.ConnectionError.TheVariants as errors
use Rattle.redis_connection.specs.declared.error.AskError.{AskError}
use Rattle.redis_connection.specs.declared.error.AskError.TheVariants as ask_errors

-- the result of a read: the number of bytes; `Closed` if there are none; or the reader's error
abbrev pub read_failure_of : Result ℕ Error → Result ℕ ConnectionError
read_failure_of (Ok zero) = Err errors.Closed
read_failure_of (Ok (suc n)) = Ok (suc n)
read_failure_of (Err e) = Err (errors.Read e)

-- the error of a stream of replies
abbrev pub failure_of : WireError → ConnectionError
failure_of wire_errors.Memory = errors.Memory
failure_of (wire_errors.Fault fault) = errors.Fault fault

-- the error of writing an argument
abbrev pub write_failure_of : WriteError → ConnectionError
write_failure_of write_errors.Memory = errors.Memory
write_failure_of write_errors.Full = errors.TooLong

-- the error of packing a command
abbrev pub pack_failure_of : PackError → ConnectionError
pack_failure_of pack_errors.Memory = errors.Memory
pack_failure_of pack_errors.Full = errors.TooLong
pack_failure_of pack_errors.NoArguments = errors.NoArguments

-- the error of reading a reply as a record
abbrev pub refusal_of : ReplyError → AskError
refusal_of (reply_errors.Server e) = ask_errors.Server e
refusal_of (reply_errors.Parsing e) = ask_errors.Parsing e
refusal_of reply_errors.NotAnAnswer = ask_errors.NotAnAnswer
