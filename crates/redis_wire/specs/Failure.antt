-- The error of a caller that an inner error becomes.
use Rattle.redis_args.specs.declared.writer.WriteError.{WriteError}
use Rattle.redis_args.specs.declared.writer.WriteError.TheVariants as write_errors
use Rattle.redis_resp.specs.declared.value.error.ParsingError.{ParsingError}
use Rattle.redis_resp.specs.declared.value.error.ParsingError.TheVariants as parsing_errors
use Rattle.redis_wire.specs.declared.fault.WireError.{WireError}
use Rattle.redis_wire.specs.declared.fault.WireError.TheVariants as wire_errors
use Rattle.redis_wire.specs.declared.pack_error.PackError.{PackError}
use Rattle.redis_wire.specs.declared.pack_error.PackError.TheVariants as pack_errors
use Rattle.redis_wire.specs.declared.reply.ReplyError.{ReplyError}
use Rattle.redis_wire.specs.declared.reply.ReplyError.TheVariants as reply_errors
use Rattle.redis_wire.specs.declared.error.RedisError.{RedisError}
use Rattle.redis_wire.specs.declared.error.RedisError.TheVariants as errors

-- an error of decoding
abbrev pub wire_failure : WireError → RedisError
wire_failure wire_errors.Memory = errors.Memory
wire_failure (wire_errors.Fault fault) = errors.Fault fault

-- why an argument was not written
abbrev pub write_failure : WriteError → RedisError
write_failure write_errors.Memory = errors.Memory
write_failure write_errors.Full = errors.Full

-- why a command was not packed, if one of its arguments was not written
abbrev pub pack_error : WriteError → PackError
pack_error write_errors.Memory = pack_errors.Memory
pack_error write_errors.Full = pack_errors.Full

-- why a command was not packed
abbrev pub pack_failure : PackError → RedisError
pack_failure pack_errors.Memory = errors.Memory
pack_failure pack_errors.Full = errors.Full
pack_failure pack_errors.NoArguments = errors.NoArguments

-- why a value has no record; if memory ran out, nothing is known of the value
abbrev pub parsing_failure : ParsingError → RedisError
parsing_failure parsing_errors.Memory = errors.Memory
parsing_failure other = errors.Parsing other

-- why a reply is not a record
abbrev pub reply_failure : ReplyError → RedisError
reply_failure (reply_errors.Server e) = errors.Server e
reply_failure (reply_errors.Parsing e) = parsing_failure e
reply_failure reply_errors.NotAnAnswer = errors.NotAnAnswer
