-- A pushed message, and a whole reply: such a message, or a value.
use Rattle.std.specs.Prelude.{ℕ, zero, suc, ◌==◌, ◌-◌, List, [], ◌∷◌, Option, Some, None, Result, Ok, Err}
use Rattle.std.specs.Prelude.{if◌then◌else◌}
use Rattle.std.specs.Str.{is_utf8}
use Rattle.redis_wire.specs.declared.fault.Fault.TheVariants.{BadLength, BadPush, NotUtf8, TooDeep}
use Rattle.redis_wire.specs.declared.limits.Limits.{Limits}
use Rattle.redis_wire.specs.declared.kind.Kind.{Kind}
use Rattle.redis_wire.specs.declared.kind.Kind.TheVariants as kinds
use Rattle.redis_wire.specs.declared.kind.LineKind.TheVariants as lines
use Rattle.redis_wire.specs.declared.kind.BlobKind.TheVariants as blobs
use Rattle.redis_wire.specs.Kind.{kind_of}
use Rattle.redis_wire.specs.Reading.{Halt, bad, short, Read, ◌>>=◌, line_at, blob_at}
use Rattle.redis_wire.specs.Reply.{Answer, pushed, answer_list, one_by_one}
use Rattle.redis_wire.specs.Group.{many}
use Rattle.redis_wire.specs.Level.{length_at, value_at}

-- the kind of a message is UTF-8 text
abbrev pub kind_text : List ℕ → Result (List ℕ) Halt
kind_text text = if is_utf8 text then Ok text else Err (bad NotUtf8)

-- the kind of a message as a bulk string of this length
unfoldable pub kind_body_at : Option ℕ → List ℕ → Read (List ℕ)
kind_body_at None bytes = Err (bad BadPush)
kind_body_at (Some n) bytes = blob_at n bytes >>= λ x. kind_text x.0 >>= λ k. Ok (k, x.1)

-- the kind of a message after a first byte of this type: a simple string or a bulk string
unfoldable pub kind_by : Limits → Option Kind → List ℕ → Read (List ℕ)
kind_by limits (Some (kinds.Line lines.Status)) bytes =
    line_at limits.line bytes >>= λ x. kind_text x.0 >>= λ k. Ok (k, x.1)
kind_by limits (Some (kinds.Blob blobs.Bulk)) bytes =
    length_at limits bytes >>= λ x. kind_body_at x.0 x.1
kind_by limits _ bytes = Err (bad BadPush)

-- the kind of a message
unfoldable pub kind_at : Limits → List ℕ → Read (List ℕ)
kind_at limits [] = Err short
kind_at limits (b ∷ bytes) = kind_by limits (kind_of b) bytes

-- a message with this number of members: its kind, and the values sent with it
unfoldable pub push_body_at : Limits → Option ℕ → List ℕ → Read Answer
push_body_at limits None bytes = Err (bad BadLength)
push_body_at limits (Some zero) bytes = Err (bad BadPush)
push_body_at limits (Some (suc n)) bytes = kind_at limits bytes >>= λ x.
    many (value_at limits (limits.depth - 1)) n x.1 >>= λ y.
    Ok (pushed x.0 (answer_list (one_by_one y.0)), y.1)

-- a count, and the message that follows it; it is a level of its own
unfoldable pub push_at : Limits → List ℕ → Read Answer
push_at limits bytes = if limits.depth == 0 then Err (bad TooDeep)
    else length_at limits bytes >>= λ x. push_body_at limits x.0 x.1

-- a reply: a message after `>`, which no value contains, or a value
unfoldable pub reply_at : Limits → List ℕ → Read Answer
reply_at limits [] = Err short
reply_at limits (b ∷ bytes) = if b == 62 then push_at limits bytes
    else value_at limits limits.depth (b ∷ bytes)
