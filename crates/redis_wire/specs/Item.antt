-- Lines, bulk strings and headers of groups, one by one, before values are built; and the start of a reply.
use Rattle.std.specs.Prelude.{◌-◌, ◌==◌, ℕ, zero, suc, List, [], ◌∷◌, Option, Some, None, Result, Ok}
use Rattle.std.specs.Prelude.{Err, if◌then◌else◌}
use Rattle.redis_wire.specs.declared.fault.Fault.TheVariants.{UnknownType, TooDeep, BadLength, BadPush}
use Rattle.redis_wire.specs.declared.limits.Limits.{Limits}
use Rattle.redis_wire.specs.declared.kind.Kind.{Kind}
use Rattle.redis_wire.specs.declared.kind.Kind.TheVariants as kinds
use Rattle.redis_wire.specs.declared.kind.BlobKind.{BlobKind}
use Rattle.redis_wire.specs.declared.kind.GroupKind.{GroupKind}
use Rattle.redis_wire.specs.Kind.{kind_of}
use Rattle.redis_wire.specs.declared.scanning.Open.{Open}
use Rattle.redis_wire.specs.Reading.{short, bad, Halt, Read, ◌>>=◌, line_at, blob_at}
use Rattle.redis_wire.specs.Scalar.{line_answer, blob_answer, no_blob_answer}
use Rattle.redis_wire.specs.Group.{member_count, no_group_answer}
use Rattle.redis_wire.specs.Level.{length_at}
use Rattle.redis_wire.specs.Push.{kind_at}

-- checks the payload of a length-prefixed value, which has 0 members
unfoldable pub body_passed : BlobKind → List ℕ → Result ℕ Halt
body_passed k text = blob_answer k text >>= λ a. Ok 0

-- passes length-prefixed bytes of this length
unfoldable pub blob_passed : BlobKind → Option ℕ → List ℕ → Read ℕ
blob_passed k None bytes = no_blob_answer k >>= λ a. Ok (0, bytes)
blob_passed k (Some n) bytes = blob_at n bytes >>= λ x. body_passed k x.0 >>= λ c. Ok (c, x.1)

-- the number of values that follow a header with this count
unfoldable pub count_behind : GroupKind → Option ℕ → Result ℕ Halt
count_behind k None = no_group_answer k >>= λ a. Ok 0
count_behind k (Some n) = Ok (member_count k n)

-- passes an item after a first byte of this kind, up to the members of a group
unfoldable pub item_of : Limits → Option Kind → List ℕ → Read ℕ
item_of limits None bytes = Err (bad UnknownType)
item_of limits (Some (kinds.Line k)) bytes =
    line_at limits.line bytes >>= λ x. line_answer k x.0 >>= λ a. Ok (0, x.1)
item_of limits (Some (kinds.Blob k)) bytes =
    length_at limits bytes >>= λ x. blob_passed k x.0 x.1
item_of limits (Some (kinds.Group k)) bytes =
    length_at limits bytes >>= λ x. count_behind k x.0 >>= λ c. Ok (c, x.1)

-- passes a whole line or bulk string, or the header of a group, with the number of members of the
-- group
unfoldable pub item_at : Limits → List ℕ → Read ℕ
item_at limits [] = Err short
item_at limits (b ∷ bytes) = item_of limits (kind_of b) bytes

-- the members that must follow the kind of a message with this count
unfoldable pub push_begins : Limits → Option ℕ → List ℕ → Read Open
push_begins limits None bytes = Err (bad BadLength)
push_begins limits (Some zero) bytes = Err (bad BadPush)
push_begins limits (Some (suc n)) bytes =
    kind_at limits bytes >>= λ x. Ok (record { depth = limits.depth - 1; left = n }, x.1)

-- passes the header of a message
unfoldable pub push_begins_at : Limits → List ℕ → Read Open
push_begins_at limits bytes = if limits.depth == 0 then Err (bad TooDeep)
    else length_at limits bytes >>= λ x. push_begins limits x.0 x.1

-- what a reply consists of: one value, or the members of a message after its kind
unfoldable pub begins_at : Limits → List ℕ → Read Open
begins_at limits [] = Err short
begins_at limits (b ∷ bytes) = if b == 62 then push_begins_at limits bytes
    else Ok (record { depth = limits.depth; left = 1 }, b ∷ bytes)
