-- The default limits on the size of a reply.
use Rattle.redis_wire.specs.declared.limits.Limits.{Limits}

-- 128 levels, lengths of 512 MiB, lines of 64 KiB, 16,777,216 values in a reply, and 1 GiB in a stream
abbrev pub default_limits : Limits
default_limits = record { depth = 128; length = 536870912; line = 65536; values = 16777216; bytes = 1073741824 }
