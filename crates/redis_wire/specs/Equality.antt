-- When two errors of reading a reply are equal.
use Rattle.std.specs.Prelude.{◌≡◌}
use Rattle.redis_wire.specs.declared.reply.ReplyError.{ReplyError}
use Rattle.redis_wire.specs.declared.reply.ReplyError.TheVariants.{Server, Parsing, NotAnAnswer}

-- both are errors of a server with the same bytes, or both are the same parsing error, or both are
-- `NotAnAnswer`
abbrev pub AreEqual : ReplyError → ReplyError → Type 0
AreEqual (Server a) (Server b) = a.text.items ≡ b.text.items
AreEqual (Parsing a) (Parsing b) = a ≡ b
AreEqual NotAnAnswer NotAnAnswer = Unit {0}
AreEqual _ _ = ⊥
