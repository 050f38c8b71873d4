-- The meaning of the bytes of a reply.
use Rattle.std.specs.Prelude.{◌≡◌, ℕ, List, ◌++◌, Some, None, Result, Ok, Err}
use Rattle.redis.specs.Words.{Answer, IsFirstFault, IsReply, NoReply, Tree, default_limits}
use Rattle.redis.specs.Words.{first_error, read_reading, streams_of, value}
use Rattle.redis_resp.specs.declared.value.error.ParsingError.TheVariants.{UnknownReadFormat}
use Rattle.stream_entries.specs.declared.read.StreamReadReply.{StreamReadReply}
use Rattle.redis_wire.specs.declared.fault.WireError.TheVariants as errors
use Rattle.examples.specs.declared.wire.AnswerError.{AnswerError}
use Rattle.examples.specs.declared.wire.AnswerError.TheVariants.{Fault, Incomplete, Memory, NotAnAnswer, Parsing, Server}

-- `bytes` starts with the reply `a`
pub record BeginsWith (bytes : List ℕ) (a : Answer) : Type 0 where
  pub text : List ℕ
  pub rest : List ℕ
  pub head : bytes ≡ text ++ rest
  pub reply : IsReply default_limits text a

-- the result for the reply `a`. `Ok(r)`: the record of the value is `r`. `Parsing`: the value has no record.
-- `Server(e)`: `e` is the first error in the reply. `NotAnAnswer`: the reply has no error. `Memory`: nothing is
-- known
abbrev pub Answers : Answer → Result StreamReadReply AnswerError → Type 0
Answers a (Err Memory) = Unit {0}
Answers a (Err (Server e)) = first_error a ≡ Some e.text.items
Answers (value t) (Ok r) = read_reading t ≡ Some (streams_of r.keys)
Answers (value t) (Err (Parsing e)) = read_reading t ≡ None
Answers (value t) r = ⊥
Answers a (Err NotAnAnswer) = first_error a ≡ None
Answers a r = ⊥

-- what `bytes` starts with, by the result. `Ok` and `Parsing`: a value. `Server`: a reply with an error.
-- `NotAnAnswer`: a reply without an error. `Incomplete`: no complete reply. `Fault`: no reply, whatever
-- follows. `Memory`: nothing is known
abbrev pub Tells : List ℕ → Result StreamReadReply AnswerError → Type 0
Tells bytes (Ok r) = (t : Tree) × BeginsWith bytes (value t)
Tells bytes (Err (Parsing e)) = (t : Tree) × BeginsWith bytes (value t)
Tells bytes (Err (Server e)) =
    (a : Answer) × BeginsWith bytes a × (first_error a ≡ Some e.text.items)
Tells bytes (Err NotAnAnswer) = (a : Answer) × BeginsWith bytes a × (first_error a ≡ None)
Tells bytes (Err Incomplete) = NoReply default_limits bytes
Tells bytes (Err (Fault f)) = (more : List ℕ) → NoReply default_limits (bytes ++ more)
Tells bytes (Err Memory) = Unit {0}

-- the cause in an error. A fault is the first one in `bytes`. A value that is not streams is
-- `UnknownReadFormat`
abbrev pub NamesCause : List ℕ → AnswerError → Type 0
NamesCause bytes (Fault f) = IsFirstFault default_limits bytes (errors.Fault f)
NamesCause bytes (Parsing e) = e ≡ UnknownReadFormat
NamesCause bytes e = Unit {0}
