-- What is at the head of bytes, and what refused bytes say of the values in them.
use Rattle.std.proofs.Common.{◌≡◌, ◌≢◌, ◌⊎◌, inl, inr, ℕ, List, Option, Some, None, Result, Ok, Err, take, drop, refl}
use Rattle.std.proofs.Common.{sym, ap, ◌∙◌, subst}
use Rattle.std.proofs.lemmas.List.{take-append-drop}
use Rattle.std.proofs.lemmas.Option.{none-some}
use Rattle.redis.specs.Words.{Answer, IsErrorOf, IsRecord, IsReply, RefusesRead, Tree, default_limits}
use Rattle.redis.specs.Words.{first_error, group, pushed, read_reading, refused, streams_of, value}
use Rattle.redis_resp.specs.declared.value.error.ParsingError.{ParsingError}
use Rattle.redis_resp.specs.declared.value.error.ParsingError.TheVariants as parsing
use Rattle.stream_entries.specs.declared.read.StreamReadReply.{StreamReadReply}
use Rattle.redis_wire.specs.declared.limits.Limits.{Limits}
use Rattle.redis_wire.specs.declared.reply.ReplyError.{ReplyError}
use Rattle.redis_wire.specs.declared.reply.ReplyError.TheVariants as replies
use Rattle.redis_wire.specs.declared.reply.ServerError.{ServerError}
use Rattle.examples.specs.Wire.{BeginsWith, Answers}
use Rattle.examples.specs.declared.wire.AnswerError.{AnswerError}
use Rattle.examples.specs.declared.wire.AnswerError.TheVariants.{Incomplete, Fault, Server, NotAnAnswer, Parsing, Memory}

-- a value whose bytes are refused for another cause than memory has no record
unread : (t : Tree) (e : AnswerError) → Answers (value t) (Err e) → e ≢ Memory → read_reading t ≡ None
unread t Incomplete h m = absurd h
unread t (Fault f) h m = absurd h
unread t (Server s) h m = absurd (none-some s.text.items h)
unread t NotAnAnswer h m = absurd h
unread t (Parsing p) h m = h
unread t Memory h m = absurd (m refl)

-- and neither has another value that reads the same
pub first_refused : (v w : Tree) (e : AnswerError) → read_reading v ≡ read_reading w → Answers (value v) (Err e)
    → e ≢ Memory → (read_reading v ≡ None) × (read_reading w ≡ None)
first_refused v w e same h m = let none = unread v e h m in (none, sym same ∙ none)

pub second_refused : (v w : Tree) (e : AnswerError) → read_reading v ≡ read_reading w → Answers (value w) (Err e)
    → e ≢ Memory → (read_reading v ≡ None) × (read_reading w ≡ None)
second_refused v w e same h m = let none = unread w e h m in (same ∙ none, none)

-- the bytes begin with what is decoded of them
begun : (limits : Limits) (bytes : List ℕ) (len : ℕ) (a : Answer) → limits ≡ default_limits
    → IsReply limits (take len bytes) a → BeginsWith bytes a
begun limits bytes len a e is = record {
  text = take len bytes;
  rest = drop len bytes;
  head = sym (take-append-drop len bytes);
  reply = subst (λ l. IsReply l (take len bytes) a) e is;
}

-- what reading a reply as streams returns
abbrev pub IsStreams : Answer → Result StreamReadReply ReplyError → Type 0
IsStreams a r = IsRecord read_reading RefusesRead (λ s. streams_of s.keys) a r

-- the first, unless it is the second
the_first : {A B : Type 0} → A ⊎ B → (B → ⊥) → A
the_first (inl a) other = a
the_first (inr b) other = absurd (other b)

-- a reply that is no value has no record
no_record : (o : Option (List ℕ)) (r : StreamReadReply) → IsErrorOf o (Ok r) → ⊥
no_record None r h = h
no_record (Some text) r h = h

-- nor is it refused
no_parsing : (o : Option (List ℕ)) (e : ParsingError) → IsErrorOf {R = StreamReadReply} o (Err (replies.Parsing e)) → ⊥
no_parsing None e h = h
no_parsing (Some text) e h = h

-- the outcome is its error
error_is : (o : Option (List ℕ)) (e : ServerError) → IsErrorOf {R = StreamReadReply} o (Err (replies.Server e))
    → o ≡ Some e.text.items
error_is None e h = absurd h
error_is (Some text) e h = ap Some (sym h)

-- or it has none
nothing_is : (o : Option (List ℕ)) → IsErrorOf {R = StreamReadReply} o (Err replies.NotAnAnswer) → o ≡ None
nothing_is None h = refl
nothing_is (Some text) h = absurd h

-- the same of a whole reply
first_is : (a : Answer) (e : ServerError) → IsStreams a (Err (replies.Server e)) → first_error a ≡ Some e.text.items
first_is (value t) e h = absurd h
first_is (refused text) e h = error_is (Some text) e h
first_is (group k xs) e h = error_is (first_error (group k xs)) e h
first_is (pushed k xs) e h = error_is None e h

none_is : (a : Answer) → IsStreams a (Err replies.NotAnAnswer) → first_error a ≡ None
none_is (value t) h = absurd h
none_is (refused text) h = nothing_is (Some text) h
none_is (group k xs) h = nothing_is (first_error (group k xs)) h
none_is (pushed k xs) h = refl

-- no streams are refused under one name, unless memory ran out
pub unknown_format : (a : Answer) (e : ParsingError) → IsStreams a (Err (replies.Parsing e)) → e ≢ parsing.Memory
    → e ≡ parsing.UnknownReadFormat
unknown_format (value t) e read m = the_first read.0 (λ q. m q.0)
unknown_format (refused text) e read m = absurd read
unknown_format (group k xs) e read m = absurd (no_parsing (first_error (group k xs)) e read)
unknown_format (pushed k xs) e read m = absurd read

module _ (limits : Limits) (bytes : List ℕ) (len : ℕ) (same : limits ≡ default_limits) where
  -- a value, if a record was read
  pub value_begun : (a : Answer) (r : StreamReadReply) → IsReply limits (take len bytes) a → IsStreams a (Ok r)
      → (t : Tree) × BeginsWith bytes (value t)
  value_begun (value t) r is read = (t, begun limits bytes len (value t) same is)
  value_begun (refused text) r is read = absurd read
  value_begun (group k xs) r is read = absurd (no_record (first_error (group k xs)) r read)
  value_begun (pushed k xs) r is read = absurd read

  -- or was refused
  pub refused_begun : (a : Answer) (e : ParsingError) → IsReply limits (take len bytes) a
      → IsStreams a (Err (replies.Parsing e)) → (t : Tree) × BeginsWith bytes (value t)
  refused_begun (value t) e is read = (t, begun limits bytes len (value t) same is)
  refused_begun (refused text) e is read = absurd read
  refused_begun (group k xs) e is read = absurd (no_parsing (first_error (group k xs)) e read)
  refused_begun (pushed k xs) e is read = absurd read

  -- an error, if the server returned it
  pub error_begun : (a : Answer) (e : ServerError) → IsReply limits (take len bytes) a
      → IsStreams a (Err (replies.Server e)) → (b : Answer) × BeginsWith bytes b × (first_error b ≡ Some e.text.items)
  error_begun a e is read = (a, begun limits bytes len a same is, first_is a e read)

  -- none, if the reply has none
  pub none_begun : (a : Answer) → IsReply limits (take len bytes) a → IsStreams a (Err replies.NotAnAnswer)
      → (b : Answer) × BeginsWith bytes b × (first_error b ≡ None)
  none_begun a is read = (a, begun limits bytes len a same is, none_is a read)
