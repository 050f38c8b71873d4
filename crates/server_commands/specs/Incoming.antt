-- Commands as redis-server reads them: the command at the start of bytes and the bytes after it, or why there is
-- none.
use Rattle.std.specs.Prelude.{◌≡◌, ◌≤◌, ℕ, zero, suc, ◌+◌, ◌==◌, ◌&&◌, Bool, not, ℤ, pos, negsuc, List, [], ◌∷◌, ◌++◌, codes, length}
use Rattle.std.specs.Prelude.{take, drop, Option, Some, None, Result, Ok, Err, nat_lt, if◌then◌else◌}
use Rattle.std.specs.List.{prefix_len}
use Rattle.std.specs.Str.{bytes_eq}
use Rattle.std.specs.Fmt.{signed_decimal}
use Rattle.redis_wire.specs.Scalar.{number_of}
use Rattle.redis_wire.specs.Written.{line_bytes}
use Rattle.redis_wire.specs.WrittenReply.{blank_end}
use Rattle.server_commands.specs.Quoted.{Turn, fails, split_words}
use Rattle.server_commands.specs.declared.incoming.ProtocolError.{ProtocolError}
use Rattle.server_commands.specs.declared.incoming.ProtocolError.TheVariants as errors
use Rattle.server_commands.specs.declared.incoming.Scan.{Scan}
use Rattle.server_commands.specs.declared.incoming.Stop.{Stop}
use Rattle.server_commands.specs.declared.incoming.Stop.TheVariants as stops

-- why no command is at the start of bytes
pub data Halt : Type 0 where
  -- the bytes end before a command does, and may become one with more bytes
  short : Halt
  -- they are no command, whatever bytes follow
  bad : ProtocolError → Halt

-- the value at the start, and the bytes after it
abbrev pub Read : Type 0 → Type 0
Read A = Result (A × List ℕ) Halt

infixl 10 ◌>>=◌
-- one step, and after it the next one of what it gave; the first Halt stops both
abbrev pub ◌>>=◌ : {A B : Type 0} → Result A Halt → (A → Result B Halt) → Result B Halt
(Ok x) >>= f = f x
(Err e) >>= f = Err e

-- The code stopped as reading does, unless memory ran out.
abbrev pub Fails : {Y : Type 0} → Stop → Result Y Halt → Type 0
Fails stops.Memory read = Unit {0}
Fails stops.Short read = read ≡ Err short
Fails (stops.Fault e) read = read ≡ Err (bad e)

-- What a function returned, seen by view, is what the parsing gives, unless memory ran out.
abbrev pub Gives : {X Y : Type 0} → (X → Y) → Result X Stop → Result Y Halt → Type 0
Gives view (Ok x) read = read ≡ Ok (view x)
Gives view (Err e) read = Fails e read

-- ---- lines

-- why a line with no end among n bytes is not read: 65,536 are the most
abbrev pub no_end : ProtocolError → ℕ → Halt
no_end e n = if nat_lt 65536 n then bad e else short

-- a byte before the end of a line; a NUL is not one, and ends no line
abbrev pub is_before : ℕ → ℕ → Bool
is_before end b = not (b == end) && not (b == 0)

-- a prefix, and the bytes after the byte that has to end it
unfoldable pub ended : ℕ → ProtocolError → ℕ → List ℕ → List ℕ → Read (List ℕ)
ended end e n front [] = Err (no_end e n)
ended end e n front (b ∷ rest) = if b == end then Ok (front, rest) else Err (no_end e n)

-- the bytes before the first of this byte, at most 65,536, and those after it
unfoldable pub before : ℕ → ProtocolError → List ℕ → Read (List ℕ)
before end e bytes = if nat_lt 65536 (prefix_len (is_before end) bytes) then Err (bad e)
    else ended end e (length bytes) (take (prefix_len (is_before end) bytes) bytes)
    (drop (prefix_len (is_before end) bytes) bytes)

-- a line, and the bytes after the byte that follows its CR, whatever that byte is
unfoldable pub behind_one : List ℕ → List ℕ → Read (List ℕ)
behind_one line [] = Err short
behind_one line (b ∷ rest) = Ok (line, rest)

-- a line that CR and one byte more end
unfoldable pub head_at : ProtocolError → List ℕ → Read (List ℕ)
head_at e bytes = before 13 e bytes >>= λ x. behind_one x.0 x.1

-- ---- numbers

-- the number, where this is how it is written: no plus sign, no leading zero
abbrev pub written_so : List ℕ → Option ℤ → Option ℤ
written_so text None = None
written_so text (Some z) = if bytes_eq (signed_decimal z) text then Some z else None

-- the number that a text is
unfoldable pub strict_number : List ℕ → Option ℤ
strict_number text = written_so text (number_of text)

-- the number of words, at most 2,147,483,647; 0 for a negative number
abbrev pub count_of : Option ℤ → Result ℕ Halt
count_of None = Err (bad errors.BadCount)
count_of (Some (pos n)) = if nat_lt 2147483647 n then Err (bad errors.BadCount) else Ok n
count_of (Some (negsuc n)) = Ok 0

-- the number of bytes, at most 512 MiB
abbrev pub length_of : Option ℤ → Result ℕ Halt
length_of None = Err (bad errors.BadLength)
length_of (Some (pos n)) = if nat_lt 536870912 n then Err (bad errors.BadLength) else Ok n
length_of (Some (negsuc n)) = Err (bad errors.BadLength)

-- the number of words in the head of an array, after its first byte
unfoldable pub word_count : List ℕ → Result ℕ Halt
word_count [] = Err (bad errors.BadCount)
word_count (b ∷ digits) = count_of (strict_number digits)

-- the number of bytes in the head of a word, after a `$`
unfoldable pub word_len : List ℕ → Result ℕ Halt
word_len [] = Err (bad (errors.NoLength 13))
word_len (b ∷ digits) = if b == 36 then length_of (strict_number digits) else Err (bad (errors.NoLength b))

-- ---- commands

-- a body, and what is after the two bytes that follow it, whatever those are
unfoldable pub behind_two : List ℕ → List ℕ → Read (List ℕ)
behind_two body [] = Err short
behind_two body (b ∷ []) = Err short
behind_two body (b ∷ c ∷ rest) = Ok (body, rest)

-- n bytes, with two more after them
unfoldable pub body_at : List ℕ → ℕ → Read (List ℕ)
body_at bytes n = if nat_lt (length bytes) n then Err short else behind_two (take n bytes) (drop n bytes)

-- a word: its length and its bytes
unfoldable pub word_at : List ℕ → Read (List ℕ)
word_at bytes = head_at errors.LongLength bytes >>= λ x. word_len x.0 >>= body_at x.1

-- n words
unfoldable pub words_at : ℕ → List ℕ → Read (List (List ℕ))
words_at zero bytes = Ok ([], bytes)
words_at (suc n) bytes = word_at bytes >>= λ x. words_at n x.1 >>= λ y. Ok (x.0 ∷ y.0, y.1)

-- how many words an array has
unfoldable pub count_at : List ℕ → Read ℕ
count_at bytes = head_at errors.LongCount bytes >>= λ x. word_count x.0 >>= λ n. Ok (n, x.1)

-- a count, and the words
unfoldable pub array_at : List ℕ → Read (List (List ℕ))
array_at bytes = count_at bytes >>= λ x. words_at x.0 x.1

-- the words of a line
abbrev pub balanced : Option (List (List ℕ)) → Result (List (List ℕ)) Halt
balanced None = Err (bad errors.UnbalancedQuotes)
balanced (Some words) = Ok words

-- why a byte of a line is refused: memory ran out, or quotes are unbalanced
abbrev pub FailsAt : Turn → Stop → Type 0
FailsAt turn stops.Memory = Unit {0}
FailsAt turn stops.Short = ⊥
FailsAt turn (stops.Fault e) = (turn ≡ fails) × (e ≡ errors.UnbalancedQuotes)

-- a line of words
unfoldable pub line_at : List ℕ → Read (List (List ℕ))
line_at bytes = before 10 errors.LongLine bytes >>= λ x. balanced (split_words x.0) >>= λ words. Ok (words, x.1)

-- a command, its name first; an empty one gets no reply
unfoldable pub command_at : List ℕ → Read (List (List ℕ))
command_at [] = Err short
command_at (b ∷ bytes) = if b == 42 then array_at (b ∷ bytes) else line_at (b ∷ bytes)

-- After the first `at` bytes `left` words are to come. While these are incomplete, the command is too, whatever bytes
-- follow.
pub record IsScan (scan : Scan) (bytes : List ℕ) : Type 0 where
  pub within : scan.at ≤ length bytes
  pub goes_on : (more : List ℕ) → words_at scan.left (drop scan.at bytes ++ more) ≡ Err short
      → command_at (bytes ++ more) ≡ Err short

-- -- the texts of errors

-- the text of redis-server; for `NoLength` the byte and a quote follow
abbrev pub fault_text : ProtocolError → List ℕ
fault_text errors.LongCount = codes "too big mbulk count string"
fault_text errors.LongLength = codes "too big bulk count string"
fault_text errors.LongLine = codes "too big inline request"
fault_text errors.BadCount = codes "invalid multibulk length"
fault_text errors.BadLength = codes "invalid bulk length"
fault_text (errors.NoLength b) = codes "expected '$', got '"
fault_text errors.UnbalancedQuotes = codes "unbalanced quotes in request"

-- what follows it: a space is in place of CR and LF
abbrev pub fault_end : ProtocolError → List ℕ
fault_end (errors.NoLength b) = blank_end b ∷ 39 ∷ []
fault_end e = []

-- the text of a protocol error
abbrev pub error_text : ProtocolError → List ℕ
error_text e = codes "ERR Protocol error: " ++ (fault_text e ++ fault_end e)

-- the error as it is sent
abbrev pub protocol_error_bytes : ProtocolError → List ℕ
protocol_error_bytes e = line_bytes 45 (error_text e)
