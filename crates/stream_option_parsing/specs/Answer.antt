-- The output for an input.
use Rattle.std.specs.Prelude.{◌≡◌, ◌≤◌, ◌+◌, ℕ, List, [], ◌∷◌, ◌++◌, All, length, vec_len, vec_capacity}
use Rattle.std.specs.Prelude.{codes, decimal, Option, Some, None, if◌then◌else◌}
use Rattle.std.specs.Global.{Vec}
use Rattle.std.specs.Str.{bytes_eq}
use Rattle.stream_options.specs.Add.{AddFits, add_sentence, add_words}
use Rattle.stream_options.specs.AutoClaim.{AutoClaimFits, autoclaim_sentence, autoclaim_words}
use Rattle.stream_options.specs.Claim.{ClaimFits, claim_sentence, claim_words}
use Rattle.stream_options.specs.Config.{IsConfig, config_sentence, config_words}
use Rattle.stream_options.specs.Laws.{Any}
use Rattle.stream_options.specs.Nack.{nack_sentence, nack_words}
use Rattle.stream_options.specs.Read.{ReadFits, read_sentence, read_words}
use Rattle.stream_options.specs.Trim.{TrimFits, trim_sentence, trim_words}
use Rattle.stream_option_parsing.specs.Lines.{lines_of, parts_of}
use Rattle.stream_option_parsing.specs.Split.{IsSplit, HasNoSplit}

-- the types of options
pub data OptionType : Type 0 where
  trim : OptionType
  add : OptionType
  config : OptionType
  autoclaim : OptionType
  claim : OptionType
  read : OptionType
  nack : OptionType

-- the type of a type word
abbrev pub type_of : List ℕ → Option OptionType
type_of word = if bytes_eq word (codes "trim") then Some trim
    else if bytes_eq word (codes "add") then Some add
    else if bytes_eq word (codes "config") then Some config
    else if bytes_eq word (codes "autoclaim") then Some autoclaim
    else if bytes_eq word (codes "claim") then Some claim
    else if bytes_eq word (codes "read") then Some read
    else if bytes_eq word (codes "nack") then Some nack
    else None

-- the reply to one line
pub data Reply : Type 0 where
  unknown : Reply
  no : Reply
  ok : ℕ → Reply

-- the line that is written for it
abbrev pub reply_text : Reply → List ℕ
reply_text unknown = codes "unknown"
reply_text no = codes "no"
reply_text (ok k) = codes "ok " ++ decimal k

-- with its LF
abbrev pub reply_line : Reply → List ℕ
reply_line reply = reply_text reply ++ 10 ∷ []

-- the reply to arguments for one type: the k of the one split, or that there is none
abbrev pub IsVerdict : {T : Type 0} → (T → Type 0) → (T → List (List ℕ)) → List (List ℕ) → List (List ℕ) → Reply
    → Type 0
IsVerdict Fits sentence words args unknown = ⊥
IsVerdict Fits sentence words args no = HasNoSplit Fits sentence words args
IsVerdict {T = T} Fits sentence words args (ok k) = (settings : T) × IsSplit Fits sentence words args settings k

-- the reply by type
abbrev pub IsReplyOfType : OptionType → List (List ℕ) → Reply → Type 0
IsReplyOfType trim = IsVerdict TrimFits trim_sentence trim_words
IsReplyOfType add = IsVerdict AddFits add_sentence add_words
IsReplyOfType config = IsVerdict IsConfig config_sentence config_words
IsReplyOfType autoclaim = IsVerdict AutoClaimFits autoclaim_sentence autoclaim_words
IsReplyOfType claim = IsVerdict ClaimFits claim_sentence claim_words
IsReplyOfType read = IsVerdict ReadFits read_sentence read_words
IsReplyOfType nack = IsVerdict Any nack_sentence nack_words

-- the reply if a type is known, or if none is
abbrev pub IsReplyOf : Option OptionType → List (List ℕ) → Reply → Type 0
IsReplyOf None args reply = reply ≡ unknown
IsReplyOf (Some type) args reply = IsReplyOfType type args reply

-- the reply to the parts of a line
abbrev pub IsReply : List (List ℕ) → Reply → Type 0
IsReply [] reply = ⊥
IsReply (word ∷ args) reply = IsReplyOf (type_of word) args reply

-- a line for each line
abbrev pub AnswersLines : List (List ℕ) → List ℕ → Type 0
AnswersLines [] text = text ≡ []
AnswersLines (line ∷ lines) text = (reply : Reply) × (rest : List ℕ) × IsReply (parts_of line) reply
    × (text ≡ reply_line reply ++ rest) × AnswersLines lines rest

-- the output for an input
abbrev pub IsAnswer : List ℕ → List ℕ → Type 0
IsAnswer input answer = AnswersLines (lines_of input) answer

-- ---- for the functions within

-- the output for an input was appended
abbrev pub AppendsAnswer : List ℕ → List ℕ → List ℕ → Type 0
AppendsAnswer input old new = (answer : List ℕ) × IsAnswer input answer × (new ≡ old ++ answer)

-- a line with no argument, whose word is no type
pub record IsUnknownWord (line : List ℕ) : Type 0 where
  pub alone : parts_of line ≡ line ∷ []
  pub no_type : type_of line ≡ None

-- the capacity is enough for the output for the input
abbrev pub HasRoomFor : List ℕ → Vec ℕ → Type 0
HasRoomFor input output = (answer : List ℕ) × IsAnswer input answer
    × (vec_len output + length answer ≤ vec_capacity output)

-- no memory is needed: each line is such a word, and there is room for the output
abbrev pub NeedsNoMemory : List ℕ → Vec ℕ → Type 0
NeedsNoMemory input output = All IsUnknownWord (lines_of input) × HasRoomFor input output
