-- How arguments are read back as settings: reading from the left gives the settings and the arguments
-- that are left, or None. It is proved that this is the inverse of writing, and no contract depends on
-- it.
use Rattle.std.specs.Prelude.{◌^◌, ◌⊎◌, ℕ, Bool, true, false, ◌&&◌, ◌||◌, nat_lt, nat_le, List, [], ◌∷◌, codes, decimal}
use Rattle.std.specs.Prelude.{Option, Some, None, is_some, if◌then◌else◌}
use Rattle.std.proofs.Common.{inl, inr}
use Rattle.std.specs.Option.{option_map, option_and_then}
use Rattle.std.specs.Str.{bytes_eq, is_utf8}
use Rattle.std.specs.Str.Parse.{digits_value}
use Rattle.stream_options.specs.Add.{Add}
use Rattle.stream_options.specs.AutoClaim.{AutoClaim}
use Rattle.stream_options.specs.Claim.{Claim}
use Rattle.stream_options.specs.Config.{Config}
use Rattle.stream_options.specs.Idempotency.{Idempotency, manual, automatic, idempotency_words}
use Rattle.stream_options.specs.Maxlen.{Maxlen}
use Rattle.stream_options.specs.Nack.{Nack, silent, fail, fatal}
use Rattle.stream_options.specs.Policy.{Policy, keep_ref, del_ref, acked, policy_words}
use Rattle.stream_options.specs.Read.{Group, Read, group_with}
use Rattle.stream_options.specs.Trim.{Mode, exact, approx, Bound, max_len, min_id, Strategy, strategy_words, Trim}
use Rattle.stream_options.specs.Words.{begins}

-- ---- arguments

-- the number of these bytes, in the form that is written: with no sign and no leading zero, and in the
-- range of usize
unfoldable pub number_of : List ℕ → Option ℕ
number_of bytes = if bytes_eq bytes (decimal (digits_value 10 bytes)) && nat_lt (digits_value 10 bytes) (2 ^ 64)
    then Some (digits_value 10 bytes) else None

-- the text
unfoldable pub text_of : List ℕ → Option (List ℕ)
text_of bytes = if is_utf8 bytes then Some bytes else None

-- the mode of a word
abbrev pub mode_of : List ℕ → Option Mode
mode_of arg = if bytes_eq arg (codes "=") then Some exact else if bytes_eq arg (codes "~") then Some approx else None

-- the policy of a word
abbrev pub policy_of : List ℕ → Option Policy
policy_of arg = if bytes_eq arg (codes "KEEPREF") then Some keep_ref else if bytes_eq arg (codes "DELREF")
    then Some del_ref else if bytes_eq arg (codes "ACKED") then Some acked else None

-- the reason of a negative acknowledgement, of a word
abbrev pub nack_of : List ℕ → Option Nack
nack_of arg = if bytes_eq arg (codes "SILENT") then Some silent else if bytes_eq arg (codes "FAIL") then Some fail
    else if bytes_eq arg (codes "FATAL") then Some fatal else None

-- ---- ways to read

-- the value read from the left, and the arguments that are left
abbrev pub ReadsAs : Type 0 → Type 0
ReadsAs T = List (List ℕ) → Option (T × List (List ℕ))

-- a value that is there, and the arguments that are left
abbrev pub set : {T : Type 0} → T × List (List ℕ) → Option T × List (List ℕ)
set x = (Some x.0, x.1)

-- no value, and all arguments are left
abbrev pub unset : {T : Type 0} → List (List ℕ) → Option T × List (List ℕ)
unset args = (None, args)

-- a clause, if the arguments begin with one of its words
abbrev pub optional : {T : Type 0} → List (List ℕ) → ReadsAs T → ReadsAs (Option T)
optional words read args = if begins words args then option_map set (read args) else Some (unset args)

-- the first argument, by `of`
abbrev pub valued : {T : Type 0} → (List ℕ → Option T) → ReadsAs (Option T)
valued of [] = None
valued of (arg ∷ rest) = option_map (λ x. set (x, rest)) (of arg)

-- `[word argument]`
abbrev pub argument_clause : {T : Type 0} → (List ℕ → Option T) → List ℕ → ReadsAs (Option T)
argument_clause of word [] = Some (unset [])
argument_clause of word (arg ∷ rest) = if bytes_eq arg word then valued of rest else Some (unset (arg ∷ rest))

-- `[word n]`
abbrev pub number_clause : List ℕ → ReadsAs (Option ℕ)
number_clause = argument_clause number_of

-- `[word text]`
abbrev pub text_clause : List ℕ → ReadsAs (Option (List ℕ))
text_clause = argument_clause text_of

-- `[word]`
abbrev pub flag_clause : List ℕ → ReadsAs Bool
flag_clause word [] = Some (false, [])
flag_clause word (arg ∷ rest) = if bytes_eq arg word then Some (true, rest) else Some (false, arg ∷ rest)

-- the value read now, paired with the value read before
abbrev pub beside : {A B : Type 0} → A → B × List (List ℕ) → (A × B) × List (List ℕ)
beside a y = ((a, y.0), y.1)

-- the value that is read next
abbrev pub followed : {A B : Type 0} → ReadsAs B → A × List (List ℕ) → Option ((A × B) × List (List ℕ))
followed g x = option_map (beside x.0) (g x.1)

-- one after the other
abbrev pub both : {A B : Type 0} → ReadsAs A → ReadsAs B → ReadsAs (A × B)
both f g args = option_and_then (followed g) (f args)

-- a function applied to the value that was read
abbrev pub seen : {T S : Type 0} → (T → S) → T × List (List ℕ) → S × List (List ℕ)
seen from x = (from x.0, x.1)

-- a reading followed by a function
abbrev pub reading_as : {T S : Type 0} → (T → S) → ReadsAs T → ReadsAs S
reading_as from read args = option_map (seen from) (read args)

-- one reading if the arguments begin with a word, and otherwise another
abbrev pub either : {A B S : Type 0} → List (List ℕ) → (A → S) → ReadsAs A → (B → S) → ReadsAs B → ReadsAs S
either words left f right g args = if begins words args then option_map (seen left) (f args)
    else option_map (seen right) (g args)

-- built from one value that was read
abbrev pub one : {A V : Type 0} → (A → V) → Option A → List (List ℕ) → Option (V × List (List ℕ))
one make (Some a) rest = Some (make a, rest)
one make None rest = None

-- built from two values that were read
abbrev pub two : {A B V : Type 0} → (A → B → V) → Option A → Option B → List (List ℕ) → Option (V × List (List ℕ))
two make None p rest = None
two make (Some a) None rest = None
two make (Some a) (Some b) rest = Some (make a b, rest)

-- the first argument alone, by `of`
abbrev pub argument_at : {T : Type 0} → (List ℕ → Option T) → ReadsAs T
argument_at of [] = None
argument_at of (arg ∷ rest) = one (λ x. x) (of arg) rest

-- only a value that passes a test
abbrev pub if_passes : {T : Type 0} → (T → Bool) → T → Option T
if_passes test x = if test x then Some x else None

-- an argument that passes a test
abbrev pub kept : {T : Type 0} → (T → Bool) → (List ℕ → Option T) → List ℕ → Option T
kept test of bytes = option_and_then (if_passes test) (of bytes)

-- a reading that passes a test
abbrev pub filtered : {T : Type 0} → (T → Bool) → ReadsAs T → ReadsAs T
filtered test read args = option_and_then (if_passes (λ x. test x.0)) (read args)

-- ---- negative acknowledgements

-- the options of a negative acknowledgement
abbrev pub nack_at : ReadsAs Nack
nack_at = argument_at nack_of

-- ---- trimming

-- a length and its mode
abbrev pub maxlen_with : Mode → ℕ → Maxlen
maxlen_with mode count = record { mode = mode; count = count }

-- `MAXLEN mode n`
abbrev pub maxlen_at : ReadsAs Maxlen
maxlen_at [] = None
maxlen_at (w ∷ []) = None
maxlen_at (w ∷ m ∷ []) = None
maxlen_at (w ∷ m ∷ x ∷ rest) = if bytes_eq w (codes "MAXLEN") then two maxlen_with (mode_of m) (number_of x) rest
    else None

-- `MAXLEN mode n` or `MINID mode id`
abbrev pub bound_at : ReadsAs Bound
bound_at [] = None
bound_at (w ∷ []) = None
bound_at (w ∷ m ∷ []) = None
bound_at (w ∷ m ∷ x ∷ rest) = if bytes_eq w (codes "MAXLEN") then two max_len (mode_of m) (number_of x) rest
    else if bytes_eq w (codes "MINID") then two min_id (mode_of m) (text_of x) rest else None

-- a bound and a limit
abbrev pub strategy_with : Bound × Option ℕ → Strategy
strategy_with x = record { bound = x.0; limit = x.1 }

-- the words that a bound begins with
abbrev pub bound_words : List (List ℕ)
bound_words = codes "MAXLEN" ∷ codes "MINID" ∷ []

-- a strategy
abbrev pub strategy_at : ReadsAs Strategy
strategy_at = reading_as strategy_with (both bound_at (number_clause (codes "LIMIT")))

-- `[policy]`
abbrev pub policy_clause : ReadsAs (Option Policy)
policy_clause = optional policy_words (argument_at policy_of)

-- a strategy and a policy
abbrev pub trim_with : Strategy × Option Policy → Trim
trim_with x = record { strategy = x.0; policy = x.1 }

-- the options of a trimming
abbrev pub trim_at : ReadsAs Trim
trim_at = reading_as trim_with (both strategy_at policy_clause)

-- ---- additions

-- `IDMP producer idempotent` or `IDMPAUTO producer`
abbrev pub idempotency_at : ReadsAs Idempotency
idempotency_at [] = None
idempotency_at (w ∷ []) = None
idempotency_at (w ∷ p ∷ []) = if bytes_eq w (codes "IDMPAUTO") then one automatic (text_of p) [] else None
idempotency_at (w ∷ p ∷ i ∷ rest) = if bytes_eq w (codes "IDMPAUTO") then one automatic (text_of p) (i ∷ rest)
    else if bytes_eq w (codes "IDMP") then two manual (text_of p) (text_of i) rest else None

-- `[idempotency]`
abbrev pub idempotency_clause : ReadsAs (Option Idempotency)
idempotency_clause = optional idempotency_words idempotency_at

-- `[strategy]`
abbrev pub strategy_clause : ReadsAs (Option Strategy)
strategy_clause = optional strategy_words strategy_at

-- the settings of an addition
abbrev pub add_with : Bool × (Option Policy × (Option Idempotency × Option Strategy)) → Add
add_with x = record { nomkstream = x.0; policy = x.1.0; idempotency = x.1.1.0; trim = x.1.1.1 }

-- the options of an addition
abbrev pub add_at : ReadsAs Add
add_at =
    reading_as add_with
    (both (flag_clause (codes "NOMKSTREAM")) (both policy_clause (both idempotency_clause strategy_clause)))

-- ---- configurations

-- the range of a duration
abbrev pub in_duration : ℕ → Bool
in_duration n = nat_le 1 n && nat_le n 86400

-- the range of a number of entries
abbrev pub in_maxsize : ℕ → Bool
in_maxsize n = nat_le 1 n && nat_le n 10000

-- a duration and a number of entries
abbrev pub config_with : Option ℕ × Option ℕ → Config
config_with x = record { seconds = x.0; maxsize = x.1 }

-- at least one is set
abbrev pub any_set : Config → Bool
any_set c = is_some c.seconds || is_some c.maxsize

-- `[IDMP-DURATION d]`
abbrev pub duration_clause : ReadsAs (Option ℕ)
duration_clause args = argument_clause (kept in_duration number_of) (codes "IDMP-DURATION") args

-- `[IDMP-MAXSIZE m]`
abbrev pub maxsize_clause : ReadsAs (Option ℕ)
maxsize_clause args = argument_clause (kept in_maxsize number_of) (codes "IDMP-MAXSIZE") args

-- the options of a configuration
abbrev pub config_at : ReadsAs Config
config_at = filtered any_set (reading_as config_with (both duration_clause maxsize_clause))

-- ---- claims

-- a count and a flag
abbrev pub autoclaim_with : Option ℕ × Bool → AutoClaim
autoclaim_with x = record { count = x.0; justid = x.1 }

-- the options of an automatic claim
abbrev pub autoclaim_at : ReadsAs AutoClaim
autoclaim_at = reading_as autoclaim_with (both (number_clause (codes "COUNT")) (flag_clause (codes "JUSTID")))

-- the settings of a claim in their order
abbrev pub ClaimParts : Type 0
ClaimParts = Option ℕ × (Option ℕ × (Option ℕ × (Bool × (Bool × Option (List ℕ)))))

-- a claim with these settings
abbrev pub claim_with : ClaimParts → Claim
claim_with x =
    record { idle = x.0; time = x.1.0; retry = x.1.1.0; force = x.1.1.1.0; justid = x.1.1.1.1.0; lastid = x.1.1.1.1.1 }

-- the options of a claim
abbrev pub claim_at : ReadsAs Claim
claim_at =
    reading_as claim_with
    (both (number_clause (codes "IDLE")) (both (number_clause (codes "TIME")) (both (number_clause (codes "RETRYCOUNT"))
    (both (flag_clause (codes "FORCE")) (both (flag_clause (codes "JUSTID")) (text_clause (codes "LASTID")))))))

-- ---- reads

-- single names
abbrev pub single_group : List ℕ → List ℕ → Group
single_group g c = group_with (g ∷ []) (c ∷ [])

-- `GROUP g c`
abbrev pub group_at : ReadsAs Group
group_at [] = None
group_at (w ∷ []) = None
group_at (w ∷ g ∷ []) = None
group_at (w ∷ g ∷ c ∷ rest) = if bytes_eq w (codes "GROUP") then Some (single_group g c, rest) else None

-- the settings that count without a group: block and count
abbrev pub Ungrouped : Type 0
Ungrouped = Option ℕ × Option ℕ

-- the settings that count with a group: all
abbrev pub Grouped : Type 0
Grouped = Group × (Option ℕ × (Option ℕ × (Bool × Option ℕ)))

-- a read without a group
abbrev pub ungrouped_with : Ungrouped → Read
ungrouped_with x = record { group = None; block = x.0; count = x.1; noack = false; claim = None }

-- a read with a group
abbrev pub grouped_with : Grouped → Read
grouped_with x = record { group = Some x.0; block = x.1.0; count = x.1.1.0; noack = x.1.1.1.0; claim = x.1.1.1.1 }

-- `GROUP g c [BLOCK n] [COUNT n] [NOACK] [CLAIM n]`
abbrev pub grouped_at : ReadsAs Grouped
grouped_at =
    both group_at
    (both (number_clause (codes "BLOCK"))
    (both (number_clause (codes "COUNT")) (both (flag_clause (codes "NOACK")) (number_clause (codes "CLAIM")))))

-- `[BLOCK n] [COUNT n]`
abbrev pub ungrouped_at : ReadsAs Ungrouped
ungrouped_at = both (number_clause (codes "BLOCK")) (number_clause (codes "COUNT"))

-- either
abbrev pub counted_at : ReadsAs (Grouped ⊎ Ungrouped)
counted_at = either (codes "GROUP" ∷ []) (λ x. inl x) grouped_at (λ y. inr y) ungrouped_at

-- a read of either
abbrev pub read_with : Grouped ⊎ Ungrouped → Read
read_with (inl x) = grouped_with x
read_with (inr y) = ungrouped_with y

-- the options of a read
abbrev pub read_at : ReadsAs Read
read_at = reading_as read_with counted_at
