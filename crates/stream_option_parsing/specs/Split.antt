-- Splits of argument lists, and what a reader of options returns.
use Rattle.std.specs.Prelude.{◌≡◌, ◌≤◌, ℕ, List, map, length, take, drop, Option, None, Result, Ok, Err, Some}
use Rattle.std.specs.Global.{Vec}
use Rattle.stream_options.specs.ReadBack.{ReadsAs, reading_as, bound_at}
use Rattle.stream_options.specs.Trim.{Strategy, unlimited}
use Rattle.stream_options.specs.Words.{IsFree}
use Rattle.stream_option_parsing.specs.declared.error.SentenceError.{SentenceError}
use Rattle.stream_option_parsing.specs.declared.error.SentenceError.TheVariants.{NotASentence, Memory}

-- the arguments, by their bytes
abbrev pub arguments : List (Vec ℕ) → List (List ℕ)
arguments args = map (λ arg. arg.items) args

-- a split: the first k arguments are those of these settings, and what follows is a free
-- rest
pub record IsSplit {T : Type 0} (Fits : T → Type 0) (sentence : T → List (List ℕ)) (words args : List (List ℕ))
    (settings : T) (k : ℕ) : Type 0 where
  pub fits : Fits settings
  pub within : k ≤ length args
  pub spelled : take k args ≡ sentence settings
  pub free : IsFree words (drop k args)

-- the one split: every other has the same settings, as far as they are compared, and the same k
pub record IsOneSplit {T : Type 0} (Fits : T → Type 0) (sentence : T → List (List ℕ)) (words : List (List ℕ))
    (Alike : T → T → Type 0) (args : List (List ℕ)) (settings : T) (k : ℕ) : Type 0 where
  pub split : IsSplit Fits sentence words args settings k
  pub only : (other : T) (l : ℕ) → IsSplit Fits sentence words args other l → Alike other settings × (l ≡ k)

-- there is no split
abbrev pub HasNoSplit : {T : Type 0} → (T → Type 0) → (T → List (List ℕ)) → List (List ℕ) → List (List ℕ) → Type 0
HasNoSplit {T = T} Fits sentence words args = (settings : T) (k : ℕ) → IsSplit Fits sentence words args settings k → ⊥

-- ---- for the functions within

-- an error means that nothing is read, or that memory was refused
abbrev pub Fails : {Y : Type 0} → SentenceError → Option Y → Type 0
Fails Memory read = Unit {0}
Fails NotASentence read = read ≡ None

-- the result of a function, seen by view, is what is read, unless memory was refused
abbrev pub Gives : {X Y : Type 0} → (X → Y) → Result X SentenceError → Option Y → Type 0
Gives view (Ok x) read = read ≡ Some (view x)
Gives view (Err e) read = Fails e read

-- a bound as a strategy without a limit
abbrev pub unlimited_at : ReadsAs Strategy
unlimited_at = reading_as unlimited bound_at
