-- The errors with which a tree may be refused.
use Rattle.std.specs.Prelude.{◌≡◌, ◌≢◌, ◌<◌, ◌⊎◌, List, length, Option, None, MatchOption, IsTrue, IsFalse}
use Rattle.std.specs.List.{Any}
use Rattle.redis_resp.specs.Tree.{Tree, plain, items, pairs_in}
use Rattle.redis_resp.specs.Reading.{is_nil, two_in, three_in, four_in}
use Rattle.redis_resp.specs.Bytes.{bytes_reading}
use Rattle.redis_resp.specs.Leaf.{has_buffer}
use Rattle.redis_resp.specs.Text.{text_reading, is_written_out}
use Rattle.redis_resp.specs.declared.value.error.ParsingError.{ParsingError}
use Rattle.redis_resp.specs.declared.value.error.ParsingError.TheVariants.{NotText, NotNumber, NotBytes, NotList}
use Rattle.redis_resp.specs.declared.value.error.ParsingError.TheVariants.{NotPairs, NotTuple, Memory}

-- it may be refused with this error, and has no record unless the error is `Memory`
abbrev pub Refuses : {A M : Type 0} → (A → Option M) → (A → ParsingError → Type 0) → A → ParsingError → Type 0
Refuses reading may_refuse t error = may_refuse t error × (error ≢ Memory → reading t ≡ None)

-- this one error, or out of memory
abbrev pub OrMemory : ParsingError → ParsingError → Type 0
OrMemory cause error = (error ≡ cause) ⊎ (error ≡ Memory)

-- a text: `NotText` if the tree has none, and only out of memory if it has one
abbrev pub RefusesText : Tree → ParsingError → Type 0
RefusesText t error = MatchOption (text_reading t) (error ≡ NotText) (λ _. error ≡ Memory)

-- the text of a value that is consumed: out of memory only if the value holds no text
abbrev pub RefusesOwnedText : Tree → ParsingError → Type 0
RefusesOwnedText t error = MatchOption (text_reading t) (error ≡ NotText)
    (λ _. (error ≡ Memory) × IsTrue (is_written_out (plain t)))

-- bytes: `NotBytes` if the tree has none, and only out of memory if it has some
abbrev pub RefusesBytes : Tree → ParsingError → Type 0
RefusesBytes t error = MatchOption (bytes_reading t) (error ≡ NotBytes) (λ _. error ≡ Memory)

-- the bytes of a value that is consumed: only `NotBytes`, since they are moved
abbrev pub RefusesOwnedBytes : Tree → ParsingError → Type 0
RefusesOwnedBytes _ error = error ≡ NotBytes

-- a number: only `NotNumber`, since it allocates no memory
abbrev pub RefusesNumber : Tree → ParsingError → Type 0
RefusesNumber _ error = error ≡ NotNumber

-- a value as it is: only out of memory, and only if it has a buffer
abbrev pub RefusesValue : Tree → ParsingError → Type 0
RefusesValue t error = (error ≡ Memory) × IsTrue (has_buffer t)

-- a value as it is that is consumed: nothing, since it is moved
abbrev pub RefusesNothing : Tree → ParsingError → Type 0
RefusesNothing _ _ = ⊥

-- it is refused with it, or memory ran out
abbrev pub MemoryOr : {A : Type 0} → (A → ParsingError → Type 0) → A → ParsingError → Type 0
MemoryOr refuses t error = (error ≡ Memory) ⊎ refuses t error

-- one of them is refused with it, or memory ran out; an empty list is never refused
abbrev pub OneRefused : {A : Type 0} → (A → ParsingError → Type 0) → List A → ParsingError → Type 0
OneRefused refuses xs error = ((error ≡ Memory) × (0 < length xs)) ⊎ Any (λ x. refuses x error) xs

-- a list: `NotList` if the tree has no items, and otherwise what one of its items is refused with
abbrev pub RefusesList : (Tree → ParsingError → Type 0) → Tree → ParsingError → Type 0
RefusesList refuses t error = MatchOption (items t) (error ≡ NotList) (λ ts. OneRefused refuses ts error)

-- a pair: what its key is refused with as a text, or its value by its own reading
abbrev pub RefusesEntry : (Tree → ParsingError → Type 0) → Tree × Tree → ParsingError → Type 0
RefusesEntry refuses p error = Refuses text_reading RefusesText p.0 error ⊎ refuses p.1 error

-- pairs: `NotPairs` if the tree has none, and otherwise what one of its pairs is refused with
abbrev pub RefusesPairs : (Tree → ParsingError → Type 0) → Tree → ParsingError → Type 0
RefusesPairs refuses t error = MatchOption (pairs_in t) (error ≡ NotPairs)
    (λ ps. OneRefused (RefusesEntry refuses) ps error)

-- an option: what a value other than nil is refused with
abbrev pub RefusesOption : (Tree → ParsingError → Type 0) → Tree → ParsingError → Type 0
RefusesOption refuses t error = IsFalse (is_nil (plain t)) × refuses t error

-- two: `NotTuple(2)` if the tree is no array of two, and otherwise what one of the two is refused with
abbrev pub RefusesTwo : (Tree → ParsingError → Type 0) → (Tree → ParsingError → Type 0) → Tree → ParsingError → Type 0
RefusesTwo a b t error = MatchOption (two_in t) (error ≡ NotTuple 2) (λ q. a q.0 error ⊎ b q.1 error)

-- three, likewise
abbrev pub RefusesThree : (Tree → ParsingError → Type 0) → (Tree → ParsingError → Type 0)
    → (Tree → ParsingError → Type 0) → Tree → ParsingError → Type 0
RefusesThree a b c t error = MatchOption (three_in t) (error ≡ NotTuple 3)
    (λ q. a q.0 error ⊎ (b q.1 error ⊎ c q.2 error))

-- four, likewise
abbrev pub RefusesFour : (Tree → ParsingError → Type 0) → (Tree → ParsingError → Type 0)
    → (Tree → ParsingError → Type 0) → (Tree → ParsingError → Type 0) → Tree → ParsingError → Type 0
RefusesFour a b c d t error = MatchOption (four_in t) (error ≡ NotTuple 4)
    (λ q. a q.0 error ⊎ (b q.1 error ⊎ (c q.2 error ⊎ d q.3 error)))

-- a field: what its value is refused with, if it has one
abbrev pub RefusesField : (Tree → ParsingError → Type 0) → Option Tree → ParsingError → Type 0
RefusesField refuses field error = MatchOption field ⊥ (λ t. refuses t error)
