-- Lines of a file, each ended by a line feed.
use Rattle.std.specs.Prelude.{◌≡◌, ◌≢◌, ◌≤◌, ◌⊎◌, ℕ, List, [], ◌∷◌, ◌++◌, length, take, drop, Option, Some, IfSome}
use Rattle.std.specs.List.{AllByRecursion}

-- the bytes have no line feed
abbrev pub HasNoEnd : List ℕ → Type 0
HasNoEnd bytes = AllByRecursion (λ b. b ≢ 10) bytes

-- complete lines: no bytes, or bytes that end with a line feed
abbrev pub AreLines : List ℕ → Type 0
AreLines bytes = (bytes ≡ []) ⊎ ((front : List ℕ) × (bytes ≡ front ++ 10 ∷ []))

-- `bytes` starts with `front`
abbrev pub StartsWith : List ℕ → List ℕ → Type 0
StartsWith front bytes = (behind : List ℕ) × (bytes ≡ front ++ behind)

-- each outcome starts with `front`
abbrev pub EachStartsWith : List ℕ → (List ℕ → Type 0) → Type 0
EachStartsWith front outcomes = (c : List ℕ) → outcomes c → StartsWith front c

-- `bytes` has the line `line`, with complete lines before it and a line feed after it
pub record HasLine (line bytes : List ℕ) : Type 0 where
  pub before : List ℕ
  pub rest : List ℕ
  pub split : bytes ≡ before ++ (line ++ 10 ∷ rest)
  pub whole : AreLines before
  pub one_line : HasNoEnd line

-- the file is the complete lines `lines`, and then a last line `torn` without a line feed
pub record IsLinesAnd (file lines torn : List ℕ) : Type 0 where
  pub split : file ≡ lines ++ torn
  pub whole : AreLines lines
  pub torn_line : HasNoEnd torn

-- the first `end` bytes of the known file are complete lines, and no line feed is after them
abbrev pub EndsAt : Option (List ℕ) → ℕ → Type 0
EndsAt known end = IfSome known (λ file. (end ≤ length file) × AreLines (take end file) × HasNoEnd (drop end file))

-- the known file was cut after its last complete line
abbrev pub IsRepaired : Option (List ℕ) → Option (List ℕ) → Type 0
IsRepaired old new =
    IfSome old (λ file. (lines : List ℕ) × (torn : List ℕ) × IsLinesAnd file lines torn × (new ≡ Some lines))

-- the bytes `c` that a crash left have the complete lines of the known file. After these lines they have at
-- most a line without a line feed
abbrev pub HasTheLines : Option (List ℕ) → List ℕ → Type 0
HasTheLines old c = IfSome old (λ file. (lines : List ℕ) × (torn : List ℕ) × (left : List ℕ)
    × IsLinesAnd file lines torn × IsLinesAnd c lines left)
