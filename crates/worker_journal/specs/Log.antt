-- The content of a log's file.
use Rattle.worker_journal.specs.declared.error.LogError.{LogError}
use Rattle.worker_journal.specs.declared.error.LogError.TheVariants.{Memory, File, NotSynced}
use Rattle.std.specs.Prelude.{◌≡◌, ◌≤◌, ℕ, List, ◌++◌, length, Option, IfSome}

-- the bytes `c` that a crash left start with the known file. After it they have at most as many bytes as
-- `batch`
abbrev pub BeginsWith : Option (List ℕ) → List ℕ → List ℕ → Type 0
BeginsWith old batch c = IfSome old (λ file. (behind : List ℕ) × (c ≡ file ++ behind) × (length behind ≤ length batch))

-- the error is an error of the system
abbrev pub IsOfTheSystem : LogError → Type 0
IsOfTheSystem Memory = ⊥
IsOfTheSystem (File reason) = Unit {0}
IsOfTheSystem (NotSynced reason) = Unit {0}

-- the error of a sync: the system could not sync the file, or memory ran out
abbrev pub IsOfSync : LogError → Type 0
IsOfSync Memory = Unit {0}
IsOfSync (File reason) = ⊥
IsOfSync (NotSynced reason) = Unit {0}
