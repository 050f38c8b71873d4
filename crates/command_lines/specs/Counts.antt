-- The counts of a drain, as a program shows them.
use Rattle.std.specs.Prelude.{◌==◌, ℕ, List, Option, Some, None, ◌++◌, codes, decimal, if◌then◌else◌}

-- `number` in digits, followed by its noun: `one` if the number is 1, and else `many`
abbrev pub counted : ℕ → List ℕ → List ℕ → List ℕ
counted number one many = decimal number ++ (if number == 1 then one else many)

-- the number of entries, of batches, and of dead letters unless `letters` is `None`
abbrev pub counts_text : ℕ → ℕ → Option ℕ → List ℕ
counts_text entries batches None = counted entries (codes " entry") (codes " entries") ++ codes " in "
    ++ counted batches (codes " batch") (codes " batches")
counts_text entries batches (Some letters) = counted entries (codes " entry") (codes " entries") ++ codes " in "
    ++ (counted batches (codes " batch") (codes " batches") ++ codes ", " ++ counted letters (codes " dead letter") (codes " dead letters"))
