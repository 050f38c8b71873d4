-- The progress that the program prints.
use Rattle.std.specs.Prelude.{ℕ, List, ◌++◌, codes, decimal, Option, Some, None}

-- the number of entries, of batches, and of entries left pending
abbrev pub counts_text : ℕ → ℕ → ℕ → List ℕ
counts_text entries batches left =
    codes "done " ++ decimal entries ++ codes ", batches " ++ decimal batches ++ codes ", left pending " ++ decimal left

-- the counts, and the number of dead letters unless `letters` is `None`
abbrev pub report_text : ℕ → ℕ → ℕ → Option ℕ → List ℕ
report_text entries batches left None = counts_text entries batches left
report_text entries batches left (Some letters) =
    counts_text entries batches left ++ codes ", dead letters " ++ decimal letters
