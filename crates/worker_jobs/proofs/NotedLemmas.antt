-- Lemmas on notes that are kept.
use Rattle.std.proofs.Common.{◌≡◌, ℕ, List, [], ◌∷◌, Bool, true, false, refl}
use Rattle.worker_jobs.specs.Noted.{IsNoted, KeepsNote}
use Rattle.worker_jobs.specs.declared.jobs.Note.{Note}

-- a note is kept if the entry is to be given up, or has a text
pub noted : (id : List ℕ) (dead : Bool) (text : List ℕ) (old new : List Note) → KeepsNote id dead text old new
    → (dead ≡ false → text ≡ [] → ⊥) → IsNoted id dead text old new
noted id false [] old new keeps not = absurd (not refl refl)
noted id true [] old new keeps not = keeps
noted id false (b ∷ text) old new keeps not = keeps
noted id true (b ∷ text) old new keeps not = keeps
