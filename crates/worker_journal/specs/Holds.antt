-- The lines of a log that are committed, whatever crash happens.
use Rattle.std.specs.Prelude.{◌≡◌, ℕ, List, ◌++◌, length, Bool, false, Option, Some, IsSome, IfSome, option_map}
use Rattle.std.specs.Prelude.{take, if◌then◌else◌}
use Rattle.worker_journal.specs.Device.{Only}
use Rattle.worker_journal.specs.Lines.{EachStartsWith}

-- the first `len` bytes of the file, which are committed, if the file is known
abbrev pub committed_in : Option (List ℕ) → ℕ → Option (List ℕ)
committed_in known len = option_map (λ bytes. take len bytes) known

-- the lines and then the lines `more`, if the lines are known
abbrev pub with_more : List ℕ → Option (List ℕ) → Option (List ℕ)
with_more more known = option_map (λ lines. lines ++ more) known

module _ {D : Type 0} (seen : D → Option (List ℕ)) (may_leave : D → List ℕ → Type 0) (is_sound : D → Type 0) where
  -- the file has exactly these lines, both in a read and on the disk
  pub record IsWhole (file : D) (lines : List ℕ) : Type 0 where
    pub all : seen file ≡ Some lines
    pub disk : Only lines (may_leave file)
    pub sound : is_sound file

  -- the lines `lines` are committed: whatever a crash leaves starts with them. Nothing is after them, unless a
  -- commit failed (`is_broken`)
  pub record Holds (lines : List ℕ) (file : D) (len : ℕ) (is_broken : Bool) : Type 0 where
    pub committed : len ≡ length lines
    pub known : IsSome (seen file)
    pub left : EachStartsWith lines (may_leave file)
    pub whole : is_broken ≡ false → IsWhole file lines

  -- if the file is known, it holds its first `len` bytes as committed lines
  abbrev pub IsHeld : D → ℕ → Bool → Type 0
  IsHeld file len is_broken =
      IfSome (committed_in (seen file) len) (λ lines. Holds lines file len is_broken)

-- the bytes that a read returns after the rest of a failed commit was cut off
abbrev pub cut_back : Bool → ℕ → Option (List ℕ) → Option (List ℕ)
cut_back is_broken len known = if is_broken then option_map (λ bytes. take len bytes) known else known
