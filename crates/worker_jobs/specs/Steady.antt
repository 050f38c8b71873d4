-- Readers and writers whose bytes are always known, or never known.
use Rattle.std.specs.Prelude.{◌≡◌, ◌==◌, ℕ, List, Bool, true, false, Option, Some, None, if◌then◌else◌, refl}
use Rattle.std.specs.Io.Buffered.{reader_capacity, reader_remaining}
use Rattle.std.specs.declared.io.buffered.BufReader.{BufReader}

-- known bytes are not `None`
pub is_known : (bytes : List ℕ) → Some bytes ≡ None → ⊥
is_known bytes is = cc is

-- bytes that are not known
abbrev no_bytes : Option (List ℕ)
no_bytes = None

-- the remaining bytes of a buffered reader are not known if those of the inner reader never are
pub never_known : {R A : Type 0} (b : BufReader R A) → reader_remaining (λ _. None) b ≡ None
never_known b = by (reader_capacity b == 0)
  where
    by : (c : Bool) → (if c then no_bytes else no_bytes) ≡ no_bytes
    by true = refl
    by false = refl
