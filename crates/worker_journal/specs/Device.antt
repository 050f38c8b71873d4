-- The effects of a device's calls on its file, and the possible effects of a crash between two syncs.
use Rattle.std.specs.Prelude.{◌≡◌, ◌⊎◌, ℕ, ◌≤◌, List, ◌++◌, length, take, Option, IfSome}

-- a crash interrupts an append of `n` bytes. It leaves the bytes `old`, and after them any bytes, at most `n`
abbrev pub IsTorn : ℕ → List ℕ → List ℕ → Type 0
IsTorn n old new = (behind : List ℕ) × (new ≡ old ++ behind) × (length behind ≤ n)

-- a crash interrupts a cut to `n` bytes. It leaves a prefix of `old` of at least `n` bytes
abbrev pub IsCut : ℕ → List ℕ → List ℕ → Type 0
IsCut n old new = (len : ℕ) × (n ≤ len) × (new ≡ take len old)

-- after the call, a crash can leave only what `step` makes of an earlier outcome
abbrev pub Follows : (List ℕ → List ℕ → Type 0) → (List ℕ → Type 0) → (List ℕ → Type 0) → Type 0
Follows step old new = (c : List ℕ) → new c → (d : List ℕ) × old d × step d c

-- a crash can leave only the bytes `file`
abbrev pub Only : List ℕ → (List ℕ → Type 0) → Type 0
Only file outcomes = (c : List ℕ) → outcomes c → c ≡ file

-- the time goes on from `before` to `now`. What a crash since a moment may have left is what it may have left
-- until `before`, or what it may leave now
pub record Elapses (before now : ℕ) (past since : ℕ → List ℕ → Type 0) (may_leave : List ℕ → Type 0) : Type 0 where
  pub later : before ≤ now
  pub nothing_else : (t : ℕ) (c : List ℕ) → t ≤ before → since t c → past t c ⊎ may_leave c
  pub keeps : (t : ℕ) (c : List ℕ) → t ≤ before → past t c → since t c

-- a crash at any moment since the state `old` leaves a file with the property `P`
pub record LeavesOnly {D : Type 0} (moment : D → ℕ) (left_since : D → ℕ → List ℕ → Type 0) (old new : D)
    (P : List ℕ → Type 0) : Type 0 where
  pub later : moment old ≤ moment new
  pub each : (c : List ℕ) → left_since new (moment old) c → P c
  -- for each moment before the state `old`
  pub before : (t : ℕ) (c : List ℕ) → t ≤ moment old → left_since new t c → left_since old t c ⊎ P c

-- the bytes that a read returns are on the disk, if they are known
abbrev pub IsOnDisk : {D : Type 0} → (D → Option (List ℕ)) → (D → List ℕ → Type 0) → D → Type 0
IsOnDisk seen may_leave file = IfSome (seen file) (λ bytes. Only bytes (may_leave file))
