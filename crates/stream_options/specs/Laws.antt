-- The laws of the arguments of settings, and of the order of calls.
use Rattle.std.specs.Prelude.{◌≡◌, ◌≢◌, ◌↔◌, ℕ, List, ◌∷◌, ◌++◌}
use Rattle.stream_options.specs.Words.{IsFree}

-- the arguments followed by a free rest determine the settings, as far as they are compared, and
-- the rest
abbrev pub Determines : {T : Type 0} → (T → Type 0) → (T → List (List ℕ)) → List (List ℕ) → (T → T → Type 0) → Type 0
Determines {T = T} Fits sentence words Alike =
    (a b : T) (r s : List (List ℕ)) → Fits a → Fits b → IsFree words r → IsFree words s
    → sentence a ++ r ≡ sentence b ++ s → Alike a b × (r ≡ s)

-- settings are alike exactly if their arguments are equal
abbrev pub IsExact : {T : Type 0} → (T → Type 0) → (T → List (List ℕ)) → (T → T → Type 0) → Type 0
IsExact {T = T} Fits sentence Alike = (a b : T) → Fits a → Fits b → Alike a b ↔ (sentence a ≡ sentence b)

-- all settings count
abbrev pub Equal : {T : Type 0} → T → T → Type 0
Equal a b = a ≡ b

-- no condition
abbrev pub Any : {T : Type 0} → T → Type 0
Any x = Unit {0}

-- of two calls in a row that name one setting, removing the first changes no final setting
abbrev pub LastCallWins : {T S : Type 0} {V : S → Type 0} → (T → List ((s : S) × V s) → T) → Type 0
LastCallWins {T = T} {S = S} {V = V} final =
    (start : T) (before after : List ((s : S) × V s)) (c d : (s : S) × V s) → c.0 ≡ d.0
    → final start (before ++ c ∷ d ∷ after) ≡ final start (before ++ d ∷ after)

-- two adjacent calls that name different settings may be swapped
abbrev pub SettersCommute : {T S : Type 0} {V : S → Type 0} → (T → List ((s : S) × V s) → T) → Type 0
SettersCommute {T = T} {S = S} {V = V} final =
    (start : T) (before after : List ((s : S) × V s)) (c d : (s : S) × V s) → c.0 ≢ d.0
    → final start (before ++ c ∷ d ∷ after) ≡ final start (before ++ d ∷ c ∷ after)
