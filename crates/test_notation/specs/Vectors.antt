-- Rows, and the rows of vectors.
use Rattle.std.specs.Prelude.{◌≡◌, ℕ, List, [], ◌∷◌, ◌++◌, map, string_bytes}
use Rattle.std.specs.List.{AllZip}
use Rattle.test_notation.specs.declared.vectors.Row.{Row}
use denote.Ref.{Bor}

-- the texts of a row
abbrev pub row_texts : Row → List ℕ × List ℕ × List ℕ
row_texts row = (string_bytes row.name, string_bytes row.text, string_bytes row.stored)

-- the texts of the row of options: the name, the printed form of the options, and the stored text
abbrev pub options_texts : {T : Type 0} → (T → List ℕ) → Bor (List ℕ) × T × Bor (List ℕ) → List ℕ × List ℕ × List ℕ
options_texts form vector = (vector.0.now, form vector.1, vector.2.now)

-- one row more: its name, a text of which `IsText` holds, and the stored text
pub record AddsRow (IsText : List ℕ → Type 0) (old new : List Row) (name stored : List ℕ) : Type 0 where
  pub text : List ℕ
  pub is_text : IsText text
  pub adds : map row_texts new ≡ map row_texts old ++ (name, text, stored) ∷ []

-- the row of a vector: its name, a text of which `IsText` holds for the vector's value, and the stored text
abbrev pub IsRow : {T : Type 0} → (T → List ℕ → Type 0) → Bor (List ℕ) × T × Bor (List ℕ) → List ℕ × List ℕ × List ℕ
    → Type 0
IsRow IsText vector row = (row.0 ≡ vector.0.now) × IsText vector.1 row.1 × (row.2 ≡ vector.2.now)

-- a row for each vector of a table was added, in order
pub record AddsRows {T : Type 0} (IsText : T → List ℕ → Type 0) (old new : List Row)
    (vectors : List (Bor (List ℕ) × T × Bor (List ℕ))) : Type 0 where
  pub rows : List (List ℕ × List ℕ × List ℕ)
  pub are_rows : AllZip (IsRow IsText) vectors rows
  pub adds : map row_texts new ≡ map row_texts old ++ rows
