-- One row more.
use Rattle.std.proofs.Common.{◌≡◌, ℕ, ◌+◌, ◌<◌, List, [], ◌∷◌, ◌++◌, map, refl, length, take, get_or, Option, sym, ◌∙◌}
use Rattle.std.proofs.Common.{ap, subst, append_assoc, add-one}
use Rattle.std.proofs.Math.Seq.{take-suc}
use Rattle.std.specs.List.{AllZip}
use Rattle.std.specs.Prelude.{Result, Ok, Err, OnOk}
use Rattle.redis_resp.specs.Tree.{Tree}
use Rattle.redis_resp.specs.declared.value.error.ParsingError.{ParsingError}
use Rattle.test_notation.specs.Answer.{IsAnswer}
use Rattle.test_notation.specs.ReplyText.{IsReplyText, answered}
use Rattle.test_notation.specs.Vectors.{AddsRow, AddsRows, IsRow, row_texts}
use Rattle.test_notation.specs.declared.vectors.Row.{Row}
use denote.Ref.{Bor}

take_more : {X : Type 0} (xs : List X) (i : ℕ) (x : X) → i < length xs → x ≡ get_or xs i x
    → take (i + 1) xs ≡ take i xs ++ x ∷ []
take_more xs i x within is = rw add-one (take-suc xs i x within ∙ ap (λ y. take i xs ++ y ∷ []) (sym is))

zip_push : {A B : Type 0} (R : A → B → Type 0) (xs : List A) (ys : List B) (x : A) (y : B) → AllZip R xs ys → R x y
    → AllZip R (xs ++ x ∷ []) (ys ++ y ∷ [])
zip_push R [] [] x y h r = (r, tt)
zip_push R [] (b ∷ bs) x y h r = absurd h
zip_push R (a ∷ others) [] x y h r = absurd h
zip_push R (a ∷ others) (b ∷ bs) x y h r = (h.0, zip_push R others bs x y h.1 r)

-- one vector of a table more
pub adds_more : {T : Type 0} (IsText : T → List ℕ → Type 0) (old before new : List Row)
    (vectors : List (Bor (List ℕ) × T × Bor (List ℕ))) (i : ℕ) (v : Bor (List ℕ) × T × Bor (List ℕ))
    → i < length vectors → v ≡ get_or vectors i v → AddsRows IsText old before (take i vectors)
    → AddsRow (IsText v.1) before new v.0.now v.2.now → AddsRows IsText old new (take (i + 1) vectors)
adds_more IsText old before new vectors i v within is so_far one =
    let row : List ℕ × List ℕ × List ℕ = (v.0.now, one.text, v.2.now) in
    let zipped : AllZip (IsRow IsText) (take i vectors ++ v ∷ []) (so_far.rows ++ row ∷ []) =
    let is_row : IsRow IsText v row = (refl, one.is_text, refl) in
    zip_push (IsRow IsText) (take i vectors) so_far.rows v row so_far.are_rows is_row in
    record {
      rows = so_far.rows ++ row ∷ [];
      are_rows = subst (λ vs. AllZip (IsRow IsText) vs (so_far.rows ++ row ∷ []))
          (sym (take_more vectors i v within is)) zipped;
      adds = one.adds ∙ ap (λ t. t ++ row ∷ []) so_far.adds ∙ append_assoc (map row_texts old) so_far.rows (row ∷ []);
    }

-- the row of a result is the row of the notation of its value
pub answered_row : {T M E : Type 0} (meaning : T → M) (reading : Tree → Option M)
    (may_refuse : Tree → ParsingError → Type 0) (form : T → List ℕ) (t : Tree) (notation : Bor (List ℕ))
    (old new : List Row) (name stored : List ℕ) (result : Result (Unit {0}) E)
    → OnOk result (AddsRow (IsAnswer meaning reading may_refuse form t) old new name stored)
    → OnOk result (AddsRow (IsReplyText meaning reading may_refuse form notation) old new name stored)
answered_row meaning reading may_refuse form t notation old new name stored (Ok _) one = record {
  text = one.text;
  is_text = answered t one.is_text;
  adds = one.adds;
}
answered_row meaning reading may_refuse form t notation old new name stored (Err _) one = tt
