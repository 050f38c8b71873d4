-- The lines of a file, and the prefix that a crash leaves of it.
use Rattle.std.proofs.Common.{◌≡◌, inr, ℕ, List, [], ◌∷◌, ◌++◌, length, take, drop, Bool, Option, Some, IfSome}
use Rattle.std.proofs.Common.{sym, ◌∙◌, ap, subst, append_assoc}
use Rattle.std.proofs.Math.Logic.{∥∥₁_elim}
use Rattle.std.proofs.Math.Seq.{take-append_seam}
use Rattle.std.proofs.Props.{props}
use Rattle.std.proofs.lemmas.List.{take-append-drop}
use Rattle.worker_journal.specs.Holds.{Holds, IsHeld, committed_in}
use Rattle.worker_journal.specs.Lines.{AreLines, EachStartsWith, HasLine, HasNoEnd, StartsWith}

-- ---- a line among others

-- one more line leaves complete lines
pub one_more : (first line : List ℕ) → AreLines (first ++ (line ++ 10 ∷ []))
one_more first line = inr (first ++ line, sym (append_assoc first line (10 ∷ [])))

-- the next line
pub next_line : (first line more behind : List ℕ) → AreLines first → HasNoEnd line
    → HasLine line (first ++ (((line ++ 10 ∷ []) ++ more) ++ behind))
next_line first line more behind whole one_line = record {
  before = first;
  rest = more ++ behind;
  split = ap (λ (xs : List ℕ). first ++ xs) (append_assoc (line ++ 10 ∷ []) more behind
      ∙ append_assoc line (10 ∷ []) (more ++ behind));
  whole = whole;
  one_line = one_line;
}

-- and one that comes later
pub later_line : (first line other more behind : List ℕ)
    → HasLine line ((first ++ (other ++ 10 ∷ [])) ++ (more ++ behind))
    → HasLine line (first ++ (((other ++ 10 ∷ []) ++ more) ++ behind))
later_line first line other more behind has = subst (HasLine line)
    (append_assoc first (other ++ 10 ∷ []) (more ++ behind)
    ∙ ap (λ (xs : List ℕ). first ++ xs) (sym (append_assoc (other ++ 10 ∷ []) more behind))) has

-- ---- what is left

front_is : (lines c : List ℕ) → StartsWith lines c → take (length lines) c ≡ lines
front_is lines c starts = ap (λ (xs : List ℕ). take (length lines) xs) starts.1 ∙ take-append_seam lines starts.0

starts_by : (lines c : List ℕ) → take (length lines) c ≡ lines → StartsWith lines c
starts_by lines c is = (
  drop (length lines) c,
  sym (take-append-drop (length lines) c) ∙ ap (λ (xs : List ℕ). xs ++ drop (length lines) c) is,
)

-- a crash leaves what is committed, where it is held
pub committed_is_left : {D : Type 0} (seen : D → Option (List ℕ)) (may_leave : D → List ℕ → Type 0)
    (is_sound : D → Type 0) (lines : List ℕ) (file : D) (len : ℕ) (is_broken : Bool)
    → ∥ IsHeld seen may_leave is_sound file len is_broken ∥₁ → committed_in (seen file) len ≡ Some lines
    → EachStartsWith lines (may_leave file)
committed_is_left seen may_leave is_sound lines file len is_broken held is c left =
    starts_by lines c (∥∥₁_elim held (search props) (λ h. front_is lines c
    ((subst (λ k. IfSome k (λ ls. Holds seen may_leave is_sound ls file len is_broken)) is h).left c left)))
