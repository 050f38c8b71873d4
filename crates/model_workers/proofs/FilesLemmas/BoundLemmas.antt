-- The calls of `worker_journal` in the words of the model.
use Rattle.std.proofs.Common.{◌≡◌, ◌≤◌, sym, ap, subst, ◌∙◌, ℕ, Bool, true, false, List, ◌++◌, length, take, arith}
use Rattle.std.proofs.Common.{Option, Some, IfSome, Result, Ok, Err, IfOk}
use Rattle.worker_journal.specs.Device.{LeavesOnly}
use Rattle.worker_journal.specs.Holds.{Holds}
use Rattle.worker_journal.specs.Lines.{EachStartsWith, StartsWith, IsRepaired}
use Rattle.model_workers.specs.Files.Files.{batch, whole_lines}
use Rattle.model_workers.specs.Files.Bound.{CommitsSo, HeldLeavesSo, LeavesSo, OpensSo}
use Rattle.model_workers.proofs.FilesLemmas.Step.{at_one}
use Rattle.model_workers.proofs.FilesLemmas.Whole.{repairs_to_whole_lines}

pub if_ok_of_three : {X E : Type 0} (r : Result X E) (P Q R S : X → Type 0) → ((x : X) → P x → Q x → R x → S x)
    → IfOk r P → IfOk r Q → IfOk r R → IfOk r S
if_ok_of_three (Ok x) P Q R S f p q r = f x p q r
if_ok_of_three (Err e) P Q R S f p q r = tt

module _ {D : Type 0} (seen : D → Option (List ℕ)) (may_leave : D → List ℕ → Type 0) (is_sound : D → Type 0) where
  pub held_leaves_so : HeldLeavesSo seen may_leave is_sound
  held_leaves_so file len is_broken f name h bytes left = h.left bytes left

  pub opens_so : (old new : D) (len : ℕ) (is_broken : Bool) → IsRepaired (seen old) (seen new)
      → (is_sound old → IfSome (seen old) (λ bytes. Holds seen may_leave is_sound (take len bytes) new len is_broken))
      → is_broken ≡ false → is_sound old → OpensSo seen may_leave is_sound old new len is_broken
  opens_so old new len is_broken repaired holds works sound form f name every torn ids known =
      let bytes : List ℕ = f.file name ++ torn in
      let P : List ℕ → Type 0 = λ xs. Holds seen may_leave is_sound xs new len is_broken in
      let h : P (take len bytes) = subst (λ o. IfSome o (λ xs. P (take len xs))) known (holds sound) in
      let all : seen new ≡ Some (take len bytes) = (h.whole works).all in
      let as_model : seen new ≡ Some (whole_lines bytes) =
      repairs_to_whole_lines bytes (seen new) (subst (λ o. IsRepaired o (seen new)) known repaired) in
      let same : Some (take len bytes) ≡ Some (whole_lines bytes) = sym all ∙ as_model in
      let is : take len bytes ≡ whole_lines bytes = cc in
      subst P (is ∙ sym (at_one f.file name (whole_lines bytes))) h

  pub commits_so : (gathered : List ℕ) (old : D) (old_len : ℕ) (was_broken : Bool) (new : D) (len : ℕ) (is_broken : Bool)
      → ((lines : List ℕ) → Holds seen may_leave is_sound lines old old_len was_broken
      → Holds seen may_leave is_sound (lines ++ gathered) new len is_broken)
      → CommitsSo seen may_leave is_sound gathered old old_len was_broken new len is_broken
  commits_so gathered old old_len was_broken new len is_broken holds form f name g is h =
      let P : List ℕ → Type 0 = λ xs. Holds seen may_leave is_sound xs new len is_broken in
      subst P (ap (λ xs. f.file name ++ xs) is ∙ sym (at_one f.file name (f.file name ++ batch form f name g)))
      (holds (f.file name) h)

  pub leaves_so : (moment : D → ℕ) (left_since : D → ℕ → List ℕ → Type 0) (old : D) (old_len : ℕ) (was_broken : Bool)
      (new : D)
      → ((front : List ℕ) → EachStartsWith front (may_leave old) → (was_broken ≡ true → length front ≤ old_len)
      → LeavesOnly moment left_since old new (StartsWith front))
      → LeavesSo seen may_leave is_sound moment left_since old old_len was_broken new
  leaves_so moment left_since old old_len was_broken new keeps f name h =
      let len : old_len ≡ length (f.file name) = h.committed in
      keeps (f.file name) h.left (λ q. omega (arith, len))
