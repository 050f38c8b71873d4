-- What a crash leaves while the end of a file is repaired.
use Rattle.std.proofs.Common.{◌≡◌, ℕ, List, ◌++◌, take, Option, Some, None, IfSome, ◌∙◌, ap, subst}
use Rattle.worker_journal.specs.Device.{Only, IsOnDisk, Follows, IsCut, Elapses, LeavesOnly}
use Rattle.worker_journal.specs.Lines.{AreLines, EachStartsWith, EndsAt, HasTheLines, StartsWith}
use Rattle.worker_journal.proofs.EndLemmas.{same_lines, cut_lines, front_ends_before, front_stays}
use Rattle.worker_journal.proofs.Moments.{started, goes_on}

only_of : (known : Option (List ℕ)) (outcomes : List ℕ → Type 0) (c : List ℕ)
    → IfSome known (λ file. Only file outcomes) → outcomes c → IfSome known (λ file. c ≡ file)
only_of None outcomes c disk left = tt
only_of (Some file) outcomes c disk left = disk c left

cut_of : (known : Option (List ℕ)) (len : ℕ) (c d : List ℕ) → IfSome known (λ file. d ≡ file) → c ≡ take len d
    → IfSome known (λ file. c ≡ take len file)
cut_of None len c d was is = tt
cut_of (Some file) len c d was is = is ∙ ap (λ xs. take len xs) was

module _ {D : Type 0} (seen : D → Option (List ℕ)) (may_leave : D → List ℕ → Type 0) (moment : D → ℕ)
    (left_since : D → ℕ → List ℕ → Type 0)
    (only_now : (file : D) (c : List ℕ) → left_since file (moment file) c → may_leave file c) (old : D)
    (disk : IsOnDisk seen may_leave old) where
  pub at_start : LeavesOnly moment left_since old old (HasTheLines (seen old))
  at_start = started moment left_since old (HasTheLines (seen old))
      (λ c left. same_lines (seen old) c (only_of (seen old) (may_leave old) c disk (only_now old c left)))

  module _ (end : ℕ) (ends : EndsAt (seen old) end) (mid : D)
      (crash : Follows (IsCut end) (may_leave old) (may_leave mid))
      (time : Elapses (moment old) (moment mid) (left_since old) (left_since mid) (may_leave mid)) where
    left : (c : List ℕ) → may_leave mid c → HasTheLines (seen old) c
    left c now =
        let from = crash c now in
        cut_lines (seen old) end from.2.0 c ends from.2.1
        (cut_of (seen old) from.2.0 c from.0 (only_of (seen old) (may_leave old) from.0 disk from.1) from.2.2)

    pub after_cut : LeavesOnly moment left_since old mid (HasTheLines (seen old))
    after_cut = goes_on moment left_since old old mid (HasTheLines (seen old)) (may_leave mid) at_start time left

    pub after_sync : (new : D) → ((c : List ℕ) → may_leave new c → may_leave mid c)
        → Elapses (moment mid) (moment new) (left_since mid) (left_since new) (may_leave new)
        → LeavesOnly moment left_since old new (HasTheLines (seen old))
    after_sync new kept later = goes_on moment left_since old mid new (HasTheLines (seen old))
        (may_leave new) after_cut later (λ c now. left c (kept c now))

-- -- only a prefix of a file is on the disk

module _ {D : Type 0} (seen : D → Option (List ℕ)) (may_leave : D → List ℕ → Type 0) (moment : D → ℕ)
    (left_since : D → ℕ → List ℕ → Type 0)
    (only_now : (file : D) (c : List ℕ) → left_since file (moment file) c → may_leave file c) (old : D)
    (front : List ℕ) (each : EachStartsWith front (may_leave old)) where
  pub front_at_start : LeavesOnly moment left_since old old (StartsWith front)
  front_at_start = started moment left_since old (StartsWith front) (λ c left. each c (only_now old c left))

  module _ (behind : List ℕ) (lines : AreLines front) (known : seen old ≡ Some (front ++ behind)) (end : ℕ)
      (ends : EndsAt (seen old) end) (mid : D) (crash : Follows (IsCut end) (may_leave old) (may_leave mid))
      (time : Elapses (moment old) (moment mid) (left_since old) (left_since mid) (may_leave mid)) where
    front_left : EachStartsWith front (may_leave mid)
    front_left c now =
        let from = crash c now in
        front_stays front from.0 c end from.2.0
        (front_ends_before front behind end lines (subst (λ k. EndsAt k end) known ends)) from.2.1 (each from.0 from.1)
        from.2.2

    pub front_after_cut : LeavesOnly moment left_since old mid (StartsWith front)
    front_after_cut =
        goes_on moment left_since old old mid (StartsWith front) (may_leave mid) front_at_start time front_left

    pub front_after_sync : (new : D) → ((c : List ℕ) → may_leave new c → may_leave mid c)
        → Elapses (moment mid) (moment new) (left_since mid) (left_since new) (may_leave new)
        → LeavesOnly moment left_since old new (StartsWith front)
    front_after_sync new kept later = goes_on moment left_since old mid new (StartsWith front)
        (may_leave new) front_after_cut later (λ c now. front_left c (kept c now))
