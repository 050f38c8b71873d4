-- What a log holds before and after the calls of its file.
use Rattle.std.proofs.Common.{◌≡◌, ◌≤◌, ◌+◌, ℕ, List, [], ◌++◌, length, take, Bool, true, false, true≢false}
use Rattle.std.proofs.Common.{Option, Some, None, IfSome, IsSome, IsNone, is_some, option_map, Result, Ok, Err, OnErr}
use Rattle.std.proofs.Common.{refl, sym, ◌∙◌, ap, subst, arith, append-nil, append_assoc}
use Rattle.std.proofs.Common.{length-append, inr, ⊎_elim}
use Rattle.std.proofs.Math.Seq.{take-append_seam}
use Rattle.std.proofs.lemmas.List.{length-take-le}
use Rattle.std.specs.Io.KnownBytes.{Appends}
use Rattle.worker_journal.specs.Device.{Only, IsOnDisk, Follows, IsCut, IsTorn, Elapses, LeavesOnly}
use Rattle.worker_journal.specs.Holds.{Holds, IsHeld, committed_in}
use Rattle.worker_journal.specs.Lines.{EachStartsWith, EndsAt, StartsWith}
use Rattle.worker_journal.specs.Log.{BeginsWith}
use Rattle.worker_journal.proofs.EndLemmas.{front_stays}
use Rattle.worker_journal.proofs.Moments.{started, goes_on}

-- -- a prefix stays

pub cut_leaves : (front : List ℕ) (old new : List ℕ → Type 0) (len : ℕ) → length front ≤ len → Follows (IsCut len) old new
    → EachStartsWith front old → EachStartsWith front new
cut_leaves front old new len within crash each c now =
    let from = crash c now in front_stays front from.0 c len from.2.0 within from.2.1 (each from.0 from.1) from.2.2

pub append_leaves : (front : List ℕ) (old new : List ℕ → Type 0) (n : ℕ) → Follows (IsTorn n) old new
    → EachStartsWith front old → EachStartsWith front new
append_leaves front old new n crash each c now =
    let from = crash c now in
    let starts = each from.0 from.1 in
    (starts.0 ++ from.2.0, from.2.1 ∙ ap (λ xs. xs ++ from.2.0) starts.1 ∙ append_assoc front starts.0 from.2.0)

pub only_starts : (file : List ℕ) (outcomes : List ℕ → Type 0) → Only file outcomes → EachStartsWith file outcomes
only_starts file outcomes only c now = ([], only c now ∙ sym (append-nil file))

pub on_err : {T E P : Type 0} (r : Result T E) → P → OnErr r P
on_err (Ok v) p = tt
on_err (Err e) p = p

-- -- one run after another

pub leaves_both : {D : Type 0} (moment : D → ℕ) (left_since : D → ℕ → List ℕ → Type 0) (old mid new : D)
    (P : List ℕ → Type 0) → LeavesOnly moment left_since old mid P → LeavesOnly moment left_since mid new P
    → LeavesOnly moment left_since old new P
leaves_both moment left_since old mid new P first second = record {
  later = omega (arith, first.later, second.later);
  each = λ c left. ⊎_elim (first.each c) (λ p. p) (second.before (moment old) c first.later left);
  before = λ t c le left. ⊎_elim (first.before t c le) (λ p. inr p)
      (second.before t c (omega (arith, le, first.later)) left);
}

-- ---- what a log holds

module _ {D : Type 0} (seen : D → Option (List ℕ)) (may_leave : D → List ℕ → Type 0) (is_sound : D → Type 0) where
  -- after a call that only leaves what is committed
  pub holds_broken : (lines : List ℕ) (file : D) (len : ℕ) → len ≡ length lines → IsSome (seen file)
      → EachStartsWith lines (may_leave file) → Holds seen may_leave is_sound lines file len true
  holds_broken lines file len is known left =
      record { committed = is; known = known; left = left; whole = λ e. absurd (true≢false e) }

  -- after a write that failed
  pub holds_failed : (old mid new : D) (n len : ℕ) (a b : Bool)
      → ((lines : List ℕ) → Holds seen may_leave is_sound lines old n a → Holds seen may_leave is_sound lines mid len b)
      → (IsSome (seen mid) → IsSome (seen new))
      → ((front : List ℕ) → EachStartsWith front (may_leave mid) → EachStartsWith front (may_leave new))
      → (lines : List ℕ) → Holds seen may_leave is_sound lines old n a → Holds seen may_leave is_sound lines new len true
  holds_failed old mid new n len a b step known left lines holds =
      let held = step lines holds in
      holds_broken lines new len held.committed (known held.known) (left lines held.left)

  -- after a cut at the end of the committed bytes
  pub cut_holds : (lines : List ℕ) (old new : D) (len : ℕ) (is_broken : Bool) → is_broken ≡ true
      → Follows (IsCut len) (may_leave old) (may_leave new) → (IsSome (seen old) → IsSome (seen new))
      → Holds seen may_leave is_sound lines old len is_broken → Holds seen may_leave is_sound lines new len is_broken
  cut_holds lines old new len is_broken broken crash known holds =
      subst (λ b. Holds seen may_leave is_sound lines new len b) (sym broken)
      (holds_broken lines new len holds.committed (known holds.known)
      (cut_leaves lines (may_leave old) (may_leave new) len (omega (arith, holds.committed)) crash holds.left))

  -- what was seen begins with what is committed
  pub seen_starts : (lines : List ℕ) (known : Option (List ℕ)) (outcomes : List ℕ → Type 0) → IfSome known outcomes
      → EachStartsWith lines outcomes → IfSome known (StartsWith lines)
  seen_starts lines None outcomes left each = tt
  seen_starts lines (Some bytes) outcomes left each = each bytes left

  pub cut_is : (lines : List ℕ) (old new : Option (List ℕ)) (len : ℕ) → len ≡ length lines → IsSome old
      → IfSome old (StartsWith lines) → IfSome old (λ bytes. new ≡ Some (take len bytes)) → new ≡ Some lines
  cut_is lines None new len is known starts cut = absurd (true≢false (sym known))
  cut_is lines (Some bytes) new len is known starts cut =
      cut ∙ ap Some (ap (λ n. take n bytes) is ∙ ap (λ xs. take (length lines) xs) starts.1
      ∙ take-append_seam lines starts.0)

  appended_is : (lines more : List ℕ) (new : Option (List ℕ)) → Appends (Some lines) new more → new ≡ Some (lines ++ more)
  appended_is lines more None appends = absurd appends
  appended_is lines more (Some bytes) appends = ap Some appends

  only_is : (lines : List ℕ) (known : Option (List ℕ)) (outcomes : List ℕ → Type 0) → known ≡ Some lines
      → IfSome known (λ bytes. Only bytes outcomes) → Only lines outcomes
  only_is lines known outcomes is only = subst (λ k. IfSome k (λ bytes. Only bytes outcomes)) is only

  -- after lines were written through
  pub holds_more : (lines more : List ℕ) (old new : D) (len : ℕ) → len ≡ length lines + length more
      → seen old ≡ Some lines → is_sound old → Appends (seen old) (seen new) more
      → (is_sound old → IsOnDisk seen may_leave new) → (is_sound old → is_sound new)
      → Holds seen may_leave is_sound (lines ++ more) new len false
  holds_more lines more old new len is all sound appends disk stays =
      let seen_new = appended_is lines more (seen new) (subst (λ k. Appends k (seen new) more) all appends) in
      let only = only_is (lines ++ more) (seen new) (may_leave new) seen_new (disk sound) in
      record {
        committed = is ∙ sym (length-append lines more);
        known = ap is_some seen_new;
        left = only_starts (lines ++ more) (may_leave new) only;
        whole = λ e. record { all = seen_new; disk = only; sound = stays sound };
      }

  -- after a file was opened
  pub holds_lines : (lines : List ℕ) (file : D) (len : ℕ) → len ≡ length lines → seen file ≡ Some lines
      → IsOnDisk seen may_leave file → is_sound file → Holds seen may_leave is_sound lines file len false
  holds_lines lines file len is all disk sound =
      let only = only_is lines (seen file) (may_leave file) all disk in
      record {
        committed = is;
        known = ap is_some all;
        left = only_starts lines (may_leave file) only;
        whole = λ e. record { all = all; disk = only; sound = sound };
      }

-- ---- what is committed

starts_is : (lines : List ℕ) (known : Option (List ℕ)) (len : ℕ) → len ≡ length lines → IsSome known
    → IfSome known (StartsWith lines) → committed_in known len ≡ Some lines
starts_is lines None len is some starts = absurd (true≢false (sym some))
starts_is lines (Some bytes) len is some starts =
    ap Some (ap (λ n. take n bytes) is ∙ ap (λ xs. take (length lines) xs) starts.1
    ∙ take-append_seam lines starts.0)

none_is : (known : Option (List ℕ)) (len : ℕ) → IsNone known → committed_in known len ≡ None
none_is None len none = refl
none_is (Some bytes) len none = absurd (true≢false none)

pub same_is : (known : Option (List ℕ)) → option_map (λ (lines : List ℕ). lines) known ≡ known
same_is None = refl
same_is (Some lines) = refl

if_mapped : (P : List ℕ → Type 0) (f : List ℕ → List ℕ) (known : Option (List ℕ))
    → IfSome known (λ lines. P (f lines)) → IfSome (option_map f known) P
if_mapped P f None p = tt
if_mapped P f (Some lines) p = p

if_more : (P Q : List ℕ → Type 0) (known : Option (List ℕ)) → ((lines : List ℕ) → P lines → Q lines)
    → IfSome known P → IfSome known Q
if_more P Q None more p = tt
if_more P Q (Some lines) more p = more lines p

module _ {D : Type 0} (seen : D → Option (List ℕ)) (may_leave : D → List ℕ → Type 0) (is_sound : D → Type 0)
    (seen_is_left : (file : D) → IfSome (seen file) (may_leave file)) where
  -- what a log holds is what is committed in its file
  pub holds_is : (lines : List ℕ) (file : D) (len : ℕ) (is_broken : Bool)
      → Holds seen may_leave is_sound lines file len is_broken → committed_in (seen file) len ≡ Some lines
  holds_is lines file len is_broken holds = starts_is lines (seen file) len holds.committed holds.known
      (seen_starts seen may_leave is_sound lines (seen file) (may_leave file) (seen_is_left file) holds.left)

  module _ (f : List ℕ → List ℕ) (old new : D) (n m : ℕ) (a b : Bool) (unknown : IsNone (seen old) → IsNone (seen new))
      (step : (lines : List ℕ) → Holds seen may_leave is_sound lines old n a
      → Holds seen may_leave is_sound (f lines) new m b) where
    committed_by : (known : Option (List ℕ)) → (IsNone known → IsNone (seen new))
        → IfSome (committed_in known n) (λ lines. Holds seen may_leave is_sound lines old n a)
        → committed_in (seen new) m ≡ option_map f (committed_in known n)
    committed_by None none held = none_is (seen new) m (none refl)
    committed_by (Some bytes) none held = holds_is (f (take n bytes)) new m b (step (take n bytes) held)

    -- a call that changes what is held changes what is committed alike
    pub committed_is : IsHeld seen may_leave is_sound old n a
        → committed_in (seen new) m ≡ option_map f (committed_in (seen old) n)
    committed_is held = committed_by (seen old) unknown held

    pub held_is : IsHeld seen may_leave is_sound old n a → IsHeld seen may_leave is_sound new m b
    held_is held = subst (λ known. IfSome known (λ lines. Holds seen may_leave is_sound lines new m b))
        (sym (committed_is held))
        (if_mapped (λ lines. Holds seen may_leave is_sound lines new m b) f (committed_in (seen old) n)
        (if_more (λ lines. Holds seen may_leave is_sound lines old n a)
        (λ lines. Holds seen may_leave is_sound (f lines) new m b) (committed_in (seen old) n) step held))

  -- and one that leaves what is held leaves it
  pub committed_stays : (old new : D) (n m : ℕ) (a b : Bool) → (IsNone (seen old) → IsNone (seen new))
      → ((lines : List ℕ) → Holds seen may_leave is_sound lines old n a
      → Holds seen may_leave is_sound lines new m b) → IsHeld seen may_leave is_sound old n a
      → committed_in (seen new) m ≡ committed_in (seen old) n
  committed_stays old new n m a b unknown step held =
      committed_is (λ lines. lines) old new n m a b unknown step held ∙ same_is (committed_in (seen old) n)

-- ---- a cut

pub cut_keeps : {D : Type 0} (may_leave : D → List ℕ → Type 0) (moment : D → ℕ) (left_since : D → ℕ → List ℕ → Type 0)
    (only_now : (file : D) (c : List ℕ) → left_since file (moment file) c → may_leave file c) (old new : D) (len : ℕ)
    → Follows (IsCut len) (may_leave old) (may_leave new)
    → Elapses (moment old) (moment new) (left_since old) (left_since new) (may_leave new) → (front : List ℕ)
    → EachStartsWith front (may_leave old) → length front ≤ len
    → LeavesOnly moment left_since old new (StartsWith front)
cut_keeps may_leave moment left_since only_now old new len crash time front each within =
    goes_on moment left_since old old new (StartsWith front) (may_leave new)
    (started moment left_since old (StartsWith front) (λ c left. each c (only_now old c left))) time
    (cut_leaves front (may_leave old) (may_leave new) len within crash each)

-- ---- at the start

-- a file that was repaired
pub repaired_holds : {D : Type 0} (seen : D → Option (List ℕ)) (may_leave : D → List ℕ → Type 0) (is_sound : D → Type 0)
    (known : Option (List ℕ)) (file : D) (len : ℕ) → EndsAt known len
    → IfSome known (λ bytes. seen file ≡ Some (take len bytes)) → IsOnDisk seen may_leave file → is_sound file
    → IfSome known (λ bytes. Holds seen may_leave is_sound (take len bytes) file len false)
repaired_holds seen may_leave is_sound None file len ends cut disk sound = tt
repaired_holds seen may_leave is_sound (Some bytes) file len ends cut disk sound =
    holds_lines seen may_leave is_sound (take len bytes) file len (sym (length-take-le len bytes ends.0)) cut disk sound

begins_whole : (known : Option (List ℕ)) (batch c : List ℕ) → IfSome known (λ file. c ≡ file) → BeginsWith known batch c
begins_whole None batch c is = tt
begins_whole (Some file) batch c is = ([], is ∙ sym (append-nil file), omega arith)

only_of : (known : Option (List ℕ)) (outcomes : List ℕ → Type 0) (c : List ℕ)
    → IfSome known (λ file. Only file outcomes) → outcomes c → IfSome known (λ file. c ≡ file)
only_of None outcomes c disk left = tt
only_of (Some file) outcomes c disk left = disk c left

-- nothing was written yet
pub begins_at_start : {D : Type 0} (seen : D → Option (List ℕ)) (may_leave : D → List ℕ → Type 0) (moment : D → ℕ)
    (left_since : D → ℕ → List ℕ → Type 0)
    (only_now : (file : D) (c : List ℕ) → left_since file (moment file) c → may_leave file c) (old new : D)
    (batch : List ℕ) → new ≡ old → IsOnDisk seen may_leave old
    → LeavesOnly moment left_since old new (BeginsWith (seen old) batch)
begins_at_start seen may_leave moment left_since only_now old new batch same disk =
    subst (λ file. LeavesOnly moment left_since old file (BeginsWith (seen old) batch)) (sym same)
    (started moment left_since old (BeginsWith (seen old) batch)
    (λ c left. begins_whole (seen old) batch c (only_of (seen old) (may_leave old) c disk (only_now old c left))))
