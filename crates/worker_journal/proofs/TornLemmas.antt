-- What a crash leaves of a file that tears, before and after its calls.
use Rattle.std.proofs.Common.{◌≡◌, ◌≤◌, ◌+◌, ◌⊎◌, inl, inr, ⊎_elim, ℕ, zero, suc, List, [], ◌∷◌, ◌++◌, length, take, drop}
use Rattle.std.proofs.Common.{refl, sym, ◌∙◌, ap, subst, arith, append-nil, append_assoc, length-append}
use Rattle.std.proofs.Math.Seq.{take-append-add, take-length}
use Rattle.std.proofs.lemmas.List.{length-drop, length-take-le, take-append-drop, take_all}
use Rattle.worker_journal.specs.declared.torn.Content.{Content}
use Rattle.worker_journal.specs.Device.{Elapses, Follows, IsCut, IsTorn, Only}
use Rattle.worker_journal.specs.Lines.{EachStartsWith}
use Rattle.worker_journal.specs.Torn.{HadLeft, IsCopy, IsSynced, LeftSince, Leaves, all_of, room_of}

-- ---- the same bytes

same_left : (a b : Content) (c : List ℕ) → b.front.items ≡ a.front.items → b.cut_off.items ≡ a.cut_off.items
    → room_of a ≤ room_of b → Leaves a c → Leaves b c
same_left a b c front cut_off room left = (
  left.0,
  left.1,
  left.2 ∙ ap (λ xs. xs ++ (take left.0 a.cut_off.items ++ left.1)) (sym front)
      ∙ ap (λ xs. b.front.items ++ (take left.0 xs ++ left.1)) (sym cut_off),
  omega (arith, left.3, room),
)

copy_left : (a b : Content) (c : List ℕ) → IsCopy a b → Leaves a c → Leaves b c
copy_left a b c copy =
    same_left a b c copy.front copy.cut_off (omega (arith, ap length copy.waits, copy.extra))

left_of_copy : (a b : Content) (c : List ℕ) → IsCopy a b → Leaves b c → Leaves a c
left_of_copy a b c copy =
    same_left b a c (sym copy.front) (sym copy.cut_off) (omega (arith, ap length copy.waits, copy.extra))

-- ---- moments

keeps : (past : List Content) (v : Content) (c : List ℕ) → HadLeft past c → HadLeft (past ++ v ∷ []) c
keeps [] v c had = absurd had
keeps (p ∷ past) v c (inl here) = inl here
keeps (p ∷ past) v c (inr there) = inr (keeps past v c there)

adds : (past : List Content) (v : Content) (c : List ℕ) → HadLeft (past ++ v ∷ []) c → HadLeft past c ⊎ Leaves v c
adds [] v c (inl here) = inr here
adds [] v c (inr none) = absurd none
adds (p ∷ past) v c (inl here) = inl (inl here)
adds (p ∷ past) v c (inr there) = ⊎_elim (λ had. inl (inr had)) (λ new. inr new) (adds past v c there)

newest : (past : List Content) (v : Content) (c : List ℕ) → Leaves v c → HadLeft (past ++ v ∷ []) c
newest [] v c is = inl is
newest (p ∷ past) v c is = inr (newest past v c is)

drop_push : (t : ℕ) (past : List Content) (v : Content) → t ≤ length past
    → drop t (past ++ v ∷ []) ≡ drop t past ++ v ∷ []
drop_push zero past v le = refl
drop_push (suc t) [] v le = absurd (omega arith)
drop_push (suc t) (p ∷ past) v le = drop_push t past v (omega arith)

torn_push : (past : List Content) (v old new : Content) → IsCopy old v
    → Elapses (length past) (length (past ++ v ∷ [])) (LeftSince past old) (LeftSince (past ++ v ∷ []) new) (Leaves new)
torn_push past v old new copy = record {
  later = omega (arith, length-append past (v ∷ []));
  nothing_else = λ t c le left. ⊎_elim (λ now. inr now)
      (λ had. inl
      (was t c (adds (drop t past) v c (subst (λ (l : List Content). HadLeft l c) (drop_push t past v le) had)))) left;
  keeps =
      λ t c le left. inr (subst (λ (l : List Content). HadLeft l c) (sym (drop_push t past v le))
      (⊎_elim (λ now. newest (drop t past) v c (copy_left old v c copy now)) (keeps (drop t past) v c) left));
}
  where
    was : (t : ℕ) (c : List ℕ) → HadLeft (drop t past) c ⊎ Leaves v c → LeftSince past old t c
    was t c (inl had) = inr had
    was t c (inr new) = inl (left_of_copy old v c copy new)

pub torn_to : (past later : List Content) (v old new : Content) → IsCopy old v → later ≡ past ++ v ∷ []
    → Elapses (length past) (length later) (LeftSince past old) (LeftSince later new) (Leaves new)
torn_to past later v old new copy same =
    subst (λ (l : List Content). Elapses (length past) (length l) (LeftSince past old) (LeftSince l new) (Leaves new))
    (sym same) (torn_push past v old new copy)

pub torn_same : (past : List Content) (now : Content)
    → Elapses (length past) (length past) (LeftSince past now) (LeftSince past now) (Leaves now)
torn_same past now =
    record { later = omega arith; nothing_else = λ t c le left. inl left; keeps = λ t c le left. left }

-- ---- what is on the disk alone

none_of : (xs : List ℕ) → length xs ≤ 0 → xs ≡ []
none_of [] le = refl
none_of (x ∷ xs) le = absurd (omega arith)

pub only_synced : (now : Content) (bytes : List ℕ) → IsSynced now bytes → Only bytes (Leaves now)
only_synced now bytes synced c left =
    let none = none_of left.1 (omega (arith, left.3, ap length synced.waits, synced.extra)) in
    left.2 ∙ ap (λ xs. now.front.items ++ (take left.0 xs ++ left.1)) synced.cut_off
    ∙ ap (λ xs. now.front.items ++ (take left.0 [] ++ xs)) none
    ∙ ap (λ xs. now.front.items ++ (xs ++ [])) (none_taken left.0)
    ∙ append-nil now.front.items ∙ synced.front
  where
    none_taken : (n : ℕ) → take {A = ℕ} n [] ≡ []
    none_taken zero = refl
    none_taken (suc n) = refl

pub all_synced : (now : Content) (bytes : List ℕ) → IsSynced now bytes → all_of now ≡ bytes
all_synced now bytes synced =
    ap (λ xs. now.front.items ++ xs) synced.waits ∙ append-nil now.front.items ∙ synced.front

all_left : (t : Content) → Leaves t (all_of t)
all_left t = (zero, t.waits.items, refl, omega arith)

pub synced_left : (old new : Content) → IsSynced new (all_of old) → (c : List ℕ) → Leaves new c → Leaves old c
synced_left old new synced c left =
    subst (Leaves old) (sym (only_synced new (all_of old) synced c left)) (all_left old)

-- ---- an append

pub append_tears : (old new : Content) (bytes : List ℕ) → new.front.items ≡ old.front.items
    → new.cut_off.items ≡ old.cut_off.items → new.waits.items ≡ old.waits.items ++ bytes → new.extra ≡ old.extra
    → Follows (IsTorn (length bytes)) (Leaves old) (Leaves new)
append_tears old new bytes front cut_off waits extra c left =
    let behind = left.1 in
    let room = room_of old in
    let d = old.front.items ++ (take left.0 old.cut_off.items ++ take room behind) in (
      d,
      (left.0, take room behind, refl, short room behind),
      (
        drop room behind,
        left.2 ∙ ap (λ xs. xs ++ (take left.0 new.cut_off.items ++ behind)) front
            ∙ ap (λ xs. old.front.items ++ (take left.0 xs ++ behind)) cut_off
            ∙ ap (λ xs. old.front.items ++ (take left.0 old.cut_off.items ++ xs)) (sym (take-append-drop room behind))
            ∙ ap (λ xs. old.front.items ++ xs)
            (sym (append_assoc (take left.0 old.cut_off.items) (take room behind) (drop room behind)))
            ∙ sym (append_assoc old.front.items (take left.0 old.cut_off.items ++ take room behind) (drop room behind)),
        omega (arith, length-drop room behind, left.3, ap length waits, extra, length-append old.waits.items bytes),
      ),
    )
  where
    short : (n : ℕ) (xs : List ℕ) → length (take n xs) ≤ n
    short zero xs = omega arith
    short (suc n) [] = omega arith
    short (suc n) (x ∷ xs) = omega (arith, short n xs)

-- ---- a cut

pub cut_front_leaves : (old new : Content) (len : ℕ) → len ≤ length old.front.items
    → new.front.items ≡ take len old.front.items → new.cut_off.items ≡ drop len old.front.items ++ old.cut_off.items
    → new.waits.items ≡ [] → new.extra ≡ 0 → Follows (IsCut len) (Leaves old) (Leaves new)
cut_front_leaves old new len le front cut_off waits extra c left =
    let all = old.front.items ++ old.cut_off.items in
    let none = none_of left.1 (omega (arith, left.3, ap length waits, extra)) in (
      all,
      (
        length old.cut_off.items,
        [],
        ap (λ xs. old.front.items ++ xs)
            (sym (append-nil (take (length old.cut_off.items) old.cut_off.items) ∙ take-length old.cut_off.items)),
        omega arith,
      ),
      (
        len + left.0,
        omega arith,
        left.2 ∙ ap (λ xs. xs ++ (take left.0 new.cut_off.items ++ left.1)) front
            ∙ ap (λ xs. take len old.front.items ++ (take left.0 xs ++ left.1)) cut_off
            ∙ ap (λ xs. take len old.front.items ++ (take left.0 (drop len old.front.items ++ old.cut_off.items) ++ xs)) none
            ∙ ap (λ xs. take len old.front.items ++ xs)
            (append-nil (take left.0 (drop len old.front.items ++ old.cut_off.items)))
            ∙ sym (take_more left.0),
      ),
    )
  where
    take_more : (k : ℕ) → take (len + k) (old.front.items ++ old.cut_off.items)
        ≡ take len old.front.items ++ take k (drop len old.front.items ++ old.cut_off.items)
    take_more k =
        let xs = take len old.front.items in
        let ys = drop len old.front.items ++ old.cut_off.items in
        let same : old.front.items ++ old.cut_off.items ≡ xs ++ ys =
        ap (λ zs. zs ++ old.cut_off.items) (sym (take-append-drop len old.front.items))
        ∙ append_assoc xs (drop len old.front.items) old.cut_off.items in
        ap (λ zs. take (len + k) zs) same
        ∙ ap (λ n. take (n + k) (xs ++ ys)) (sym (length-take-le len old.front.items le))
        ∙ take-append-add xs ys k

pub cut_waits_leaves : (old new : Content) (len : ℕ) → new.front.items ≡ old.front.items
    → new.cut_off.items ≡ old.cut_off.items → room_of new ≤ room_of old → Follows (IsCut len) (Leaves old) (Leaves new)
cut_waits_leaves old new len front cut_off room c left = (
  c,
  same_left new old c (sym front) (sym cut_off) room left,
  (len + length c, omega arith, sym (take_all (len + length c) c (omega arith))),
)

-- what is left of a file that each crash leaves so much of
pub starts_within : (old : Content) (front : List ℕ) (len : ℕ) → length front ≡ len
    → EachStartsWith front (Leaves old) → len ≤ length old.front.items
starts_within old front len is each =
    let starts = each old.front.items (zero, [], sym (append-nil old.front.items), omega arith) in
    omega (arith, is, ap length starts.1, length-append front starts.0)

-- ---- a crash

pub crash_leaves : (old new : Content) (uncut : ℕ) (behind : List ℕ)
    → IsSynced new (old.front.items ++ (take uncut old.cut_off.items ++ behind)) → length behind ≤ room_of old
    → Leaves old (all_of new)
crash_leaves old new uncut behind synced le =
    (uncut, behind, all_synced new (old.front.items ++ (take uncut old.cut_off.items ++ behind)) synced, le)

-- ---- a call that failed, and one that put another content there

pub torn_stays : (old new : Content) (n : ℕ) → new ≡ old → Follows (IsTorn n) (Leaves old) (Leaves new)
torn_stays old new n same c left =
    (c, subst (λ t. Leaves t c) same left, ([], sym (append-nil c), omega arith))

pub cut_stays : (old new : Content) (len : ℕ) → new ≡ old → Follows (IsCut len) (Leaves old) (Leaves new)
cut_stays old new len same c left =
    (c, subst (λ t. Leaves t c) same left, (len + length c, omega arith, sym (take_all (len + length c) c (omega arith))))

pub follows_to : (step : List ℕ → List ℕ → Type 0) (old next new : Content) → new ≡ next
    → Follows step (Leaves old) (Leaves next) → Follows step (Leaves old) (Leaves new)
follows_to step old next new same follows = subst (λ t. Follows step (Leaves old) (Leaves t)) (sym same) follows
