-- A file that is read line by line: the buffer, and the place after what was passed over.
use Rattle.std.proofs.Common.{◌≡◌, ◌≢◌, ◌≤◌, ◌+◌, ◌-◌, inl, inr, ℕ, zero, suc, List, [], ◌∷◌, ◌++◌, length}
use Rattle.std.proofs.Common.{take, drop, slice_get, Contains, Some, refl, sym, ◌∙◌, ap, subst, arith}
use Rattle.std.proofs.Common.{append_assoc, append-nil}
use Rattle.std.proofs.lemmas.Bool.{cases_eq}
use Rattle.std.proofs.lemmas.Bool.Decides.{nat_tests}
use Rattle.std.proofs.lemmas.List.{drop-append-le, drop_all, drop-drop, drop_at, length-append, length-drop, take-append-drop, take_at}
use Rattle.worker_journal.specs.LastLines.{before_first, lines_of}
use Rattle.stream_fill.specs.Placed.{BeginsWith, HasLines, IsFront, IsPlace, StartsWithLine, torn_from, torn_of}
use Rattle.stream_fill.specs.declared.line_reader.Place.{Place}

-- ---- a line at the front of bytes

later : (b : ℕ) (bs : List ℕ) → (Contains (b ∷ bs) 10 → ⊥) → Contains bs 10 → ⊥
later b bs none in_it = none (suc in_it.0, omega (arith, in_it.1), in_it.2)

not_first : (b : ℕ) (bs : List ℕ) → (Contains (b ∷ bs) 10 → ⊥) → b ≢ 10
not_first b bs none is = none (zero, omega arith, is)

within_line : (b : ℕ) (bs : List ℕ) → b ≢ 10 → lines_of (b ∷ bs) ≡ before_first b (lines_of bs)
within_line b bs other = grind (arith, nat_tests)

lines_begin : (l rest : List ℕ) → (Contains l 10 → ⊥) → lines_of (l ++ 10 ∷ rest) ≡ l ∷ lines_of rest
lines_begin [] rest none = refl
lines_begin (b ∷ l) rest none =
    within_line b (l ++ 10 ∷ rest) (not_first b l none) ∙ ap (before_first b) (lines_begin l rest (later b l none))

no_line : (bytes : List ℕ) → (Contains bytes 10 → ⊥) → lines_of bytes ≡ []
no_line [] none = refl
no_line (b ∷ bs) none =
    within_line b bs (not_first b bs none) ∙ ap (before_first b) (no_line bs (later b bs none))

-- ---- the bytes after the last line feed

torn_within : (since : List ℕ) (b : ℕ) (bs : List ℕ) → b ≢ 10 → torn_from since (b ∷ bs) ≡ torn_from (since ++ b ∷ []) bs
torn_within since b bs other = grind (arith, nat_tests)

torn_end : (since : List ℕ) (b : ℕ) (bs : List ℕ) → b ≡ 10 → torn_from since (b ∷ bs) ≡ torn_from [] bs
torn_end since b bs is = subst (λ x. torn_from since (x ∷ bs) ≡ torn_from [] bs) (sym is) refl

torn_behind : (since l rest : List ℕ) → torn_from since (l ++ 10 ∷ rest) ≡ torn_of rest
torn_behind since [] rest = refl
torn_behind since (b ∷ l) rest = elim (cases_eq b 10) [
  | inl end ↦ torn_end since b (l ++ 10 ∷ rest) end ∙ torn_behind [] l rest
  | inr other ↦ torn_within since b (l ++ 10 ∷ rest) other ∙ torn_behind (since ++ b ∷ []) l rest
]

torn_all : (since bytes : List ℕ) → (Contains bytes 10 → ⊥) → torn_from since bytes ≡ since ++ bytes
torn_all since [] none = sym (append-nil since)
torn_all since (b ∷ bs) none =
    torn_within since b bs (not_first b bs none) ∙ torn_all (since ++ b ∷ []) bs (later b bs none)
    ∙ append_assoc since (b ∷ []) bs

-- ---- the first bytes of others

front_of : (front rest all : List ℕ) → all ≡ front ++ rest → IsFront front all
front_of front rest all is =
    is ∙ ap (λ (xs : List ℕ). front ++ xs) (sym (ap (drop (length front)) is ∙ drop_at front rest (length front) refl))

-- after more bytes were read, all of them are there
pub front_more : (front read all : List ℕ) (offset n : ℕ) → IsFront front (drop offset all)
    → read ≡ take n (drop (offset + length front) all) → IsFront (front ++ read) (drop offset all)
front_more front read all offset n is same =
    let rest : drop (length front) (drop offset all) ≡ drop (offset + length front) all = drop-drop (length front) offset all in
    let parts : drop (offset + length front) all ≡ read ++ drop n (drop (offset + length front) all) =
    sym (take-append-drop n (drop (offset + length front) all))
    ∙ ap (λ (xs : List ℕ). xs ++ drop n (drop (offset + length front) all)) (sym same) in
    front_of (front ++ read) (drop n (drop (offset + length front) all)) (drop offset all)
    (is ∙ ap (λ (xs : List ℕ). front ++ xs) (rest ∙ parts)
    ∙ sym (append_assoc front read (drop n (drop (offset + length front) all))))

-- at the end of the file the buffer has all the rest
pub front_whole : (front all : List ℕ) (offset : ℕ) → IsFront front (drop offset all) → length all ≤ offset + length front
    → front ≡ drop offset all
front_whole front all offset is le =
    let rest : drop (length front) (drop offset all) ≡ [] =
    drop-drop (length front) offset all ∙ drop_all (offset + length front) all le in
    sym (is ∙ ap (λ (xs : List ℕ). front ++ xs) rest ∙ append-nil front)

-- ---- lines at the front of bytes

pub none_counted : (bytes : List ℕ) → HasLines bytes 0 bytes
none_counted bytes = record { lines = []; counted = refl; front = refl }

begins_more : (ls : List (List ℕ)) (bytes mid l after : List ℕ) → BeginsWith bytes ls mid → mid ≡ l ++ 10 ∷ after
    → (Contains l 10 → ⊥) → BeginsWith bytes (ls ++ l ∷ []) after
begins_more [] bytes mid l after b e none = (after, b ∙ e, none, refl)
begins_more (x ∷ xs) bytes mid l after b e none = (b.0, b.1, b.2, begins_more xs b.0 mid l after b.3 e none)

pub one_more_counted : (bytes mid l after : List ℕ) (count more : ℕ) → HasLines bytes count mid → mid ≡ l ++ 10 ∷ after
    → (Contains l 10 → ⊥) → more ≡ count + 1 → HasLines bytes more after
one_more_counted bytes mid l after count more h e none m = record {
  lines = h.lines ++ l ∷ [];
  counted = length-append h.lines (l ∷ []) ∙ ap (λ (n : ℕ). n + 1) h.counted ∙ sym m;
  front = begins_more h.lines bytes mid l after h.front e none;
}

pub one_counted : (bytes : List ℕ) (len : ℕ) → StartsWithLine bytes len → HasLines bytes 1 (drop (len + 1) bytes)
one_counted bytes len s = record {
  lines = take len bytes ∷ [];
  counted = refl;
  front = (drop (len + 1) bytes, s.split, s.no_end, refl);
}

part_behind : (ls : List (List ℕ)) (bytes rest : List ℕ) → BeginsWith bytes ls rest → (front : List ℕ) × (bytes ≡ front ++ rest)
part_behind [] bytes rest b = ([], b)
part_behind (l ∷ ls) bytes rest b =
    let p = part_behind ls b.0 rest b.3 in
    (l ++ 10 ∷ p.0, b.1 ∙ ap (λ (xs : List ℕ). l ++ 10 ∷ xs) p.1 ∙ sym (append_assoc l (10 ∷ p.0) rest))

pub rest_within : (bytes rest : List ℕ) (count : ℕ) → HasLines bytes count rest → length rest ≤ length bytes
rest_within bytes rest count h =
    let p = part_behind h.lines bytes rest h.front in
    let l : length bytes ≡ length (p.0 ++ rest) = ap length p.1 in omega (arith, l, length-append p.0 rest)

pub rest_dropped : (bytes rest : List ℕ) (count : ℕ) → HasLines bytes count rest
    → HasLines bytes count (drop (length bytes - length rest) bytes)
rest_dropped bytes rest count h =
    let p = part_behind h.lines bytes rest h.front in
    let l : length bytes ≡ length (p.0 ++ rest) = ap length p.1 in
    let front : length p.0 ≡ length bytes - length rest = omega (arith, l, length-append p.0 rest) in
    let same : drop (length bytes - length rest) bytes ≡ rest =
    ap (drop (length bytes - length rest)) p.1 ∙ drop_at p.0 rest (length bytes - length rest) front in
    subst (λ (xs : List ℕ). HasLines bytes count xs) (sym same) h

-- ---- lines are passed over

lines_passed : (ls : List (List ℕ)) (bytes rest more : List ℕ) → BeginsWith bytes ls rest
    → lines_of (bytes ++ more) ≡ ls ++ lines_of (rest ++ more)
lines_passed [] bytes rest more b = ap (λ (xs : List ℕ). lines_of (xs ++ more)) b
lines_passed (l ∷ ls) bytes rest more b =
    ap (λ (xs : List ℕ). lines_of (xs ++ more)) b.1 ∙ ap lines_of (append_assoc l (10 ∷ b.0) more)
    ∙ lines_begin l (b.0 ++ more) b.2 ∙ ap (λ (xs : List (List ℕ)). l ∷ xs) (lines_passed ls b.0 rest more b.3)

torn_passed : (ls : List (List ℕ)) (bytes rest more : List ℕ) → BeginsWith bytes ls rest
    → torn_of (bytes ++ more) ≡ torn_of (rest ++ more)
torn_passed [] bytes rest more b = ap (λ (xs : List ℕ). torn_of (xs ++ more)) b
torn_passed (l ∷ ls) bytes rest more b =
    ap (λ (xs : List ℕ). torn_of (xs ++ more)) b.1 ∙ ap torn_of (append_assoc l (10 ∷ b.0) more)
    ∙ torn_behind [] l (b.0 ++ more) ∙ torn_passed ls b.0 rest more b.3

module _ (all front : List ℕ) (offset len count : ℕ) (is : IsFront front (drop offset all)) (le : len ≤ length front)
    (h : HasLines front count (drop len front)) where
  rest_split : drop (offset + len) all ≡ drop len front ++ drop (length front) (drop offset all)
  rest_split = sym (drop-drop len offset all) ∙ ap (drop len) is
      ∙ drop-append-le len front (drop (length front) (drop offset all)) le

  lines_split : lines_of (drop offset all) ≡ h.lines ++ lines_of (drop (offset + len) all)
  lines_split = ap lines_of is
      ∙ lines_passed h.lines front (drop len front) (drop (length front) (drop offset all)) h.front
      ∙ ap (λ (xs : List ℕ). h.lines ++ lines_of xs) (sym rest_split)

  torn_split : torn_of (drop offset all) ≡ torn_of (drop (offset + len) all)
  torn_split = ap torn_of is
      ∙ torn_passed h.lines front (drop len front) (drop (length front) (drop offset all)) h.front
      ∙ ap torn_of (sym rest_split)

  -- what is left of the buffer is the front of what is left of the file
  pub front_passed : IsFront (drop len front) (drop (offset + len) all)
  front_passed = front_of (drop len front) (drop (length front) (drop offset all)) (drop (offset + len) all) rest_split

one_at : {A : Type 0} (n : ℕ) (xs ys : List A) (y : A) → drop n xs ≡ y ∷ ys → slice_get xs n ≡ Some y
one_at zero [] ys y is = absurd (cc)
one_at zero (x ∷ xs) ys y is = cc
one_at (suc n) [] ys y is = absurd (cc)
one_at (suc n) (x ∷ xs) ys y is = one_at n xs ys y is

none_behind : {A : Type 0} (n : ℕ) (xs : List A) → n ≤ length xs → drop n xs ≡ [] → n ≡ length xs
none_behind n xs le is = let l = length-drop n xs in let m : length (drop n xs) ≡ 0 = ap length is in omega arith

-- the place after these lines
pub place_passed : (all front : List ℕ) (place : Place) (len count : ℕ) → IsPlace all place
    → IsFront front (drop place.offset all) → len ≤ length front → HasLines front count (drop len front)
    → IsPlace all (record { number = place.number + count; offset = place.offset + len })
place_passed all front place len count p is le h =
    let after = lines_of (drop (place.offset + len) all) in
    let next : drop place.number (lines_of all) ≡ h.lines ++ after =
    sym p.lines ∙ lines_split all front place.offset len count is le h in
    let size : length (drop place.number (lines_of all)) ≡ length (h.lines ++ after) = ap length next in record {
      within = omega (arith, p.within, size, h.counted, length-drop place.number (lines_of all), length-append h.lines after);
      lines = sym (sym (drop-drop count place.number (lines_of all)) ∙ ap (drop count) next ∙ drop_at h.lines after count h.counted);
      torn = sym (torn_split all front place.offset len count is le h) ∙ p.torn;
    }

-- the line itself
pub line_passed : (all front : List ℕ) (place : Place) (len : ℕ) → IsPlace all place → IsFront front (drop place.offset all)
    → StartsWithLine front len → slice_get (lines_of all) place.number ≡ Some (take len front)
unfolding one_counted
line_passed all front place len p is s =
    let one = one_counted front len s in
    let le : len + 1 ≤ length front = omega (arith, s.within) in
    one_at place.number (lines_of all) (lines_of (drop (place.offset + (len + 1)) all)) (take len front)
    (sym p.lines ∙ lines_split all front place.offset (len + 1) 1 is le one)

-- no line is left
pub all_passed : (all rest : List ℕ) (place : Place) → IsPlace all place → rest ≡ drop place.offset all
    → (Contains rest 10 → ⊥) → (place.number ≡ length (lines_of all)) × (rest ≡ torn_of all)
all_passed all rest place p is none = (
  none_behind place.number (lines_of all) p.within (sym p.lines ∙ ap lines_of (sym is) ∙ no_line rest none),
  sym (torn_all [] rest none) ∙ ap torn_of is ∙ p.torn,
)

-- the start is a place
pub place_first : (all : List ℕ) → IsPlace all (record { number = 0; offset = 0 })
place_first all = record { within = omega arith; lines = refl; torn = refl }

-- ---- the same, at numbers that the code computed

pub front_after : (all items : List ℕ) (begin offset next len count : ℕ) → next ≡ offset + len
    → IsFront (drop begin items) (drop offset all) → len ≤ length (drop begin items)
    → HasLines (drop begin items) count (drop len (drop begin items))
    → IsFront (drop (begin + len) items) (drop next all)
front_after all items begin offset next len count n is le h =
    subst (λ (k : ℕ). IsFront (drop (begin + len) items) (drop k all)) (sym n)
    (subst (λ (xs : List ℕ). IsFront xs (drop (offset + len) all)) (drop-drop len begin items)
    (front_passed all (drop begin items) offset len count is le h))

pub place_after : (all front : List ℕ) (place : Place) (number offset len count : ℕ) → number ≡ place.number + count
    → offset ≡ place.offset + len → IsPlace all place → IsFront front (drop place.offset all) → len ≤ length front
    → HasLines front count (drop len front) → IsPlace all (record { number = number; offset = offset })
place_after all front place number offset len count n o p is le h =
    subst (λ (k : ℕ). IsPlace all (record { number = k; offset = offset })) (sym n)
    (subst (λ (k : ℕ). IsPlace all (record { number = place.number + count; offset = k })) (sym o)
    (place_passed all front place len count p is le h))

-- the buffer starts with this line
pub line_there : (bytes line rest : List ℕ) → bytes ≡ line ++ 10 ∷ rest → (Contains line 10 → ⊥)
    → StartsWithLine bytes (length line)
line_there bytes line rest is none =
    let first : take (length line) bytes ≡ line = ap (take (length line)) is ∙ take_at line (10 ∷ rest) (length line) refl in
    let after : drop (length line + 1) bytes ≡ rest =
    sym (drop-drop 1 (length line) bytes) ∙ ap (drop 1) (ap (drop (length line)) is ∙ drop_at line (10 ∷ rest) (length line) refl) in
    record {
      split = is ∙ ap (λ (xs : List ℕ). xs ++ 10 ∷ rest) (sym first) ∙ ap (λ (xs : List ℕ). take (length line) bytes ++ 10 ∷ xs) (sym after);
      within = let l : length bytes ≡ length (line ++ 10 ∷ rest) = ap length is in omega (arith, l, length-append line (10 ∷ rest));
      no_end = λ in_it. none (subst (λ (xs : List ℕ). Contains xs 10) first in_it);
    }
