-- The lines of bytes, one byte after the other, and the last of them.
use Rattle.std.proofs.Common.{◌≡◌, ◌≢◌, ◌≤◌, ◌<◌, ◌+◌, ◌-◌, inl, inr, ℕ, zero, suc, List, [], ◌∷◌, ◌++◌, length}
use Rattle.std.proofs.Common.{take, drop, get_or, Option, Some, None, IfSome, refl, sym, ◌∙◌, ap, subst, arith}
use Rattle.std.proofs.Common.{append_assoc, append-nil}
use Rattle.std.proofs.Math.Seq.{take-suc, take-add, drop-append_seam}
use Rattle.std.proofs.lemmas.Bool.{cases_eq}
use Rattle.std.proofs.lemmas.Bool.Decides.{nat_tests}
use Rattle.std.proofs.lemmas.Grind.{common_steps}
use Rattle.std.proofs.lemmas.List.{take-append-drop, drop-append-le, take-append-le, length-append, drop_more}
use Rattle.worker_journal.specs.Holds.{committed_in}
use Rattle.worker_journal.specs.LastLines.{Begun, before_first, byte_more, bytes_more, last_of, lines_of, not_begun}
use Rattle.worker_journal.specs.Lines.{AreLines, HasNoEnd}
use Rattle.worker_journal.proofs.EndLemmas.{lines_behind, none_join}

-- ---- a byte before lines

at_end : (bs : List ℕ) → lines_of (10 ∷ bs) ≡ [] ∷ lines_of bs
at_end bs = refl

pub within_line : (b : ℕ) (bs : List ℕ) → b ≢ 10 → lines_of (b ∷ bs) ≡ before_first b (lines_of bs)
within_line b bs other = grind (arith, nat_tests)

same_length : (b : ℕ) (ls : List (List ℕ)) → length (before_first b ls) ≡ length ls
same_length b [] = refl
same_length b (l ∷ ls) = refl

-- ---- how many lines end

pub one_ends : (b : ℕ) (bs : List ℕ) → b ≡ 10 → length (lines_of (b ∷ bs)) ≡ suc (length (lines_of bs))
one_ends b bs is = subst (λ x. length (lines_of (x ∷ bs)) ≡ suc (length (lines_of bs))) (sym is) refl

pub none_ends : (b : ℕ) (bs : List ℕ) → b ≢ 10 → length (lines_of (b ∷ bs)) ≡ length (lines_of bs)
none_ends b bs other = ap length (within_line b bs other) ∙ same_length b (lines_of bs)

pub count_join : (xs ys : List ℕ) → length (lines_of (xs ++ ys)) ≡ length (lines_of xs) + length (lines_of ys)
count_join [] ys = omega arith
count_join (x ∷ xs) ys = elim (cases_eq x 10) [
  | inl end ↦ omega (arith, one_ends x (xs ++ ys) end, one_ends x xs end, count_join xs ys)
  | inr other ↦ omega (arith, none_ends x (xs ++ ys) other, none_ends x xs other, count_join xs ys)
]

-- -- complete lines before others

first_joins : (x : ℕ) (ls ms : List (List ℕ)) → ls ≢ [] → before_first x (ls ++ ms) ≡ before_first x ls ++ ms
first_joins x [] ms some = absurd (some refl)
first_joins x (l ∷ ls) ms some = refl

ended_has : (front : List ℕ) → lines_of (front ++ 10 ∷ []) ≢ []
ended_has front e =
    let none : length (lines_of (front ++ 10 ∷ [])) ≡ 0 = ap length e in
    absurd (omega (arith, none, count_join front (10 ∷ [])))

ended_joins : (front ys : List ℕ) → lines_of ((front ++ 10 ∷ []) ++ ys) ≡ lines_of (front ++ 10 ∷ []) ++ lines_of ys
ended_joins [] ys = refl
ended_joins (x ∷ xs) ys = elim (cases_eq x 10) [
  | inl end ↦ subst (λ y. lines_of (y ∷ ((xs ++ 10 ∷ []) ++ ys)) ≡ lines_of (y ∷ (xs ++ 10 ∷ [])) ++ lines_of ys)
      (sym end) (ap (λ ls. [] ∷ ls) (ended_joins xs ys))
  | inr other ↦ within_line x ((xs ++ 10 ∷ []) ++ ys) other ∙ ap (before_first x) (ended_joins xs ys)
      ∙ first_joins x (lines_of (xs ++ 10 ∷ [])) (lines_of ys) (ended_has xs)
      ∙ ap (λ ls. ls ++ lines_of ys) (sym (within_line x (xs ++ 10 ∷ []) other))
]

pub lines_join : (xs ys : List ℕ) → AreLines xs → lines_of (xs ++ ys) ≡ lines_of xs ++ lines_of ys
lines_join xs ys (inl none) = subst (λ zs. lines_of (zs ++ ys) ≡ lines_of zs ++ lines_of ys) (sym none) refl
lines_join xs ys (inr ended) = subst (λ zs. lines_of (zs ++ ys) ≡ lines_of zs ++ lines_of ys) (sym ended.1)
    (ended_joins ended.0 ys)

-- ---- the last ones

pub last_join : {A : Type 0} (n : ℕ) (xs ys : List A) → length ys ≡ n → last_of n (xs ++ ys) ≡ ys
last_join n xs ys is =
    let front : length (xs ++ ys) - n ≡ length xs = omega (arith, is, length-append xs ys) in
    ap (λ k. drop k (xs ++ ys)) front ∙ drop-append_seam xs ys

pub last_all : {A : Type 0} (n : ℕ) (xs : List A) → length xs ≤ n → last_of n xs ≡ xs
last_all n xs le = let none : length xs - n ≡ 0 = omega (arith, le) in ap (λ k. drop k xs) none

last_at : (bytes : List ℕ) (at n : ℕ) → AreLines (take at bytes) → length (lines_of (drop at bytes)) ≡ n
    → lines_of (drop at bytes) ≡ last_of n (lines_of bytes)
last_at bytes at n whole is =
    let all : lines_of bytes ≡ lines_of (take at bytes) ++ lines_of (drop at bytes) =
    ap lines_of (sym (take-append-drop at bytes)) ∙ lines_join (take at bytes) (drop at bytes) whole in
    sym (ap (last_of n) all ∙ last_join n (lines_of (take at bytes)) (lines_of (drop at bytes)) is)

-- ---- bytes that are gone back over

pub back_at : (xs : List ℕ) (i j : ℕ) → j + 1 ≡ i → j < length xs → get_or xs j 0 ≡ 10
    → length (lines_of (drop j xs)) ≡ suc (length (lines_of (drop i xs)))
back_at xs i j is lt end = ap (λ ys. length (lines_of ys)) (drop_more xs j 0 lt)
    ∙ one_ends (get_or xs j 0) (drop (j + 1) xs) end ∙ ap (λ k. suc (length (lines_of (drop k xs)))) is

pub back_over : (xs : List ℕ) (i j : ℕ) → j + 1 ≡ i → j < length xs → get_or xs j 0 ≢ 10
    → length (lines_of (drop j xs)) ≡ length (lines_of (drop i xs))
back_over xs i j is lt other = ap (λ ys. length (lines_of ys)) (drop_more xs j 0 lt)
    ∙ none_ends (get_or xs j 0) (drop (j + 1) xs) other ∙ ap (λ k. length (lines_of (drop k xs))) is

pub behind_all : (xs : List ℕ) → length (lines_of (drop (length xs) xs)) ≡ 0
behind_all [] = refl
behind_all (x ∷ xs) = behind_all xs

-- ---- the first bytes of a file that is read piece by piece

drop_none : (n k : ℕ) (xs : List ℕ) → n ≤ k → drop k (take n xs) ≡ []
drop_none zero zero xs le = refl
drop_none zero (suc k) xs le = refl
drop_none (suc n) zero xs le = absurd (omega (arith, le))
drop_none (suc n) (suc k) [] le = refl
drop_none (suc n) (suc k) (x ∷ xs) le = drop_none n k xs (omega (arith, le))

pub piece_of : (n at more : ℕ) (xs : List ℕ) → at + more ≤ n → take more (drop at (take n xs)) ≡ take more (drop at xs)
piece_of n zero zero xs le = refl
piece_of n (suc at) zero xs le = refl
piece_of zero zero (suc more) xs le = absurd (omega (arith, le))
piece_of (suc n) zero (suc more) [] le = refl
piece_of (suc n) zero (suc more) (x ∷ xs) le = ap (λ ys. x ∷ ys) (piece_of n zero more xs (omega (arith, le)))
piece_of zero (suc at) (suc more) xs le = absurd (omega (arith, le))
piece_of (suc n) (suc at) (suc more) [] le = refl
piece_of (suc n) (suc at) (suc more) (x ∷ xs) le = piece_of n at (suc more) xs (omega (arith, le))

rest_of : (n at from more : ℕ) (xs piece : List ℕ) → from + more ≡ at → at ≤ n → piece ≡ take more (drop from xs)
    → drop from (take n xs) ≡ piece ++ drop at (take n xs)
rest_of n at from more xs piece is within stands =
    let behind : drop at (take n xs) ≡ drop more (drop from (take n xs)) = grind (arith, common_steps) in
    sym (take-append-drop more (drop from (take n xs)))
    ∙ ap (λ ys. ys ++ drop more (drop from (take n xs)))
    (piece_of n from more xs (omega (arith, is, within)) ∙ sym stands)
    ∙ ap (λ ys. piece ++ ys) (sym behind)

-- ---- the loop that goes back

-- this number of lines end after this offset, and this number are left
abbrev pub EndBehind : Option (List ℕ) → ℕ → ℕ → ℕ → ℕ → Type 0
EndBehind known len at left number =
    IfSome (committed_in known len) (λ bytes. length (lines_of (drop at bytes)) + left ≡ number)

-- the piece is at this offset
abbrev pub StandsAt : Option (List ℕ) → ℕ → ℕ → List ℕ → Type 0
StandsAt known from len piece = IfSome known (λ file. piece ≡ take len (drop from file))

-- these lines begin there
abbrev pub LastFrom : Option (List ℕ) → ℕ → ℕ → ℕ → Type 0
LastFrom known len number at =
    IfSome (committed_in known len) (λ bytes. lines_of (drop at bytes) ≡ last_of number (lines_of bytes))

pub at_start : (known : Option (List ℕ)) (len number : ℕ) → EndBehind known len len number number
at_start None len number = tt
at_start (Some file) len number =
    let none : length (lines_of (drop len (take len file))) ≡ 0 =
    ap (λ ys. length (lines_of ys)) (drop_none len len file (omega arith)) in
    omega (arith, none)

pub none_more : (known : Option (List ℕ)) (len at from more left now number : ℕ) (piece : List ℕ) → from + more ≡ at
    → at ≤ len → StandsAt known from more piece → length (lines_of piece) + now ≡ left
    → EndBehind known len at left number → EndBehind known len from now number
none_more None len at from more left now number piece is within stands count far = tt
none_more (Some file) len at from more left now number piece is within stands count far =
    omega (
      arith,
      ap (λ ys. length (lines_of ys)) (rest_of len at from more file piece is within stands),
      count_join piece (drop at (take len file)),
      count,
      far,
    )

some_taken : (n : ℕ) (xs : List ℕ) → 0 < n → n ≤ length xs → take n xs ≢ []
some_taken zero xs lt le = absurd (omega arith)
some_taken (suc n) [] lt le = absurd (omega arith)
some_taken (suc n) (x ∷ xs) lt le = λ e. absurd (cc e)

pub found : (known : Option (List ℕ)) (len at from more start left number : ℕ) (piece : List ℕ) → from + more ≡ at
    → at ≤ len → StandsAt known from more piece → 0 < start → start ≤ length piece → AreLines (take start piece)
    → length (lines_of (drop start piece)) ≡ left → EndBehind known len at left number
    → LastFrom known len number (from + start)
found None len at from more start left number piece is within stands some le whole count far = tt
found (Some file) len at from more start left number piece is within stands some le whole count far =
    let bytes = take len file in
    let rest = rest_of len at from more file piece is within stands in
    let back : drop (from + start) bytes ≡ drop start (drop from bytes) = grind (arith, common_steps) in
    let front : take (from + start) bytes ≡ take from bytes ++ take start (drop from bytes) = take-add from start bytes in
    last_at bytes (from + start) number
    (subst AreLines (sym (front ∙ ap (λ ys. take from bytes ++ take start ys) rest
    ∙ ap (λ ys. take from bytes ++ ys) (take-append-le start piece (drop at bytes) le)))
    (lines_behind (take from bytes) (take start piece) whole (some_taken start piece some le)))
    (omega (
      arith,
      ap (λ ys. length (lines_of ys)) (back ∙ ap (λ ys. drop start ys) rest
          ∙ drop-append-le start piece (drop at bytes) le),
      count_join (drop start piece) (drop at bytes),
      count,
      far,
    ))

pub all_of : (known : Option (List ℕ)) (len at left number : ℕ) → at ≡ 0 → EndBehind known len at left number
    → LastFrom known len number 0
all_of None len at left number is far = tt
all_of (Some file) len at left number is far =
    sym (last_all number (lines_of (take len file))
    (omega (arith, ap (λ k. length (lines_of (drop k (take len file)))) is, far)))

-- ---- byte by byte

pub more_push : (t : Begun) (xs : List ℕ) (b : ℕ) → bytes_more t (xs ++ b ∷ []) ≡ byte_more (bytes_more t xs) b
more_push t [] b = refl
more_push t (x ∷ xs) b = more_push (byte_more t x) xs b

pub more_at : (t : Begun) (bytes : List ℕ) (i : ℕ) → i < length bytes
    → bytes_more t (take (suc i) bytes) ≡ byte_more (bytes_more t (take i bytes)) (get_or bytes i 0)
more_at t bytes i lt = ap (bytes_more t) (take-suc bytes i 0 lt) ∙ more_push t (take i bytes) (get_or bytes i 0)

more_append : (t : Begun) (xs ys : List ℕ) → bytes_more t (xs ++ ys) ≡ bytes_more (bytes_more t xs) ys
more_append t [] ys = refl
more_append t (x ∷ xs) ys = more_append (byte_more t x) xs ys

abbrev begun : List (List ℕ) → List ℕ → Begun
begun ended line = record { ended = ended; line = line }

pub line_before : (line : List ℕ) → HasNoEnd line → (rest : List ℕ) → lines_of (line ++ 10 ∷ rest) ≡ line ∷ lines_of rest
line_before [] none rest = refl
line_before (x ∷ xs) none rest =
    within_line x (xs ++ 10 ∷ rest) none.0 ∙ ap (before_first x) (line_before xs none.1 rest)

no_line : (line : List ℕ) → HasNoEnd line → lines_of line ≡ []
no_line [] none = refl
no_line (x ∷ xs) none = within_line x xs none.0 ∙ ap (before_first x) (no_line xs none.1)

-- the lines that end in these bytes
ended_are : (ended : List (List ℕ)) (line bytes : List ℕ) → HasNoEnd line
    → (bytes_more (begun ended line) bytes).ended ≡ ended ++ lines_of (line ++ bytes)
ended_are ended line [] none =
    sym (ap (λ ls. ended ++ ls) (ap lines_of (append-nil line) ∙ no_line line none) ∙ append-nil ended)
ended_are ended line (b ∷ bs) none = elim (cases_eq b 10) [
  | inl end ↦ subst (λ x. (bytes_more (begun ended line) (x ∷ bs)).ended ≡ ended ++ lines_of (line ++ x ∷ bs)) (sym end)
      (ended_are (ended ++ line ∷ []) [] bs tt ∙ append_assoc ended (line ∷ []) (lines_of bs)
      ∙ ap (λ ls. ended ++ ls) (sym (line_before line none bs)))
  | inr other ↦
      let step : byte_more (begun ended line) b ≡ begun ended (line ++ b ∷ []) = grind (arith, nat_tests) in
      ap (λ t. (bytes_more t bs).ended) step
      ∙ ended_are ended (line ++ b ∷ []) bs (none_join line (b ∷ []) none (other, tt))
      ∙ ap (λ ys. ended ++ lines_of ys) (append_assoc line (b ∷ []) bs)
]

-- ---- the loop that takes bytes

-- what is taken, and what is to come, is all
abbrev pub TakesFrom : Option (List ℕ) → ℕ → ℕ → ℕ → Begun → Type 0
TakesFrom known len from at t = IfSome (committed_in known len)
    (λ bytes. bytes_more t (drop at bytes) ≡ bytes_more not_begun (drop from bytes))

pub takes_none : (known : Option (List ℕ)) (len from : ℕ) (t : Begun) → t ≡ not_begun → TakesFrom known len from from t
takes_none None len from t is = tt
takes_none (Some file) len from t is = ap (λ s. bytes_more s (drop from (take len file))) is

pub takes_more : (known : Option (List ℕ)) (len from at more next : ℕ) (t u : Begun) (piece : List ℕ) → at + more ≡ next
    → next ≤ len → StandsAt known at more piece → u ≡ bytes_more t piece → TakesFrom known len from at t
    → TakesFrom known len from next u
takes_more None len from at more next t u piece is within stands now far = tt
takes_more (Some file) len from at more next t u piece is within stands now far =
    ap (λ s. bytes_more s (drop next (take len file))) now ∙ sym (more_append t piece (drop next (take len file)))
    ∙ ap (bytes_more t) (sym (rest_of len next at more file piece is within stands)) ∙ far

pub takes_all : (known : Option (List ℕ)) (len from at : ℕ) (t : Begun) → len ≤ at → TakesFrom known len from at t
    → IfSome (committed_in known len) (λ bytes. t.ended ≡ lines_of (drop from bytes))
takes_all None len from at t le far = tt
takes_all (Some file) len from at t le far =
    ap (λ s. s.ended) (sym (ap (bytes_more t) (drop_none len at file le)) ∙ far)
    ∙ ended_are [] [] (drop from (take len file)) tt

-- both loops
pub last_lines_are : (known : Option (List ℕ)) (len number at : ℕ) (ls : List (List ℕ)) → LastFrom known len number at
    → IfSome (committed_in known len) (λ bytes. ls ≡ lines_of (drop at bytes))
    → IfSome (committed_in known len) (λ bytes. ls ≡ last_of number (lines_of bytes))
last_lines_are None len number at ls from are = tt
last_lines_are (Some file) len number at ls from are = are ∙ from
