-- The end of the complete lines of a file.
use Rattle.std.proofs.Common.{◌≡◌, ◌≢◌, ◌≤◌, ◌<◌, ◌+◌, ◌-◌, inl, inr, ℕ, zero, suc, List, [], ◌∷◌, ◌++◌, length}
use Rattle.std.proofs.Common.{take, drop, get_or, Option, Some, None, IfSome, refl, sym, ◌∙◌, ap, subst, arith}
use Rattle.std.proofs.Common.{append_assoc}
use Rattle.std.proofs.Math.Seq.{take-suc, take-add, take-append-add}
use Rattle.std.proofs.lemmas.Bool.{cases_eq, cases_lt}
use Rattle.std.proofs.lemmas.Grind.{common_steps}
use Rattle.std.proofs.lemmas.List.{take-append-drop, drop-append-le, take-append-le, length-append, drop_more}
use Rattle.worker_journal.specs.Lines.{HasNoEnd, AreLines, EndsAt, IsLinesAnd, IsRepaired, HasTheLines, StartsWith}

-- ---- no line ends

pub none_join : (xs ys : List ℕ) → HasNoEnd xs → HasNoEnd ys → HasNoEnd (xs ++ ys)
none_join [] ys p q = q
none_join (x ∷ xs) ys p q = (p.0, none_join xs ys p.1 q)

pub none_take : (n : ℕ) (xs : List ℕ) → HasNoEnd xs → HasNoEnd (take n xs)
none_take zero xs p = tt
none_take (suc n) [] p = tt
none_take (suc n) (x ∷ xs) p = (p.0, none_take n xs p.1)

pub none_behind : (xs : List ℕ) → HasNoEnd (drop (length xs) xs)
none_behind [] = tt
none_behind (x ∷ xs) = none_behind xs

-- one byte further to the start
pub none_more : (xs : List ℕ) (i j : ℕ) → j + 1 ≡ i → j < length xs → get_or xs j 0 ≢ 10 → HasNoEnd (drop i xs)
    → HasNoEnd (drop j xs)
none_more xs i j is lt other p = subst HasNoEnd (sym (drop_more xs j 0 lt))
    (other, subst (λ k. HasNoEnd (drop k xs)) (sym is) p)

-- -- complete lines

pub lines_behind : (front xs : List ℕ) → AreLines xs → xs ≢ [] → AreLines (front ++ xs)
lines_behind front xs (inl none) some = absurd (some none)
lines_behind front xs (inr ended) some =
    inr (front ++ ended.0, ap (λ ys. front ++ ys) ended.1 ∙ sym (append_assoc front ended.0 (10 ∷ [])))

pub lines_at : (xs : List ℕ) (i j : ℕ) → j + 1 ≡ i → j < length xs → get_or xs j 0 ≡ 10 → AreLines (take i xs)
lines_at xs i j is lt end = inr (
  take j xs,
  let same : i ≡ suc j = omega arith in ap (λ k. take k xs) same
      ∙ take-suc xs j 0 lt ∙ ap (λ b. take j xs ++ b ∷ []) end,
)

-- ---- a file that is read piece by piece, from its end

-- no line ends from there on
abbrev pub NoneFrom : Option (List ℕ) → ℕ → Type 0
NoneFrom known at = IfSome known (λ file. (at ≤ length file) × HasNoEnd (drop at file))

-- the piece is at this offset
abbrev pub StandsAt : Option (List ℕ) → ℕ → ℕ → List ℕ → Type 0
StandsAt known from len piece = IfSome known (λ file. piece ≡ take len (drop from file))

pub from_end : (known : Option (List ℕ)) (n : ℕ) → IfSome known (λ file. n ≡ length file) → NoneFrom known n
from_end None n is = tt
from_end (Some file) n is = (omega (arith, is), subst (λ k. HasNoEnd (drop k file)) (sym is) (none_behind file))

rest_of : (file piece : List ℕ) (at from len : ℕ) → from + len ≡ at → piece ≡ take len (drop from file)
    → drop from file ≡ piece ++ drop at file
rest_of file piece at from len is stands =
    let behind : drop at file ≡ drop len (drop from file) = grind (arith, common_steps) in
    sym (take-append-drop len (drop from file)) ∙ ap (λ xs. take len (drop from file) ++ xs) (sym behind)
    ∙ ap (λ xs. xs ++ drop at file) (sym stands)

pub none_in_piece : (known : Option (List ℕ)) (at from len end : ℕ) (piece : List ℕ) → from + len ≡ at → end ≡ 0
    → NoneFrom known at → StandsAt known from len piece → HasNoEnd (drop end piece) → NoneFrom known from
none_in_piece None at from len end piece is none far stands torn = tt
none_in_piece (Some file) at from len end piece is none far stands torn =
    let whole : HasNoEnd piece = subst (λ k. HasNoEnd (drop k piece)) none torn in (
      omega (arith, far.0),
      subst HasNoEnd (sym (rest_of file piece at from len is stands))
          (none_join piece (drop at file) whole far.1),
    )

some_taken : (n : ℕ) (xs : List ℕ) → 0 < n → n ≤ length xs → take n xs ≢ []
some_taken zero xs lt le = absurd (omega arith)
some_taken (suc n) [] lt le = absurd (omega arith)
some_taken (suc n) (x ∷ xs) lt le = λ e. absurd (cc e)

pub end_in_piece : (known : Option (List ℕ)) (at from len end : ℕ) (piece : List ℕ) → from + len ≡ at → 0 < end
    → end ≤ length piece → length piece ≤ len → NoneFrom known at → StandsAt known from len piece
    → AreLines (take end piece) → HasNoEnd (drop end piece) → EndsAt known (from + end)
end_in_piece None at from len end piece is some within few far stands lines torn = tt
end_in_piece (Some file) at from len end piece is some within few far stands lines torn =
    let rest = rest_of file piece at from len is stands in
    let back : drop (from + end) file ≡ drop end (drop from file) = grind (arith, common_steps) in
    let front : take (from + end) file ≡ take from file ++ take end (drop from file) = take-add from end file in (
      omega (arith, far.0),
      subst AreLines
          (sym (front ∙ ap (λ xs. take from file ++ take end xs) rest ∙ ap (λ xs. take from file ++ xs)
          (take-append-le end piece (drop at file) within)))
          (lines_behind (take from file) (take end piece) lines (some_taken end piece some within)),
      subst HasNoEnd (sym (back ∙ ap (λ xs. drop end xs) rest ∙ drop-append-le end piece (drop at file) within))
          (none_join (drop end piece) (drop at file) torn far.1),
    )

pub end_at_front : (known : Option (List ℕ)) (at : ℕ) → at ≡ 0 → NoneFrom known at → EndsAt known 0
end_at_front None at is far = tt
end_at_front (Some file) at is far = (omega arith, inl refl, subst (λ k. HasNoEnd (drop k file)) is far.1)

-- -- each file is complete lines and a last line that has no end

pub record Split (file : List ℕ) : Type 0 where
  pub lines : List ℕ
  pub torn : List ℕ
  pub is : IsLinesAnd file lines torn

split_first : (b : ℕ) (bs lines torn : List ℕ) → bs ≡ lines ++ torn → AreLines lines → HasNoEnd torn → Split (b ∷ bs)
split_first b bs [] torn is lines none = elim (cases_eq b 10) [
  | inl end ↦ record {
    lines = 10 ∷ [];
    torn = torn;
    is = record { split = ap (λ x. x ∷ bs) end ∙ ap (λ xs. 10 ∷ xs) is; whole = inr ([], refl); torn_line = none };
  }
  | inr other ↦ record {
    lines = [];
    torn = b ∷ torn;
    is = record { split = ap (λ xs. b ∷ xs) is; whole = inl refl; torn_line = (other, none) };
  }
]
split_first b bs (x ∷ xs) torn is lines none =
    record {
      lines = b ∷ x ∷ xs;
      torn = torn;
      is = record {
        split = ap (λ ys. b ∷ ys) is;
        whole = lines_behind (b ∷ []) (x ∷ xs) lines (λ e. absurd (cc e));
        torn_line = none;
      };
    }

pub split : (file : List ℕ) → Split file
split [] = record { lines = []; torn = []; is = record { split = refl; whole = inl refl; torn_line = tt } }
split (b ∷ bs) = let s = split bs in split_first b bs s.lines s.torn s.is.split s.is.whole s.is.torn_line

-- ---- what a crash leaves while the end is repaired

pub same_lines : (known : Option (List ℕ)) (c : List ℕ) → IfSome known (λ file. c ≡ file) → HasTheLines known c
same_lines None c is = tt
same_lines (Some file) c is = let s =
    split file in (s.lines, s.torn, s.torn, s.is, subst (λ f. IsLinesAnd f s.lines s.torn) (sym is) s.is)

-- a cut at the end of the complete lines or after it
pub cut_lines : (known : Option (List ℕ)) (end len : ℕ) (c : List ℕ) → EndsAt known end → end ≤ len
    → IfSome known (λ file. c ≡ take len file) → HasTheLines known c
cut_lines None end len c ends le is = tt
cut_lines (Some file) end len c ends le is =
    let k = len - end in
    let same : len ≡ end + k = omega arith in
    let cut : take len file ≡ take end file ++ take k (drop end file) =
    ap (λ n. take n file) same ∙ take-add end k file in (
      take end file,
      drop end file,
      take k (drop end file),
      record { split = sym (take-append-drop end file); whole = ends.1; torn_line = ends.2 },
      record { split = is ∙ cut; whole = ends.1; torn_line = none_take k (drop end file) ends.2 },
    )

pub repaired : (known new : Option (List ℕ)) (end : ℕ) → EndsAt known end
    → IfSome known (λ file. new ≡ Some (take end file)) → IsRepaired known new
repaired None new end ends is = tt
repaired (Some file) new end ends is = (
  take end file,
  drop end file,
  record { split = sym (take-append-drop end file); whole = ends.1; torn_line = ends.2 },
  is,
)

-- -- a prefix of complete lines

none_after : (xs ys : List ℕ) → HasNoEnd (xs ++ ys) → HasNoEnd ys
none_after [] ys p = p
none_after (x ∷ xs) ys p = none_after xs ys p.1

-- the last line feed of the prefix is before the end of the complete lines
pub front_ends_before : (front behind : List ℕ) (end : ℕ) → AreLines front → EndsAt (Some (front ++ behind)) end
    → length front ≤ end
front_ends_before front behind end (inl none) ends = omega (arith, ap length none)
front_ends_before front behind end (inr ended) ends = elim (cases_lt (length ended.0) end) [
  | inl before ↦ omega (arith, before, ap length ended.1, length-append ended.0 (10 ∷ []))
  | inr behind_it ↦
      let same : front ++ behind ≡ ended.0 ++ 10 ∷ behind =
      ap (λ xs. xs ++ behind) ended.1 ∙ append_assoc ended.0 (10 ∷ []) behind in
      let torn : HasNoEnd (drop end ended.0 ++ 10 ∷ behind) =
      subst HasNoEnd (ap (λ xs. drop end xs) same ∙ drop-append-le end ended.0 (10 ∷ behind) behind_it) ends.2 in
      absurd ((none_after (drop end ended.0) (10 ∷ behind) torn).0 refl)
]

-- a cut after the prefix leaves the prefix
pub front_stays : (front d c : List ℕ) (end len : ℕ) → length front ≤ end → end ≤ len → StartsWith front d
    → c ≡ take len d → StartsWith front c
front_stays front d c end len le cut starts is =
    let more = len - length front in
    let same : len ≡ length front + more = omega (arith, le, cut) in (
      take more starts.0,
      is ∙ ap (λ xs. take len xs) starts.1 ∙ ap (λ n. take n (front ++ starts.0)) same
          ∙ take-append-add front starts.0 more,
    )
