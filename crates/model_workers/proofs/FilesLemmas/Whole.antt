-- The whole lines of bytes.
use Rattle.std.proofs.Common.{◌≡◌, ◌≢◌, inl, inr, refl, sym, ap, subst, ◌∙◌, ℕ, Bool, true, false, ◌||◌, ◌==◌, arith}
use Rattle.std.proofs.Common.{List, [], ◌∷◌, ◌++◌, append_assoc, append-nil, Some, if◌then◌else◌}
use Rattle.std.proofs.lemmas.Bool.Decides.{nat_tests}
use Rattle.worker_journal.specs.Lines.{HasNoEnd, AreLines}
use Rattle.worker_journal.specs.EntryLine.{line_of}
use Rattle.worker_journal.proofs.EndLemmas.{split}
use Rattle.worker_journal.proofs.EntryLineLemmas.{line_whole, line_tells}
use Rattle.model_workers.specs.Files.Files.{Form, has_end, whole_lines}
use Rattle.model_workers.specs.Files.Law.{RepairsToWholeLines, TextIsAForm}

-- ---- whole lines, one after the other

pub lines_join : (xs ys : List ℕ) → AreLines xs → AreLines ys → AreLines (xs ++ ys)
lines_join xs ys p (inl none) = subst AreLines (sym (ap (λ zs. xs ++ zs) none ∙ append-nil xs)) p
lines_join xs ys p (inr ended) =
    inr (xs ++ ended.0, ap (λ zs. xs ++ zs) ended.1 ∙ sym (append_assoc xs ended.0 (10 ∷ [])))

pub lines_tail : (b : ℕ) (bs : List ℕ) → AreLines (b ∷ bs) → AreLines bs
lines_tail b bs (inl none) = absurd (cc none)
lines_tail b bs (inr ([], q)) = inl (let t : bs ≡ [] = cc q in t)
lines_tail b bs (inr (f ∷ fs, q)) = inr (fs, let t : bs ≡ fs ++ 10 ∷ [] = cc q in t)

-- ---- where a line ends

end_within : (front rest : List ℕ) → has_end (front ++ 10 ∷ rest) ≡ true
end_within [] rest = refl
end_within (b ∷ front) rest =
    let case : (t : Bool) → (t || has_end (front ++ 10 ∷ rest)) ≡ true
    = λ t. elim t as (λ t. (t || has_end (front ++ 10 ∷ rest)) ≡ true) [ true ↦ refl | false ↦ end_within front rest ] in
    case (b == 10)

no_end_within : (bs : List ℕ) → HasNoEnd bs → has_end bs ≡ false
no_end_within [] none = refl
no_end_within (b ∷ bs) none =
    let other : b ≢ 10 = none.0 in
    let test : (b == 10) ≡ false = grind (arith, nat_tests) in
    ap (λ t. t || has_end bs) test ∙ no_end_within bs none.1

lines_end : (b : ℕ) (bs torn : List ℕ) → AreLines (b ∷ bs) → has_end (b ∷ (bs ++ torn)) ≡ true
lines_end b bs torn (inl none) = absurd (cc none)
lines_end b bs torn (inr ended) =
    let same : b ∷ (bs ++ torn) ≡ ended.0 ++ 10 ∷ torn =
    ap (λ xs. xs ++ torn) ended.1 ∙ append_assoc ended.0 (10 ∷ []) torn in
    ap has_end same ∙ end_within ended.0 torn

-- ---- the whole lines

pub none_whole : (torn : List ℕ) → HasNoEnd torn → whole_lines torn ≡ []
none_whole [] none = refl
none_whole (b ∷ bs) none =
    ap (λ t. if t then b ∷ whole_lines bs else []) (no_end_within (b ∷ bs) none)

pub whole_of : (ls torn : List ℕ) → AreLines ls → HasNoEnd torn → whole_lines (ls ++ torn) ≡ ls
whole_of [] torn are none = none_whole torn none
whole_of (b ∷ bs) torn are none =
    ap (λ t. if t then b ∷ whole_lines (bs ++ torn) else []) (lines_end b bs torn are)
    ∙ ap (λ xs. b ∷ xs) (whole_of bs torn (lines_tail b bs are) none)

pub whole_are_lines : (bytes : List ℕ) → AreLines (whole_lines bytes)
whole_are_lines bytes =
    let s = split bytes in
    subst AreLines (sym (ap whole_lines s.is.split ∙ whole_of s.lines s.torn s.is.whole s.is.torn_line)) s.is.whole

-- whole lines stay, whatever bytes are after them
pub whole_behind : (ls torn : List ℕ) → AreLines ls → whole_lines (ls ++ torn) ≡ ls ++ whole_lines torn
whole_behind ls torn are =
    let s = split torn in
    let all : ls ++ torn ≡ (ls ++ s.lines) ++ s.torn =
    ap (λ xs. ls ++ xs) s.is.split ∙ sym (append_assoc ls s.lines s.torn) in
    let rest : whole_lines torn ≡ s.lines =
    ap whole_lines s.is.split ∙ whole_of s.lines s.torn s.is.whole s.is.torn_line in
    ap whole_lines all ∙ whole_of (ls ++ s.lines) s.torn (lines_join ls s.lines are s.is.whole) s.is.torn_line
    ∙ ap (λ xs. ls ++ xs) (sym rest)

-- ---- as `worker_journal` has it

pub repairs_to_whole_lines : RepairsToWholeLines
repairs_to_whole_lines bytes new r =
    r.3 ∙ ap (λ xs. Some xs) (sym (ap whole_lines r.2.split ∙ whole_of r.0 r.1 r.2.whole r.2.torn_line))

abbrev pub text : Form
text = record { line = line_of; whole = line_whole; tells = line_tells }

pub text_is_a_form : TextIsAForm
text_is_a_form = (text, refl)
