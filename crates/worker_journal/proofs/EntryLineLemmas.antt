-- The line of an entry determines the entry.
use Rattle.std.proofs.Common.{◌≡◌, ℕ, List, [], ◌∷◌, ◌++◌, flat_map, refl, sym, ◌∙◌, ap, arith, append-nil}
use Rattle.std.proofs.Common.{append_assoc}
use Rattle.std.specs.List.{AllByRecursion}
use Rattle.worker_journal.specs.Escape.{escaped, unescaped, IsPlain}
use Rattle.worker_journal.specs.EntryLine.{Entry, field_text, line_of}
use Rattle.worker_journal.specs.Lines.{HasNoEnd}
use Rattle.worker_journal.proofs.EndLemmas.{none_join}
use Rattle.worker_journal.proofs.EscapeLemmas.{text_back, text_plain}

-- ---- no end

no_end : (xs : List ℕ) → AllByRecursion IsPlain xs → HasNoEnd xs
no_end [] plain = tt
no_end (x ∷ xs) plain = (plain.0.1, no_end xs plain.1)

field_whole : (p : List ℕ × List ℕ) → HasNoEnd (field_text p)
field_whole p = (
  omega arith,
  none_join (escaped p.0) (9 ∷ escaped p.1) (no_end (escaped p.0) (text_plain p.0))
      (omega arith, no_end (escaped p.1) (text_plain p.1)),
)

fields_whole : (ps : List (List ℕ × List ℕ)) → HasNoEnd (flat_map field_text ps)
fields_whole [] = tt
fields_whole (p ∷ ps) = none_join (field_text p) (flat_map field_text ps) (field_whole p) (fields_whole ps)

pub line_whole : (e : Entry) → HasNoEnd (line_of e)
line_whole e =
    none_join (escaped e.0) (flat_map field_text e.1) (no_end (escaped e.0) (text_plain e.0)) (fields_whole e.1)

-- ---- a text up to a tab

record Same (xs ys us vs : List ℕ) : Type 0 where
  front : xs ≡ ys
  behind : us ≡ vs

first_tab : (xs ys us vs : List ℕ) → AllByRecursion IsPlain xs → AllByRecursion IsPlain ys
    → xs ++ 9 ∷ us ≡ ys ++ 9 ∷ vs → Same xs ys us vs
first_tab [] [] us vs px py same = record { front = refl; behind = cc same }
first_tab [] (y ∷ ys) us vs px py same = let is : 9 ≡ y = cc same in absurd (py.0.0 (sym is))
first_tab (x ∷ xs) [] us vs px py same = let is : x ≡ 9 = cc same in absurd (px.0.0 is)
first_tab (x ∷ xs) (y ∷ ys) us vs px py same =
    let head : x ≡ y = cc same in
    let tail : xs ++ 9 ∷ us ≡ ys ++ 9 ∷ vs = cc same in
    let rest = first_tab xs ys us vs px.1 py.1 tail in
    record { front = ap (λ z. z ∷ xs) head ∙ ap (λ zs. y ∷ zs) rest.front; behind = rest.behind }

no_tab : (xs ys vs : List ℕ) → AllByRecursion IsPlain xs → xs ≡ ys ++ 9 ∷ vs → ⊥
no_tab [] [] vs plain same = absurd (cc same)
no_tab [] (y ∷ ys) vs plain same = absurd (cc same)
no_tab (x ∷ xs) [] vs plain same = let is : x ≡ 9 = cc same in plain.0.0 is
no_tab (x ∷ xs) (y ∷ ys) vs plain same = let tail : xs ≡ ys ++ 9 ∷ vs = cc same in no_tab xs ys vs plain.1 tail

same_text : (s t : List ℕ) → escaped s ≡ escaped t → s ≡ t
same_text s t same = sym (text_back s) ∙ ap unescaped same ∙ text_back t

-- -- a text and the fields after it

abbrev Fields : Type 0
Fields = List (List ℕ × List ℕ)

-- the fields after a text, as they are written
behind_is : (p : List ℕ × List ℕ) (ps : Fields)
    → flat_map field_text (p ∷ ps) ≡ 9 ∷ (escaped p.0 ++ (9 ∷ (escaped p.1 ++ flat_map field_text ps)))
behind_is p ps = ap (λ xs. 9 ∷ xs) (append_assoc (escaped p.0) (9 ∷ escaped p.1) (flat_map field_text ps))

pub tells : (s t : List ℕ) (ps qs : Fields)
    → escaped s ++ flat_map field_text ps ≡ escaped t ++ flat_map field_text qs → ◌≡◌ {A = Entry} (s, ps) (t, qs)
tells s t [] [] same =
    ap (λ x. (x, [])) (same_text s t (sym (append-nil (escaped s)) ∙ same ∙ append-nil (escaped t)))
tells s t [] (q ∷ qs) same =
    absurd (no_tab (escaped s) (escaped t) (escaped q.0 ++ (9 ∷ (escaped q.1 ++ flat_map field_text qs)))
    (text_plain s)
    (sym (append-nil (escaped s)) ∙ same ∙ ap (λ xs. escaped t ++ xs) (behind_is q qs)))
tells s t (p ∷ ps) [] same =
    absurd (no_tab (escaped t) (escaped s) (escaped p.0 ++ (9 ∷ (escaped p.1 ++ flat_map field_text ps)))
    (text_plain t)
    (sym (append-nil (escaped t)) ∙ sym same ∙ ap (λ xs. escaped s ++ xs) (behind_is p ps)))
tells s t (p ∷ ps) (q ∷ qs) same =
    let first = first_tab (escaped s) (escaped t) (escaped p.0 ++ (9 ∷ (escaped p.1 ++ flat_map field_text ps)))
    (escaped q.0 ++ (9 ∷ (escaped q.1 ++ flat_map field_text qs))) (text_plain s) (text_plain t)
    (sym (ap (λ xs. escaped s ++ xs) (behind_is p ps)) ∙ same ∙ ap (λ xs. escaped t ++ xs) (behind_is q qs)) in
    let name = first_tab (escaped p.0) (escaped q.0) (escaped p.1 ++ flat_map field_text ps)
    (escaped q.1 ++ flat_map field_text qs) (text_plain p.0) (text_plain q.0) first.behind in
    let rest = tells p.1 q.1 ps qs name.behind in
    let ids : s ≡ t = same_text s t first.front in
    let names : p.0 ≡ q.0 = same_text p.0 q.0 name.front in
    ap (λ x. (x, p ∷ ps)) ids ∙ ap (λ n. (t, (n, p.1) ∷ ps)) names
    ∙ ap (λ (r : List ℕ × Fields). (t, (q.0, r.0) ∷ r.1)) rest

pub line_tells : (a b : Entry) → line_of a ≡ line_of b → a ≡ b
line_tells a b same = tells a.0 b.0 a.1 b.1 same
