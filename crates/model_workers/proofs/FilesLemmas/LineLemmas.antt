-- The lines of entries among bytes.
use Rattle.std.proofs.Common.{◌≡◌, ◌≢◌, ◌⊎◌, inl, inr, refl, sym, ap, subst, ◌∙◌, ℕ, List, [], ◌∷◌, ◌++◌, append_assoc}
use Rattle.std.proofs.Common.{append-nil}
use Rattle.std.proofs.lemmas.Grind.{flat_map-append}
use Rattle.worker_journal.specs.EntryLine.{Entry}
use Rattle.worker_journal.specs.Lines.{HasNoEnd, AreLines}
use Rattle.model_server.specs.Group.Law.{Among}
use Rattle.model_workers.specs.Files.Files.{Form, lines, whole_lines}
use Rattle.model_workers.specs.Files.Law.{IsLineIn}
use Rattle.model_workers.proofs.FilesLemmas.Whole.{lines_join, lines_tail, none_whole, whole_behind}

-- ---- a line stays in longer bytes

pub line_stays : (line xs ys : List ℕ) → IsLineIn line xs → IsLineIn line (xs ++ ys)
line_stays line xs ys h = (
  h.0,
  h.1 ++ ys,
  h.2,
  h.3,
  ap (λ zs. zs ++ ys) h.4 ∙ append_assoc h.0 (line ++ 10 ∷ h.1) ys
      ∙ ap (λ zs. h.0 ++ zs) (append_assoc line (10 ∷ h.1) ys),
)

pub line_behind : (line xs ys : List ℕ) → AreLines xs → IsLineIn line ys → IsLineIn line (xs ++ ys)
line_behind line xs ys are h = (
  xs ++ h.0,
  h.1,
  lines_join xs h.0 are h.2,
  h.3,
  ap (λ zs. xs ++ zs) h.4 ∙ sym (append_assoc xs h.0 (line ++ 10 ∷ h.1)),
)

module _ (form : Form) where
  one_line : (e : Entry) → AreLines (form.line e ++ 10 ∷ [])
  one_line e = inr (form.line e, refl)

  pub are_lines : (es : List Entry) → AreLines (lines form es)
  are_lines [] = inl refl
  are_lines (e ∷ es) = lines_join (form.line e ++ 10 ∷ []) (lines form es) (one_line e) (are_lines es)

  -- the first line, and those after it
  pub first_line : (e : Entry) (es : List Entry) → lines form (e ∷ es) ≡ form.line e ++ 10 ∷ lines form es
  first_line e es = append_assoc (form.line e) (10 ∷ []) (lines form es)

  pub line_among : (e : Entry) (es : List Entry) → Among e es → IsLineIn (form.line e) (lines form es)
  line_among e [] h = absurd h
  line_among e (x ∷ es) (inl q) =
      let P : Entry → Type 0 = λ y. IsLineIn (form.line y) (lines form (x ∷ es)) in
      subst P q ([], lines form es, inl refl, form.whole x, first_line x es)
  line_among e (x ∷ es) (inr h) =
      line_behind (form.line e) (form.line x ++ 10 ∷ []) (lines form es) (one_line x) (line_among e es h)

  pub lines_append : (es fs : List Entry) → lines form (es ++ fs) ≡ lines form es ++ lines form fs
  lines_append es fs = flat_map-append (λ e. form.line e ++ 10 ∷ []) es fs

-- ---- the first bytes of lines

-- the first bytes end within the first line, or have all of it
record Further (xs us torn rest : List ℕ) : Type 0 where
  behind : List ℕ
  has : torn ≡ xs ++ 10 ∷ behind
  is : us ≡ behind ++ rest

first_end : (xs us torn rest : List ℕ) → HasNoEnd xs → xs ++ 10 ∷ us ≡ torn ++ rest
    → HasNoEnd torn ⊎ Further xs us torn rest
first_end xs us [] rest none same = inl tt
first_end [] us (t ∷ ts) rest none same =
    let head : t ≡ 10 = cc same in
    let tail : us ≡ ts ++ rest = cc same in
    inr (record { behind = ts; has = ap (λ z. z ∷ ts) head; is = tail })
first_end (x ∷ xs) us (t ∷ ts) rest none same =
    let head : x ≡ t = cc same in
    let tail : xs ++ 10 ∷ us ≡ ts ++ rest = cc same in
    elim (first_end xs us ts rest none.1 tail) [
      | inl n ↦ inl (subst (λ z. z ≢ 10) head none.0, n)
      | inr f ↦ inr (record {
        behind = f.behind;
        has = ap (λ z. z ∷ ts) (sym head) ∙ ap (λ zs. x ∷ zs) f.has;
        is = f.is;
      })
    ]

no_lines_without_end : (xs : List ℕ) → AreLines xs → HasNoEnd xs → xs ≡ []
no_lines_without_end xs are none = sym (whole_behind xs [] are ∙ append-nil xs) ∙ ap whole_lines (append-nil xs) ∙ none_whole xs none

module _ (form : Form) where
  pub record FirstOf (es : List Entry) (torn : List ℕ) : Type 0 where
    pub kept : List Entry
    pub within : (e : Entry) → Among e kept → Among e es
    pub whole : whole_lines torn ≡ lines form kept

  none_of : (es : List Entry) (torn : List ℕ) → HasNoEnd torn → FirstOf es torn
  none_of es torn none = record { kept = []; within = λ e h. absurd h; whole = none_whole torn none }

  -- of the first bytes of lines the whole ones are lines of the same entries
  pub first_of : (es : List Entry) (torn rest : List ℕ) → lines form es ≡ torn ++ rest → FirstOf es torn
  first_of es [] rest same = none_of es [] tt
  first_of [] (t ∷ ts) rest same = absurd (cc same)
  first_of (x ∷ es) (t ∷ ts) rest same =
      elim (first_end (form.line x) (lines form es) (t ∷ ts) rest (form.whole x) (sym (first_line form x es) ∙ same)) [
        | inl none ↦ none_of (x ∷ es) (t ∷ ts) none
        | inr f ↦
            (let more = first_of es f.behind rest f.is in
            record {
              kept = x ∷ more.kept;
              within = λ e h. elim h [ inl q ↦ inl q | inr k ↦ inr (more.within e k) ];
              whole = ap whole_lines (f.has ∙ sym (append_assoc (form.line x) (10 ∷ []) f.behind))
                  ∙ whole_behind (form.line x ++ 10 ∷ []) f.behind (inr (form.line x, refl))
                  ∙ ap (λ xs. (form.line x ++ 10 ∷ []) ++ xs) more.whole;
            })
      ]

-- ---- which entry a line is of

lines_rest : (xs behind : List ℕ) → AreLines (xs ++ 10 ∷ behind) → AreLines behind
lines_rest [] behind are = lines_tail 10 behind are
lines_rest (x ∷ xs) behind are = lines_rest xs behind (lines_tail x (xs ++ 10 ∷ behind) are)

-- two lines that end at the same place
same_line : (xs ys us vs : List ℕ) → HasNoEnd xs → HasNoEnd ys → xs ++ 10 ∷ us ≡ ys ++ 10 ∷ vs → xs ≡ ys
same_line [] [] us vs px py same = refl
same_line [] (y ∷ ys) us vs px py same = let is : 10 ≡ y = cc same in absurd (py.0 (sym is))
same_line (x ∷ xs) [] us vs px py same = let is : x ≡ 10 = cc same in absurd (px.0 is)
same_line (x ∷ xs) (y ∷ ys) us vs px py same =
    let head : x ≡ y = cc same in
    let tail : xs ++ 10 ∷ us ≡ ys ++ 10 ∷ vs = cc same in
    ap (λ z. z ∷ xs) head ∙ ap (λ zs. y ∷ zs) (same_line xs ys us vs px.1 py.1 tail)

no_line_in_none : (front line rest : List ℕ) → [] ≡ front ++ (line ++ 10 ∷ rest) → ⊥
no_line_in_none [] [] rest same = absurd (cc same)
no_line_in_none [] (b ∷ line) rest same = absurd (cc same)
no_line_in_none (b ∷ front) line rest same = absurd (cc same)

module _ (form : Form) where
  record Told (es : List Entry) (line : List ℕ) : Type 0 where
    e : Entry
    within : Among e es
    is : form.line e ≡ line

  told : (es : List Entry) (line front rest : List ℕ) → AreLines front → HasNoEnd line
      → lines form es ≡ front ++ (line ++ 10 ∷ rest) → Told es line
  told [] line front rest are none same = absurd (no_line_in_none front line rest same)
  told (x ∷ es) line [] rest are none same = record {
    e = x;
    within = inl refl;
    is = same_line (form.line x) line (lines form es) rest (form.whole x) none (sym (first_line form x es) ∙ same);
  }
  told (x ∷ es) line (b ∷ bs) rest are none same =
      elim (first_end (form.line x) (lines form es) (b ∷ bs) (line ++ 10 ∷ rest) (form.whole x)
      (sym (first_line form x es) ∙ same)) [
        | inl without ↦
            absurd (let t : b ∷ bs ≡ [] = no_lines_without_end (b ∷ bs) are without in cc)
        | inr f ↦
            (let more = told es line f.behind rest
            (lines_rest (form.line x) f.behind (subst AreLines f.has are)) none f.is in
            record { e = more.e; within = inr more.within; is = more.is })
      ]

  -- the line determines its entry
  pub entry_told : (es : List Entry) (e : Entry) → IsLineIn (form.line e) (lines form es) → Among e es
  entry_told es e h =
      let t = told es (form.line e) h.0 h.1 h.2 h.3 h.4 in
      let P : Entry → Type 0 = λ x. Among x es in
      subst P (form.tells t.e e t.is) t.within
