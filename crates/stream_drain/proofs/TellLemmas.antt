-- What the lines of entries tell: their ids.
use Rattle.std.proofs.Common.{◌≡◌, ◌≢◌, ◌∙◌, ◌⊎◌, ◌/◌, ◌%◌, inl, inr, refl, sym, ap, subst, ℕ, Bool, true, false, cond, List, [], ◌∷◌}
use Rattle.std.proofs.Common.{◌++◌, Some, codes, arith, drop, take}
use Rattle.std.specs.Prelude.{nat_lt}
use Rattle.std.specs.Char.{digit_char}
use Rattle.std.specs.List.{list_all}
use Rattle.std.proofs.lemmas.Bool.{and_parts, true≢false}
use Rattle.std.proofs.lemmas.List.{take-append-drop}
use Rattle.json.specs.Token.{end_object, key}
use Rattle.json.specs.Print.{escape, escape_byte, escape_letter, print_from}
use Rattle.worker_journal.specs.EntryLine.{Entry, IsEntryIn}
use Rattle.worker_journal.proofs.EntryLineLemmas.{line_tells}
use Rattle.model_server.specs.Group.Worker.{Id}
use Rattle.worker.specs.EntryJson.{fields_tokens}
use Rattle.stream_drain.specs.Line.{line_in}
use Rattle.stream_drain.specs.Resumed.{TellEach, Tells, is_of_id}

-- one line more
pub tell_more : (json : Bool) (lines : List (List ℕ)) (ids : List Id) (line : List ℕ) (id : Id) → TellEach json lines ids
    → Tells json line id → TellEach json (lines ++ line ∷ []) (ids ++ id ∷ [])
tell_more json [] [] line id each tells = (tells, tt)
tell_more json [] (i ∷ ids) line id each tells = absurd each
tell_more json (l ∷ lines) [] line id each tells = absurd each
tell_more json (l ∷ lines) (i ∷ ids) line id each tells = (each.0, tell_more json lines ids line id each.1 tells)

-- the line of an entry tells its id
pub text_tells : (line : List ℕ) (e : Entry) → IsEntryIn line (Some e) → Tells false line e.0
text_tells line e is f same = ap (λ (g : Entry). g.0) (line_tells f e (same ∙ sym is))

-- ---- the id of a line of JSON

heads : (a b : ℕ) (xs ys : List ℕ) → a ∷ xs ≡ b ∷ ys → a ≡ b
heads a b xs ys same = cc same

tails : (a b : ℕ) (xs ys : List ℕ) → a ∷ xs ≡ b ∷ ys → xs ≡ ys
tails a b xs ys same = cc same

-- a byte stands as itself or behind a backslash
abbrev StandsSo : ℕ → List ℕ → Type 0
StandsSo b text = ((rest : List ℕ) × (text ≡ 92 ∷ rest)) ⊎ ((text ≡ b ∷ []) × (b ≢ 34))

stands_so : (b : ℕ) → StandsSo b (escape_byte b)
unfolding escape_byte
stands_so b = by (nat_lt 0 (escape_letter b)) (nat_lt b 32) refl
  where
    by : (p q : Bool) → nat_lt 0 (escape_letter b) ≡ p → StandsSo b (cond p (92 ∷ escape_letter b ∷ [])
        (cond q (92 ∷ 117 ∷ 48 ∷ 48 ∷ digit_char (b / 16) ∷ digit_char (b % 16) ∷ []) (b ∷ [])))
    by true q is = inl (_, refl)
    by false true is = inl (_, refl)
    by false false is = inr (
      refl,
      λ e. absurd (true≢false (subst (λ x. nat_lt 0 (escape_letter x) ≡ false) e is)),
    )

-- no backslash and no quotation mark is of an id
not_of_id : (x y : ℕ) (xs : List ℕ) → y ≡ x → is_of_id y ≡ false → list_all is_of_id (x ∷ xs) ≡ true → ⊥
not_of_id x y xs is other all = true≢false (sym (and_parts (is_of_id x) (list_all is_of_id xs) all).0
    ∙ ap is_of_id (sym is) ∙ other)

same_text : (s id rest more : List ℕ) → (escape s ++ 34 ∷ []) ++ more ≡ id ++ 34 ∷ rest → list_all is_of_id id ≡ true
    → s ≡ id
same_text [] [] rest more same all = refl
same_text [] (x ∷ xs) rest more same all =
    absurd (not_of_id x 34 xs (heads 34 x more (xs ++ 34 ∷ rest) same) refl all)
same_text (b ∷ bs) [] rest more same all = elim (stands_so b) [
  | inl behind ↦
      let is = subst (λ (t : List ℕ). ((t ++ escape bs) ++ 34 ∷ []) ++ more ≡ 34 ∷ rest) behind.1 same in
      let wrong = heads 92 34 (((behind.0 ++ escape bs) ++ 34 ∷ []) ++ more) rest is in absurd (omega (arith, wrong))
  | inr plain ↦
      let is = subst (λ (t : List ℕ). ((t ++ escape bs) ++ 34 ∷ []) ++ more ≡ 34 ∷ rest) plain.0 same in
      absurd (plain.1 (heads b 34 ((escape bs ++ 34 ∷ []) ++ more) rest is))
]
same_text (b ∷ bs) (x ∷ xs) rest more same all = elim (stands_so b) [
  | inl behind ↦
      let is = subst (λ (t : List ℕ). ((t ++ escape bs) ++ 34 ∷ []) ++ more ≡ x ∷ (xs ++ 34 ∷ rest)) behind.1 same in
      let first = heads 92 x (((behind.0 ++ escape bs) ++ 34 ∷ []) ++ more) (xs ++ 34 ∷ rest) is in
      absurd (not_of_id x 92 xs first refl all)
  | inr plain ↦
      let is = subst (λ (t : List ℕ). ((t ++ escape bs) ++ 34 ∷ []) ++ more ≡ x ∷ (xs ++ 34 ∷ rest)) plain.0 same in
      let first = heads b x ((escape bs ++ 34 ∷ []) ++ more) (xs ++ 34 ∷ rest) is in
      let later = same_text bs xs rest more (tails b x ((escape bs ++ 34 ∷ []) ++ more) (xs ++ 34 ∷ rest) is)
      (and_parts (is_of_id x) (list_all is_of_id xs) all).1 in
      ap (λ (y : ℕ). y ∷ bs) first ∙ ap (λ (ys : List ℕ). x ∷ ys) later
]

-- what stands behind the id in the line of an entry
abbrev behind_id : Entry → List ℕ
behind_id e = print_from true (key (codes "fields") ∷ (fields_tokens e.1 ++ end_object ∷ []))

pub begins_with_id : (e : Entry) → line_in true e ≡ codes "{\"id\":\"" ++ ((escape e.0 ++ 34 ∷ []) ++ behind_id e)
unfolding print_from escape_byte
begins_with_id e = refl

pub json_tells : (line id rest : List ℕ) → line ≡ codes "{\"id\":\"" ++ (id ++ 34 ∷ rest) → list_all is_of_id id ≡ true
    → Tells true line id
json_tells line id rest is all e same =
    let both : codes "{\"id\":\"" ++ ((escape e.0 ++ 34 ∷ []) ++ behind_id e) ≡ codes "{\"id\":\"" ++ (id ++ 34 ∷ rest) =
    sym (begins_with_id e) ∙ same ∙ is in
    same_text e.0 id rest (behind_id e) (ap (λ (xs : List ℕ). drop 7 xs) both) all

-- a line of JSON in its parts
pub of_parts : (line rest behind : List ℕ) (len : ℕ) → take 7 line ≡ codes "{\"id\":\"" → rest ≡ drop 7 line
    → behind ≡ drop len rest → take 12 behind ≡ codes "\",\"fields\":["
    → (more : List ℕ) × (line ≡ codes "{\"id\":\"" ++ (take len rest ++ 34 ∷ more))
of_parts line rest behind len head is after end =
    let more : List ℕ = codes ",\"fields\":[" ++ drop 12 behind in
    let first : behind ≡ 34 ∷ more =
    sym (take-append-drop 12 behind) ∙ ap (λ (xs : List ℕ). xs ++ drop 12 behind) end in
    let text : rest ≡ take len rest ++ 34 ∷ more =
    sym (take-append-drop len rest) ∙ ap (λ (xs : List ℕ). take len rest ++ xs) (sym after ∙ first) in (
      more,
      sym (take-append-drop 7 line)
          ∙ (ap (λ (xs : List ℕ). xs ++ drop 7 line) head
          ∙ ap (λ (xs : List ℕ). codes "{\"id\":\"" ++ xs) (sym is ∙ text)),
    )
