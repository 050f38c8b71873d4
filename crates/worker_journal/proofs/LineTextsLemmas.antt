-- The texts of a line are those of its entry.
use Rattle.std.proofs.Common.{◌≡◌, ◌≢◌, ◌<◌, inl, inr, ℕ, suc, List, [], ◌∷◌, ◌++◌, length, take, get_or, map, flat_map, Vec}
use Rattle.std.proofs.Common.{Option, Some, None, option_map, false, refl, sym, ◌∙◌, ap, subst, arith, append-nil}
use Rattle.std.proofs.Common.{append_assoc, add-one, ◌+◌}
use Rattle.std.proofs.Math.Seq.{take-suc}
use Rattle.std.proofs.lemmas.Bool.{cases_eq}
use Rattle.std.proofs.lemmas.Bool.Decides.{nat_tests}
use Rattle.std.proofs.lemmas.Grind.{flat_map-append}
use Rattle.std.proofs.lemmas.List.{map-append}
use Rattle.std.specs.declared.alloc.Global.{Global}
use Rattle.worker_journal.specs.Escape.{escaped, escaped_byte}
use Rattle.worker_journal.specs.EntryLine.{Entry, IsEntryIn, field_text, line_of}
use Rattle.worker_journal.specs.LineTexts.{Texts, no_texts, one_more, all_more, all_texts, texts_of, two_by_two, bytes_of}
use Rattle.worker_journal.specs.LineTexts.{entry_of_list}
use Rattle.worker_journal.specs.EntryLineMeaning.{field_of}

-- ---- byte by byte

more_push : (t : Texts) (xs : List ℕ) (b : ℕ) → all_more t (xs ++ b ∷ []) ≡ one_more (all_more t xs) b
more_push t [] b = refl
more_push t (x ∷ xs) b = more_push (one_more t x) xs b

pub more_at : (line : List ℕ) (i : ℕ) → i < length line
    → all_more no_texts (take (suc i) line) ≡ one_more (all_more no_texts (take i line)) (get_or line i 0)
more_at line i lt = ap (all_more no_texts) (take-suc line i 0 lt) ∙ more_push no_texts (take i line) (get_or line i 0)

more_append : (t : Texts) (xs ys : List ℕ) → all_more t (xs ++ ys) ≡ all_more (all_more t xs) ys
more_append t [] ys = refl
more_append t (x ∷ xs) ys = more_append (one_more t x) xs ys

-- ---- a text

abbrev after : List (List ℕ) → List ℕ → Texts
after ended text = record { ended = ended; text = text; escapes = false }

module _ (ended : List (List ℕ)) (text : List ℕ) where
  abbrev Takes : ℕ → Type 0
  Takes b = all_more (after ended text) (escaped_byte b) ≡ after ended (text ++ b ∷ [])

  plain_taken : (b : ℕ) → b ≢ 92 → b ≢ 9 → b ≢ 10 → b ≢ 13 → Takes b
  plain_taken b n92 n9 n10 n13 = grind (arith, nat_tests)

  byte_taken : (b : ℕ) → Takes b
  byte_taken b = elim (cases_eq b 92) [
    | inl is ↦ subst Takes (sym is) refl
    | inr n92 ↦ elim (cases_eq b 9) [
      | inl is ↦ subst Takes (sym is) refl
      | inr n9 ↦ elim (cases_eq b 10) [
        | inl is ↦ subst Takes (sym is) refl
        | inr n10 ↦ elim (cases_eq b 13) [
          | inl is ↦ subst Takes (sym is) refl
          | inr n13 ↦ plain_taken b n92 n9 n10 n13
        ]
      ]
    ]
  ]

text_taken : (ended : List (List ℕ)) (text more : List ℕ)
    → all_more (after ended text) (escaped more) ≡ after ended (text ++ more)
text_taken ended text [] = ap (after ended) (sym (append-nil text))
text_taken ended text (b ∷ bs) =
    more_append (after ended text) (escaped_byte b) (escaped bs)
    ∙ ap (λ t. all_more t (escaped bs)) (byte_taken ended text b) ∙ text_taken ended (text ++ b ∷ []) bs
    ∙ ap (after ended) (append_assoc text (b ∷ []) bs)

-- ---- fields

abbrev Fields : Type 0
Fields = List (List ℕ × List ℕ)

-- names and values in turn
abbrev in_turn : Fields → List (List ℕ)
in_turn [] = []
in_turn (p ∷ ps) = p.0 ∷ p.1 ∷ in_turn ps

field_taken : (ended : List (List ℕ)) (text : List ℕ) (p : List ℕ × List ℕ)
    → all_more (after ended text) (field_text p) ≡ after ((ended ++ text ∷ []) ++ p.0 ∷ []) p.1
field_taken ended text p =
    more_append (after (ended ++ text ∷ []) []) (escaped p.0) (9 ∷ escaped p.1)
    ∙ ap (λ t. all_more t (9 ∷ escaped p.1)) (text_taken (ended ++ text ∷ []) [] p.0)
    ∙ text_taken ((ended ++ text ∷ []) ++ p.0 ∷ []) [] p.1

fields_taken : (ended : List (List ℕ)) (text : List ℕ) (ps : Fields)
    → all_texts (all_more (after ended text) (flat_map field_text ps)) ≡ ended ++ text ∷ in_turn ps
fields_taken ended text [] = refl
fields_taken ended text (p ∷ ps) =
    ap all_texts (more_append (after ended text) (field_text p) (flat_map field_text ps)
    ∙ ap (λ t. all_more t (flat_map field_text ps)) (field_taken ended text p))
    ∙ fields_taken ((ended ++ text ∷ []) ++ p.0 ∷ []) p.1 ps
    ∙ append_assoc (ended ++ text ∷ []) (p.0 ∷ []) (p.1 ∷ in_turn ps)
    ∙ append_assoc ended (text ∷ []) (p.0 ∷ p.1 ∷ in_turn ps)

texts_are : (e : Entry) → texts_of (line_of e) ≡ e.0 ∷ in_turn e.1
texts_are e =
    ap all_texts (more_append no_texts (escaped e.0) (flat_map field_text e.1)
    ∙ ap (λ t. all_more t (flat_map field_text e.1)) (text_taken [] [] e.0))
    ∙ fields_taken [] e.0 e.1

paired : (ps : Fields) → two_by_two (in_turn ps) ≡ Some ps
paired [] = refl
paired (p ∷ ps) = ap (option_map (λ qs. p ∷ qs)) (paired ps)

-- the texts of the line of an entry are read as the entry
pub line_read : (e : Entry) → entry_of_list (texts_of (line_of e)) ≡ Some e
line_read e = ap entry_of_list (texts_are e) ∙ ap (option_map (λ ps. (e.0, ps))) (paired e.1)

-- ---- what the reader returns

some_is : (a b : Entry) → Some a ≡ Some b → a ≡ b
some_is a b same = cc same

pub none_read : (line : List ℕ) → entry_of_list (texts_of line) ≡ None → IsEntryIn line None
none_read line none e same =
    let read : Some e ≡ None = sym (line_read e) ∙ ap (λ xs. entry_of_list (texts_of xs)) same ∙ none in absurd (cc read)

pub other_read : (line : List ℕ) (e : Entry) → entry_of_list (texts_of line) ≡ Some e → line_of e ≢ line
    → IsEntryIn line None
other_read line e read other f same =
    let is : f ≡ e = some_is f e (sym (line_read f) ∙ ap (λ xs. entry_of_list (texts_of xs)) same ∙ read) in
    other (sym (ap line_of is) ∙ same)

-- ---- texts that a loop takes two by two

-- the pairs so far, and those of the rest
abbrev pub pairs_behind : Fields → List (Vec ℕ Global) → Option Fields
pairs_behind front rest = option_map (λ ps. front ++ ps) (two_by_two (bytes_of rest))

nothing_before : (o : Option Fields) → option_map (λ ps. [] ++ ps) o ≡ o
nothing_before None = refl
nothing_before (Some ps) = refl

regroup : (front : Fields) (p : List ℕ × List ℕ) (o : Option Fields)
    → option_map (λ ps. front ++ ps) (option_map (λ ps. p ∷ ps) o) ≡ option_map (λ ps. (front ++ p ∷ []) ++ ps) o
regroup front p None = refl
regroup front p (Some ps) = ap Some (sym (append_assoc front (p ∷ []) ps))

pub pairs_start : (front : Fields) (all : List (Vec ℕ Global)) → front ≡ []
    → pairs_behind front all ≡ two_by_two (bytes_of all)
pairs_start front all e = rw e (nothing_before (two_by_two (bytes_of all)))

module _ (total : Option Fields) (front more : Fields) (items next rest : List (Vec ℕ Global)) (k x : Vec ℕ Global) where
  pub pairs_step : items ≡ k ∷ next → next ≡ x ∷ rest → more ≡ front ++ (k.items, x.items) ∷ []
      → pairs_behind front items ≡ total → pairs_behind more rest ≡ total
  pairs_step first second pushed so_far =
      let before = rw (first, second, regroup front (k.items, x.items) (two_by_two (bytes_of rest))) at so_far in
      rw pushed before

  pub pairs_odd : items ≡ k ∷ next → next ≡ [] → pairs_behind front items ≡ total → total ≡ None
  pairs_odd first last so_far = let before = rw (first, last) at so_far in sym before

pub pairs_done : (total : Option Fields) (front : Fields) (items : List (Vec ℕ Global)) → items ≡ []
    → pairs_behind front items ≡ total → total ≡ Some front
pairs_done total front items last so_far = let before = rw last at so_far in sym before ∙ ap Some (append-nil front)

-- ---- fields that a loop appends

pub fields_more : (fields : List (Vec ℕ Global × Vec ℕ Global)) (i : ℕ) (x : Vec ℕ Global × Vec ℕ Global)
    → i < length fields → x ≡ get_or fields i x
    → flat_map field_text (map field_of (take (i + 1) fields))
    ≡ flat_map field_text (map field_of (take i fields)) ++ field_text (field_of x)
fields_more fields i x lt is =
    let taken : take (i + 1) fields ≡ take i fields ++ x ∷ [] =
    rw add-one (take-suc fields i x lt ∙ ap (λ y. take i fields ++ y ∷ []) (sym is)) in
    ap (λ ys. flat_map field_text (map field_of ys)) taken
    ∙ ap (flat_map field_text) (map-append field_of (take i fields) (x ∷ []))
    ∙ flat_map-append field_text (map field_of (take i fields)) (field_of x ∷ [])
    ∙ ap (λ ys. flat_map field_text (map field_of (take i fields)) ++ ys) (append-nil (field_text (field_of x)))
