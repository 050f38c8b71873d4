-- The ids that a file tells, and those that are known.
use Rattle.std.proofs.Common.{◌≡◌, ◌≢◌, ◌∙◌, ◌⊎◌, ◌<◌, ◌+◌, inl, inr, refl, sym, ap, subst, arith, ℕ, suc, Bool, true, false}
use Rattle.std.proofs.Common.{List, [], ◌∷◌, ◌++◌, length, take, drop, map, flat_map, append-nil, Option, Some, None, if◌then◌else◌}
use Rattle.std.proofs.Common.{codes, decimal}
use Rattle.std.specs.Prelude.{◌||◌, ◌&&◌, option_and_then}
use Rattle.std.specs.List.{AllByRecursion, list_all, prefix_len}
use Rattle.std.specs.Int.{IsInRange}
use Rattle.std.specs.Str.{bytes_eq}
use Rattle.std.proofs.Math.Path.{fun_ext}
use Rattle.std.proofs.lemmas.Bool.{and_parts, cases_eq, true≢false}
use Rattle.std.proofs.lemmas.Bool.Decides.{nat_tests}
use Rattle.std.proofs.lemmas.Fmt.{digits_decimal}
use Rattle.std.proofs.lemmas.List.Folds.{list_all-append}
use Rattle.std.proofs.lemmas.Slice.Eq.{bytes_eq-Decides}
use Rattle.std.proofs.lemmas.Str.Parse.{IsDigitsTest, numerals_by_value}
use Rattle.worker_journal.specs.KnownIds.Cut.{before, from, is_other}
use Rattle.worker_journal.specs.KnownIds.Known.{HasOneMore, Place, has_number, knows}
use Rattle.worker_journal.specs.KnownIds.Number.{number_of}
use Rattle.worker_journal.specs.KnownIds.Told.{and_told, begins, line_number, told}
use Rattle.worker_journal.proofs.KnownIdsLemmas.NumberLemmas.{knows_one_more, parts}
use Rattle.worker_journal.specs.EntryLine.{Entry, field_text, line_of}
use Rattle.worker_journal.specs.Escape.{escaped, escaped_byte, IsPlain}
use Rattle.worker_journal.proofs.EscapeLemmas.{text_plain}
use Rattle.model_server.specs.Group.Group.{listed}
use Rattle.model_server.specs.Group.Worker.{Id}
use Rattle.stream_drain.specs.Known.{Known, is_known, known_too, numbers_known}
use Rattle.stream_drain.specs.Line.{line_in}
use Rattle.stream_drain.specs.Resumed.{ids_in, is_of_id}
use Rattle.stream_drain.proofs.TellLemmas.{json_tells, of_parts}

-- ---- one id more

pub known_or : (known : Known) (a b : Id) → is_known (known_too known a) b ≡ true → (a ≡ b) ⊎ (is_known known b ≡ true)
known_or None a b is = absurd (true≢false (sym is))
known_or (Some known) a b is = by (bytes_eq a b) refl is
  where
    by : (c : Bool) → bytes_eq a b ≡ c → (c || known b) ≡ true → (a ≡ b) ⊎ (known b ≡ true)
    by true same holds = inl ((bytes_eq-Decides a b).0 same)
    by false same holds = inr holds

-- with the number of an id more
pub numbers_more : (old new : List Place) (id : Id) (n : ℕ) → number_of id ≡ Some n → HasOneMore old new n
    → numbers_known new ≡ known_too (numbers_known old) id
numbers_more old new id n is more =
    ap (λ (k : Id → Bool). Some k) (fun_ext (λ other. knows_one_more old new id n is more other))

-- ---- the texts of ids

abbrev AreDigits : List ℕ → Type 0
AreDigits = AllByRecursion (IsInRange 48 57)

tells : IsDigitsTest AreDigits
tells = record { empty = tt; parts = λ c cs all. all; more = λ c cs one all. (one, all) }

digits_of_id : (ds : List ℕ) → AreDigits ds → list_all is_of_id ds ≡ true
digits_of_id [] all = refl
digits_of_id (d ∷ ds) all = grind (arith, nat_tests, all.0.0, all.0.1, digits_of_id ds all.1)

part_of_id : (n : ℕ) → n < 18446744073709551616 → list_all is_of_id (decimal n) ≡ true
part_of_id n small = digits_of_id (decimal n) (digits_decimal (numerals_by_value AreDigits tells) n small)

-- an id that is two numbers has digits and a hyphen
all_of_id : (text : List ℕ) (n : ℕ) → number_of text ≡ Some n → list_all is_of_id text ≡ true
all_of_id text n is =
    let p = parts text n is in
    ap (list_all is_of_id) p.is ∙ (list_all-append is_of_id (decimal p.ms) (45 ∷ decimal p.seq)
    ∙ (ap (λ (b : Bool). b && list_all is_of_id (decimal p.seq)) (part_of_id p.ms p.ms_fits)
    ∙ part_of_id p.seq p.small))

-- ---- the id of a line of texts

-- a byte of an id stands for itself
byte_of_id : (b : ℕ) (rest : List ℕ) → list_all is_of_id (escaped_byte b ++ rest) ≡ true → escaped_byte b ≡ b ∷ []
byte_of_id b rest all = elim (cases_eq b 92) [
  | inl is ↦ absurd (true≢false (sym all ∙ ap (λ (x : ℕ). list_all is_of_id (escaped_byte x ++ rest)) is))
  | inr n92 ↦ elim (cases_eq b 9) [
    | inl is ↦ absurd (true≢false (sym all ∙ ap (λ (x : ℕ). list_all is_of_id (escaped_byte x ++ rest)) is))
    | inr n9 ↦ elim (cases_eq b 10) [
      | inl is ↦ absurd (true≢false (sym all ∙ ap (λ (x : ℕ). list_all is_of_id (escaped_byte x ++ rest)) is))
      | inr n10 ↦ elim (cases_eq b 13) [
        | inl is ↦ absurd (true≢false (sym all ∙ ap (λ (x : ℕ). list_all is_of_id (escaped_byte x ++ rest)) is))
        | inr n13 ↦ grind (arith, nat_tests)
      ]
    ]
  ]
]

text_of_id : (text : List ℕ) → list_all is_of_id (escaped text) ≡ true → escaped text ≡ text
text_of_id [] all = refl
text_of_id (b ∷ bs) all =
    let one : escaped_byte b ≡ b ∷ [] = byte_of_id b (escaped bs) all in
    let whole : list_all is_of_id (b ∷ escaped bs) ≡ true =
    subst (λ (xs : List ℕ). list_all is_of_id (xs ++ escaped bs) ≡ true) one all in
    ap (λ (xs : List ℕ). xs ++ escaped bs) one
    ∙ ap (λ (xs : List ℕ). b ∷ xs) (text_of_id bs (and_parts (is_of_id b) (list_all is_of_id (escaped bs)) whole).1)

-- what stands before the first tab
before_tab : (xs ys : List ℕ) → AllByRecursion IsPlain xs → before 9 (xs ++ 9 ∷ ys) ≡ xs
before_tab [] ys plain = refl
before_tab (x ∷ xs) ys plain =
    let other : is_other 9 x ≡ true = let differs : x ≢ 9 = plain.0.0 in grind (arith, nat_tests, differs) in
    step other ∙ ap (λ (zs : List ℕ). x ∷ zs) (before_tab xs ys plain.1)
  where
    step : is_other 9 x ≡ true → before 9 (x ∷ (xs ++ 9 ∷ ys)) ≡ x ∷ before 9 (xs ++ 9 ∷ ys)
    step other =
        let more : prefix_len (is_other 9) (x ∷ (xs ++ 9 ∷ ys)) ≡ suc (prefix_len (is_other 9) (xs ++ 9 ∷ ys)) =
        grind (arith, nat_tests, other) in ap (λ (n : ℕ). take n (x ∷ (xs ++ 9 ∷ ys))) more

before_none : (xs : List ℕ) → AllByRecursion IsPlain xs → before 9 xs ≡ xs
before_none [] plain = refl
before_none (x ∷ xs) plain =
    let other : is_other 9 x ≡ true = let differs : x ≢ 9 = plain.0.0 in grind (arith, nat_tests, differs) in
    let more : prefix_len (is_other 9) (x ∷ xs) ≡ suc (prefix_len (is_other 9) xs) = grind (arith, nat_tests, other) in
    ap (λ (n : ℕ). take n (x ∷ xs)) more ∙ ap (λ (zs : List ℕ). x ∷ zs) (before_none xs plain.1)

head_is : (e : Entry) → before 9 (line_of e) ≡ escaped e.0
head_is e = by e.1
  where
    by : (fields : List (List ℕ × List ℕ)) → before 9 (escaped e.0 ++ flat_map field_text fields) ≡ escaped e.0
    by [] = ap (before 9) (append-nil (escaped e.0)) ∙ before_none (escaped e.0) (text_plain e.0)
    by (p ∷ ps) = before_tab (escaped e.0) _ (text_plain e.0)

text_number : (e : Entry) (n : ℕ) → line_number false (line_of e) ≡ Some n → number_of e.0 ≡ Some n
text_number e n is =
    let escaped_is : number_of (escaped e.0) ≡ Some n = ap number_of (sym (head_is e)) ∙ is in
    ap number_of (sym (text_of_id e.0 (all_of_id (escaped e.0) n escaped_is))) ∙ escaped_is

-- ---- the id of a line of JSON

json_number : (e : Entry) (n : ℕ) → line_number true (line_in true e) ≡ Some n → number_of e.0 ≡ Some n
json_number e n is = by (begins (codes "{\"id\":\"") line) (begins (codes "\",\"fields\":[") (from 34 rest)) refl refl is
  where
    line : List ℕ
    line = line_in true e

    rest : List ℕ
    rest = drop 7 line

    by : (p q : Bool) → begins (codes "{\"id\":\"") line ≡ p → begins (codes "\",\"fields\":[") (from 34 rest) ≡ q
        → option_and_then number_of (if p && q then Some (before 34 rest) else None) ≡ Some n → number_of e.0 ≡ Some n
    by false q head next gives = absurd (cc gives)
    by true false head next gives = absurd (cc gives)
    by true true head next gives =
        let first : take 7 line ≡ codes "{\"id\":\"" = (bytes_eq-Decides (take 7 line) (codes "{\"id\":\"")).0 head in
        let after : take 12 (from 34 rest) ≡ codes "\",\"fields\":[" =
        (bytes_eq-Decides (take 12 (from 34 rest)) (codes "\",\"fields\":[")).0 next in
        let split = of_parts line rest (from 34 rest) (prefix_len (is_other 34) rest) first refl refl after in
        ap number_of (json_tells line (before 34 rest) split.0 split.1 (all_of_id (before 34 rest) n gives) e refl) ∙ gives

pub number_told : (json : Bool) (e : Entry) (n : ℕ) → line_number json (line_in json e) ≡ Some n → number_of e.0 ≡ Some n
number_told true e n is = json_number e n is
number_told false e n is = text_number e n is

-- ---- the ids of a file

some_list : (a b : List Place) → Some a ≡ Some b → a ≡ b
some_list a b same = cc same

told_parts : (at : ℕ) (o : Option ℕ) (p : Option (List Place)) (ps : List Place) → and_told at o p ≡ Some ps
    → (n : ℕ) × (ms : List Place) × (o ≡ Some n) × (p ≡ Some ms) × (ps ≡ (n, at) ∷ ms)
told_parts at None p ps is = absurd (cc is)
told_parts at (Some n) None ps is = absurd (cc is)
told_parts at (Some n) (Some ms) ps is = (n, ms, refl, refl, sym (some_list ((n, at) ∷ ms) ps is))

-- what the lines of entries tell is their ids, and nothing else
pub told_known : (json : Bool) (at : ℕ) (es : List Entry) (ps : List Place) → told json at (map (line_in json) es) ≡ Some ps
    → (id : Id) → knows ps id ≡ listed (ids_in es) id
told_known json at [] ps is id = ap (λ (xs : List Place). knows xs id) (sym (some_list [] ps is)) ∙ none (number_of id)
  where
    none : (o : Option ℕ) → has_number [] o ≡ false
    none None = refl
    none (Some m) = refl
told_known json at (e ∷ es) ps is id =
    let next = at + suc (length (line_in json e)) in
    let p = told_parts at (line_number json (line_in json e)) (told json next (map (line_in json) es)) ps is in
    let number : number_of e.0 ≡ Some p.0 = number_told json e p.0 p.2 in
    ap (λ (xs : List Place). knows xs id) p.4
    ∙ (knows_one_more p.1 ((p.0, at) ∷ p.1) e.0 p.0 number (λ m. refl) id
    ∙ (ap (λ (b : Bool). bytes_eq e.0 id || b) (told_known json next es p.1 p.3 id) ∙ either (bytes_eq e.0 id)))
  where
    either : (b : Bool) → (b || listed (ids_in es) id) ≡ (if b then true else listed (ids_in es) id)
    either true = refl
    either false = refl
