-- The lines of entries are a form of `model_workers::files`.
use Rattle.std.proofs.Common.{◌≡◌, ◌<◌, ◌∙◌, refl, sym, ap, ℕ, Bool, true, false, List, [], ◌∷◌, arith}
use Rattle.std.proofs.Common.{if◌then◌else◌}
use Rattle.std.specs.Prelude.{◌&&◌, nat_lt}
use Rattle.std.specs.List.{AllByRecursion, list_all}
use Rattle.std.proofs.lemmas.Bool.{and_parts}
use Rattle.std.proofs.lemmas.Bool.Decides.{nat_tests}
use Rattle.worker_journal.specs.EntryLine.{Entry, line_of}
use Rattle.worker_journal.specs.Lines.{HasNoEnd}
use Rattle.worker_journal.proofs.EntryLineLemmas.{line_tells, line_whole}
use Rattle.model_workers.specs.Files.Files.{Form}
use Rattle.model_workers.proofs.FilesLemmas.Whole.{text}
use Rattle.stream_drain.specs.Line.{line_in}
use Rattle.worker.specs.EntryJson.{AreBytes}
use Rattle.stream_drain.specs.Tell.{LinesAreAForm}
use Rattle.stream_drain.proofs.LinesLemmas.{one_line}
use Rattle.stream_drain.proofs.SameLineLemmas.{tell}
use Rattle.stream_drain.proofs.TellLemmas.{begins_with_id}

is_byte : (b : ℕ) → nat_lt b 256 ≡ true → b < 256
is_byte b h = grind (arith, nat_tests, h)

below_256 : (b : ℕ) → b < 256 → nat_lt b 256 ≡ true
below_256 b h = grind (arith, nat_tests, h)

both_true : (a b : Bool) → a ≡ true → b ≡ true → (a && b) ≡ true
both_true a b p q = ap (λ x. x && b) p ∙ q

abbrev are_bytes : List ℕ → Bool
are_bytes xs = list_all (λ b. nat_lt b 256) xs

bytes_told : (xs : List ℕ) → are_bytes xs ≡ true → AreBytes xs
bytes_told [] h = tt
bytes_told (x ∷ xs) h =
    let parts = and_parts (nat_lt x 256) (are_bytes xs) h in (is_byte x parts.0, bytes_told xs parts.1)

bytes_are : (xs : List ℕ) → AreBytes xs → are_bytes xs ≡ true
bytes_are [] h = refl
bytes_are (x ∷ xs) h = both_true (nat_lt x 256) (are_bytes xs) (below_256 x h.0) (bytes_are xs h.1)

abbrev of_bytes : List (List ℕ × List ℕ) → Bool
of_bytes fields = list_all (λ p. are_bytes p.0 && are_bytes p.1) fields

fields_told : (fields : List (List ℕ × List ℕ)) → of_bytes fields ≡ true
    → AllByRecursion (λ p. AreBytes p.0 × AreBytes p.1) fields
fields_told [] h = tt
fields_told (p ∷ ps) h =
    let parts = and_parts (are_bytes p.0 && are_bytes p.1) (of_bytes ps) h in
    let two = and_parts (are_bytes p.0) (are_bytes p.1) parts.0 in
    ((bytes_told p.0 two.0, bytes_told p.1 two.1), fields_told ps parts.1)

fields_are : (fields : List (List ℕ × List ℕ)) → AllByRecursion (λ p. AreBytes p.0 × AreBytes p.1) fields
    → of_bytes fields ≡ true
fields_are [] h = refl
fields_are (p ∷ ps) h =
    both_true (are_bytes p.0 && are_bytes p.1) (of_bytes ps)
    (both_true (are_bytes p.0) (are_bytes p.1) (bytes_are p.0 h.0.0) (bytes_are p.1 h.0.1)) (fields_are ps h.1)

-- the line of JSON, if names and values are bytes; and else a line that begins as no line of JSON does
abbrev json_or_text : Bool → Entry → List ℕ
json_or_text b e = if b then line_in true e else 0 ∷ line_of e

whole_so : (b : Bool) (e : Entry) → HasNoEnd (json_or_text b e)
whole_so true e = one_line true e
whole_so false e = (λ q. omega (arith, q), line_whole e)

first_differs : (xs ys zs : List ℕ) → xs ≡ 123 ∷ ys → xs ≡ 0 ∷ zs → ⊥
first_differs xs ys zs p q = absurd (let z : 123 ∷ ys ≡ 0 ∷ zs = sym p ∙ q in cc)

apart : (a b : Entry) → line_in true a ≡ 0 ∷ line_of b → ⊥
apart a b q = first_differs (line_in true a) _ (line_of b) (begins_with_id a) q

tails_same : (xs ys : List ℕ) → 0 ∷ xs ≡ 0 ∷ ys → xs ≡ ys
tails_same xs ys q = cc q

tells_so : (p q : Bool) (a b : Entry) → of_bytes a.1 ≡ p → of_bytes b.1 ≡ q
    → json_or_text p a ≡ json_or_text q b → a ≡ b
tells_so true true a b ha hb same = tell line_tells true a b (fields_told a.1 ha) (fields_told b.1 hb) same
tells_so true false a b ha hb same = absurd (apart a b same)
tells_so false true a b ha hb same = absurd (apart b a (sym same))
tells_so false false a b ha hb same = line_tells a b (tails_same (line_of a) (line_of b) same)

abbrev json : Form
json = record {
  line = λ e. json_or_text (of_bytes e.1) e;
  whole = λ e. whole_so (of_bytes e.1) e;
  tells = λ a b same. tells_so (of_bytes a.1) (of_bytes b.1) a b refl refl same;
}

pub lines_are_a_form : LinesAreAForm
lines_are_a_form true = (json, λ e are. ap (λ b. json_or_text b e) (fields_are e.1 are))
lines_are_a_form false = (text, λ e are. refl)
