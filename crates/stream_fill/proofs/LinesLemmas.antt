-- The records of lines, and the places that a file of lines stores.
use Rattle.std.proofs.Common.{◌≡◌, ◌⊎◌, ◌+◌, ◌-◌, inl, inr, min, ℕ, zero, suc, List, [], ◌∷◌, ◌++◌, All, length, map}
use Rattle.std.proofs.Common.{take, drop, slice_get, Option, Some, None, IfSome, unwrap_or, refl, sym, ◌∙◌, ap, subst, arith}
use Rattle.std.proofs.lemmas.Bool.{cases_lt}
use Rattle.std.proofs.lemmas.List.{drop-map, length-drop, take-map, take_all}
use Rattle.std.proofs.lemmas.List.Elements.{All-append}
use Rattle.std.specs.Option.{ForSome}
use Rattle.worker_journal.specs.LastLines.{lines_of}
use Rattle.worker_producer.specs.Records.{Fields, fields_of}
use Rattle.stream_fill.specs.Taken.{AreRecordsOf, IsRecordOf, Record, fields_in, records_of}
use Rattle.stream_fill.specs.declared.lines.Form.{Form}
use Rattle.stream_fill.specs.declared.lines.Form.TheVariants as forms

-- ---- one place more

only_one : {A : Type 0} (P : A → Type 0) (x : A) → P x → All P (x ∷ [])
only_one P x is zero d lt = is
only_one P x is (suc k) d lt = absurd (omega (arith, lt))

pub all_too : {A : Type 0} (P : A → Type 0) (old new : List A) (x : A) → All P old → P x
    → (new ≡ old) ⊎ (new ≡ old ++ x ∷ []) → All P new
all_too {A} P old new x all is (inl same) = subst (λ (xs : List A). All P xs) (sym same) all
all_too {A} P old new x all is (inr more) =
    subst (λ (xs : List A). All P xs) (sym more) (All-append P old (x ∷ []) all (only_one P x is))

-- ---- one record more

at_drop : {A : Type 0} (b i : ℕ) (xs : List A) → slice_get (drop b xs) i ≡ slice_get xs (b + i)
at_drop zero i xs = ap (slice_get xs) (let e : i ≡ 0 + i = omega arith in e)
at_drop (suc b) i [] = refl
at_drop (suc b) i (x ∷ xs) =
    at_drop b i xs ∙ ap (λ (k : ℕ). slice_get (x ∷ xs) k) (let e : suc (b + i) ≡ suc b + i = omega arith in e)

one_taken : {A : Type 0} (i : ℕ) (xs : List A) (y : A) → slice_get xs i ≡ Some y → take (i + 1) xs ≡ take i xs ++ y ∷ []
one_taken i [] y is = absurd (let e : None ≡ Some y = is in cc)
one_taken zero (x ∷ xs) y is = let e : x ≡ y = cc in ap (λ z. z ∷ []) e
one_taken (suc i) (x ∷ xs) y is =
    ap (λ (k : ℕ). take k (x ∷ xs)) (let e : suc i + 1 ≡ suc (i + 1) = omega arith in e)
    ∙ ap (λ ys. x ∷ ys) (one_taken i xs y is)

records_more : (form : Form) (ls : List (List ℕ)) (rs : List Record) (l : List ℕ) (r : Record) → AreRecordsOf form ls rs
    → IsRecordOf form l r → AreRecordsOf form (ls ++ l ∷ []) (rs ++ r ∷ [])
records_more form [] [] l r a i = (i, tt)
records_more form [] (y ∷ ys) l r a i = absurd a
records_more form (x ∷ xs) [] l r a i = absurd a
records_more form (x ∷ xs) (y ∷ ys) l r a i = (a.0, records_more form xs ys l r a.1 i)

pub one_more_read : (form : Form) (lines : List (List ℕ)) (behind i number : ℕ) (line : List ℕ) (old new : List Record)
    (r : Record) → AreRecordsOf form (take i (drop behind lines)) old → number ≡ behind + i
    → slice_get lines number ≡ Some line → IsRecordOf form line r → new ≡ old ++ r ∷ []
    → AreRecordsOf form (take (i + 1) (drop behind lines)) new
one_more_read form lines behind i number line old new r are n at is more =
    let there : slice_get (drop behind lines) i ≡ Some line = at_drop behind i lines ∙ ap (slice_get lines) (sym n) ∙ at in
    subst (λ (rs : List Record). AreRecordsOf form (take (i + 1) (drop behind lines)) rs) (sym more)
    (subst (λ (ls : List (List ℕ)). AreRecordsOf form ls (old ++ r ∷ [])) (sym (one_taken i (drop behind lines) line there))
    (records_more form (take i (drop behind lines)) old line r are is))

-- ---- as many as there are

pub part_left : (lines : List (List ℕ)) (count behind most left : ℕ) → count ≡ length lines → left ≡ min (count - behind) most
    → take left (drop behind lines) ≡ take most (drop behind lines)
part_left lines count behind most left c l =
    let rest : length (drop behind lines) ≡ count - behind = length-drop behind lines ∙ ap (λ (k : ℕ). k - behind) (sym c) in
    elim (cases_lt (count - behind) most) [
      | inl lt ↦ take_all left (drop behind lines) (omega arith) ∙ sym (take_all most (drop behind lines) (omega arith))
      | inr le ↦ ap (λ (k : ℕ). take k (drop behind lines)) (let e : left ≡ most = omega arith in e)
    ]

-- ---- records as a source tells them

told_one : (form : Form) (line : List ℕ) (r : Record) → IsRecordOf form line r → fields_of r ≡ fields_in form line
told_one forms.Json line r is = sym (ap (λ (o : Option Fields). unwrap_or o []) is)
told_one (forms.Text name) line r is = is

told : (form : Form) (ls : List (List ℕ)) (rs : List Record) → AreRecordsOf form ls rs
    → map fields_of rs ≡ map (fields_in form) ls
told form [] [] are = refl
told form [] (r ∷ rs) are = absurd are
told form (l ∷ ls) [] are = absurd are
told form (l ∷ ls) (r ∷ rs) are =
    ap (λ (f : Fields). f ∷ map fields_of rs) (told_one form l r are.0)
    ∙ ap (λ (fs : List Fields). fields_in form l ∷ fs) (told form ls rs are.1)

pub read_as : (form : Form) (known : Option (List ℕ)) (behind most : ℕ) (rs : List Record)
    → ForSome known (λ all. AreRecordsOf form (take most (drop behind (lines_of all))) rs)
    → IfSome (records_of form known) (λ all. map fields_of rs ≡ take most (drop behind all))
read_as form None behind most rs read = tt
read_as form (Some bytes) behind most rs read =
    let lines = lines_of bytes in
    told form (take most (drop behind lines)) rs (read bytes refl)
    ∙ sym (ap (take most) (drop-map (fields_in form) behind lines) ∙ take-map (fields_in form) most (drop behind lines))
