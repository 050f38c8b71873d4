-- No two texts have one number.
use Rattle.std.proofs.Common.{◌≡◌, ◌∙◌, ◌<◌, ◌+◌, ◌*◌, refl, sym, ap, subst, inl, inr, arith, ℕ, suc, Bool, true, false, List, [], ◌∷◌, ◌++◌, decimal}
use Rattle.std.proofs.Common.{drop, Option, Some, None, if◌then◌else◌}
use Rattle.std.specs.Prelude.{option_and_then, ◌==◌, ◌||◌}
use Rattle.std.specs.List.{prefix_len}
use Rattle.std.specs.Str.{bytes_eq}
use Rattle.std.proofs.lemmas.List.{take-append-drop}
use Rattle.std.proofs.lemmas.Bool.{cases_eq}
use Rattle.std.proofs.lemmas.Bool.Decides.{nat_tests}
use Rattle.std.proofs.lemmas.Slice.Eq.{bytes_eq-Decides}
use Rattle.redis_resp.specs.Number.{unsigned_of, within}
use Rattle.worker_journal.specs.KnownIds.Cut.{before, from, is_other}
use Rattle.worker_journal.specs.KnownIds.Known.{KnowsOneMore, has_number, knows}
use Rattle.worker_journal.specs.KnownIds.Number.{NumbersTell, both, if_written_so, number_of, part_of, seq_of}

-- the text is a number of 64 bits as it is written
record IsPart (text : List ℕ) (n : ℕ) : Type 0 where
  fits : n < 18446744073709551616
  is : decimal n ≡ text

some_is : (m n : ℕ) → Some m ≡ Some n → m ≡ n
some_is m n same = cc same

within_fits : (m n : ℕ) → within 64 m ≡ Some n → n < 18446744073709551616
unfolding within
within_fits m n is = grind (arith, nat_tests)

written_so : (text : List ℕ) (o : Option ℕ) (n : ℕ) → ((m : ℕ) → o ≡ Some m → m < 18446744073709551616)
    → if_written_so text o ≡ Some n → IsPart text n
written_so text None n fits is = absurd (cc is)
written_so text (Some m) n fits is = by (bytes_eq (decimal m) text) refl is
  where
    by : (b : Bool) → bytes_eq (decimal m) text ≡ b → (if b then Some m else None) ≡ Some n → IsPart text n
    by true same gives = record {
      fits = subst (λ (k : ℕ). k < 18446744073709551616) (some_is m n gives) (fits m refl);
      is = ap decimal (sym (some_is m n gives)) ∙ (bytes_eq-Decides (decimal m) text).0 same;
    }
    by false same gives = absurd (cc gives)

read_fits : (o : Option ℕ) (m : ℕ) → option_and_then (within 64) o ≡ Some m → m < 18446744073709551616
read_fits None m is = absurd (cc is)
read_fits (Some k) m is = within_fits k m is

part : (text : List ℕ) (n : ℕ) → part_of text ≡ Some n → IsPart text n
part text n is = written_so text (option_and_then (within 64) (unsigned_of text)) n (read_fits (unsigned_of text)) is

-- the first hyphen of a text, if there is one
hyphen : (text : List ℕ) (b : ℕ) (rest : List ℕ) → from 45 text ≡ b ∷ rest → b ≡ 45
hyphen [] b rest is = absurd (cc is)
hyphen (x ∷ xs) b rest is = elim (cases_eq x 45) [
  | inl same ↦
      let first : from 45 (x ∷ xs) ≡ x ∷ xs = grind (arith, nat_tests) in
      let both : x ∷ xs ≡ b ∷ rest = sym first ∙ is in sym (head_is both) ∙ same
  | inr other ↦
      let more : 1 + prefix_len (is_other 45) xs ≡ suc (prefix_len (is_other 45) xs) = omega arith in
      let step : drop (1 + prefix_len (is_other 45) xs) (x ∷ xs) ≡ from 45 xs = ap (λ (n : ℕ). drop n (x ∷ xs)) more in
      let later : from 45 (x ∷ xs) ≡ from 45 xs = grind (arith, nat_tests, step) in hyphen xs b rest (sym later ∙ is)
]
  where
    head_is : x ∷ xs ≡ b ∷ rest → x ≡ b
    head_is same = cc same

-- two parts with a hyphen between them
pub record AreParts (text : List ℕ) (n : ℕ) : Type 0 where
  pub ms : ℕ
  pub seq : ℕ
  pub ms_fits : ms < 18446744073709551616
  pub small : seq < 18446744073709551616
  pub is : text ≡ decimal ms ++ 45 ∷ decimal seq
  pub number : ms * 18446744073709551616 + seq ≡ n

parts_by : (text front back : List ℕ) (n : ℕ) (p q : Option ℕ) → text ≡ front ++ back → part_of front ≡ p → seq_of back ≡ q
    → ((b : ℕ) (rest : List ℕ) → back ≡ b ∷ rest → b ≡ 45) → both p q ≡ Some n → AreParts text n
parts_by text front back n None q whole first second is_hyphen is = absurd (cc is)
parts_by text front back n (Some m) None whole first second is_hyphen is = absurd (cc is)
parts_by text front [] n (Some m) (Some s) whole first second is_hyphen is = absurd (cc second)
parts_by text front (b ∷ rest) n (Some m) (Some s) whole first second is_hyphen is =
    let ms = part front m first in
    let seq = part rest s second in
    record {
      ms = m;
      seq = s;
      ms_fits = ms.fits;
      small = seq.fits;
      is = whole ∙ (ap (λ (xs : List ℕ). xs ++ b ∷ rest) (sym ms.is)
          ∙ (ap (λ (x : ℕ). decimal m ++ x ∷ rest) (is_hyphen b rest refl)
          ∙ ap (λ (xs : List ℕ). decimal m ++ 45 ∷ xs) (sym seq.is)));
      number = some_is (m * 18446744073709551616 + s) n is;
    }

pub parts : (text : List ℕ) (n : ℕ) → number_of text ≡ Some n → AreParts text n
parts text n is = parts_by text (before 45 text) (from 45 text) n (part_of (before 45 text)) (seq_of (from 45 text))
    (sym (take-append-drop (prefix_len (is_other 45) text) text)) refl refl (hyphen text) is

pub numbers_tell : NumbersTell
numbers_tell a b n first second =
    let p = parts a n first in
    let q = parts b n second in
    let ms : p.ms ≡ q.ms = omega (arith, p.small, q.small, p.number, q.number) in
    let seq : p.seq ≡ q.seq = omega (arith, p.small, q.small, p.number, q.number) in
    p.is ∙ (ap (λ (m : ℕ). decimal m ++ 45 ∷ decimal p.seq) ms ∙ (ap (λ (s : ℕ). decimal q.ms ++ 45 ∷ decimal s) seq
    ∙ sym q.is))

-- ---- ids that are known

-- whether it is this number
abbrev is_number : ℕ → Option ℕ → Bool
is_number n None = false
is_number n (Some m) = n == m

-- the text is that of this id exactly if its number is
same_number : (id other : List ℕ) (n : ℕ) → number_of id ≡ Some n → bytes_eq id other ≡ is_number n (number_of other)
same_number id other n is = by (bytes_eq id other) (number_of other) refl refl
  where
    same : (b : Bool) → bytes_eq id other ≡ b → b ≡ true → number_of other ≡ Some n
    same b eq holds = ap number_of (sym ((bytes_eq-Decides id other).0 (eq ∙ holds))) ∙ is

    by : (b : Bool) (o : Option ℕ) → bytes_eq id other ≡ b → number_of other ≡ o → b ≡ is_number n o
    by false None eq none = refl
    by true None eq none = let wrong : None ≡ Some n = sym none ∙ same true eq refl in absurd (cc wrong)
    by true (Some m) eq some =
        let equal : n ≡ m = some_is n m (sym (same true eq refl) ∙ some) in grind (arith, nat_tests, equal)
    by false (Some m) eq some = elim (cases_eq n m) [
      | inl equal ↦
          let text : id ≡ other = numbers_tell id other n is (some ∙ ap Some (sym equal)) in
          let wrong : false ≡ true = sym eq ∙ (bytes_eq-Decides id other).1 text in absurd (cc wrong)
      | inr differ ↦ grind (arith, nat_tests, differ)
    ]

pub knows_one_more : KnowsOneMore
knows_one_more old new id n is more other =
    by (number_of other) ∙ ap (λ (b : Bool). b || knows old other) (sym (same_number id other n is))
  where
    by : (o : Option ℕ) → has_number new o ≡ (is_number n o || has_number old o)
    by None = refl
    by (Some m) = more m
