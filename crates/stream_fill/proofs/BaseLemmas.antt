-- The bytes of a file that keeps a base.
use Rattle.std.proofs.Common.{◌≡◌, ◌⊎◌, refl, sym, ap, ◌∙◌, subst, arith, inl, inr, ℕ, zero, suc, ◌+◌, ◌/◌, ◌%◌, ◌<◌, ◌≤◌, ◌^◌}
use Rattle.std.proofs.Common.{List, [], ◌∷◌, ◌++◌, length, take, drop, decimal, get_or, Contains, Option, Some, None}
use Rattle.std.proofs.Common.{append-nil, length-append}
use Rattle.std.specs.List.{AllByRecursion}
use Rattle.std.specs.Int.{IsInRange}
use Rattle.std.proofs.lemmas.Fmt.{decimal_by_steps, decimal_digit, decimal_step, decimal_nonempty, digits_decimal}
use Rattle.std.proofs.lemmas.Str.Parse.{IsDigitsTest, numerals_by_value}
use Rattle.std.specs.Str.{IsUtf8}
use Rattle.std.specs.Str.Parse.{ParsesUnsigned}
use Rattle.std.proofs.Common.{Result, Ok}
use Rattle.std.proofs.lemmas.Fmt.{parse-decimal, IsAscii-decimal}
use Rattle.std.proofs.lemmas.Str.{IsUtf8-from_ascii}
use Rattle.std.proofs.lemmas.Option.{none-some}
use Rattle.stream_fill.specs.Base.{base_line, BeginsWithNumber, IsFront, Keeps}

-- ---- digits

abbrev AreDigits : List ℕ → Type 0
AreDigits = AllByRecursion (IsInRange 48 57)

tells : IsDigitsTest AreDigits
tells = record { empty = tt; parts = λ c cs all. all; more = λ c cs one all. (one, all) }

space_at : (ds : List ℕ) → AreDigits ds → (k : ℕ) → k < length ds → get_or ds k 32 ≡ 32 → ⊥
space_at [] all k lt same = omega arith
space_at (d ∷ ds) all zero lt same = omega (arith, all.0.0)
space_at (d ∷ ds) all (suc k) lt same = space_at ds all.1 k (omega arith) same

-- no digit is a space
spaceless : (n : ℕ) → n < 2 ^ 64 → Contains (decimal n) 32 → ⊥
spaceless n small in_it =
    space_at (decimal n) (digits_decimal (numerals_by_value AreDigits tells) n small) in_it.0 in_it.1 in_it.2

-- some digits of a number, from the first on, are those of a number
record HasFronts (n : ℕ) (ds : List ℕ) : Type 0 where
  whole : ds ≡ decimal n
  front : (k : ℕ) → 0 < k → (m : ℕ) × (m ≤ n) × (take k ds ≡ decimal m)

one_digit : (n : ℕ) → n < 10 → HasFronts n ((48 + n) ∷ [])
one_digit n lt = record {
  whole = sym (decimal_digit n lt);
  front = λ k some. (n, omega arith, at k some ∙ sym (decimal_digit n lt));
}
  where
    at : (k : ℕ) → 0 < k → take k ((48 + n) ∷ []) ≡ (48 + n) ∷ []
    at zero some = absurd (omega arith)
    at (suc zero) some = refl
    at (suc (suc k)) some = refl

-- a front of what has one thing more
front_of_more : (k x : ℕ) (xs : List ℕ) → (take k (xs ++ x ∷ []) ≡ take k xs) ⊎ (take k (xs ++ x ∷ []) ≡ xs ++ x ∷ [])
front_of_more zero x xs = inl refl
front_of_more (suc k) x [] = inr (last k)
  where
    last : (k : ℕ) → x ∷ take k [] ≡ x ∷ []
    last zero = refl
    last (suc k) = refl
front_of_more (suc k) x (y ∷ xs) = elim (front_of_more k x xs) [
  | inl same ↦ inl (ap (λ (l : List ℕ). y ∷ l) same)
  | inr all ↦ inr (ap (λ (l : List ℕ). y ∷ l) all)
]

more_digits : (n : ℕ) (ds : List ℕ) → n < 2 ^ 64 → 10 ≤ n → HasFronts (n / 10) ds → HasFronts n (ds ++ ((48 + n % 10) ∷ []))
more_digits n ds small le has = record { whole = whole; front = front }
  where
    whole : ds ++ ((48 + n % 10) ∷ []) ≡ decimal n
    whole = ap (λ (l : List ℕ). l ++ ((48 + n % 10) ∷ [])) has.whole ∙ sym (decimal_step n le small)

    front : (k : ℕ) → 0 < k → (m : ℕ) × (m ≤ n) × (take k (ds ++ ((48 + n % 10) ∷ [])) ≡ decimal m)
    front k some = elim (front_of_more k (48 + n % 10) ds) [
      | inl same ↦ let f = has.front k some in (f.0, omega (arith, f.1), same ∙ f.2)
      | inr all ↦ (n, omega arith, all ∙ whole)
    ]

has_fronts : (n : ℕ) → n < 2 ^ 64 → HasFronts n (decimal n)
has_fronts n small = decimal_by_steps (λ m ds. m < 2 ^ 64 → HasFronts m ds) (λ m lt fits. one_digit m lt)
    (λ m ds le has fits. more_digits m ds fits le (has (omega arith))) n small small

-- ---- two ways to part the same bytes

abbrev Parted : List ℕ → List ℕ → List ℕ → List ℕ → Type 0
Parted xs ys ds tail = ((more : List ℕ) × (ds ≡ xs ++ more) × (ys ≡ more ++ tail))
    ⊎ ((next : ℕ) × (more : List ℕ) × (xs ≡ ds ++ next ∷ more) × (tail ≡ next ∷ (more ++ ys)))

parted : (xs ys ds tail : List ℕ) → xs ++ ys ≡ ds ++ tail → Parted xs ys ds tail
parted [] ys ds tail same = inl (ds, refl, same)
parted (x ∷ xs) ys [] tail same = inr (x, xs, refl, sym same)
parted (x ∷ xs) ys (d ∷ ds) tail same =
    let head : x ≡ d = ap (λ (l : List ℕ). get_or l 0 0) same in
    elim (parted xs ys ds tail (ap (drop 1) same)) [
      | inl p ↦ inl (p.0, ap (λ (l : List ℕ). d ∷ l) p.1 ∙ ap (λ (h : ℕ). h ∷ (xs ++ p.0)) (sym head), p.2)
      | inr p ↦ inr (p.0, p.1, ap (λ (l : List ℕ). x ∷ l) p.2 ∙ ap (λ (h : ℕ). h ∷ (ds ++ p.0 ∷ p.1)) head, p.3)
    ]

contains_next : (ds : List ℕ) (x : ℕ) (more : List ℕ) → Contains (ds ++ x ∷ more) x
contains_next ds x more = (length ds, omega (arith, length-append ds (x ∷ more)), at ds)
  where
    at : (ds : List ℕ) → get_or (ds ++ x ∷ more) (length ds) x ≡ x
    at [] = refl
    at (d ∷ ds) = at ds

-- what is before the first byte of its kind is one
same_front : (a b : List ℕ) (x : ℕ) (more rest : List ℕ) → (Contains a x → ⊥) → (Contains b x → ⊥)
    → a ++ x ∷ more ≡ b ++ x ∷ rest → a ≡ b
same_front a b x more rest na nb same = elim (parted a (x ∷ more) b (x ∷ rest) same) [
  | inl p ↦ by p.0 p.1 p.2
  | inr p ↦ absurd (na (subst (λ (l : List ℕ). Contains l x) (sym (p.2 ∙ ap (λ (h : ℕ). b ++ h ∷ p.1) (sym (ap (λ (l : List ℕ). get_or l 0 0) p.3)))) (contains_next b x p.1)))
]
  where
    by : (l : List ℕ) → b ≡ a ++ l → x ∷ more ≡ l ++ x ∷ rest → a ≡ b
    by [] is e = sym (is ∙ append-nil a)
    by (c ∷ l) is e = absurd (nb (subst (λ (l : List ℕ). Contains l x)
        (sym (is ∙ ap (λ (h : ℕ). a ++ h ∷ l) (sym (ap (λ (l : List ℕ). get_or l 0 0) e)))) (contains_next a x l)))

-- ---- the number at the front

no_number : (n : ℕ) (rest : List ℕ) → n < 2 ^ 64 → [] ≡ decimal n ++ rest → ⊥
no_number n rest small same =
    omega (arith, decimal_nonempty n small, ap length same, length-append (decimal n) rest)

pub of_nothing : (bytes : List ℕ) (n : ℕ) → n < 2 ^ 64 → length bytes ≡ 0 → BeginsWithNumber bytes n → Some 0 ≡ Some n
of_nothing [] n small none (inl is) = ap Some (sym is.1)
of_nothing [] n small none (inr (inl is)) = absurd (no_number n [] small (is ∙ sym (append-nil (decimal n))))
of_nothing [] n small none (inr (inr is)) = absurd (no_number n (32 ∷ is.0) small is.1)
of_nothing (b ∷ bytes) n small none is = absurd (omega arith)

pub before_space : (bytes front rest : List ℕ) (found : Option ℕ) (n : ℕ) → n < 2 ^ 64
    → bytes ≡ front ++ 32 ∷ rest → (Contains front 32 → ⊥) → ((m : ℕ) → m < 2 ^ 64 → front ≡ decimal m → found ≡ Some m)
    → BeginsWithNumber bytes n → found ≡ Some n
before_space bytes front rest found n small split first reads (inl is) =
    absurd (omega (arith, ap length (sym is.0 ∙ split), length-append front (32 ∷ rest)))
before_space bytes front rest found n small split first reads (inr (inl is)) =
    absurd (spaceless n small (subst (λ (l : List ℕ). Contains l 32) (sym split ∙ is) (contains_next front 32 rest)))
before_space bytes front rest found n small split first reads (inr (inr is)) =
    reads n small (same_front front (decimal n) 32 rest is.0 first (spaceless n small) (sym split ∙ is.1))

pub without_space : (bytes : List ℕ) (found : Option ℕ) (n : ℕ) → n < 2 ^ 64 → (length bytes ≡ 0 → ⊥)
    → (Contains bytes 32 → ⊥) → ((m : ℕ) → m < 2 ^ 64 → bytes ≡ decimal m → found ≡ Some m)
    → BeginsWithNumber bytes n → found ≡ Some n
without_space bytes found n small some none reads (inl is) = absurd (some (ap length is.0))
without_space bytes found n small some none reads (inr (inl is)) = reads n small is
without_space bytes found n small some none reads (inr (inr is)) =
    absurd (none (subst (λ (l : List ℕ). Contains l 32) (sym is.1) (contains_next (decimal n) 32 is.0)))

-- ---- the line that begins with these bytes

-- these bytes begin with a number, whose line begins with them
record IsNumbered (key bytes : List ℕ) : Type 0 where
  number : ℕ
  small : number < 2 ^ 64
  begins : BeginsWithNumber bytes number
  rest : List ℕ
  line : base_line key number ≡ bytes ++ rest

numbered : (key bytes rest : List ℕ) → IsFront key bytes rest → IsNumbered key bytes
numbered key [] rest front = record { number = 0; small = omega arith; begins = inl (refl, refl); rest = base_line key 0; line = refl }
numbered key (b ∷ bytes) rest (base, small, is) =
    elim (parted (b ∷ bytes) rest (decimal base) (32 ∷ (key ++ 10 ∷ [])) (sym is)) [
      | inl p ↦
          let m = (has_fronts base small).front (suc (length bytes)) (omega arith) in
          let digits : b ∷ bytes ≡ decimal m.0 =
          sym (ap (take (suc (length bytes))) p.1 ∙ whole_front (b ∷ bytes) p.0) ∙ m.2 in
          record {
            number = m.0;
            small = omega (arith, m.1, small);
            begins = inr (inl digits);
            rest = 32 ∷ (key ++ 10 ∷ []);
            line = ap (λ (l : List ℕ). l ++ 32 ∷ (key ++ 10 ∷ [])) (sym digits);
          }
      | inr p ↦ record {
        number = base;
        small = small;
        begins = inr (inr (p.1, p.2 ∙ ap (λ (h : ℕ). decimal base ++ h ∷ p.1) (sym (ap (λ (l : List ℕ). get_or l 0 0) p.3))));
        rest = rest;
        line = is;
      }
    ]
  where
    whole_front : (xs ys : List ℕ) → take (length xs) (xs ++ ys) ≡ xs
    whole_front [] ys = refl
    whole_front (x ∷ xs) ys = ap (λ (l : List ℕ). x ∷ l) (whole_front xs ys)

-- ---- what is read of it

some_is : (m n : ℕ) → ◌≡◌ {A = Option ℕ} (Some m) (Some n) → m ≡ n
some_is m n same = cc same

-- bytes that are no text are no digits
pub not_text : (bytes : List ℕ) (found : Option ℕ) (n : ℕ) → n < 2 ^ 64 → (IsUtf8 bytes → ⊥) → bytes ≡ decimal n → found ≡ Some n
not_text bytes found n small none is =
    absurd (none (subst IsUtf8 (sym is) (IsUtf8-from_ascii (decimal n) (IsAscii-decimal n small))))

pub read_back : {E : Type 0} (bytes text : List ℕ) (read : Result ℕ E) (n : ℕ) → n < 2 ^ 64 → text ≡ bytes
    → ParsesUnsigned 64 10 text read → bytes ≡ decimal n → read ≡ Ok n
read_back bytes text read n small same parses is = parse-decimal 64 n text read small small (same ∙ is) parses

-- ---- what the bytes of a file keep

-- none, if they begin with no number
pub numberless : (key bytes : List ℕ) (found : Option ℕ) → found ≡ None
    → ((n : ℕ) → n < 2 ^ 64 → BeginsWithNumber bytes n → found ≡ Some n) → (rest : List ℕ) → IsFront key bytes rest → ⊥
numberless key bytes found none reads rest front =
    let n = numbered key bytes rest front in
    none-some n.number (sym none ∙ reads n.number n.small n.begins)

-- nor if the line of their number does not begin with them
pub other : (key bytes line : List ℕ) (found : Option ℕ) (base : ℕ) → found ≡ Some base
    → ((n : ℕ) → n < 2 ^ 64 → BeginsWithNumber bytes n → found ≡ Some n) → line ≡ base_line key base
    → ((rest : List ℕ) → line ≡ bytes ++ rest → ⊥) → (rest : List ℕ) → IsFront key bytes rest → ⊥
other key bytes line found base is reads written never rest front =
    let n = numbered key bytes rest front in
    let same : base ≡ n.number = some_is base n.number (sym is ∙ reads n.number n.small n.begins) in
    never n.rest (written ∙ (ap (base_line key) same ∙ n.line))

-- none yet, if it does and is longer
pub part : (key bytes line : List ℕ) (base : ℕ) → base < 2 ^ 64 → line ≡ base_line key base
    → (bytes ≡ line → ⊥) → line ≡ bytes ++ drop (length bytes) line → Keeps key bytes None
part key bytes line base small written differs begins = by (drop (length bytes) line) begins
  where
    by : (rest : List ℕ) → line ≡ bytes ++ rest → Keeps key bytes None
    by [] is = absurd (differs (sym (is ∙ append-nil bytes)))
    by (next ∷ rest) is = (next, rest, (base, small, sym written ∙ is))
