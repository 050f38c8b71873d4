-- A number that decreases with each round, by the phase of the worker and the number of pages left.
use Rattle.std.proofs.Common.{◌≡◌, inl, inr, refl, ap, ◌∙◌, ℕ, zero, suc, ◌+◌, ◌-◌, ◌*◌, ◌/◌, ◌≤◌, arith, Bool, true, false}
use Rattle.std.proofs.Math.Nat.{add-div_right, div-eq_of_lt, div-mul-le_self}
use Rattle.std.proofs.lemmas.Bool.{cases_lt}
use Rattle.std.proofs.lemmas.Nat.{le-div}
use Rattle.model_server.specs.Rounds.Bound.{pages, own_for, claims_for, reads_for, reads_before}

-- nothing is left, or else this
abbrev pub unless_drained : (all fresh else_this : ℕ) → ℕ
unless_drained zero zero else_this = 0
unless_drained zero (suc fresh) else_this = else_this
unless_drained (suc all) fresh else_this = else_this

-- it reads its own
abbrev pub left_own : (every mine all fresh : ℕ) → ℕ
left_own every mine all fresh = unless_drained all fresh (own_for mine + claims_for all + reads_for every fresh)

-- it claims: all that is pending, or else only these pages, and later all once more
abbrev pub left_claiming : (every : ℕ) (only : Bool) (these all fresh : ℕ) → ℕ
left_claiming every false these all fresh = unless_drained all fresh (claims_for all + reads_for every fresh)
left_claiming every true these all fresh =
    unless_drained all fresh (claims_for these + reads_before every + claims_for all + reads_for every fresh)

-- the reads before it claims, after this number of rounds of them
abbrev pub reads_left : (every rounds : ℕ) → ℕ
reads_left every rounds = 1 + (every - (rounds + 1))

-- this number of pages of new entries, after this number of reads
abbrev pub reads_at : (every rounds pages : ℕ) → ℕ
reads_at every rounds zero = 0
reads_at every rounds (suc pages) =
    2 * pages + 2 + ((reads_before every - reads_left every rounds) + pages) / reads_before every

-- it reads: nothing is pending, or else it claims all before long
abbrev pub left_reading : (every rounds all fresh : ℕ) → ℕ
left_reading every rounds zero fresh = reads_at every rounds fresh
left_reading every rounds (suc all) fresh =
    1 + (every - (rounds + 1)) + claims_for (suc all) + reads_for every fresh

div_less : (n a b : ℕ) → 1 ≤ n → a ≤ b → a / n ≤ b / n
div_less n a b h l = le-div (a / n) b n h (omega (arith, div-mul-le_self a n, l))

pub pages_less : (n a b : ℕ) → 1 ≤ n → a ≤ b → pages n a ≤ pages n b
pages_less n a b h l = div_less n (a + (n - 1)) (b + (n - 1)) h (omega (arith, l))

pub no_pages : (n : ℕ) → 1 ≤ n → pages n 0 ≡ 0
no_pages n h = div-eq_of_lt {n = 0 + (n - 1)} {m = n} (omega (arith, h))

pub one_page : (n a : ℕ) → 1 ≤ n → 1 ≤ a → 1 ≤ pages n a
one_page n a h k = le-div 1 (a + (n - 1)) n h (omega (arith, h, k))

pub pages_fall : (n a b : ℕ) → 1 ≤ n → 1 ≤ b → a ≤ b - n → pages n a + 1 ≤ pages n b
pages_fall n a b h k l =
    elim (cases_lt b n) [
      | inr m ↦
          (let same : b + (n - 1) ≡ ((b - n) + (n - 1)) + n = omega arith in
          let more : (((b - n) + (n - 1)) + n) / n ≡ ((b - n) + (n - 1)) / n + 1 =
          add-div_right ((b - n) + (n - 1)) {k = n} h in
          let less : pages n a ≤ ((b - n) + (n - 1)) / n = pages_less n a (b - n) h l in
          let all : (b + (n - 1)) / n ≡ ((b - n) + (n - 1)) / n + 1 = ap (λ z. z / n) same ∙ more in
          omega (arith, all, less))
      | inl m ↦
          (let none : pages n a ≤ pages n 0 = pages_less n a 0 h (omega arith) in
          omega (arith, none, no_pages n h, one_page n b h k))
    ]

pub pages_none : (n a : ℕ) → 1 ≤ n → pages n a ≡ 0 → a ≡ 0
pages_none n zero h k = refl
pages_none n (suc a) h k = absurd (omega (arith, one_page n (suc a) h (omega arith), k))

pub pages_two : (n a : ℕ) → 1 ≤ n → n + 1 ≤ a → 2 ≤ pages n a
pages_two n a h k = le-div 2 (a + (n - 1)) n h (omega (arith, h, k))

pub claims_less : (a b : ℕ) → a ≤ b → claims_for a ≤ claims_for b
claims_less zero zero l = omega arith
claims_less zero (suc b) l = omega arith
claims_less (suc a) zero l = omega arith
claims_less (suc a) (suc b) l = omega arith

pub reads_less : (every a b : ℕ) → a ≤ b → reads_for every a ≤ reads_for every b
reads_less every zero zero l = omega arith
reads_less every zero (suc b) l = omega arith
reads_less every (suc a) zero l = omega arith
reads_less every (suc a) (suc b) l =
    let d : a / reads_before every ≤ b / reads_before every = div_less (reads_before every) a b (omega arith) (omega (arith, l)) in
    omega (arith, l, d)

reads_fall : (every a b : ℕ) → a + 1 ≤ b → reads_for every a + 2 ≤ reads_for every b
reads_fall every zero zero l = omega arith
reads_fall every zero (suc b) l = omega arith
reads_fall every (suc a) zero l = omega arith
reads_fall every (suc a) (suc b) l =
    let d : a / reads_before every ≤ b / reads_before every = div_less (reads_before every) a b (omega arith) (omega (arith, l)) in
    omega (arith, l, d)

at_less : (every r a b : ℕ) → a ≤ b → reads_at every r a ≤ reads_at every r b
at_less every r zero zero l = omega arith
at_less every r zero (suc b) l = omega arith
at_less every r (suc a) zero l = omega arith
at_less every r (suc a) (suc b) l =
    let e : ℕ = reads_before every in
    let m : ℕ = reads_before every - reads_left every r in
    let d : (m + a) / e ≤ (m + b) / e = div_less e (m + a) (m + b) (omega arith) (omega (arith, l)) in
    omega (arith, l, d)

-- in any phase, one more at most
pub at_near : (every r f : ℕ) → reads_at every r f ≤ reads_for every f + 1
at_near every r zero = omega arith
at_near every r (suc f) =
    let e : ℕ = reads_before every in
    let m : ℕ = reads_before every - reads_left every r in
    let one : 1 ≤ e = omega arith in
    let d : (m + f) / e ≤ (f + e) / e = div_less e (m + f) (f + e) one (omega arith) in
    let s : (f + e) / e ≡ f / e + 1 = add-div_right f {k = e} one in
    omega (arith, d, s)

-- after a claim it begins to count
pub at_first : (every f : ℕ) → reads_at every 0 f ≡ reads_for every f
at_first every zero = refl
at_first every (suc f) =
    let e : ℕ = reads_before every in
    let m : ℕ = reads_before every - reads_left every 0 in
    let d : (m + f) / e ≡ f / e = ap (λ (z : ℕ). z / e) (omega arith) in
    omega (arith, d)

-- a read is counted
at_next : (every r f : ℕ) → r + 1 + 1 ≤ every → reads_at every (r + 1) (suc f) + 2 ≡ reads_at every r (suc (suc f))
at_next every r f h =
    let e : ℕ = reads_before every in
    let m : ℕ = reads_before every - reads_left every r in
    let k : ℕ = reads_before every - reads_left every (r + 1) in
    let d : (k + f) / e ≡ (m + suc f) / e = ap (λ (z : ℕ). z / e) (omega (arith, h)) in
    omega (arith, d)

-- the last one before a claim
at_turn : (every r f : ℕ) → every ≤ r + 1 → reads_at every r (suc (suc f)) ≡ reads_for every (suc f) + 3
at_turn every r f h =
    let e : ℕ = reads_before every in
    let m : ℕ = reads_before every - reads_left every r in
    let d : (m + suc f) / e ≡ (f + e) / e = ap (λ (z : ℕ). z / e) (omega (arith, h)) in
    let s : (f + e) / e ≡ f / e + 1 = add-div_right f {k = e} (omega arith) in
    omega (arith, d, s)

-- what is left where it is drained or not is no more than that
pub at_most : (all fresh x : ℕ) → unless_drained all fresh x ≤ x
at_most zero zero x = omega arith
at_most zero (suc f) x = omega arith
at_most (suc k) f x = omega arith

-- its own page had entries
pub own_falls : (every o k f o2 k2 : ℕ) → 1 ≤ k → o2 + 1 ≤ o → k2 ≤ k
    → 1 + left_own every o2 k2 f ≤ left_own every o k f - 1
own_falls every o zero f o2 k2 h l m = omega arith
own_falls every o (suc k) f o2 k2 h l m =
    omega (arith, at_most k2 f (own_for o2 + claims_for k2 + reads_for every f), claims_less k2 (suc k) m)

-- or none
pub own_ends : (every o k f these k2 : ℕ) → k2 ≤ k → left_claiming every false these k2 f ≤ left_own every o k f - 1
own_ends every o zero zero these zero m = omega arith
own_ends every o zero zero these (suc k2) m = omega arith
own_ends every o zero (suc f) these zero m = omega arith
own_ends every o zero (suc f) these (suc k2) m = omega arith
own_ends every o (suc k) f these k2 m =
    omega (arith, at_most k2 f (claims_for k2 + reads_for every f), claims_less k2 (suc k) m)

-- a claim continues after a full page
pub claim_falls : (every c these k f these2 k2 : ℕ) → c ≤ 1 → 2 ≤ k → these2 + 1 ≤ k → k2 + 1 ≤ k
    → c + left_claiming every false these2 k2 f ≤ left_claiming every false these k f - 1
claim_falls every c these zero f these2 k2 d h l m = omega arith
claim_falls every c these (suc k) f these2 zero d h l m =
    omega (arith, at_most zero f (claims_for zero + reads_for every f))
claim_falls every c these (suc k) f these2 (suc k2) d h l m = omega arith

pub part_falls : (every c these k f these2 k2 : ℕ) (only : Bool) → c ≤ 1 → 2 ≤ these → 1 ≤ k → these2 + 1 ≤ these
    → k2 ≤ k → c + left_claiming every only these2 k2 f ≤ left_claiming every true these k f - 1
part_falls every c zero k f these2 k2 only d h g l m = omega arith
part_falls every c (suc these) zero f these2 k2 only d h g l m = omega arith
part_falls every c (suc these) (suc k) f zero k2 true d h g l m =
    omega (
      arith,
      at_most k2 f (claims_for zero + reads_before every + claims_for k2 + reads_for every f),
      claims_less k2 (suc k) m,
    )
part_falls every c (suc these) (suc k) f (suc these2) k2 true d h g l m =
    omega (
      arith,
      at_most k2 f (claims_for (suc these2) + reads_before every + claims_for k2 + reads_for every f),
      claims_less k2 (suc k) m,
    )
part_falls every c (suc these) (suc k) f these2 k2 false d h g l m =
    omega (arith, at_most k2 f (claims_for k2 + reads_for every f), claims_less k2 (suc k) m)

-- or it reaches its end
pub claim_ends : (every c these k f : ℕ) → c ≤ 1 → (k ≡ 0 → c ≡ 0)
    → c + left_reading every 0 0 f ≤ left_claiming every false these k f - 1
claim_ends every c these zero zero d e = omega (arith, e refl)
claim_ends every c these zero (suc f) d e = omega (arith, e refl, at_first every (suc f))
claim_ends every c these (suc k) f d e = omega (arith, at_first every f)

pub part_ends : (every c these k f k2 : ℕ) → c ≤ 1 → (these ≡ 0 → c ≡ 0) → 1 ≤ k → k2 ≤ k
    → c + left_reading every 0 k2 f ≤ left_claiming every true these k f - 1
part_ends every c these zero f k2 d e g m = omega arith
part_ends every c zero (suc k) f zero d e g m = omega (arith, e refl, at_first every f)
part_ends every c zero (suc k) f (suc k2) d e g m = omega (arith, e refl)
part_ends every c (suc these) (suc k) f zero d e g m = omega (arith, at_first every f)
part_ends every c (suc these) (suc k) f (suc k2) d e g m = omega arith

-- what a read costs and brings
pub record Brings (c f f2 : ℕ) : Type 0 where
  pub one : c ≤ 1
  pub none : f ≡ 0 → c ≡ 0
  pub less : f2 ≤ f - 1

pub read_goes_on : (every r c k f k2 f2 : ℕ) → r + 1 + 1 ≤ every → Brings c f f2 → k2 ≤ k
    → c + left_reading every (r + 1) k2 f2 ≤ left_reading every r k f - 1
read_goes_on every r c zero zero zero f2 h b m = omega (arith, b.none refl, at_less every (r + 1) f2 0 b.less)
read_goes_on every r c zero (suc zero) zero f2 h b m =
    omega (arith, b.one, at_less every (r + 1) f2 0 (omega (arith, b.less)))
read_goes_on every r c zero (suc (suc f)) zero f2 h b m =
    omega (arith, b.one, at_less every (r + 1) f2 (suc f) (omega (arith, b.less)), at_next every r f h)
read_goes_on every r c zero f (suc k2) f2 h b m = omega arith
read_goes_on every r c (suc k) zero zero f2 h b m = omega (arith, b.none refl, at_less every (r + 1) f2 0 b.less)
read_goes_on every r c (suc k) (suc f) zero f2 h b m =
    omega (arith, b.one, at_near every (r + 1) f2, reads_fall every f2 (suc f) (omega (arith, b.less)))
read_goes_on every r c (suc k) zero (suc k2) f2 h b m = omega (arith, b.none refl, reads_less every f2 0 b.less)
read_goes_on every r c (suc k) (suc f) (suc k2) f2 h b m =
    omega (arith, b.one, reads_fall every f2 (suc f) (omega (arith, b.less)))

pub read_claims : (every r c these k f k2 f2 : ℕ) → every ≤ r + 1 → Brings c f f2 → k2 ≤ k
    → c + left_claiming every false these k2 f2 ≤ left_reading every r k f - 1
read_claims every r c these zero zero zero zero h b m = omega (arith, b.none refl)
read_claims every r c these zero zero zero (suc f2) h b m = omega (arith, b.less)
read_claims every r c these zero (suc f) zero zero h b m = omega (arith, b.one)
read_claims every r c these zero (suc zero) zero (suc f2) h b m = omega (arith, b.less)
read_claims every r c these zero (suc (suc f)) zero (suc f2) h b m =
    omega (arith, b.one, at_turn every r f h, reads_less every (suc f2) (suc f) (omega (arith, b.less)))
read_claims every r c these zero f (suc k2) f2 h b m = omega arith
read_claims every r c these (suc k) zero k2 f2 h b m =
    omega (
      arith,
      b.none refl,
      at_most k2 f2 (claims_for k2 + reads_for every f2),
      claims_less k2 (suc k) m,
      reads_less every f2 0 b.less,
    )
read_claims every r c these (suc k) (suc f) k2 f2 h b m =
    omega (
      arith,
      b.one,
      at_most k2 f2 (claims_for k2 + reads_for every f2),
      claims_less k2 (suc k) m,
      reads_fall every f2 (suc f) (omega (arith, b.less)),
    )
