-- A reply with at most `limits.values` values: appended bytes change no definite result, it is in the grammar, and no
-- value has fewer than three bytes.
use Rattle.std.proofs.Common.{◌≡◌, ℕ, zero, suc, ◌+◌, ◌*◌, ◌/◌, ◌≤◌, ◌<◌, Bool, true, false, cond, ltb, List, [], ◌∷◌}
use Rattle.std.proofs.Common.{◌++◌, length, Option, Some, None, Result, Ok, Err, refl, sym, ap, ◌∙◌, subst, arith, le-ltb}
use Rattle.std.proofs.lemmas.Bool.{ltb-false, ltb-true, lt-ltb}
use Rattle.std.proofs.lemmas.List.{length-append}
use Rattle.redis_wire.specs.declared.limits.Limits.{Limits}
use Rattle.redis_wire.specs.declared.fault.Fault.TheVariants.{TooMany}
use Rattle.redis_wire.specs.declared.kind.Kind.{Kind}
use Rattle.redis_wire.specs.declared.kind.Kind.TheVariants as kinds
use Rattle.redis_wire.specs.declared.scanning.Open.{Open}
use Rattle.redis_wire.specs.Kind.{kind_of}
use Rattle.redis_wire.specs.Reading.{Halt, short, bad, Read, ◌>>=◌, rest_of, line_at}
use Rattle.redis_wire.specs.Reply.{Answer}
use Rattle.redis_wire.specs.Scalar.{line_answer}
use Rattle.redis_wire.specs.Group.{many}
use Rattle.redis_wire.specs.Level.{length_at, value_at}
use Rattle.redis_wire.specs.Push.{reply_at}
use Rattle.redis_wire.specs.Packed.{crlf}
use Rattle.redis_wire.specs.Steady.{Stays, IsSteady}
use Rattle.redis_wire.specs.Grammar.{IsAnyReply, IsReply}
use Rattle.redis_wire.specs.Item.{blob_passed, count_behind, item_of, item_at, begins_at}
use Rattle.redis_wire.specs.Bounded.{begun_behind, many_begun, inside_begun, value_begun, open_begun, asked_begun}
use Rattle.redis_wire.specs.Bounded.{reply_begun, bounded_at}
use Rattle.redis_wire.specs.Scan.{passed}
use Rattle.redis_wire.proofs.SteadyLemmas.{value_steady, reply_steady}
use Rattle.redis_wire.proofs.FitsLemmas.{Takes, Fits, bind_ok, line_fits, reply_fits}
use Rattle.redis_wire.proofs.CountLemmas.{reply_counted}
use Rattle.redis_wire.proofs.ItemLemmas.{read_as, item_steady, begins_steady, many_rest, value_part, is_run, alone_rest}
use Rattle.redis_wire.proofs.ItemLemmas.{reply_part, begins_ends, blob_ends, end_le}

-- ---- appended bytes

-- appended bytes do not change a count, unless the bytes ended too early
abbrev Grown : Result (List ℕ) Halt → ℕ → ℕ → Type 0
Grown (Ok rest) n m = m ≡ n
Grown (Err short) n m = n ≤ m
Grown (Err (bad f)) n m = m ≡ n

grown_more : (r : Result (List ℕ) Halt) (n m k : ℕ) → Grown r n m → Grown r (k + n) (k + m)
grown_more (Ok rest) n m k g = ap (λ (i : ℕ). k + i) g
grown_more (Err short) n m k g = omega (arith, g)
grown_more (Err (bad f)) n m k g = ap (λ (i : ℕ). k + i) g

grown_suc : (r : Result (List ℕ) Halt) (n m : ℕ) → Grown r n m → Grown r (suc n) (suc m)
grown_suc (Ok rest) n m g = ap (λ (i : ℕ). suc i) g
grown_suc (Err short) n m g = omega (arith, g)
grown_suc (Err (bad f)) n m g = ap (λ (i : ℕ). suc i) g

grown_le : (r : Result (List ℕ) Halt) (n m : ℕ) → Grown r n m → n ≤ m
grown_le (Ok rest) n m g = omega (arith, g)
grown_le (Err short) n m g = g
grown_le (Err (bad f)) n m g = omega (arith, g)

less_then : (n m k : ℕ) → n ≤ m → n + 0 ≤ m + k
less_then n m k le = omega (arith, le)

one_at_least : (k : ℕ) → suc 0 ≤ suc k
one_at_least k = omega arith

none_at_least : (k : ℕ) → 0 ≤ k
none_at_least k = omega arith

module _ (inner : List ℕ → Read Answer) (begun : List ℕ → ℕ) (steady : IsSteady inner)
    (grown : (bytes more : List ℕ) → Grown (rest_of (inner bytes)) (begun bytes) (begun (bytes ++ more))) where
  many_grown : (n : ℕ) (bytes more : List ℕ) → Grown (rest_of (many inner n bytes))
      (many_begun inner begun n bytes) (many_begun inner begun n (bytes ++ more))
  unfolding many many_begun
  many_grown zero bytes more = refl
  many_grown (suc n) bytes more =
      subst (λ (r : Result (List ℕ) Halt). Grown r
      (begun bytes + begun_behind (rest_of (inner bytes)) (many_begun inner begun n))
      (begun (bytes ++ more) + begun_behind (rest_of (inner (bytes ++ more))) (many_begun inner begun n)))
      (sym (many_rest inner n bytes))
      (by (inner bytes) (inner (bytes ++ more)) (begun bytes) (begun (bytes ++ more)) (steady bytes more)
      (grown bytes more) (λ rest. many_grown n rest more))
    where
      by : (r s : Read Answer) (p q : ℕ) → Stays r s more → Grown (rest_of r) p q
          → ((rest : List ℕ) → Grown (rest_of (many inner n rest)) (many_begun inner begun n rest)
          (many_begun inner begun n (rest ++ more)))
          → Grown (rest_of r >>= λ rest. rest_of (many inner n rest))
          (p + begun_behind (rest_of r) (many_begun inner begun n))
          (q + begun_behind (rest_of s) (many_begun inner begun n))
      by (Ok x) s p q st g h =
          subst (λ (t : Read Answer). Grown (rest_of (many inner n x.1)) (p + many_begun inner begun n x.1)
          (q + begun_behind (rest_of t) (many_begun inner begun n))) (sym st)
          (subst (λ (k : ℕ). Grown (rest_of (many inner n x.1)) (p + many_begun inner begun n x.1)
          (k + many_begun inner begun n (x.1 ++ more))) (sym g)
          (grown_more (rest_of (many inner n x.1)) (many_begun inner begun n x.1)
          (many_begun inner begun n (x.1 ++ more)) p (h x.1)))
      by (Err short) s p q st g h = less_then p q (begun_behind (rest_of s) (many_begun inner begun n)) g
      by (Err (bad f)) s p q st g h =
          subst (λ (t : Read Answer). q + begun_behind (rest_of t) (many_begun inner begun n) ≡ p + 0) (sym st)
          (ap (λ (k : ℕ). k + 0) g)

  inside_grown : (more : List ℕ) (i j : Read ℕ) → Stays i j more
      → Grown (i >>= λ y. rest_of (many inner y.0 y.1)) (suc (inside_begun inner begun i))
      (suc (inside_begun inner begun j))
  inside_grown more (Ok y) j st =
      subst (λ (t : Read ℕ). Grown (rest_of (many inner y.0 y.1)) (suc (many_begun inner begun y.0 y.1))
      (suc (inside_begun inner begun t))) (sym st)
      (grown_suc (rest_of (many inner y.0 y.1)) (many_begun inner begun y.0 y.1)
      (many_begun inner begun y.0 (y.1 ++ more)) (many_grown y.0 y.1 more))
  inside_grown more (Err short) j st = one_at_least (inside_begun inner begun j)
  inside_grown more (Err (bad f)) j st =
      subst (λ (t : Read ℕ). suc (inside_begun inner begun t) ≡ suc 0) (sym st) refl

value_grown : (limits : Limits) (d : ℕ) (bytes more : List ℕ) → Grown (rest_of (value_at limits d bytes))
    (value_begun limits d bytes) (value_begun limits d (bytes ++ more))
unfolding value_at value_begun
value_grown limits zero bytes more = refl
value_grown limits (suc d) bytes more =
    subst (λ (r : Result (List ℕ) Halt). Grown r
    (suc (inside_begun (value_at limits d) (value_begun limits d) (item_at limits bytes)))
    (suc (inside_begun (value_at limits d) (value_begun limits d) (item_at limits (bytes ++ more)))))
    (sym (value_part limits d bytes))
    (inside_grown (value_at limits d) (value_begun limits d) (value_steady limits d) (value_grown limits d) more
    (item_at limits bytes) (item_at limits (bytes ++ more)) (item_steady limits bytes more))

module _ (limits : Limits) where
  -- one open group, and no others after it
  one_passed : (o : Open) (bytes : List ℕ)
      → passed limits (o ∷ []) bytes ≡ rest_of (many (value_at limits o.depth) o.left bytes)
  one_passed o bytes = is_run limits o [] bytes
      ∙ alone_rest limits (rest_of (many (value_at limits o.depth) o.left bytes))

  open_grown : (o : Open) (bytes more : List ℕ)
      → Grown (passed limits (o ∷ []) bytes) (open_begun limits o bytes) (open_begun limits o (bytes ++ more))
  open_grown o bytes more =
      subst (λ (r : Result (List ℕ) Halt). Grown r (open_begun limits o bytes) (open_begun limits o (bytes ++ more)))
      (sym (one_passed o bytes))
      (many_grown (value_at limits o.depth) (value_begun limits o.depth) (value_steady limits o.depth)
      (value_grown limits o.depth) o.left bytes more)

  reply_grown : (bytes more : List ℕ)
      → Grown (rest_of (reply_at limits bytes)) (reply_begun limits bytes) (reply_begun limits (bytes ++ more))
  unfolding reply_begun
  reply_grown bytes more =
      subst (λ (r : Result (List ℕ) Halt). Grown r (asked_begun limits (begins_at limits bytes))
      (asked_begun limits (begins_at limits (bytes ++ more)))) (sym (reply_part limits bytes))
      (by (begins_at limits bytes) (begins_at limits (bytes ++ more)) (begins_steady limits bytes more))
    where
      by : (i j : Read Open) → Stays i j more
          → Grown (i >>= λ x. passed limits (x.0 ∷ []) x.1) (asked_begun limits i) (asked_begun limits j)
      by (Ok x) j st =
          subst (λ (t : Read Open). Grown (passed limits (x.0 ∷ []) x.1) (open_begun limits x.0 x.1)
          (asked_begun limits t)) (sym st) (open_grown x.0 x.1 more)
      by (Err short) j st = none_at_least (asked_begun limits j)
      by (Err (bad f)) j st = subst (λ (t : Read Open). asked_begun limits t ≡ 0) (sym st) refl

  pub bounded_steady : IsSteady (bounded_at limits)
  unfolding bounded_at
  bounded_steady bytes more =
      by (reply_at limits bytes) (reply_at limits (bytes ++ more)) (reply_begun limits bytes)
      (reply_begun limits (bytes ++ more)) (ltb limits.values (reply_begun limits bytes)) refl
      (reply_steady limits bytes more) (reply_grown bytes more)
    where
      by : (r s : Read Answer) (n m : ℕ) (b : Bool) → ltb limits.values n ≡ b → Stays r s more → Grown (rest_of r) n m
          → Stays (cond b (Err (bad TooMany)) r) (cond (ltb limits.values m) (Err (bad TooMany)) s) more
      by r s n m true e st g =
          let over : ltb limits.values m ≡ true =
          lt-ltb limits.values m (omega (arith, ltb-true _ _ e, grown_le (rest_of r) n m g)) in
          rw over refl
      by (Ok x) s n m false e st g =
          let within : ltb limits.values m ≡ false = ap (λ (k : ℕ). ltb limits.values k) g ∙ e in
          rw within st
      by (Err short) s n m false e st g = tt
      by (Err (bad f)) s n m false e st g =
          let within : ltb limits.values m ≡ false = ap (λ (k : ℕ). ltb limits.values k) g ∙ e in
          rw within st

  -- ---- the grammar

  bounded_taken : (bytes : List ℕ) (x : Answer × List ℕ) (b : Bool)
      → ltb limits.values (reply_begun limits bytes) ≡ b
      → cond {A = Read Answer} b (Err (bad TooMany)) (reply_at limits bytes) ≡ Ok x → Takes (IsReply limits) bytes x
  bounded_taken bytes x true is e = absurd cc
  bounded_taken bytes x false is e =
      let t = (reply_fits limits).takes bytes x e in
      let le : reply_begun limits bytes ≤ limits.values = ltb-false _ _ is in
      record {
        text = t.text;
        is = t.is;
        said = record {
          reply = t.said;
          few = subst (λ (n : ℕ). n ≤ limits.values) (reply_counted limits bytes x e) le;
        };
      }

  pub bounded_fits : Fits (bounded_at limits) (IsReply limits)
  unfolding bounded_at
  bounded_fits = record {
    takes = λ bytes x e. bounded_taken bytes x (ltb limits.values (reply_begun limits bytes)) refl e;
    again = λ text rest a s.
        let read = (reply_fits limits).again text rest a s.reply in
        let le : reply_begun limits (text ++ rest) ≤ limits.values =
        subst (λ (n : ℕ). n ≤ limits.values) (sym (reply_counted limits (text ++ rest) (a, rest) read)) s.few in
        let within : ltb limits.values (reply_begun limits (text ++ rest)) ≡ false = le-ltb _ _ le in
        rw within read;
  }

  -- within the limit, it is the reply that is read without a limit
  pub within_is : (bytes : List ℕ) → reply_begun limits bytes ≤ limits.values
      → bounded_at limits bytes ≡ reply_at limits bytes
  unfolding bounded_at
  within_is bytes le =
      let within : ltb limits.values (reply_begun limits bytes) ≡ false = le-ltb _ _ le in
      rw within refl

  pub over_is : (bytes : List ℕ) → limits.values < reply_begun limits bytes
      → bounded_at limits bytes ≡ Err (bad TooMany)
  unfolding bounded_at
  over_is bytes lt =
      let over : ltb limits.values (reply_begun limits bytes) ≡ true = lt-ltb _ _ lt in
      rw over refl

-- ---- at least three bytes

-- n values took at least three bytes each, except one that is cut
abbrev Small : Result (List ℕ) Halt → ℕ → ℕ → Type 0
Small (Ok rest) n len = 3 * n + length rest ≤ len
Small (Err e) n len = 3 * n ≤ len + 3

small_then : (r : Result (List ℕ) Halt) (p q k len : ℕ) → 3 * p + k ≤ len → Small r q k → Small r (p + q) len
small_then (Ok rest) p q k len a b = omega (arith, a, b)
small_then (Err e) p q k len a b = omega (arith, a, b)

small_suc : (r : Result (List ℕ) Halt) (q k len : ℕ) → k + 3 ≤ len → Small r q k → Small r (suc q) len
small_suc (Ok rest) q k len a b = omega (arith, a, b)
small_suc (Err e) q k len a b = omega (arith, a, b)

small_le : (r : Result (List ℕ) Halt) (n k len : ℕ) → k ≤ len → Small r n k → 3 * n ≤ len + 3
small_le (Ok rest) n k len a b = omega (arith, a, b)
small_le (Err e) n k len a b = omega (arith, a, b)

none_small : (len : ℕ) → 3 * 0 + len ≤ len
none_small len = omega arith

cut_small : (p len : ℕ) → 3 * p ≤ len + 3 → 3 * (p + 0) ≤ len + 3
cut_small p len h = omega (arith, h)

one_small : (len : ℕ) → 3 * 1 ≤ len + 3
one_small len = omega arith

no_small : (len : ℕ) → 3 * 0 ≤ len + 3
no_small len = omega arith

line_shorter : (most : ℕ) (bytes : List ℕ) (x : List ℕ × List ℕ) → line_at most bytes ≡ Ok x
    → length x.1 + 2 ≤ length bytes
line_shorter most bytes x e =
    let t = (line_fits most).takes bytes x e in
    let two : length crlf ≡ 2 = refl in
    omega (
      arith,
      ap length t.is,
      length-append t.text x.1,
      ap length t.said.is,
      length-append x.0 crlf,
      two,
    )

length_shorter : (limits : Limits) (bytes : List ℕ) (x : Option ℕ × List ℕ) → length_at limits bytes ≡ Ok x
    → length x.1 + 2 ≤ length bytes
unfolding length_at
length_shorter limits bytes x e =
    let l = bind_ok (line_at limits.line bytes)
    (λ y. Rattle.redis_wire.specs.Scalar.length_of limits.length y.0 >>= λ n. Ok (n, y.1)) x e in
    let s = line_shorter limits.line bytes l.0 l.1 in
    let n = bind_ok (Rattle.redis_wire.specs.Scalar.length_of limits.length l.0.0) (λ n. Ok (n, l.0.1)) x l.2 in
    let same : (n.0, l.0.1) ≡ x = cc in
    subst (λ (y : Option ℕ × List ℕ). length y.1 + 2 ≤ length bytes) same s

-- a step does not change the rest of the bytes
step_left : {A B : Type 0} (s : Result A Halt) (g : A → B) (rest : List ℕ) (x : B × List ℕ)
    → (s >>= λ a. read_as (g a) rest) ≡ Ok x → rest ≡ x.1
step_left {B = B} (Ok a) g rest x e = let same : (g a, rest) ≡ x = cc in ap (λ (y : B × List ℕ). y.1) same
step_left (Err h) g rest x e = absurd cc

item_of_shorter : (limits : Limits) (o : Option Kind) (bytes : List ℕ) (x : ℕ × List ℕ) → item_of limits o bytes ≡ Ok x
    → length x.1 + 2 ≤ length bytes
unfolding item_of
item_of_shorter limits None bytes x e = absurd cc
item_of_shorter limits (Some (kinds.Line k)) bytes x e =
    let l = bind_ok (line_at limits.line bytes) (λ y. line_answer k y.0 >>= λ a. Ok (0, y.1)) x e in
    let same = step_left (line_answer k l.0.0) (λ a. 0) l.0.1 x l.2 in
    subst (λ (r : List ℕ). length r + 2 ≤ length bytes) same (line_shorter limits.line bytes l.0 l.1)
item_of_shorter limits (Some (kinds.Blob k)) bytes x e =
    let l = bind_ok (length_at limits bytes) (λ y. blob_passed k y.0 y.1) x e in
    omega (arith, end_le x.1 l.0.1 (blob_ends k l.0.0 l.0.1 x l.2), length_shorter limits bytes l.0 l.1)
item_of_shorter limits (Some (kinds.Group k)) bytes x e =
    let l = bind_ok (length_at limits bytes) (λ y. count_behind k y.0 >>= λ c. Ok (c, y.1)) x e in
    let same = step_left (count_behind k l.0.0) (λ c. c) l.0.1 x l.2 in
    subst (λ (r : List ℕ). length r + 2 ≤ length bytes) same (length_shorter limits bytes l.0 l.1)

pub item_shorter : (limits : Limits) (bytes : List ℕ) (x : ℕ × List ℕ) → item_at limits bytes ≡ Ok x
    → length x.1 + 3 ≤ length bytes
unfolding item_at
item_shorter limits [] x e = absurd cc
item_shorter limits (b ∷ bytes) x e = omega (arith, item_of_shorter limits (kind_of b) bytes x e)

module _ (inner : List ℕ → Read Answer) (begun : List ℕ → ℕ)
    (small : (bytes : List ℕ) → Small (rest_of (inner bytes)) (begun bytes) (length bytes)) where
  many_small : (n : ℕ) (bytes : List ℕ)
      → Small (rest_of (many inner n bytes)) (many_begun inner begun n bytes) (length bytes)
  unfolding many many_begun
  many_small zero bytes = none_small (length bytes)
  many_small (suc n) bytes =
      subst (λ (r : Result (List ℕ) Halt). Small r
      (begun bytes + begun_behind (rest_of (inner bytes)) (many_begun inner begun n)) (length bytes))
      (sym (many_rest inner n bytes)) (by (inner bytes) (begun bytes) (small bytes) (many_small n))
    where
      by : (r : Read Answer) (p : ℕ) → Small (rest_of r) p (length bytes)
          → ((rest : List ℕ) → Small (rest_of (many inner n rest)) (many_begun inner begun n rest) (length rest))
          → Small (rest_of r >>= λ rest. rest_of (many inner n rest))
          (p + begun_behind (rest_of r) (many_begun inner begun n)) (length bytes)
      by (Ok x) p s h = small_then (rest_of (many inner n x.1)) p (many_begun inner begun n x.1) (length x.1)
          (length bytes) s (h x.1)
      by (Err e) p s h = cut_small p (length bytes) s

  inside_small : (bytes : List ℕ) (i : Read ℕ) → ((y : ℕ × List ℕ) → i ≡ Ok y → length y.1 + 3 ≤ length bytes)
      → Small (i >>= λ y. rest_of (many inner y.0 y.1)) (suc (inside_begun inner begun i)) (length bytes)
  inside_small bytes (Ok y) h = small_suc (rest_of (many inner y.0 y.1)) (many_begun inner begun y.0 y.1) (length y.1)
      (length bytes) (h y refl) (many_small y.0 y.1)
  inside_small bytes (Err e) h = one_small (length bytes)

value_small : (limits : Limits) (d : ℕ) (bytes : List ℕ)
    → Small (rest_of (value_at limits d bytes)) (value_begun limits d bytes) (length bytes)
unfolding value_at value_begun
value_small limits zero bytes = one_small (length bytes)
value_small limits (suc d) bytes =
    subst (λ (r : Result (List ℕ) Halt). Small r
    (suc (inside_begun (value_at limits d) (value_begun limits d) (item_at limits bytes))) (length bytes))
    (sym (value_part limits d bytes))
    (inside_small (value_at limits d) (value_begun limits d) (value_small limits d) bytes (item_at limits bytes)
    (item_shorter limits bytes))

reply_small : (limits : Limits) (bytes : List ℕ) → 3 * reply_begun limits bytes ≤ length bytes + 3
unfolding reply_begun
reply_small limits bytes = by (begins_at limits bytes) (begins_ends limits bytes)
  where
    by : (i : Read Open) → ((x : Open × List ℕ) → i ≡ Ok x → Rattle.redis_wire.specs.Scan.IsEnd x.1 bytes)
        → 3 * asked_begun limits i ≤ length bytes + 3
    by (Ok x) h = small_le (rest_of (many (value_at limits x.0.depth) x.0.left x.1)) (open_begun limits x.0 x.1)
        (length x.1) (length bytes) (end_le x.1 bytes (h x refl))
        (many_small (value_at limits x.0.depth) (value_begun limits x.0.depth) (value_small limits x.0.depth)
        x.0.left x.1)
    by (Err e) h = no_small (length bytes)

small_wider : (r : Result (List ℕ) Halt) (n k len : ℕ) → k ≤ len → Small r n k → Small r n len
small_wider (Ok rest) n k len a b = omega (arith, a, b)
small_wider (Err e) n k len a b = omega (arith, a, b)

reply_part_small : (limits : Limits) (bytes : List ℕ)
    → Small (rest_of (reply_at limits bytes)) (reply_begun limits bytes) (length bytes)
unfolding reply_begun
reply_part_small limits bytes =
    subst (λ (r : Result (List ℕ) Halt). Small r (asked_begun limits (begins_at limits bytes)) (length bytes))
    (sym (reply_part limits bytes)) (by (begins_at limits bytes) (begins_ends limits bytes))
  where
    by : (i : Read Open) → ((x : Open × List ℕ) → i ≡ Ok x → Rattle.redis_wire.specs.Scan.IsEnd x.1 bytes)
        → Small (i >>= λ x. passed limits (x.0 ∷ []) x.1) (asked_begun limits i) (length bytes)
    by (Ok x) h =
        let many_read = many (value_at limits x.0.depth) x.0.left x.1 in
        subst (λ (r : Result (List ℕ) Halt). Small r (open_begun limits x.0 x.1) (length bytes))
        (sym (one_passed limits x.0 x.1))
        (small_wider (rest_of many_read) (open_begun limits x.0 x.1)
        (length x.1) (length bytes) (end_le x.1 bytes (h x refl))
        (many_small (value_at limits x.0.depth) (value_begun limits x.0.depth) (value_small limits x.0.depth)
        x.0.left x.1))
    by (Err e) h = no_small (length bytes)

-- a whole reply has at least three bytes for each of its values
pub whole_small : (limits : Limits) (text : List ℕ) (a : Answer) → length text ≤ 3 * limits.values
    → IsAnyReply limits text a → IsReply limits text a
whole_small limits text a le reply = record { reply = reply; few = few }
  where
    read : reply_at limits (text ++ []) ≡ Ok (a, [])
    read = (reply_fits limits).again text [] a reply

    small : 3 * reply_begun limits (text ++ []) + 0 ≤ length (text ++ [])
    small = subst (λ (r : Read Answer). Small (rest_of r) (reply_begun limits (text ++ [])) (length (text ++ [])))
        read (reply_part_small limits (text ++ []))

    few : Rattle.redis_wire.specs.Count.value_count a ≤ limits.values
    few = omega (
      arith,
      le,
      small,
      reply_counted limits (text ++ []) (a, []) read,
      length-append text [],
    )

-- few bytes have few values
pub few_bytes : (limits : Limits) (bytes : List ℕ) → length bytes / 3 < limits.values
    → bounded_at limits bytes ≡ reply_at limits bytes
few_bytes limits bytes lt = within_is limits bytes (omega (arith, lt, reply_small limits bytes))
