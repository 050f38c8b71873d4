-- What is written is read back.
use Rattle.std.proofs.Common.{◌≡◌, ◌<◌, ◌≤◌, ◌^◌, ◌-◌, ◌*◌, ◌==◌, ℕ, zero, suc, pos, negsuc, Bool, true, false}
use Rattle.std.proofs.Common.{List, [], ◌∷◌, ◌++◌, length, codes, Some, None, Ok, decimal, refl, sym, ap, subst, arith}
use Rattle.std.proofs.Common.{append-nil, option_map}
use Rattle.std.specs.Fmt.{signed_decimal}
use Rattle.std.specs.List.{list_all}
use Rattle.std.proofs.lemmas.Bool.{lt-ltb, eqb-true}
use Rattle.std.proofs.lemmas.Fmt.{decimal_nonempty, length-decimal-le}
use Rattle.redis_resp.specs.Tree.{Tree, nil, int, bulk, array, simple, okay, map_of_pairs, Trees, no_trees, more_trees}
use Rattle.redis_resp.specs.Tree.{Pairs, no_pairs, more_pairs, trees, pairs, list_of_trees, list_of_pairs, two_by_two}
use Rattle.redis_resp.specs.Number.{numeral, signed_of, signed_within}
use Rattle.redis_wire.specs.declared.limits.Limits.{Limits}
use Rattle.redis_wire.specs.declared.kind.Kind.TheVariants as kinds
use Rattle.redis_wire.specs.declared.kind.LineKind.{LineKind}
use Rattle.redis_wire.specs.declared.kind.LineKind.TheVariants as lines
use Rattle.redis_wire.specs.declared.written.Protocol.{Protocol}
use Rattle.redis_wire.specs.declared.written.Protocol.TheVariants.{Resp2, Resp3}
use Rattle.redis_wire.specs.Kind.{kind_of}
use Rattle.redis_wire.specs.Reading.{is_inner}
use Rattle.redis_wire.specs.Reply.{Answer, value, refused, values}
use Rattle.redis_wire.specs.Scalar.{number_of, length_of, line_answer, no_blob_answer}
use Rattle.redis_wire.specs.Group.{group_tree}
use Rattle.redis_wire.specs.Grammar.{IsOfKind, IsValue, IsAnyReply, IsPush, Where, AreMembers}
use Rattle.redis_wire.specs.Packed.{crlf}
use Rattle.redis_wire.specs.Written.{line_bytes, count_bytes, text_bytes, tree_count, pair_count, tree_bytes}
use Rattle.redis_wire.specs.Written.{trees_bytes, pairs_bytes}
use Rattle.redis_wire.specs.WrittenReply.{error_bytes}
use Rattle.redis_wire.specs.ReadBack.{FitsLine, IsStatus, IsWritable, AreWritable, ArePairsWritable, AnswersAreRead}
use Rattle.redis_wire.proofs.DigitLemmas.{inner_digits, number_of_digits_is}
use Rattle.redis_wire.proofs.CommandLemmas.{decimal_digits, is_length, is_bulk}

-- ---- lines

pub line_value : (limits : Limits) (d mark : ℕ) (k : LineKind) (text : List ℕ) (a : Answer)
    → kind_of mark ≡ Some (kinds.Line k) → list_all is_inner text ≡ true → length text ≤ limits.line
    → line_answer k text ≡ Ok a → IsValue limits (suc d) (line_bytes mark text) a
unfolding IsValue
line_value limits d mark k text a e inner within made =
    subst (λ o. IsOfKind limits (IsValue limits d) o (text ++ crlf) a) (sym e) (record {
      first = text ++ crlf;
      second = [];
      a = text;
      is = sym (append-nil (text ++ crlf));
      at_first = record { is = refl; inner = inner; within = within };
      at_second = record { is = refl; made = made };
    })

number_of_pos : (n : ℕ) → n < 2 ^ 63 → number_of (decimal n) ≡ Some (pos n)
number_of_pos n small =
    number_of_digits_is (decimal n) n (decimal_nonempty n (omega arith)) (decimal_digits n (omega arith)) small

numeral_decimal : (n : ℕ) → n < 2 ^ 64 → numeral (decimal n) ≡ Some n
unfolding numeral
numeral_decimal n small =
    let h = decimal_digits n small in
    rw (lt-ltb 0 (length (decimal n)) (decimal_nonempty n small), h.each, h.weighs) refl

number_of_neg : (n : ℕ) → n < 2 ^ 63 → number_of (45 ∷ decimal (suc n)) ≡ Some (negsuc n)
unfolding number_of signed_of signed_within
number_of_neg n small =
    let small64 : suc n < 2 ^ 64 = omega arith in
    rw (numeral_decimal (suc n) small64, lt-ltb n (2 ^ 63) small) refl

int_pos : (limits : Limits) (d n : ℕ) → n < 2 ^ 63 → 20 ≤ limits.line
    → IsValue limits (suc d) (line_bytes 58 (signed_decimal (pos n))) (value (int (pos n)))
unfolding line_answer
int_pos limits d n small line =
    line_value limits d 58 lines.Int (decimal n) _ refl
    (inner_digits (decimal n) (decimal_digits n (omega arith)).each)
    (omega (arith, length-decimal-le 20 n (omega arith) (omega arith) (omega arith)))
    (rw (number_of_pos n small) refl)

int_neg : (limits : Limits) (d n : ℕ) → n < 2 ^ 63 → 20 ≤ limits.line
    → IsValue limits (suc d) (line_bytes 58 (signed_decimal (negsuc n))) (value (int (negsuc n)))
unfolding line_answer
int_neg limits d n small line =
    let inner = inner_digits (decimal (suc n)) (decimal_digits (suc n) (omega arith)).each in
    line_value limits d 58 lines.Int (45 ∷ decimal (suc n)) _ refl
    (rw inner refl)
    (omega (arith, length-decimal-le 19 (suc n) (omega arith) (omega arith) (omega arith)))
    (rw (number_of_neg n small) refl)

status_is : (limits : Limits) (d : ℕ) (text : List ℕ) → IsStatus limits text
    → IsValue limits (suc d) (text_bytes text) (value (simple text))
unfolding text_bytes line_answer
status_is limits d text s = rw s.fits.inner
    (line_value limits d 43 lines.Status text _ refl s.fits.inner
    s.fits.within (rw (s.other, s.is_text) refl))

okay_is : (limits : Limits) (d : ℕ) → 20 ≤ limits.line
    → IsValue limits (suc d) (line_bytes 43 (codes "OK")) (value okay)
unfolding line_answer
okay_is limits d line =
    line_value limits d 43 lines.Status (codes "OK") _ refl refl
    (omega (arith, line)) refl

pub nil3_is : (limits : Limits) (d : ℕ) → IsValue limits (suc d) (line_bytes 95 []) (value nil)
unfolding line_answer
nil3_is limits d =
    line_value limits d 95 lines.Null [] _ refl refl (omega arith)
    refl

pub nil2_is : (limits : Limits) (d : ℕ) → 20 ≤ limits.line
    → IsValue limits (suc d) (line_bytes 36 (codes "-1")) (value nil)
unfolding IsValue length_of number_of signed_of numeral signed_within no_blob_answer
nil2_is limits d line = record {
  first = codes "-1" ++ crlf;
  second = [];
  a = None;
  is = refl;
  at_first = record {
    first = codes "-1" ++ crlf;
    second = [];
    a = codes "-1";
    is = refl;
    at_first = record { is = refl; inner = refl; within = omega (arith, line) };
    at_second = record { is = refl; made = refl };
  };
  at_second = record { is = refl; made = refl };
}

-- ---- arrays and maps

pub trees_again : (ts : Trees) → trees (list_of_trees ts) ≡ ts
trees_again no_trees = refl
trees_again (more_trees t ts) = ap (λ (z : Trees). more_trees t z) (trees_again ts)

pub pairs_again : (ps : Pairs) → pairs (list_of_pairs ps) ≡ ps
pairs_again no_pairs = refl
pairs_again (more_pairs k x ps) = ap (λ (z : Pairs). more_pairs k x z) (pairs_again ps)

-- keys and values, in turn
unfoldable pub in_turn : Pairs → List Tree
in_turn no_pairs = []
in_turn (more_pairs k x ps) = k ∷ x ∷ in_turn ps

pub two_by_two_again : (ps : Pairs) → two_by_two (in_turn ps) ≡ Some (list_of_pairs ps)
unfolding in_turn
two_by_two_again no_pairs = refl
two_by_two_again (more_pairs k x ps) = ap (option_map (λ (z : List (Tree × Tree)). (k, x) ∷ z)) (two_by_two_again ps)

pub array_value : (limits : Limits) (d n : ℕ) (body : List ℕ) (ts : Trees) → n ≤ limits.length → limits.length < 2 ^ 32
    → 20 ≤ limits.line → AreMembers (IsValue limits d) n body (values (list_of_trees ts))
    → IsValue limits (suc d) (count_bytes 42 n ++ body) (value (array ts))
unfolding IsValue group_tree
array_value limits d n body ts le small line members = record {
  first = decimal n ++ crlf;
  second = body;
  a = Some n;
  is = refl;
  at_first = is_length limits n le (omega arith) (omega arith);
  at_second = record {
    first = body;
    second = [];
    a = values (list_of_trees ts);
    is = sym (append-nil body);
    at_first = members;
    at_second = record { is = refl; made = rw (trees_again ts) refl };
  };
}

pub map_value : (limits : Limits) (d n : ℕ) (body : List ℕ) (ps : Pairs) → n ≤ limits.length → limits.length < 2 ^ 32
    → 20 ≤ limits.line → AreMembers (IsValue limits d) (2 * n) body (values (in_turn ps))
    → IsValue limits (suc d) (count_bytes 37 n ++ body) (value (map_of_pairs ps))
unfolding IsValue group_tree
map_value limits d n body ps le small line members = record {
  first = decimal n ++ crlf;
  second = body;
  a = Some n;
  is = refl;
  at_first = is_length limits n le (omega arith) (omega arith);
  at_second = record {
    first = body;
    second = [];
    a = values (in_turn ps);
    is = sym (append-nil body);
    at_first = members;
    at_second = record { is = refl; made = rw (two_by_two_again ps, pairs_again ps) refl };
  };
}

pub one_more_member : (R : List ℕ → Answer → Type 0) (n : ℕ) (first rest : List ℕ) (t : Tree) (ts : List Tree)
    → R first (value t) → AreMembers R n rest (values ts)
    → AreMembers R (suc n) (first ++ rest) (values (t ∷ ts))
one_more_member R n first rest t ts at members = record {
  first = first;
  second = rest;
  a = value t;
  is = refl;
  at_first = at;
  at_second = record {
    first = rest;
    second = [];
    a = values ts;
    is = sym (append-nil rest);
    at_first = members;
    at_second = record { is = refl; made = refl };
  };
}

module _ (limits : Limits) (small : limits.length < 2 ^ 32) (line : 20 ≤ limits.line) where
  mutual
    unfolding in_turn

    pub tree_is : (p : Protocol) (t : Tree) (d : ℕ) → IsWritable p limits d t
        → IsValue limits d (tree_bytes p t) (value t)
    tree_is p t zero w = absurd w
    tree_is Resp2 nil (suc d) w = nil2_is limits d line
    tree_is Resp3 nil (suc d) w = nil3_is limits d
    tree_is p (int (pos n)) (suc d) w = int_pos limits d n w line
    tree_is p (int (negsuc n)) (suc d) w = int_neg limits d n w line
    tree_is p (bulk b) (suc d) w = is_bulk limits d b w small (omega (arith, line))
    tree_is p (array ts) (suc d) w =
        array_value limits d (tree_count ts) (trees_bytes p ts) ts w.0 small line (trees_are p ts d w.1)
    tree_is p (simple text) (suc d) w = status_is limits d text w
    tree_is p okay (suc d) w = okay_is limits d line
    tree_is Resp2 (map_of_pairs ps) (suc d) w = absurd w
    tree_is Resp3 (map_of_pairs ps) (suc d) w =
        map_value limits d (pair_count ps) (pairs_bytes Resp3 ps) ps w.0 small line (pairs_are Resp3 ps d w.1)
    tree_is p t (suc d) w = absurd w

    trees_are : (p : Protocol) (ts : Trees) (d : ℕ) → AreWritable p limits d ts
        → AreMembers (IsValue limits d) (tree_count ts) (trees_bytes p ts) (values (list_of_trees ts))
    trees_are p no_trees d w = record { is = refl; made = refl }
    trees_are p (more_trees t ts) d w =
        one_more_member (IsValue limits d) (tree_count ts) (tree_bytes p t) (trees_bytes p ts) t (list_of_trees ts)
        (tree_is p t d w.0) (trees_are p ts d w.1)

    pairs_are : (p : Protocol) (ps : Pairs) (d : ℕ) → ArePairsWritable p limits d ps
        → AreMembers (IsValue limits d) (2 * pair_count ps) (pairs_bytes p ps) (values (in_turn ps))
    pairs_are p no_pairs d w = record { is = refl; made = refl }
    pairs_are p (more_pairs k x ps) d w =
        let n = pair_count ps in
        let e : suc (suc (2 * n)) ≡ 2 * suc n = omega arith in
        subst (λ m. AreMembers (IsValue limits d) m (pairs_bytes p (more_pairs k x ps))
        (values (in_turn (more_pairs k x ps)))) e
        (one_more_member (IsValue limits d) (suc (2 * n)) (tree_bytes p k) (tree_bytes p x ++ pairs_bytes p ps) k
        (x ∷ in_turn ps) (tree_is p k d w.0)
        (one_more_member (IsValue limits d) (2 * n) (tree_bytes p x) (pairs_bytes p ps) x (in_turn ps)
        (tree_is p x d w.1) (pairs_are p ps d w.2)))

  error_is : (p : Protocol) (d : ℕ) (text : List ℕ) → FitsLine limits text
      → IsValue limits (suc d) (error_bytes p text) (refused text)
  unfolding error_bytes line_answer
  error_is p d text f = rw f.inner
      (line_value limits d 45 lines.Error text _ refl f.inner
      f.within refl)

-- ---- whole replies

no_value : (limits : Limits) (d : ℕ) (a : Answer) → IsValue limits d [] a → ⊥
unfolding IsValue
no_value limits zero a s = s
no_value limits (suc d) a s = s

-- a value does not begin with the first byte of a message
no_message : (limits : Limits) (d b : ℕ) (text : List ℕ) (a : Answer) → (b == 62) ≡ true
    → IsValue limits d (b ∷ text) a → ⊥
unfolding IsValue
no_message limits zero b text a e s = s
no_message limits (suc d) b text a e s =
    subst (λ (n : ℕ). IsOfKind limits (IsValue limits d) (kind_of n) text a) (eqb-true b 62 e) s

pub reply_of_value : (limits : Limits) (text : List ℕ) (a : Answer) → IsValue limits limits.depth text a
    → IsAnyReply limits text a
unfolding IsAnyReply
reply_of_value limits [] a s = absurd (no_value limits limits.depth a s)
reply_of_value limits (b ∷ text) a s = by (b == 62) refl
  where
    by : (c : Bool) → (b == 62) ≡ c
        → Where (b == 62) (IsPush limits text a) (IsValue limits limits.depth (b ∷ text) a)
    by true e = absurd (no_message limits limits.depth b text a e s)
    by false e = rw e s

pub answers_are_read : AnswersAreRead
answers_are_read p limits (value t) small line w few = record {
  few = few;
  reply =
      reply_of_value limits (tree_bytes p t) (value t) (tree_is limits small line p t limits.depth w);
}
answers_are_read p limits (refused text) small line w few =
    let d : ℕ = limits.depth - 1 in
    let e : suc d ≡ limits.depth = omega (arith, w.0) in
    record {
      few = few;
      reply = reply_of_value limits (error_bytes p text) (refused text)
          (subst (λ n. IsValue limits n (error_bytes p text) (refused text)) e
          (error_is limits small line p d text w.1));
    }
answers_are_read p limits a small line w few = absurd w
