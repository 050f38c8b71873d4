-- What is sent is read back.
use Rattle.std.proofs.Common.{◌≡◌, ◌<◌, ◌≤◌, ◌^◌, ◌-◌, ◌*◌, ℕ, zero, suc, Bool, true, false, List, [], ◌∷◌, ◌++◌, length}
use Rattle.std.proofs.Common.{map, codes, Vec, Global, Some, None, Result, Ok, Err, decimal, refl, sym, ap, subst, arith}
use Rattle.std.proofs.Common.{append-nil, append_assoc}
use Rattle.std.specs.List.{list_all, flat_map}
use Rattle.std.proofs.lemmas.List.{length-map}
use Rattle.redis_resp.specs.Tree.{Tree, nil, bulk, array, map_of_pairs, no_trees, more_trees, list_of_trees, two_by_two}
use Rattle.redis_wire.specs.declared.limits.Limits.{Limits}
use Rattle.redis_wire.specs.declared.kind.GroupKind.TheVariants as groups
use Rattle.redis_wire.specs.declared.kind.LineKind.TheVariants as lines
use Rattle.redis_wire.specs.declared.written.Protocol.{Protocol}
use Rattle.redis_wire.specs.declared.written.Protocol.TheVariants.{Resp2, Resp3}
use Rattle.redis_wire.specs.Reading.{is_inner}
use Rattle.redis_wire.specs.Reply.{value, refused, Answers, values, mixed}
use Rattle.redis_wire.specs.Scalar.{number_of, length_of, line_answer}
use Rattle.redis_wire.specs.Group.{group_answer, group_tree, no_group_answer}
use Rattle.redis_wire.specs.Grammar.{IsValue, AreMembers}
use Rattle.redis_wire.specs.Packed.{crlf, bulk_bytes}
use Rattle.redis_wire.specs.Written.{line_bytes, count_bytes, tree_count, pair_count}
use Rattle.redis_wire.specs.WrittenReply.{blank_end}
use Rattle.redis_wire.specs.ReadBack.{IsWritable, AreWritable, ArePairsWritable}
use Rattle.redis_resp.specs.Number.{numeral, signed_of, signed_within}
use Rattle.redis_wire.proofs.CommandLemmas.{is_length}
use Rattle.redis_wire.proofs.ReadBackLemmas.{line_value, array_value, map_value, one_more_member, nil3_is, tree_is}
use Rattle.redis_wire.proofs.ReadBackLemmas.{reply_of_value, in_turn}
use Rattle.server_commands.specs.declared.answer.Answer.{Answer}
use Rattle.server_commands.specs.declared.answer.Reply.{Reply}
use Rattle.server_commands.specs.declared.answer.Reply.TheVariants.{Done, Refused, Executed}
use Rattle.server_commands.specs.Sent.{Sent, plain, no_array, array_of, rows_of, map_of, Items, no_items, more_items}
use Rattle.server_commands.specs.Sent.{Rows, no_rows, more_rows, sent, tree_of, trees_of, rows_apart, rows_in_turn}
use Rattle.server_commands.specs.Sent.{pairs_of, one_line, outcome_said, outcomes_said, array_said, reply_said}
use Rattle.server_commands.specs.Sent.{item_count, row_count, row_head, sent_bytes, items_bytes, rows_bytes, turns_bytes}
use Rattle.server_commands.specs.Sent.{outcome_bytes, reply_bytes}
use Rattle.server_commands.specs.ReadBack.{OutcomeFits, OutcomesFit, ReplyFits, RepliesAreRead}

-- ---- no array, and errors

no_array2 : (limits : Limits) (d : ℕ) → 20 ≤ limits.line
    → IsValue limits (suc d) (line_bytes 42 (codes "-1")) (value nil)
unfolding IsValue length_of number_of signed_of numeral signed_within no_group_answer
no_array2 limits d line = record {
  first = codes "-1" ++ crlf;
  second = [];
  a = None;
  is = refl;
  at_first = record {
    first = codes "-1" ++ crlf;
    second = [];
    a = codes "-1";
    is = refl;
    at_first = record { is = refl; inner = refl; within = omega (arith, line) };
    at_second = record { is = refl; made = refl };
  };
  at_second = record { is = refl; made = refl };
}

one_inner : (b : ℕ) → is_inner (blank_end b) ≡ true
one_inner b = by (is_inner b) refl
  where
    by : (c : Bool) → is_inner b ≡ c → is_inner (blank_end b) ≡ true
    by true e = rw e e
    by false e = rw e refl

line_is_one : (text : List ℕ) → list_all is_inner (one_line text) ≡ true
line_is_one [] = refl
line_is_one (b ∷ text) = rw (one_inner b, line_is_one text) refl

error_value : (limits : Limits) (d : ℕ) (text : List ℕ) → length text ≤ limits.line
    → IsValue limits (suc d) (line_bytes 45 (one_line text)) (refused (one_line text))
unfolding line_answer
error_value limits d text within =
    let len : length (one_line text) ≡ length text = length-map text blank_end in
    line_value limits d 45 lines.Error (one_line text) _ refl (line_is_one text) (omega (arith, len, within)) refl

-- ---- counts

trees_count : (p : Protocol) (xs : Items) → tree_count (trees_of p xs) ≡ item_count xs
trees_count p no_items = refl
trees_count p (more_items x xs) = ap suc (trees_count p xs)

apart_count : (rs : Rows) → tree_count (rows_apart rs) ≡ row_count rs
apart_count no_rows = refl
apart_count (more_rows name x rs) = ap suc (apart_count rs)

turn_count : (rs : Rows) → tree_count (rows_in_turn rs) ≡ 2 * row_count rs
turn_count no_rows = refl
turn_count (more_rows name x rs) = let e = turn_count rs in omega (arith, e)

pairs_count : (rs : Rows) → pair_count (pairs_of rs) ≡ row_count rs
pairs_count no_rows = refl
pairs_count (more_rows name x rs) = ap suc (pairs_count rs)

-- in RESP3 rows are written as a map is
rows_are_turns : (rs : Rows) → rows_bytes Resp3 rs ≡ turns_bytes Resp3 rs
rows_are_turns no_rows = refl
rows_are_turns (more_rows name x rs) =
    ap (λ (z : List ℕ). (bulk_bytes name ++ sent_bytes Resp3 x) ++ z) (rows_are_turns rs)

-- a name with its value, before others
two_more_members : (R : List ℕ → Rattle.redis_wire.specs.Reply.Answer → Type 0) (n : ℕ) (a b rest : List ℕ) (t u : Tree)
    (ts : List Tree) → R a (value t) → R b (value u) → AreMembers R (2 * n) rest (values ts)
    → AreMembers R (2 * suc n) ((a ++ b) ++ rest) (values (t ∷ u ∷ ts))
two_more_members R n a b rest t u ts at_a at_b members =
    let e : suc (suc (2 * n)) ≡ 2 * suc n = omega arith in
    subst (λ m. AreMembers R m ((a ++ b) ++ rest) (values (t ∷ u ∷ ts))) e
    (subst (λ text. AreMembers R (suc (suc (2 * n))) text (values (t ∷ u ∷ ts))) (sym (append_assoc a b rest))
    (one_more_member R (suc (2 * n)) a (b ++ rest) t (u ∷ ts) at_a
    (one_more_member R (2 * n) b rest u ts at_b members)))

-- -- replies

module _ (limits : Limits) (small : limits.length < 2 ^ 32) (line : 20 ≤ limits.line) where
  row_is : (name : List ℕ) (x : Sent)
      → ((d : ℕ) → IsWritable Resp2 limits d (tree_of Resp2 x)
      → IsValue limits d (sent_bytes Resp2 x) (value (tree_of Resp2 x)))
      → (d : ℕ) → IsWritable Resp2 limits d (array (more_trees (bulk name) (more_trees (tree_of Resp2 x) no_trees)))
      → IsValue limits d (count_bytes 42 2 ++ (bulk_bytes name ++ sent_bytes Resp2 x))
      (value (array (more_trees (bulk name) (more_trees (tree_of Resp2 x) no_trees))))
  row_is name x at zero w = absurd w
  row_is name x at (suc d) w =
      array_value limits d 2 (bulk_bytes name ++ sent_bytes Resp2 x)
      (more_trees (bulk name) (more_trees (tree_of Resp2 x) no_trees)) w.0 small line
      (subst (λ (z : List ℕ). AreMembers (IsValue limits d) 2 z (values (bulk name ∷ tree_of Resp2 x ∷ [])))
      (append-nil (bulk_bytes name ++ sent_bytes Resp2 x))
      (two_more_members (IsValue limits d) 0 (bulk_bytes name) (sent_bytes Resp2 x) [] (bulk name) (tree_of Resp2 x)
      [] (tree_is limits small line Resp2 (bulk name) d w.1.0) (at d w.1.1.0) (record { is = refl; made = refl })))

  mutual
    unfolding in_turn

    sent_is : (p : Protocol) (x : Sent) (d : ℕ) → IsWritable p limits d (tree_of p x)
        → IsValue limits d (sent_bytes p x) (value (tree_of p x))
    sent_is p (plain t) d w = tree_is limits small line p t d w
    sent_is p no_array zero w = absurd w
    sent_is Resp2 no_array (suc d) w = no_array2 limits d line
    sent_is Resp3 no_array (suc d) w = nil3_is limits d
    sent_is p (array_of xs) zero w = absurd w
    sent_is p (array_of xs) (suc d) w =
        let le : item_count xs ≤ limits.length = subst (λ (n : ℕ). n ≤ limits.length) (trees_count p xs) w.0 in
        array_value limits d (item_count xs) (items_bytes p xs) (trees_of p xs) le small line (items_are p xs d w.1)
    sent_is Resp2 (rows_of rs) zero w = absurd w
    sent_is Resp2 (rows_of rs) (suc d) w =
        let le : row_count rs ≤ limits.length = subst (λ (n : ℕ). n ≤ limits.length) (apart_count rs) w.0 in
        array_value limits d (row_count rs) (rows_bytes Resp2 rs) (rows_apart rs) le small line (apart_are rs d w.1)
    sent_is Resp3 (rows_of rs) zero w = absurd w
    sent_is Resp3 (rows_of rs) (suc d) w =
        let le : row_count rs ≤ limits.length = subst (λ (n : ℕ). n ≤ limits.length) (pairs_count rs) w.0 in
        subst (λ (z : List ℕ). IsValue limits (suc d) (count_bytes 37 (row_count rs) ++ z)
        (value (map_of_pairs (pairs_of rs)))) (sym (rows_are_turns rs))
        (map_value limits d (row_count rs) (turns_bytes Resp3 rs) (pairs_of rs) le small line (pairs_are rs d w.1))
    sent_is Resp2 (map_of rs) zero w = absurd w
    sent_is Resp2 (map_of rs) (suc d) w =
        let le : 2 * row_count rs ≤ limits.length = subst (λ (n : ℕ). n ≤ limits.length) (turn_count rs) w.0 in
        array_value limits d (2 * row_count rs) (turns_bytes Resp2 rs) (rows_in_turn rs) le small line
        (turns_are rs d w.1)
    sent_is Resp3 (map_of rs) zero w = absurd w
    sent_is Resp3 (map_of rs) (suc d) w =
        let le : row_count rs ≤ limits.length = subst (λ (n : ℕ). n ≤ limits.length) (pairs_count rs) w.0 in
        map_value limits d (row_count rs) (turns_bytes Resp3 rs) (pairs_of rs) le small line (pairs_are rs d w.1)

    items_are : (p : Protocol) (xs : Items) (d : ℕ) → AreWritable p limits d (trees_of p xs)
        → AreMembers (IsValue limits d) (item_count xs) (items_bytes p xs) (values (list_of_trees (trees_of p xs)))
    items_are p no_items d w = record { is = refl; made = refl }
    items_are p (more_items x xs) d w =
        one_more_member (IsValue limits d) (item_count xs) (sent_bytes p x) (items_bytes p xs) (tree_of p x)
        (list_of_trees (trees_of p xs)) (sent_is p x d w.0) (items_are p xs d w.1)

    apart_are : (rs : Rows) (d : ℕ) → AreWritable Resp2 limits d (rows_apart rs)
        → AreMembers (IsValue limits d) (row_count rs) (rows_bytes Resp2 rs) (values (list_of_trees (rows_apart rs)))
    apart_are no_rows d w = record { is = refl; made = refl }
    apart_are (more_rows name x rs) d w =
        one_more_member (IsValue limits d) (row_count rs) (count_bytes 42 2 ++ (bulk_bytes name ++ sent_bytes Resp2 x))
        (rows_bytes Resp2 rs) (array (more_trees (bulk name) (more_trees (tree_of Resp2 x) no_trees)))
        (list_of_trees (rows_apart rs)) (row_is name x (λ e v. sent_is Resp2 x e v) d w.0) (apart_are rs d w.1)

    turns_are : (rs : Rows) (d : ℕ) → AreWritable Resp2 limits d (rows_in_turn rs)
        → AreMembers (IsValue limits d) (2 * row_count rs) (turns_bytes Resp2 rs)
        (values (list_of_trees (rows_in_turn rs)))
    turns_are no_rows d w = record { is = refl; made = refl }
    turns_are (more_rows name x rs) d w =
        two_more_members (IsValue limits d) (row_count rs) (bulk_bytes name) (sent_bytes Resp2 x) (turns_bytes Resp2 rs)
        (bulk name) (tree_of Resp2 x) (list_of_trees (rows_in_turn rs))
        (tree_is limits small line Resp2 (bulk name) d w.0) (sent_is Resp2 x d w.1.0) (turns_are rs d w.1.1)

    pairs_are : (rs : Rows) (d : ℕ) → ArePairsWritable Resp3 limits d (pairs_of rs)
        → AreMembers (IsValue limits d) (2 * row_count rs) (turns_bytes Resp3 rs) (values (in_turn (pairs_of rs)))
    pairs_are no_rows d w = record { is = refl; made = refl }
    pairs_are (more_rows name x rs) d w =
        two_more_members (IsValue limits d) (row_count rs) (bulk_bytes name) (sent_bytes Resp3 x) (turns_bytes Resp3 rs)
        (bulk name) (tree_of Resp3 x) (in_turn (pairs_of rs))
        (tree_is limits small line Resp3 (bulk name) d w.0) (sent_is Resp3 x d w.1) (pairs_are rs d w.2)

  -- -- the outcomes of commands

  outcome_is : (p : Protocol) (d : ℕ) (o : Result Answer (Vec ℕ Global)) → OutcomeFits p limits d o
      → IsValue limits d (outcome_bytes p o) (outcome_said p o)
  outcome_is p d (Ok a) w = sent_is p (sent a) d w
  outcome_is p zero (Err text) w = absurd (omega (arith, w.0))
  outcome_is p (suc d) (Err text) w = error_value limits d text.items w.1

  outcomes_are : (p : Protocol) (d : ℕ) (os : List (Result Answer (Vec ℕ Global))) → OutcomesFit p limits d os
      → AreMembers (IsValue limits d) (length os) (flat_map (outcome_bytes p) os) (outcomes_said p os)
  outcomes_are p d [] w = record { is = refl; made = refl }
  outcomes_are p d (o ∷ os) w = record {
    first = outcome_bytes p o;
    second = flat_map (outcome_bytes p) os;
    a = outcome_said p o;
    is = refl;
    at_first = outcome_is p d o w.0;
    at_second = record {
      first = flat_map (outcome_bytes p) os;
      second = [];
      a = outcomes_said p os;
      is = sym (append-nil (flat_map (outcome_bytes p) os));
      at_first = outcomes_are p d os w.1;
      at_second = record { is = refl; made = refl };
    };
  }

  array_made : (xs : Answers) → group_answer groups.Array xs ≡ Ok (array_said xs)
  unfolding group_tree
  array_made (values ts) = refl
  array_made (mixed xs) = refl

  executed_is : (p : Protocol) (d : ℕ) (os : List (Result Answer (Vec ℕ Global))) → length os ≤ limits.length
      → OutcomesFit p limits d os
      → IsValue limits (suc d) (count_bytes 42 (length os) ++ flat_map (outcome_bytes p) os)
      (array_said (outcomes_said p os))
  unfolding IsValue
  executed_is p d os le w = record {
    first = decimal (length os) ++ crlf;
    second = flat_map (outcome_bytes p) os;
    a = Some (length os);
    is = refl;
    at_first = is_length limits (length os) le (omega arith) (omega arith);
    at_second = record {
      first = flat_map (outcome_bytes p) os;
      second = [];
      a = outcomes_said p os;
      is = sym (append-nil (flat_map (outcome_bytes p) os));
      at_first = outcomes_are p d os w;
      at_second = record { is = refl; made = array_made (outcomes_said p os) };
    };
  }

pub replies_are_read : RepliesAreRead
replies_are_read p limits (Done a) small line w few = record {
  few = few;
  reply =
      reply_of_value limits (sent_bytes p (sent a)) (value (tree_of p (sent a)))
      (outcome_is limits small line p limits.depth (Ok a) w);
}
replies_are_read p limits (Refused text) small line w few = record {
  few = few;
  reply =
      reply_of_value limits (outcome_bytes p (Err text)) (outcome_said p (Err text))
      (outcome_is limits small line p limits.depth (Err text) w);
}
replies_are_read p limits (Executed v) small line w few =
    let d : ℕ = limits.depth - 1 in
    let e : suc d ≡ limits.depth = omega (arith, w.0) in
    record {
      few = few;
      reply =
          reply_of_value limits (reply_bytes p (Executed v)) (reply_said p (Executed v))
          (subst (λ n. IsValue limits n (reply_bytes p (Executed v)) (reply_said p (Executed v))) e
          (executed_is limits small line p d v.items w.1 w.2));
    }
