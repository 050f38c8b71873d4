-- Reading a reply starts as many values as the reply has.
use Rattle.std.proofs.Common.{◌≡◌, ℕ, zero, suc, ◌+◌, ◌-◌, ◌==◌, ◌&&◌, Bool, true, false, cond, ltb, ℤ, List, [], ◌∷◌}
use Rattle.std.proofs.Common.{◌++◌, length, take, drop, map, codes, Option, Some, None, Result, Ok, Err, refl, sym, ap}
use Rattle.std.proofs.Common.{◌∙◌, arith}
use Rattle.std.specs.Prelude.{option_map, slice_index}
use Rattle.std.specs.Str.{is_utf8, bytes_eq}
use Rattle.redis_resp.specs.Tree.{Tree, nil, int, bulk, array, simple, okay, map_of_pairs, attribute, set, boolean}
use Rattle.redis_resp.specs.Tree.{verbatim, trees, pairs, two_by_two}
use Rattle.redis_wire.specs.declared.limits.Limits.{Limits}
use Rattle.redis_wire.specs.declared.fault.Fault.TheVariants.{BadNull, BadBoolean, BadVerbatim, TooDeep}
use Rattle.redis_wire.specs.declared.kind.Kind.{Kind}
use Rattle.redis_wire.specs.declared.kind.Kind.TheVariants as kinds
use Rattle.redis_wire.specs.declared.kind.LineKind.{LineKind}
use Rattle.redis_wire.specs.declared.kind.LineKind.TheVariants as lines
use Rattle.redis_wire.specs.declared.kind.BlobKind.{BlobKind}
use Rattle.redis_wire.specs.declared.kind.BlobKind.TheVariants as blobs
use Rattle.redis_wire.specs.declared.kind.GroupKind.{GroupKind}
use Rattle.redis_wire.specs.declared.kind.GroupKind.TheVariants as groups
use Rattle.redis_wire.specs.declared.scanning.Open.{Open}
use Rattle.redis_wire.specs.Kind.{kind_of}
use Rattle.redis_wire.specs.Reading.{Halt, bad, Read, ◌>>=◌, rest_of, line_at, blob_at}
use Rattle.redis_wire.specs.Reply.{Answer, value, refused, group, pushed, answer_list, Answers, values, mixed, join}
use Rattle.redis_wire.specs.Reply.{one}
use Rattle.redis_wire.specs.Reply.{one_by_one}
use Rattle.redis_wire.specs.Scalar.{number_of, text_answer, written_answer, int_answer, line_answer}
use Rattle.redis_wire.specs.Scalar.{blob_answer, no_blob_answer}
use Rattle.redis_wire.specs.Group.{member_count, many, pairs_or_fault, pairs_of, map_answer, attribute_round}
use Rattle.redis_wire.specs.Group.{attribute_answer, group_tree, group_answer, no_group_answer}
use Rattle.redis_wire.specs.Level.{length_at, line_value_at, blob_body_at, blob_value_at, group_body_at, group_value_at}
use Rattle.redis_wire.specs.Level.{by_kind, level, value_at}
use Rattle.redis_wire.specs.Push.{kind_at, push_body_at, push_at, reply_at}
use Rattle.redis_wire.specs.Count.{values_of, values_of_trees, values_of_pairs, value_count, values_among}
use Rattle.redis_wire.specs.Item.{body_passed, blob_passed, count_behind, item_of, item_at, push_begins}
use Rattle.redis_wire.specs.Item.{push_begins_at, begins_at}
use Rattle.redis_wire.specs.Bounded.{begun_behind, many_begun, inside_begun, value_begun, asked_begun}
use Rattle.redis_wire.specs.Bounded.{reply_begun}
use Rattle.redis_wire.proofs.FitsLemmas.{bind_ok}
use Rattle.redis_wire.proofs.AttributeLemmas.{last_of}
use Rattle.redis_wire.proofs.ManyLemmas.{one_by_one_joined, one_alone}

-- ---- lists

plus_none : (n : ℕ) → n + 0 ≡ n
plus_none n = omega arith

none_plus : (n : ℕ) → n ≡ 0 + n
none_plus n = omega arith

plus_group : (a b c : ℕ) → a + (b + c) ≡ (a + b) + c
plus_group a b c = omega arith

-- the number of values in a sequence
abbrev all_values : Answers → ℕ
all_values ms = values_among (answer_list (one_by_one ms))

among_append : (xs ys : List Answer)
    → values_among (answer_list (xs ++ ys)) ≡ values_among (answer_list xs) + values_among (answer_list ys)
among_append [] ys = none_plus (values_among (answer_list ys))
among_append (x ∷ xs) ys = ap (λ (n : ℕ). value_count x + n) (among_append xs ys)
    ∙ plus_group (value_count x) (values_among (answer_list xs)) (values_among (answer_list ys))

all_joined : (a b : Answers) → all_values (join a b) ≡ all_values a + all_values b
all_joined a b = ap (λ (xs : List Answer). values_among (answer_list xs)) (one_by_one_joined a b)
    ∙ among_append (one_by_one a) (one_by_one b)

all_one : (a : Answer) → all_values (one a) ≡ value_count a
all_one a = ap (λ (xs : List Answer). values_among (answer_list xs)) (one_alone a) ∙ plus_none (value_count a)

-- a list of trees as replies
trees_among : (ts : List Tree) → values_among (answer_list (map value ts)) ≡ values_of_trees (trees ts)
trees_among [] = refl
trees_among (t ∷ ts) = ap (λ (n : ℕ). values_of t + n) (trees_among ts)

-- ---- groups

-- the result of a step
abbrev made_of : Answer → Result Answer Halt
made_of a = Ok a

-- a reply has as many values as the one that it was made of
same_count : (a b : Answer) (n : ℕ) → made_of a ≡ Ok b → value_count a ≡ n → value_count b ≡ n
same_count a b n e h = let same : a ≡ b = cc in ap value_count (sym same) ∙ h

pairs_counted : (ts : List Tree) (ps : List (Tree × Tree)) → two_by_two ts ≡ Some ps
    → values_of_pairs (pairs ps) ≡ values_of_trees (trees ts)
pairs_counted [] ps e = let same : [] ≡ ps =
    cc in ap (λ (qs : List (Tree × Tree)). values_of_pairs (pairs qs)) (sym same)
pairs_counted (t ∷ []) ps e = absurd cc
pairs_counted (k ∷ x ∷ ts) ps e = by (two_by_two ts) (pairs_counted ts) e
  where
    by : (o : Option (List (Tree × Tree)))
        → ((qs : List (Tree × Tree)) → o ≡ Some qs → values_of_pairs (pairs qs) ≡ values_of_trees (trees ts))
        → option_map (λ qs. (k, x) ∷ qs) o ≡ Some ps
        → values_of_pairs (pairs ps) ≡ values_of k + (values_of x + values_of_trees (trees ts))
    by None h e = absurd cc
    by (Some qs) h e =
        let same : (k, x) ∷ qs ≡ ps = cc in
        ap (λ (rs : List (Tree × Tree)). values_of_pairs (pairs rs)) (sym same)
        ∙ ap (λ (n : ℕ). values_of k + (values_of x + n)) (h qs refl)

map_counted : (ts : List Tree) (a : Answer) → map_answer ts ≡ Ok a → value_count a ≡ suc (values_of_trees (trees ts))
map_counted ts a e = by (two_by_two ts) (pairs_counted ts) e
  where
    by : (o : Option (List (Tree × Tree)))
        → ((qs : List (Tree × Tree)) → o ≡ Some qs → values_of_pairs (pairs qs) ≡ values_of_trees (trees ts))
        → (pairs_or_fault o >>= λ ps. Ok (value (map_of_pairs (pairs ps)))) ≡ Ok a
        → value_count a ≡ suc (values_of_trees (trees ts))
    by None h e = absurd cc
    by (Some qs) h e = same_count (value (map_of_pairs (pairs qs))) a _ e (ap (λ (n : ℕ). suc n) (h qs refl))

last_apart : (t : Tree) (ts : List Tree) → (front : List Tree) × (u : Tree) × (t ∷ ts ≡ front ++ u ∷ [])
last_apart t [] = ([], t, refl)
last_apart t (u ∷ ts) = let r = last_apart u ts in (t ∷ r.0, r.1, ap (λ (xs : List Tree). t ∷ xs) r.2)

last_counted : (ts : List Tree) (u : Tree)
    → values_of_trees (trees (ts ++ u ∷ [])) ≡ values_of_trees (trees ts) + values_of u
last_counted [] u = plus_none (values_of u) ∙ none_plus (values_of u)
last_counted (t ∷ ts) u = ap (λ (n : ℕ). values_of t + n) (last_counted ts u)
    ∙ plus_group (values_of t) (values_of_trees (trees ts)) (values_of u)

round_counted : (u : Tree) (ts : List Tree) (a : Answer) → attribute_round (Some u) (pairs_of ts) ≡ Ok a
    → value_count a ≡ suc (values_of_trees (trees ts) + values_of u)
round_counted u ts a e = by (two_by_two ts) (pairs_counted ts) e
  where
    by : (o : Option (List (Tree × Tree)))
        → ((qs : List (Tree × Tree)) → o ≡ Some qs → values_of_pairs (pairs qs) ≡ values_of_trees (trees ts))
        → (pairs_or_fault o >>= λ ps. Ok (value (attribute u (pairs ps)))) ≡ Ok a
        → value_count a ≡ suc (values_of_trees (trees ts) + values_of u)
    by None h e = absurd cc
    by (Some qs) h e = same_count (value (attribute u (pairs qs))) a _ e
        (ap (λ (n : ℕ). suc (n + values_of u)) (h qs refl))

attribute_counted : (ts : List Tree) (a : Answer) → attribute_answer ts ≡ Ok a
    → value_count a ≡ suc (values_of_trees (trees ts))
attribute_counted [] a e = absurd cc
attribute_counted (t ∷ ts) a e =
    let l = last_apart t ts in
    let made : attribute_round (Some l.1) (pairs_of l.0) ≡ Ok a =
    sym (ap attribute_answer l.2 ∙ last_of l.0 l.1) ∙ e in
    round_counted l.1 l.0 a made
    ∙ ap (λ (n : ℕ). suc n) (sym (ap (λ (xs : List Tree). values_of_trees (trees xs)) l.2 ∙ last_counted l.0 l.1))

tree_counted : (k : GroupKind) (ts : List Tree) (a : Answer) → group_tree k ts ≡ Ok a
    → value_count a ≡ suc (values_of_trees (trees ts))
unfolding group_tree
tree_counted groups.Array ts a e = same_count (value (array (trees ts))) a _ e refl
tree_counted groups.Set ts a e = same_count (value (set (trees ts))) a _ e refl
tree_counted groups.Map ts a e = map_counted ts a e
tree_counted groups.Attribute ts a e = attribute_counted ts a e

group_counted : (k : GroupKind) (ms : Answers) (a : Answer) → group_answer k ms ≡ Ok a
    → value_count a ≡ suc (all_values ms)
group_counted k (values ts) a e = tree_counted k ts a e ∙ ap (λ (n : ℕ). suc n) (sym (trees_among ts))
group_counted k (mixed xs) a e = same_count (group k (answer_list xs)) a _ e refl

-- ---- values with no members

text_one : (line : List ℕ) (a : Answer) → text_answer line ≡ Ok a → value_count a ≡ 1
text_one line a e = by (is_utf8 line) e
  where
    by : (b : Bool) → cond {A = Result Answer Halt} b (Ok (value (simple line))) (Ok (value (bulk line))) ≡ Ok a
        → value_count a ≡ 1
    by true h = same_count (value (simple line)) a 1 h refl
    by false h = same_count (value (bulk line)) a 1 h refl

written_one : (b : Bool) (line : List ℕ) (a : Answer) → written_answer b line ≡ Ok a → value_count a ≡ 1
written_one true line a e = text_one line a e
written_one false line a e = absurd cc

int_one : (o : Option ℤ) (a : Answer) → int_answer o ≡ Ok a → value_count a ≡ 1
int_one None a e = absurd cc
int_one (Some z) a e = same_count (value (int z)) a 1 e refl

status_one : (b : Bool) (line : List ℕ) (a : Answer)
    → cond {A = Result Answer Halt} b (Ok (value okay)) (text_answer line) ≡ Ok a → value_count a ≡ 1
status_one true line a e = same_count (value okay) a 1 e refl
status_one false line a e = text_one line a e

null_one : (b : Bool) (a : Answer) → cond {A = Result Answer Halt} b (Ok (value nil)) (Err (bad BadNull)) ≡ Ok a
    → value_count a ≡ 1
null_one true a e = same_count (value nil) a 1 e refl
null_one false a e = absurd cc

boolean_one : (b c : Bool) (a : Answer)
    → cond {A = Result Answer Halt} b (Ok (value (boolean true)))
    (cond {A = Result Answer Halt} c (Ok (value (boolean false))) (Err (bad BadBoolean))) ≡ Ok a → value_count a ≡ 1
boolean_one true c a e = same_count (value (boolean true)) a 1 e refl
boolean_one false true a e = same_count (value (boolean false)) a 1 e refl
boolean_one false false a e = absurd cc

line_one : (k : LineKind) (line : List ℕ) (a : Answer) → line_answer k line ≡ Ok a → value_count a ≡ 1
unfolding line_answer
line_one lines.Status line a e = status_one (bytes_eq line (codes "OK")) line a e
line_one lines.Error line a e = same_count (refused line) a 1 e refl
line_one lines.Int line a e = int_one (number_of line) a e
line_one lines.Null line a e = null_one (length line == 0) a e
line_one lines.Boolean line a e = boolean_one (bytes_eq line (codes "t")) (bytes_eq line (codes "f")) a e
line_one lines.Double line a e = written_one _ line a e
line_one lines.BigNumber line a e = written_one _ line a e

verbatim_one : (b c d : Bool) (s t : List ℕ) (a : Answer)
    → cond {A = Result Answer Halt} b (Err (bad BadVerbatim)) (cond {A = Result Answer Halt} c
    (cond {A = Result Answer Halt} d (Ok (value (verbatim s t))) (Ok (value (bulk t)))) (Err (bad BadVerbatim))) ≡ Ok a
    → value_count a ≡ 1
verbatim_one true c d s t a e = absurd cc
verbatim_one false true true s t a e = same_count (value (verbatim s t)) a 1 e refl
verbatim_one false true false s t a e = same_count (value (bulk t)) a 1 e refl
verbatim_one false false d s t a e = absurd cc

blob_one : (k : BlobKind) (text : List ℕ) (a : Answer) → blob_answer k text ≡ Ok a → value_count a ≡ 1
unfolding blob_answer
blob_one blobs.Bulk text a e = same_count (value (bulk text)) a 1 e refl
blob_one blobs.BlobError text a e = same_count (refused text) a 1 e refl
blob_one blobs.Verbatim text a e = verbatim_one (ltb (length text) 4) (slice_index text 3 == 58)
    (is_utf8 (take 3 text) && is_utf8 (drop 4 text)) (take 3 text) (drop 4 text) a e

no_blob_one : (k : BlobKind) (a : Answer) → no_blob_answer k ≡ Ok a → value_count a ≡ 1
unfolding no_blob_answer
no_blob_one blobs.Bulk a e = same_count (value nil) a 1 e refl
no_blob_one blobs.BlobError a e = absurd cc
no_blob_one blobs.Verbatim a e = absurd cc

no_group_one : (k : GroupKind) (a : Answer) → no_group_answer k ≡ Ok a → value_count a ≡ 1
unfolding no_group_answer
no_group_one groups.Array a e = same_count (value nil) a 1 e refl
no_group_one groups.Set a e = absurd cc
no_group_one groups.Map a e = absurd cc
no_group_one groups.Attribute a e = absurd cc

-- ---- reading

abbrev read_as : {A : Type 0} → A → List ℕ → Read A
read_as a rest = Ok (a, rest)

-- the result of a step, with the rest of the bytes
step_made : (s : Result Answer Halt) (rest : List ℕ) (x : Answer × List ℕ) → (s >>= λ a. read_as a rest) ≡ Ok x
    → (a : Answer) × (s ≡ Ok a) × (value_count a ≡ value_count x.0)
step_made s rest x e =
    let b = bind_ok s (λ a. read_as a rest) x e in
    let same : (b.0, rest) ≡ x = cc in
    (b.0, b.1, ap (λ (y : Answer × List ℕ). value_count y.0) same)

module _ (inner : List ℕ → Read Answer) (begun : List ℕ → ℕ)
    (counted : (bytes : List ℕ) (x : Answer × List ℕ) → inner bytes ≡ Ok x → begun bytes ≡ value_count x.0) where
  pub many_values : (n : ℕ) (bytes : List ℕ) (x : Answers × List ℕ) → many inner n bytes ≡ Ok x
      → many_begun inner begun n bytes ≡ all_values x.0
  unfolding many many_begun
  many_values zero bytes x e = let same : (values [], bytes) ≡ x =
      cc in ap (λ (y : Answers × List ℕ). all_values y.0) same
  many_values (suc n) bytes x e =
      let a = bind_ok (inner bytes) (λ y. many inner n y.1 >>= λ z. Ok (join (one y.0) z.0, z.1)) x e in
      let b = bind_ok (many inner n a.0.1) (λ z. Ok (join (one a.0.0) z.0, z.1)) x a.2 in
      let same : (join (one a.0.0) b.0.0, b.0.1) ≡ x = cc in
      let behind : begun_behind (rest_of (inner bytes)) (many_begun inner begun n) ≡ all_values b.0.0 =
      ap (λ (r : Read Answer). begun_behind (rest_of r) (many_begun inner begun n)) a.1
      ∙ many_values n a.0.1 b.0 b.1 in
      let first : begun bytes ≡ all_values (one a.0.0) = counted bytes a.0 a.1 ∙ sym (all_one a.0.0) in
      ap (λ (m : ℕ). m + begun_behind (rest_of (inner bytes)) (many_begun inner begun n)) first
      ∙ ap (λ (m : ℕ). all_values (one a.0.0) + m) behind
      ∙ sym (all_joined (one a.0.0) b.0.0)
      ∙ ap (λ (y : Answers × List ℕ). all_values y.0) same

  -- an item is one value, and the values inside it are its members
  abbrev Counts : Read ℕ → Answer → Type 0
  Counts item a = suc (inside_begun inner begun item) ≡ value_count a

  none_inside : (rest : List ℕ) → inside_begun inner begun (read_as 0 rest) ≡ 0
  unfolding many_begun
  none_inside rest = refl

  alone : (item : Read ℕ) (rest : List ℕ) (a : Answer) → item ≡ Ok (0, rest) → value_count a ≡ 1 → Counts item a
  alone item rest a is single = ap (λ (i : Read ℕ). suc (inside_begun inner begun i)) is
      ∙ ap (λ (n : ℕ). suc n) (none_inside rest) ∙ sym single

  line_counts : (most : ℕ) (k : LineKind) (bytes : List ℕ) (x : Answer × List ℕ)
      → line_value_at most k bytes ≡ Ok x
      → Counts (line_at most bytes >>= λ y. line_answer k y.0 >>= λ a. Ok (0, y.1)) x.0
  unfolding line_value_at
  line_counts most k bytes x e =
      let l = bind_ok (line_at most bytes) (λ y. line_answer k y.0 >>= λ a. Ok (a, y.1)) x e in
      let m = step_made (line_answer k l.0.0) l.0.1 x l.2 in
      alone (line_at most bytes >>= λ y. line_answer k y.0 >>= λ a. Ok (0, y.1)) l.0.1 x.0
      (ap (λ (r : Read (List ℕ)). r >>= λ y. line_answer k y.0 >>= λ a. read_as 0 y.1) l.1
      ∙ ap (λ (r : Result Answer Halt). r >>= λ a. read_as 0 l.0.1) m.1)
      (sym m.2 ∙ line_one k l.0.0 m.0 m.1)

  blob_counts : (k : BlobKind) (n : Option ℕ) (bytes : List ℕ) (x : Answer × List ℕ) → blob_body_at k n bytes ≡ Ok x
      → Counts (blob_passed k n bytes) x.0
  unfolding blob_body_at blob_passed body_passed
  blob_counts k None bytes x e =
      let m = step_made (no_blob_answer k) bytes x e in
      alone (no_blob_answer k >>= λ a. Ok (0, bytes)) bytes x.0
      (ap (λ (r : Result Answer Halt). r >>= λ a. read_as 0 bytes) m.1) (sym m.2 ∙ no_blob_one k m.0 m.1)
  blob_counts k (Some n) bytes x e =
      let t = bind_ok (blob_at n bytes) (λ y. blob_answer k y.0 >>= λ a. Ok (a, y.1)) x e in
      let m = step_made (blob_answer k t.0.0) t.0.1 x t.2 in
      alone (blob_at n bytes >>= λ y. (blob_answer k y.0 >>= λ a. Ok 0) >>= λ c. Ok (c, y.1)) t.0.1 x.0
      (ap (λ (r : Read (List ℕ)). r >>= λ y. (blob_answer k y.0 >>= λ a. Ok 0) >>= λ c. read_as c y.1) t.1
      ∙ ap (λ (r : Result Answer Halt). (r >>= λ a. Ok 0) >>= λ c. read_as c t.0.1) m.1)
      (sym m.2 ∙ blob_one k t.0.0 m.0 m.1)

  group_counts : (k : GroupKind) (n : Option ℕ) (bytes : List ℕ) (x : Answer × List ℕ)
      → group_body_at inner k n bytes ≡ Ok x → Counts (count_behind k n >>= λ c. Ok (c, bytes)) x.0
  unfolding group_body_at count_behind
  group_counts k None bytes x e =
      let m = step_made (no_group_answer k) bytes x e in
      alone ((no_group_answer k >>= λ a. Ok 0) >>= λ c. Ok (c, bytes)) bytes x.0
      (ap (λ (r : Result Answer Halt). (r >>= λ a. Ok 0) >>= λ c. read_as c bytes) m.1)
      (sym m.2 ∙ no_group_one k m.0 m.1)
  group_counts k (Some n) bytes x e =
      let t = bind_ok (many inner (member_count k n) bytes) (λ y. group_answer k y.0 >>= λ a. Ok (a, y.1)) x e in
      let m = step_made (group_answer k t.0.0) t.0.1 x t.2 in
      ap (λ (i : ℕ). suc i) (many_values (member_count k n) bytes t.0 t.1)
      ∙ sym (group_counted k t.0.0 m.0 m.1) ∙ m.2

  behind_length : (limits : Limits) (bytes : List ℕ) (f : Option ℕ → List ℕ → Read Answer)
      (g : Option ℕ → List ℕ → Read ℕ) (x : Answer × List ℕ)
      → ((n : Option ℕ) (rest : List ℕ) → f n rest ≡ Ok x → Counts (g n rest) x.0)
      → (length_at limits bytes >>= λ y. f y.0 y.1) ≡ Ok x
      → Counts (length_at limits bytes >>= λ y. g y.0 y.1) x.0
  behind_length limits bytes f g x h e =
      let l = bind_ok (length_at limits bytes) (λ y. f y.0 y.1) x e in
      ap (λ (r : Read (Option ℕ)). suc (inside_begun inner begun (r >>= λ y. g y.0 y.1))) l.1
      ∙ h l.0.0 l.0.1 l.2

  kind_counts : (limits : Limits) (o : Option Kind) (bytes : List ℕ) (x : Answer × List ℕ)
      → by_kind limits inner o bytes ≡ Ok x → Counts (item_of limits o bytes) x.0
  unfolding by_kind item_of blob_value_at group_value_at
  kind_counts limits None bytes x e = absurd cc
  kind_counts limits (Some (kinds.Line k)) bytes x e = line_counts limits.line k bytes x e
  kind_counts limits (Some (kinds.Blob k)) bytes x e =
      behind_length limits bytes (blob_body_at k) (blob_passed k) x (λ n rest h. blob_counts k n rest x h) e
  kind_counts limits (Some (kinds.Group k)) bytes x e =
      behind_length limits bytes (group_body_at inner k) (λ n rest. count_behind k n >>= λ c. Ok (c, rest)) x
      (λ n rest h. group_counts k n rest x h) e

  level_counts : (limits : Limits) (bytes : List ℕ) (x : Answer × List ℕ) → level limits inner bytes ≡ Ok x
      → Counts (item_at limits bytes) x.0
  unfolding level item_at
  level_counts limits [] x e = absurd cc
  level_counts limits (b ∷ bytes) x e = kind_counts limits (kind_of b) bytes x e

pub value_counted : (limits : Limits) (d : ℕ) (bytes : List ℕ) (x : Answer × List ℕ) → value_at limits d bytes ≡ Ok x
    → value_begun limits d bytes ≡ value_count x.0
unfolding value_at value_begun
value_counted limits zero bytes x e = absurd cc
value_counted limits (suc d) bytes x e =
    level_counts (value_at limits d) (value_begun limits d) (value_counted limits d) limits bytes x e

-- ---- a whole reply

module _ (limits : Limits) where
  members_counted : (d n : ℕ) (bytes : List ℕ) (x : Answers × List ℕ) → many (value_at limits d) n bytes ≡ Ok x
      → many_begun (value_at limits d) (value_begun limits d) n bytes ≡ all_values x.0
  members_counted d = many_values (value_at limits d) (value_begun limits d) (value_counted limits d)

  push_body_counted : (n : Option ℕ) (bytes : List ℕ) (x : Answer × List ℕ) → push_body_at limits n bytes ≡ Ok x
      → asked_begun limits (push_begins limits n bytes) ≡ value_count x.0
  unfolding push_body_at push_begins
  push_body_counted None bytes x e = absurd cc
  push_body_counted (Some zero) bytes x e = absurd cc
  push_body_counted (Some (suc n)) bytes x e =
      let d = limits.depth - 1 in
      let k = bind_ok (kind_at limits bytes) (λ y. many (value_at limits d) n y.1
      >>= λ z. Ok (pushed y.0 (answer_list (one_by_one z.0)), z.1)) x e in
      let m = bind_ok (many (value_at limits d) n k.0.1)
      (λ z. Ok (pushed k.0.0 (answer_list (one_by_one z.0)), z.1)) x k.2 in
      let same : (pushed k.0.0 (answer_list (one_by_one m.0.0)), m.0.1) ≡ x = cc in
      ap (λ (r : Read (List ℕ)). asked_begun limits (r >>= λ y. read_as (record { depth = d; left = n }) y.1)) k.1
      ∙ members_counted d n k.0.1 m.0 m.1
      ∙ ap (λ (y : Answer × List ℕ). value_count y.0) same

  push_counted : (bytes : List ℕ) (x : Answer × List ℕ) → push_at limits bytes ≡ Ok x
      → asked_begun limits (push_begins_at limits bytes) ≡ value_count x.0
  unfolding push_at push_begins_at
  push_counted bytes x e = by (limits.depth == 0) e
    where
      by : (b : Bool)
          → cond {A = Read Answer} b (Err (bad TooDeep)) (length_at limits bytes >>= λ y. push_body_at limits y.0 y.1)
          ≡ Ok x
          → asked_begun limits (cond {A = Read Open} b (Err (bad TooDeep))
          (length_at limits bytes >>= λ y. push_begins limits y.0 y.1)) ≡ value_count x.0
      by true h = absurd cc
      by false h =
          let l = bind_ok (length_at limits bytes) (λ y. push_body_at limits y.0 y.1) x h in
          ap (λ (r : Read (Option ℕ)). asked_begun limits (r >>= λ y. push_begins limits y.0 y.1)) l.1
          ∙ push_body_counted l.0.0 l.0.1 x l.2

  one_counted : (bytes : List ℕ) (x : Answer × List ℕ) → value_at limits limits.depth bytes ≡ Ok x
      → asked_begun limits (read_as (record { depth = limits.depth; left = 1 }) bytes) ≡ value_count x.0
  unfolding many_begun
  one_counted bytes x e =
      ap (λ (r : Read Answer). value_begun limits limits.depth bytes + begun_behind (rest_of r)
      (many_begun (value_at limits limits.depth) (value_begun limits limits.depth) 0)) e
      ∙ plus_none (value_begun limits limits.depth bytes) ∙ value_counted limits limits.depth bytes x e

  pub reply_counted : (bytes : List ℕ) (x : Answer × List ℕ) → reply_at limits bytes ≡ Ok x
      → reply_begun limits bytes ≡ value_count x.0
  unfolding reply_at reply_begun begins_at
  reply_counted [] x e = absurd cc
  reply_counted (b ∷ bytes) x e = by (b == 62) e
    where
      by : (c : Bool)
          → cond {A = Read Answer} c (push_at limits bytes) (value_at limits limits.depth (b ∷ bytes)) ≡ Ok x
          → asked_begun limits (cond {A = Read Open} c (push_begins_at limits bytes)
          (Ok (record { depth = limits.depth; left = 1 }, b ∷ bytes))) ≡ value_count x.0
      by true h = push_counted bytes x h
      by false h = one_counted (b ∷ bytes) x h
