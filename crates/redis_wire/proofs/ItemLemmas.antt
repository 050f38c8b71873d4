-- Items one by one: their relation to values, and where they end.
use Rattle.std.proofs.Common.{◌≡◌, ◌==◌, ◌&&◌, ◌+◌, ◌-◌, ◌*◌, ◌<◌, ◌≤◌, Bool, true, cond, ℕ, zero, suc, List, [], ◌∷◌}
use Rattle.std.proofs.Common.{◌++◌, length, take, drop, Option, Some, None, Result, Ok, Err, ltb, false, refl, sym, ap}
use Rattle.std.proofs.Common.{subst, ◌∙◌, arith, append_assoc}
use Rattle.std.specs.List.{prefix_len}
use Rattle.std.proofs.lemmas.Bool.{le-ltb, lt-ltb}
use Rattle.std.proofs.lemmas.List.{length-append, length-map, drop_at}
use Rattle.redis_resp.specs.Tree.{Tree, array, set, map_of_pairs, attribute, trees, pairs, two_by_two}
use Rattle.redis_wire.specs.declared.limits.Limits.{Limits}
use Rattle.redis_wire.specs.declared.kind.Kind.{Kind}
use Rattle.redis_wire.specs.declared.kind.Kind.TheVariants as kinds
use Rattle.redis_wire.specs.declared.kind.BlobKind.{BlobKind}
use Rattle.redis_wire.specs.declared.kind.GroupKind.{GroupKind}
use Rattle.redis_wire.specs.declared.kind.GroupKind.TheVariants as groups
use Rattle.redis_wire.specs.Kind.{kind_of}
use Rattle.redis_wire.specs.declared.scanning.Open.{Open}
use Rattle.redis_wire.specs.declared.fault.Fault.TheVariants.{BadEnd, TooDeep}
use Rattle.redis_wire.specs.Reading.{Halt, short, bad, Read, ◌>>=◌, rest_of, line_at, blob_at, before_crlf, is_inner}
use Rattle.redis_wire.specs.Reply.{Answer, value, group, pushed, answer_list, Answers, values, mixed, one, join}
use Rattle.redis_wire.specs.Reply.{one_by_one}
use Rattle.redis_wire.specs.Scalar.{line_answer, blob_answer, no_blob_answer}
use Rattle.redis_wire.specs.Group.{member_count, many, pairs_of, map_answer, attribute_round, attribute_answer}
use Rattle.redis_wire.specs.Group.{group_answer, group_tree, no_group_answer}
use Rattle.redis_wire.specs.Level.{length_at, line_value_at, blob_body_at, blob_value_at, group_body_at, group_value_at}
use Rattle.redis_wire.specs.Level.{by_kind, level, value_at}
use Rattle.redis_wire.specs.Push.{kind_at, push_body_at, push_at, reply_at}
use Rattle.redis_wire.specs.Steady.{Stays, IsSteady}
use Rattle.redis_wire.specs.Grammar.{IsLength, IsPushKind}
use Rattle.redis_wire.specs.Item.{body_passed, blob_passed, count_behind, item_of, item_at, push_begins, push_begins_at}
use Rattle.redis_wire.specs.Item.{begins_at}
use Rattle.redis_wire.specs.Scan.{passed, IsEnd}
use Rattle.redis_wire.proofs.SteadyLemmas.{steady_then, steady_step, line_steady, blob_steady, length_steady}
use Rattle.redis_wire.proofs.SteadyLemmas.{kind_at_steady}
use Rattle.redis_wire.proofs.FitsLemmas.{Fits, bind_ok, blob_fits, line_fits, length_fits, kind_at_fits}
use Rattle.redis_wire.proofs.AttributeLemmas.{last_of}
use Rattle.redis_wire.proofs.ManyLemmas.{one_by_one_joined, one_alone}

-- ---- one step after another

then_then : {A B C : Type 0} (r : Result A Halt) (f : A → Result B Halt) (g : B → Result C Halt)
    → ((r >>= f) >>= g) ≡ (r >>= λ x. f x >>= g)
then_then (Ok x) f g = refl
then_then (Err e) f g = refl

then_ok : {A : Type 0} (r : Result A Halt) → (r >>= λ x. Ok x) ≡ r
then_ok (Ok x) = refl
then_ok (Err e) = refl

pub then_err : {A B : Type 0} (r : Result A Halt) (f : A → B) (h : Halt) → (r >>= λ x. Ok (f x)) ≡ Err h → r ≡ Err h
then_err (Ok x) f h e = absurd cc
then_err (Err d) f h e = let same : d ≡ h = cc in ap (λ (k : Halt). Err k) same

-- the result of a step, with the rest of the bytes
abbrev pub read_as : {A : Type 0} → A → List ℕ → Read A
read_as a rest = Ok (a, rest)

abbrev no_more : Result ℕ Halt
no_more = Ok 0

-- ---- appended bytes

blob_passed_steady : (k : BlobKind) (n : Option ℕ) → IsSteady (blob_passed k n)
unfolding blob_passed
blob_passed_steady k None bytes more = steady_step (no_blob_answer k) (λ a. 0) bytes more
blob_passed_steady k (Some n) bytes more =
    steady_then (blob_at n) (λ text rest. body_passed k text >>= λ c. Ok (c, rest)) (blob_steady n)
    (λ text. steady_step (body_passed k text) (λ c. c)) bytes more

item_of_steady : (limits : Limits) (o : Option Kind) → IsSteady (item_of limits o)
unfolding item_of
item_of_steady limits None bytes more = refl
item_of_steady limits (Some (kinds.Line k)) bytes more =
    steady_then (line_at limits.line) (λ line rest. line_answer k line >>= λ a. Ok (0, rest)) (line_steady limits.line)
    (λ line. steady_step (line_answer k line) (λ a. 0)) bytes more
item_of_steady limits (Some (kinds.Blob k)) bytes more =
    steady_then (length_at limits) (blob_passed k) (length_steady limits) (blob_passed_steady k) bytes more
item_of_steady limits (Some (kinds.Group k)) bytes more =
    steady_then (length_at limits) (λ n rest. count_behind k n >>= λ c. Ok (c, rest)) (length_steady limits)
    (λ n. steady_step (count_behind k n) (λ c. c)) bytes more

pub item_steady : (limits : Limits) → IsSteady (item_at limits)
unfolding item_at
item_steady limits [] more = tt
item_steady limits (b ∷ bytes) more = item_of_steady limits (kind_of b) bytes more

push_begins_steady : (limits : Limits) (n : Option ℕ) → IsSteady (push_begins limits n)
unfolding push_begins
push_begins_steady limits None bytes more = refl
push_begins_steady limits (Some zero) bytes more = refl
push_begins_steady limits (Some (suc n)) bytes more =
    steady_then (kind_at limits) (λ k rest. Ok (record { depth = limits.depth - 1; left = n }, rest))
    (kind_at_steady limits) (λ k rest behind. refl) bytes more

push_begins_at_steady : (limits : Limits) → IsSteady (push_begins_at limits)
unfolding push_begins_at
push_begins_at_steady limits bytes more = by (limits.depth == 0)
  where
    by : (b : Bool)
        → Stays {A = Open} (cond b (Err (bad TooDeep)) (length_at limits bytes >>= λ x. push_begins limits x.0 x.1))
        (cond b (Err (bad TooDeep)) (length_at limits (bytes ++ more) >>= λ x. push_begins limits x.0 x.1)) more
    by true = refl
    by false = steady_then (length_at limits) (push_begins limits) (length_steady limits)
        (push_begins_steady limits) bytes more

pub begins_steady : (limits : Limits) → IsSteady (begins_at limits)
unfolding begins_at
begins_steady limits [] more = tt
begins_steady limits (b ∷ bytes) more = by (b == 62)
  where
    by : (c : Bool)
        → Stays {A = Open}
        (cond c (push_begins_at limits bytes) (Ok (record { depth = limits.depth; left = 1 }, b ∷ bytes)))
        (cond c (push_begins_at limits (bytes ++ more))
        (Ok (record { depth = limits.depth; left = 1 }, b ∷ bytes ++ more))) more
    by true = push_begins_at_steady limits bytes more
    by false = refl

pub item_again : (limits : Limits) (left after more : List ℕ) (count : ℕ) → item_at limits left ≡ Ok (count, after)
    → item_at limits (left ++ more) ≡ Ok (count, after ++ more)
item_again limits left after more count read =
    subst (λ (r : Read ℕ). Stays r (item_at limits (left ++ more)) more) read (item_steady limits left more)

pub begins_again : (limits : Limits) (bytes rest more : List ℕ) (o : Open) → begins_at limits bytes ≡ Ok (o, rest)
    → begins_at limits (bytes ++ more) ≡ Ok (o, rest ++ more)
begins_again limits bytes rest more o read =
    subst (λ (r : Read Open). Stays r (begins_at limits (bytes ++ more)) more) read (begins_steady limits bytes more)

-- ---- items that are cut

-- whether CR and LF are cut does not depend on the text before them
cut_alike : (s t rest : List ℕ) → before_crlf s rest ≡ Err short → before_crlf t rest ≡ Err short
unfolding before_crlf
cut_alike s t [] e = refl
cut_alike s t (c ∷ []) e = e
cut_alike s t (c ∷ d ∷ rest) e = by ((c == 13) && (d == 10)) e
  where
    by : (b : Bool) → cond {A = Read (List ℕ)} b (Ok (s, rest)) (Err (bad BadEnd)) ≡ Err short
        → cond {A = Read (List ℕ)} b (Ok (t, rest)) (Err (bad BadEnd)) ≡ Err short
    by true h = absurd cc
    by false h = h

line_short : (most : ℕ) (rest : List ℕ) → before_crlf [] (drop (prefix_len is_inner rest) rest) ≡ Err short
    → prefix_len is_inner rest ≤ most → line_at most rest ≡ Err short
unfolding line_at
line_short most rest cut within =
    let fits : ltb most (prefix_len is_inner rest) ≡ false = le-ltb most (prefix_len is_inner rest) within in
    rw fits (cut_alike [] (take (prefix_len is_inner rest) rest) (drop (prefix_len is_inner rest) rest) cut)

kind_short : (limits : Limits) (k : Kind) (rest : List ℕ) → line_at limits.line rest ≡ Err short
    → item_of limits (Some k) rest ≡ Err short
unfolding item_of length_at
kind_short limits (kinds.Line k) rest e = rw e refl
kind_short limits (kinds.Blob k) rest e = rw e refl
kind_short limits (kinds.Group k) rest e = rw e refl

-- a line that may continue
pub cut_short : (limits : Limits) (b len : ℕ) (k : Kind) (rest : List ℕ) → kind_of b ≡ Some k
    → len ≡ prefix_len is_inner rest → before_crlf [] (drop len rest) ≡ Err short → len ≤ limits.line
    → item_at limits (b ∷ rest) ≡ Err short
unfolding item_at
cut_short limits b len k rest kind is cut within =
    let same : before_crlf [] (drop (prefix_len is_inner rest) rest) ≡ Err short =
    ap (λ (n : ℕ). before_crlf [] (drop n rest)) (sym is) ∙ cut in
    rw kind (kind_short limits k rest (line_short limits.line rest same (omega (arith, is))))

pub fits_end : {A : Type 0} (f : List ℕ → Read A) (R : List ℕ → A → Type 0) → Fits f R
    → (bytes : List ℕ) (x : A × List ℕ) → f bytes ≡ Ok x → IsEnd x.1 bytes
fits_end f R h bytes x e = let t = h.takes bytes x e in record { done = t.text; is = t.is }

pub body_le : (limits : Limits) (line body : List ℕ) (n : Option ℕ) → length_at limits line ≡ Ok (n, body)
    → length body ≤ length line
body_le limits line body n read =
    let e = fits_end (length_at limits) (IsLength limits) (length_fits limits) line (n, body) read in
    omega (arith, ap length e.is, length-append e.done body)

blob_cut : (k : BlobKind) (n : ℕ) (bytes : List ℕ) → length bytes < n → blob_passed k (Some n) bytes ≡ Err short
unfolding blob_passed blob_at
blob_cut k n bytes few = rw (lt-ltb (length bytes) n few) refl

-- a bulk string that is not whole
pub few_short : (limits : Limits) (b len : ℕ) (k : BlobKind) (line body more : List ℕ) → kind_of b ≡ Some (kinds.Blob k)
    → length_at limits line ≡ Ok (Some len, body)
    → length (line ++ more) < length line - length body + len → item_at limits (b ∷ line ++ more) ≡ Err short
unfolding item_at item_of
few_short limits b len k line body more kind read few =
    let again : length_at limits (line ++ more) ≡ Ok (Some len, body ++ more) =
    subst (λ (r : Read (Option ℕ)). Stays r (length_at limits (line ++ more)) more) read
    (length_steady limits line more) in
    let le = body_le limits line body (Some len) read in
    let cut : length (body ++ more) < len = omega (arith, few, le, length-append line more, length-append body more) in
    rw (kind, again) (blob_cut k len (body ++ more) cut)

-- ---- a group has as many members as its count requires, and so it is a value

even_pairs : (n : ℕ) (ts : List Tree) → length ts ≡ 2 * n → (ps : List (Tree × Tree)) × (two_by_two ts ≡ Some ps)
even_pairs zero [] e = ([], refl)
even_pairs zero (t ∷ ts) e = absurd (omega (arith, e))
even_pairs (suc n) [] e = absurd (omega (arith, e))
even_pairs (suc n) (t ∷ []) e = absurd (omega (arith, e))
even_pairs (suc n) (k ∷ x ∷ ts) e =
    let r = even_pairs n ts (omega (arith, e)) in
    ((k, x) ∷ r.0, rw r.1 refl)

last_apart : (t : Tree) (ts : List Tree) → (front : List Tree) × (u : Tree) × (t ∷ ts ≡ front ++ u ∷ [])
last_apart t [] = ([], t, refl)
last_apart t (u ∷ ts) = let r = last_apart u ts in (t ∷ r.0, r.1, ap (λ (xs : List Tree). t ∷ xs) r.2)

map_said : (ts : List Tree) (ps : List (Tree × Tree)) → two_by_two ts ≡ Some ps
    → map_answer ts ≡ Ok (value (map_of_pairs (pairs ps)))
map_said ts ps e = rw e refl

round_said : (u : Tree) (ts : List Tree) (ps : List (Tree × Tree)) → two_by_two ts ≡ Some ps
    → attribute_round (Some u) (pairs_of ts) ≡ Ok (value (attribute u (pairs ps)))
round_said u ts ps e = rw e refl

attribute_said : (n : ℕ) (all front : List Tree) (u : Tree) → all ≡ front ++ u ∷ [] → length front ≡ 2 * n
    → (a : Answer) × (attribute_answer all ≡ Ok a)
attribute_said n all front u split len =
    let p = even_pairs n front len in
    (value (attribute u (pairs p.0)), ap attribute_answer split ∙ last_of front u ∙ round_said u front p.0 p.1)

tree_said : (k : GroupKind) (n : ℕ) (ts : List Tree) → length ts ≡ member_count k n
    → (a : Answer) × (group_tree k ts ≡ Ok a)
unfolding group_tree
tree_said groups.Array n ts e = (value (array (trees ts)), refl)
tree_said groups.Set n ts e = (value (set (trees ts)), refl)
tree_said groups.Map n ts e = let p = even_pairs n ts e in (value (map_of_pairs (pairs p.0)), map_said ts p.0 p.1)
tree_said groups.Attribute n [] e = absurd (omega (arith, e))
tree_said groups.Attribute n (t ∷ ts) e =
    let l = last_apart t ts in
    let len : length l.0 ≡ 2 * n = omega (arith, e, ap length l.2, length-append l.0 (l.1 ∷ [])) in
    attribute_said n (t ∷ ts) l.0 l.1 l.2 len

group_said : (k : GroupKind) (n : ℕ) (ms : Answers) → length (one_by_one ms) ≡ member_count k n
    → (a : Answer) × (group_answer k ms ≡ Ok a)
group_said k n (values ts) e = tree_said k n ts (sym (length-map ts value) ∙ e)
group_said k n (mixed xs) e = (group k (answer_list xs), refl)

module _ (inner : List ℕ → Read Answer) where
  many_counted : (n : ℕ) (bytes : List ℕ) (x : Answers × List ℕ) → many inner n bytes ≡ Ok x
      → length (one_by_one x.0) ≡ n
  unfolding many
  many_counted zero bytes x e = let same : (values [], bytes) ≡ x =
      cc in ap (λ (y : Answers × List ℕ). length (one_by_one y.0)) (sym same)
  many_counted (suc n) bytes x e =
      let a = bind_ok (inner bytes) (λ y. many inner n y.1 >>= λ z. Ok (join (one y.0) z.0, z.1)) x e in
      let b = bind_ok (many inner n a.0.1) (λ z. Ok (join (one a.0.0) z.0, z.1)) x a.2 in
      let same : (join (one a.0.0) b.0.0, b.0.1) ≡ x = cc in
      let first : length (one_by_one (one a.0.0)) ≡ 1 = ap length (one_alone a.0.0) in
      let both : length (one_by_one (join (one a.0.0) b.0.0)) ≡ length (one_by_one (one a.0.0))
      + length (one_by_one b.0.0) = ap length (one_by_one_joined (one a.0.0) b.0.0)
      ∙ length-append (one_by_one (one a.0.0)) (one_by_one b.0.0) in
      ap (λ (y : Answers × List ℕ). length (one_by_one y.0)) (sym same)
      ∙ omega (arith, first, both, many_counted n a.0.1 b.0 b.1)

  -- ---- reading a value passes its items

  step_rest : {A : Type 0} (s : Result A Halt) (f : A → Answer) (rest : List ℕ)
      → rest_of (s >>= λ a. read_as (f a) rest) ≡ ((s >>= λ a. read_as 0 rest) >>= λ y. rest_of (many inner y.0 y.1))
  unfolding many
  step_rest (Ok a) f rest = refl
  step_rest (Err e) f rest = refl

  counted_rest : (s : Result Answer Halt) (rest : List ℕ) → rest_of (s >>= λ a. read_as a rest)
      ≡ (((s >>= λ a. no_more) >>= λ c. read_as c rest) >>= λ y. rest_of (many inner y.0 y.1))
  unfolding many
  counted_rest (Ok a) rest = refl
  counted_rest (Err e) rest = refl

  parts_rest : {A : Type 0} (r : Read A) (f : A × List ℕ → Read Answer) (g : A × List ℕ → Read ℕ)
      → ((x : A × List ℕ) → rest_of (f x) ≡ (g x >>= λ y. rest_of (many inner y.0 y.1)))
      → rest_of (r >>= f) ≡ ((r >>= g) >>= λ y. rest_of (many inner y.0 y.1))
  parts_rest (Ok x) f g h = h x
  parts_rest (Err e) f g h = refl

  members_rest : (k : GroupKind) (r : Read Answers)
      → ((x : Answers × List ℕ) → r ≡ Ok x → (a : Answer) × (group_answer k x.0 ≡ Ok a))
      → rest_of (r >>= λ x. group_answer k x.0 >>= λ a. read_as a x.1) ≡ rest_of r
  members_rest k (Ok x) h = rw (h x refl).1 refl
  members_rest k (Err e) h = refl

  blob_part : (k : BlobKind) (n : Option ℕ) (bytes : List ℕ) → rest_of (blob_body_at k n bytes)
      ≡ (blob_passed k n bytes >>= λ y. rest_of (many inner y.0 y.1))
  unfolding blob_body_at blob_passed body_passed
  blob_part k None bytes = step_rest (no_blob_answer k) (λ a. a) bytes
  blob_part k (Some n) bytes = parts_rest (blob_at n bytes) (λ x. blob_answer k x.0 >>= λ a. Ok (a, x.1))
      (λ x. (blob_answer k x.0 >>= λ a. no_more) >>= λ c. read_as c x.1) (λ x. counted_rest (blob_answer k x.0) x.1)

  group_part : (k : GroupKind) (n : Option ℕ) (bytes : List ℕ)
      → rest_of (group_body_at inner k n bytes)
      ≡ ((count_behind k n >>= λ c. read_as c bytes) >>= λ y. rest_of (many inner y.0 y.1))
  unfolding group_body_at count_behind
  group_part k None bytes = counted_rest (no_group_answer k) bytes
  group_part k (Some n) bytes = members_rest k (many inner (member_count k n) bytes)
      (λ x e. group_said k n x.0 (many_counted (member_count k n) bytes x e))

  kind_part : (limits : Limits) (o : Option Kind) (bytes : List ℕ)
      → rest_of (by_kind limits inner o bytes) ≡ (item_of limits o bytes >>= λ y. rest_of (many inner y.0 y.1))
  unfolding by_kind line_value_at blob_value_at group_value_at item_of
  kind_part limits None bytes = refl
  kind_part limits (Some (kinds.Line k)) bytes =
      parts_rest (line_at limits.line bytes) (λ x. line_answer k x.0 >>= λ a. Ok (a, x.1))
      (λ x. line_answer k x.0 >>= λ a. Ok (0, x.1)) (λ x. step_rest (line_answer k x.0) (λ a. a) x.1)
  kind_part limits (Some (kinds.Blob k)) bytes =
      parts_rest (length_at limits bytes) (λ x. blob_body_at k x.0 x.1) (λ x. blob_passed k x.0 x.1)
      (λ x. blob_part k x.0 x.1)
  kind_part limits (Some (kinds.Group k)) bytes =
      parts_rest (length_at limits bytes) (λ x. group_body_at inner k x.0 x.1)
      (λ x. count_behind k x.0 >>= λ c. Ok (c, x.1)) (λ x. group_part k x.0 x.1)

  level_part : (limits : Limits) (bytes : List ℕ) → rest_of (level limits inner bytes)
      ≡ (item_at limits bytes >>= λ y. rest_of (many inner y.0 y.1))
  unfolding level item_at
  level_part limits [] = refl
  level_part limits (b ∷ bytes) = kind_part limits (kind_of b) bytes

  first_rest : (a : Answer) (r : Read Answers) → rest_of (r >>= λ y. read_as (join (one a) y.0) y.1) ≡ rest_of r
  first_rest a (Ok x) = refl
  first_rest a (Err e) = refl

  pub many_rest : (n : ℕ) (bytes : List ℕ) → rest_of (many inner (suc n) bytes)
      ≡ (rest_of (inner bytes) >>= λ rest. rest_of (many inner n rest))
  unfolding many
  many_rest n bytes = by (inner bytes)
    where
      by : (r : Read Answer) → rest_of (r >>= λ x. many inner n x.1 >>= λ y. read_as (join (one x.0) y.0) y.1)
          ≡ (rest_of r >>= λ rest. rest_of (many inner n rest))
      by (Ok x) = first_rest x.0 (many inner n x.1)
      by (Err e) = refl

pub value_part : (limits : Limits) (d : ℕ) (bytes : List ℕ) → rest_of (value_at limits (suc d) bytes)
    ≡ (item_at limits bytes >>= λ y. rest_of (many (value_at limits d) y.0 y.1))
unfolding value_at
value_part limits d bytes = level_part (value_at limits d) limits bytes

-- ---- open groups

abbrev opened : ℕ → ℕ → Open
opened d l = record { depth = d; left = l }

module _ (limits : Limits) where
  -- passes l values of at most d levels, and then the values that other groups still expect
  abbrev run : ℕ → ℕ → List Open → List ℕ → Result (List ℕ) Halt
  run d l os bytes = rest_of (many (value_at limits d) l bytes) >>= λ rest. passed limits os rest

  -- the item at the start, if a level and a value are left
  run_item : (d l : ℕ) (os : List Open) (bytes : List ℕ) (item : Read ℕ) → item_at limits bytes ≡ item
      → run (suc d) (suc l) os bytes
      ≡ (((item >>= λ y. rest_of (many (value_at limits d) y.0 y.1))
      >>= λ rest. rest_of (many (value_at limits (suc d)) l rest)) >>= λ rest. passed limits os rest)
  run_item d l os bytes item read =
      ap (λ (r : Result (List ℕ) Halt). r >>= λ rest. passed limits os rest)
      (many_rest (value_at limits (suc d)) l bytes
      ∙ ap (λ (r : Result (List ℕ) Halt). r >>= λ rest. rest_of (many (value_at limits (suc d)) l rest))
      (value_part limits d bytes ∙ ap (λ (r : Read ℕ). r >>= λ y. rest_of (many (value_at limits d) y.0 y.1)) read))

  run_step : (d l count : ℕ) (os : List Open) (bytes after : List ℕ) → item_at limits bytes ≡ Ok (count, after)
      → run (suc d) (suc l) os bytes ≡ run d count (record { depth = suc d; left = l } ∷ os) after
  unfolding passed
  run_step d l count os bytes after read =
      run_item d l os bytes (Ok (count, after)) read
      ∙ then_then (rest_of (many (value_at limits d) count after))
      (λ rest. rest_of (many (value_at limits (suc d)) l rest)) (λ rest. passed limits os rest)

  run_short : (d l : ℕ) (os : List Open) (bytes : List ℕ) → item_at limits bytes ≡ Err short
      → run (suc d) (suc l) os bytes ≡ Err short
  run_short d l os bytes read = run_item d l os bytes (Err short) read

  run_none : (d : ℕ) (os : List Open) (bytes : List ℕ) → run d 0 os bytes ≡ passed limits os bytes
  unfolding many
  run_none d os bytes = refl

  pub is_run : (o : Open) (os : List Open) (bytes : List ℕ) → passed limits (o ∷ os) bytes ≡ run o.depth o.left os bytes
  unfolding passed
  is_run o os bytes = refl

  pub passed_step : (o : Open) (count : ℕ) (os : List Open) (bytes after : List ℕ) → 0 < o.depth → 0 < o.left
      → item_at limits bytes ≡ Ok (count, after)
      → passed limits (o ∷ os) bytes ≡ passed limits
      (record { depth = o.depth - 1; left = count } ∷ record { depth = o.depth; left = o.left - 1 } ∷ os) after
  passed_step o count os bytes after deep some read =
      let p : o.depth ≡ suc (o.depth - 1) = omega arith in
      let q : o.left ≡ suc (o.left - 1) = omega arith in
      is_run o os bytes
      ∙ ap (λ (d : ℕ). run d o.left os bytes) p
      ∙ ap (λ (l : ℕ). run (suc (o.depth - 1)) l os bytes) q
      ∙ run_step (o.depth - 1) (o.left - 1) count os bytes after read
      ∙ ap (λ (d : ℕ). run (o.depth - 1) count (record { depth = d; left = o.left - 1 } ∷ os) after) (sym p)
      ∙ sym
      (is_run (record { depth = o.depth - 1; left = count })
      (record { depth = o.depth; left = o.left - 1 } ∷ os) after)

  pub passed_short : (o : Open) (os : List Open) (bytes : List ℕ) → 0 < o.depth → 0 < o.left
      → item_at limits bytes ≡ Err short → passed limits (o ∷ os) bytes ≡ Err short
  passed_short o os bytes deep some read =
      let p : o.depth ≡ suc (o.depth - 1) = omega arith in
      let q : o.left ≡ suc (o.left - 1) = omega arith in
      is_run o os bytes
      ∙ ap (λ (d : ℕ). run d o.left os bytes) p
      ∙ ap (λ (l : ℕ). run (suc (o.depth - 1)) l os bytes) q
      ∙ run_short (o.depth - 1) (o.left - 1) os bytes read

  pub passed_none : (o : Open) (os : List Open) (bytes : List ℕ) → o.left ≡ 0
      → passed limits (o ∷ os) bytes ≡ passed limits os bytes
  passed_none o os bytes none = is_run o os bytes ∙ ap (λ (l : ℕ). run o.depth l os bytes) none
      ∙ run_none o.depth os bytes

  -- ---- the start of a reply

  pub alone_rest : (r : Result (List ℕ) Halt) → (r >>= λ rest. passed limits [] rest) ≡ r
  unfolding passed
  alone_rest (Ok x) = refl
  alone_rest (Err e) = refl

  one_value : (d : ℕ) (bytes : List ℕ)
      → rest_of (value_at limits d bytes) ≡ passed limits (record { depth = d; left = 1 } ∷ []) bytes
  unfolding many
  one_value d bytes = sym (is_run (record { depth = d; left = 1 }) [] bytes
      ∙ alone_rest (rest_of (many (value_at limits d) 1 bytes)) ∙ many_rest (value_at limits d) 0 bytes
      ∙ then_ok (rest_of (value_at limits d bytes)))

  sent_rest : (k : List ℕ) (r : Read Answers)
      → rest_of (r >>= λ y. read_as (pushed k (answer_list (one_by_one y.0))) y.1) ≡ rest_of r
  sent_rest k (Ok y) = refl
  sent_rest k (Err e) = refl

  push_body_part : (n : Option ℕ) (bytes : List ℕ) → rest_of (push_body_at limits n bytes)
      ≡ (push_begins limits n bytes >>= λ x. passed limits (x.0 ∷ []) x.1)
  unfolding push_body_at push_begins
  push_body_part None bytes = refl
  push_body_part (Some zero) bytes = refl
  push_body_part (Some (suc n)) bytes = by (kind_at limits bytes)
    where
      by : (r : Read (List ℕ))
          → rest_of (r >>= λ x. many (value_at limits (limits.depth - 1)) n x.1
          >>= λ y. read_as (pushed x.0 (answer_list (one_by_one y.0))) y.1)
          ≡ ((r >>= λ x. read_as (opened (limits.depth - 1) n) x.1) >>= λ x. passed limits (x.0 ∷ []) x.1)
      by (Ok x) = sent_rest x.0 (many (value_at limits (limits.depth - 1)) n x.1)
          ∙ sym (is_run (record { depth = limits.depth - 1; left = n }) [] x.1
          ∙ alone_rest (rest_of (many (value_at limits (limits.depth - 1)) n x.1)))
      by (Err e) = refl

  push_part : (bytes : List ℕ) → rest_of (push_at limits bytes)
      ≡ (push_begins_at limits bytes >>= λ x. passed limits (x.0 ∷ []) x.1)
  unfolding push_at push_begins_at
  push_part bytes = by (limits.depth == 0) (length_at limits bytes)
    where
      by : (b : Bool) (r : Read (Option ℕ))
          → rest_of (cond {A = Read Answer} b (Err (bad TooDeep)) (r >>= λ x. push_body_at limits x.0 x.1))
          ≡ (cond {A = Read Open} b (Err (bad TooDeep)) (r >>= λ x. push_begins limits x.0 x.1)
          >>= λ x. passed limits (x.0 ∷ []) x.1)
      by true r = refl
      by false (Ok x) = push_body_part x.0 x.1
      by false (Err e) = refl

  pub reply_part : (bytes : List ℕ) → rest_of (reply_at limits bytes)
      ≡ (begins_at limits bytes >>= λ x. passed limits (x.0 ∷ []) x.1)
  unfolding reply_at begins_at
  reply_part [] = refl
  reply_part (b ∷ bytes) = by (b == 62)
    where
      by : (c : Bool) → rest_of (cond c (push_at limits bytes) (value_at limits limits.depth (b ∷ bytes)))
          ≡ (cond {A = Read Open} c (push_begins_at limits bytes)
          (Ok (record { depth = limits.depth; left = 1 }, b ∷ bytes)) >>= λ x. passed limits (x.0 ∷ []) x.1)
      by true = push_part bytes
      by false = one_value limits.depth (b ∷ bytes)

-- ---- the unread bytes are a suffix of the bytes

pub end_then : (a b c : List ℕ) → IsEnd a b → IsEnd b c → IsEnd a c
end_then a b c p q = record {
  done = q.done ++ p.done;
  is = q.is ∙ ap (λ (t : List ℕ). q.done ++ t) p.is
      ∙ sym (append_assoc q.done p.done a);
}

end_behind : (b : ℕ) (a c : List ℕ) → IsEnd a c → IsEnd a (b ∷ c)
end_behind b a c p = record { done = b ∷ p.done; is = ap (λ (t : List ℕ). b ∷ t) p.is }

pub drop_end : (left bytes : List ℕ) → IsEnd left bytes → drop (length bytes - length left) bytes ≡ left
drop_end left bytes e =
    let n : length bytes - length left ≡ length e.done = omega (arith, ap length e.is, length-append e.done left) in
    rw n (ap (drop (length e.done)) e.is ∙ drop_at e.done left (length e.done) refl)

pub end_le : (left bytes : List ℕ) → IsEnd left bytes → length left ≤ length bytes
end_le left bytes e = omega (arith, ap length e.is, length-append e.done left)

-- the rest after a reader is a suffix of what it reads
ends_then : {A B : Type 0} (f : List ℕ → Read A) (g : A → List ℕ → Read B)
    → ((bytes : List ℕ) (x : A × List ℕ) → f bytes ≡ Ok x → IsEnd x.1 bytes)
    → ((a : A) (bytes : List ℕ) (x : B × List ℕ) → g a bytes ≡ Ok x → IsEnd x.1 bytes)
    → (bytes : List ℕ) (x : B × List ℕ) → (f bytes >>= λ y. g y.0 y.1) ≡ Ok x → IsEnd x.1 bytes
ends_then f g p q bytes x e =
    let b = bind_ok (f bytes) (λ y. g y.0 y.1) x e in
    end_then x.1 b.0.1 bytes (q b.0.0 b.0.1 x b.2) (p bytes b.0 b.1)

abbrev ok_read : {B : Type 0} → B × List ℕ → Read B
ok_read y = Ok y

same_end : {B : Type 0} (y z : B × List ℕ) → ok_read y ≡ ok_read z → y.1 ≡ z.1
same_end {B = B} y z h = let same : y ≡ z = cc in ap (λ (w : B × List ℕ). w.1) same

ends_step : {A B : Type 0} (r : Result A Halt) (g : A → B) (bytes : List ℕ) (x : B × List ℕ)
    → (r >>= λ a. read_as (g a) bytes) ≡ ok_read x → IsEnd x.1 bytes
ends_step (Ok a) g bytes x e = record { done = []; is = same_end (g a, bytes) x e }
ends_step (Err d) g bytes x e = absurd cc

pub length_ends : (limits : Limits) (bytes : List ℕ) (x : Option ℕ × List ℕ) → length_at limits bytes ≡ Ok x
    → IsEnd x.1 bytes
length_ends limits bytes x e = fits_end (length_at limits) (IsLength limits) (length_fits limits) bytes x e

pub blob_ends : (k : BlobKind) (n : Option ℕ) (bytes : List ℕ) (x : ℕ × List ℕ) → blob_passed k n bytes ≡ Ok x
    → IsEnd x.1 bytes
unfolding blob_passed
blob_ends k None bytes x e = ends_step {B = ℕ} (no_blob_answer k) (λ a. 0) bytes x e
blob_ends k (Some n) bytes x e = ends_then {B = ℕ} (blob_at n) (λ text rest. body_passed k text >>= λ c. Ok (c, rest))
    (λ bs y h. fits_end (blob_at n) _ (blob_fits n) bs y h)
    (λ text. ends_step {B = ℕ} (body_passed k text) (λ c. c)) bytes x e

item_of_ends : (limits : Limits) (o : Option Kind) (bytes : List ℕ) (x : ℕ × List ℕ) → item_of limits o bytes ≡ Ok x
    → IsEnd x.1 bytes
unfolding item_of
item_of_ends limits None bytes x e = absurd cc
item_of_ends limits (Some (kinds.Line k)) bytes x e =
    ends_then {B = ℕ} (line_at limits.line) (λ line rest. line_answer k line >>= λ a. Ok (0, rest))
    (λ bs y h. fits_end (line_at limits.line) _ (line_fits limits.line) bs y h)
    (λ line. ends_step {B = ℕ} (line_answer k line) (λ a. 0)) bytes x e
item_of_ends limits (Some (kinds.Blob k)) bytes x e =
    ends_then {B = ℕ} (length_at limits) (blob_passed k) (length_ends limits) (blob_ends k) bytes x e
item_of_ends limits (Some (kinds.Group k)) bytes x e =
    ends_then {B = ℕ} (length_at limits) (λ n rest. count_behind k n >>= λ c. Ok (c, rest)) (length_ends limits)
    (λ n. ends_step {B = ℕ} (count_behind k n) (λ c. c)) bytes x e

pub item_ends : (limits : Limits) (bytes : List ℕ) (x : ℕ × List ℕ) → item_at limits bytes ≡ Ok x → IsEnd x.1 bytes
unfolding item_at
item_ends limits [] x e = absurd cc
item_ends limits (b ∷ bytes) x e = end_behind b x.1 bytes (item_of_ends limits (kind_of b) bytes x e)

push_begins_ends : (limits : Limits) (n : Option ℕ) (bytes : List ℕ) (x : Open × List ℕ)
    → push_begins limits n bytes ≡ Ok x → IsEnd x.1 bytes
unfolding push_begins
push_begins_ends limits None bytes x e = absurd cc
push_begins_ends limits (Some zero) bytes x e = absurd cc
push_begins_ends limits (Some (suc n)) bytes x e =
    ends_then {B = Open} (kind_at limits) (λ k rest. Ok (record { depth = limits.depth - 1; left = n }, rest))
    (λ bs y h. fits_end (kind_at limits) (IsPushKind limits) (kind_at_fits limits) bs y h)
    (λ k bs y h. ends_step {B = Open} (Ok k) (λ j. record { depth = limits.depth - 1; left = n }) bs y h) bytes x e

pub begins_ends : (limits : Limits) (bytes : List ℕ) (x : Open × List ℕ) → begins_at limits bytes ≡ Ok x
    → IsEnd x.1 bytes
unfolding begins_at push_begins_at
begins_ends limits [] x e = absurd cc
begins_ends limits (b ∷ bytes) x e = by (b == 62) (limits.depth == 0) e
  where
    by : (c d : Bool) → cond {A = Read Open} c
        (cond {A = Read Open} d (Err (bad TooDeep)) (length_at limits bytes >>= λ y. push_begins limits y.0 y.1))
        (Ok (record { depth = limits.depth; left = 1 }, b ∷ bytes)) ≡ Ok x → IsEnd x.1 (b ∷ bytes)
    by true true h = absurd cc
    by true false h = end_behind b x.1 bytes
        (ends_then {B = Open} (length_at limits) (push_begins limits) (length_ends limits)
        (push_begins_ends limits) bytes x h)
    by false d h = ends_step {A = ℕ} {B = Open} (Ok b) (λ j. record { depth = limits.depth; left = 1 }) (b ∷ bytes) x h
