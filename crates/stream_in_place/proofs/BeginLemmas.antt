-- What the bytes that servers write begin with.
use Rattle.std.proofs.Common.{◌≡◌, ◌≤◌, ◌<◌, ◌^◌, ◌+◌, ◌*◌, ◌∙◌, ℕ, zero, suc, List, [], ◌∷◌, ◌++◌, length}
use Rattle.std.proofs.Common.{drop, codes, decimal, Option, Some, None, Ok, inl, inr, refl, sym, ap, arith}
use Rattle.std.proofs.Common.{flat_map, append_assoc, add-one, Bool, true, false}
use Rattle.std.specs.List.{AllByRecursion, list_all}
use Rattle.std.proofs.lemmas.Fmt.{decimal_nonempty, length-decimal-le}
use Rattle.redis_resp.specs.Tree.{Tree, nil, array, trees}
use Rattle.redis_wire.specs.declared.limits.Limits.{Limits}
use Rattle.redis_wire.specs.declared.kind.GroupKind.TheVariants.{Array}
use Rattle.redis_wire.specs.Reading.{Read, ◌>>=◌, is_inner}
use Rattle.redis_wire.specs.Reply.{Answer, value, group, answer_list, Answers, values, mixed}
use Rattle.redis_wire.specs.Group.{many, group_tree, group_answer}
use Rattle.redis_wire.specs.Scalar.{length_of}
use Rattle.redis_wire.specs.Level.{length_at, value_at, group_body_at}
use Rattle.redis_wire.specs.Packed.{crlf, bulk_bytes}
use Rattle.redis_wire.specs.Written.{line_bytes, count_bytes}
use Rattle.redis_wire.specs.Place.{BeginsWithHead, BeginsWithLine, BeginsWithText, BeginsWithNil, BeginsWithInt}
use Rattle.redis_wire.specs.Place.{BeginsWithArray, IsArrayAt}
use Rattle.redis_wire.proofs.FitsLemmas.{bind_ok, line_fits, blob_fits, length_fits}
use Rattle.redis_wire.proofs.DigitLemmas.{inner_digits, number_of_digits_is}
use Rattle.redis_wire.proofs.CommandLemmas.{decimal_digits, is_length}
use Rattle.redis_wire.proofs.PlaceLemmas.{nil_reads}
use Rattle.stream_in_place.specs.Sent.{Pairs, SentEntry}
use Rattle.stream_in_place.specs.Added.{row_count}
use Rattle.stream_in_place.specs.Shapes.{NilForm, no_array, no_text, null, nil_bytes, pair_bytes, fields_bytes}
use Rattle.stream_in_place.specs.Shapes.{delivery_bytes, row_len, entry_bytes, rows_bytes, AllowsRows, IsPair, ArePairs}
use Rattle.stream_in_place.specs.Shapes.{IsOfForm, IsEntryOf}

-- a line that CR LF ends
line_again : (limits : Limits) (mark : ℕ) (line rest : List ℕ) → list_all is_inner line ≡ true
    → length line ≤ limits.line → BeginsWithLine limits (line_bytes mark line ++ rest) mark line rest
line_again limits mark line rest inner within = record {
  behind = (line ++ crlf) ++ rest;
  is = refl;
  reads = (line_fits limits.line).again (line ++ crlf) rest line
      (record { is = refl; inner = inner; within = within });
}

-- the -1 that means none
none_again : (limits : Limits) (mark : ℕ) (rest : List ℕ) → 20 ≤ limits.line
    → BeginsWithHead limits (line_bytes mark (codes "-1") ++ rest) mark None rest
unfolding length_of
none_again limits mark rest line = record {
  behind = (codes "-1" ++ crlf) ++ rest;
  is = refl;
  len = (length_fits limits).again (codes "-1" ++ crlf) rest None (record {
    first = codes "-1" ++ crlf;
    second = [];
    a = codes "-1";
    is = refl;
    at_first = record { is = refl; inner = refl; within = omega (arith, line) };
    at_second = record { is = refl; made = refl };
  });
}

module _ (limits : Limits) (allows : AllowsRows limits) (bytes : List ℕ) where
  pub head_begins : (mark n : ℕ) (rest : List ℕ) → n ≤ limits.length → bytes ≡ count_bytes mark n ++ rest
      → BeginsWithHead limits bytes mark (Some n) rest
  head_begins mark n rest le is = record {
    behind = (decimal n ++ crlf) ++ rest;
    is = is;
    len = (length_fits limits).again (decimal n ++ crlf) rest (Some n)
        (is_length limits n le (omega (arith, allows.fits)) (omega (arith, allows.line)));
  }

  pub text_begins : (text rest : List ℕ) → length text ≤ limits.length → bytes ≡ bulk_bytes text ++ rest
      → BeginsWithText limits bytes text rest
  unfolding bulk_bytes
  text_begins text rest le is = record {
    len = length text;
    body = (text ++ crlf) ++ rest;
    head = record {
      behind = (decimal (length text) ++ (crlf ++ (text ++ crlf))) ++ rest;
      is = is;
      len =
          ap (length_at limits) (ap (λ (xs : List ℕ). xs ++ rest)
          (sym (append_assoc (decimal (length text)) crlf (text ++ crlf)))
          ∙ append_assoc (decimal (length text) ++ crlf) (text ++ crlf) rest)
          ∙ (length_fits limits).again (decimal (length text) ++ crlf) ((text ++ crlf) ++ rest) (Some (length text))
          (is_length limits (length text) le (omega (arith, allows.fits)) (omega (arith, allows.line)));
    };
    reads = (blob_fits (length text)).again (text ++ crlf) rest text (record { is = refl; len = refl });
  }

  pub int_begins : (n : ℕ) (rest : List ℕ) → n < 2 ^ 63 → bytes ≡ line_bytes 58 (decimal n) ++ rest
      → BeginsWithInt limits bytes n rest
  int_begins n rest small is = record {
    line = decimal n;
    at = rw is
        (line_again limits 58 (decimal n) rest (inner_digits (decimal n) (decimal_digits n (omega arith)).each)
        (omega (arith, allows.line, length-decimal-le 20 n (omega arith) (omega arith) (omega arith))));
    says = number_of_digits_is (decimal n) n (decimal_nonempty n (omega arith)) (decimal_digits n (omega arith)) small;
  }

  nil_of : (form : NilForm) (rest : List ℕ) → BeginsWithNil limits (nil_bytes form ++ rest) rest
  unfolding nil_bytes
  nil_of no_array rest = inl (none_again limits 42 rest allows.line)
  nil_of no_text rest = inr (inl (none_again limits 36 rest allows.line))
  nil_of null rest = inr (inr (line_again limits 95 [] rest refl (omega arith)))

  pub nil_begins : (form : NilForm) (rest : List ℕ) → bytes ≡ nil_bytes form ++ rest → BeginsWithNil limits bytes rest
  nil_begins form rest is = rw is (nil_of form rest)

pub pair_split : (p : List ℕ × List ℕ) (rest left : List ℕ) → left ≡ pair_bytes p ++ rest
    → left ≡ bulk_bytes p.0 ++ (bulk_bytes p.1 ++ rest)
unfolding pair_bytes
pair_split p rest left is = is ∙ append_assoc (bulk_bytes p.0) (bulk_bytes p.1) rest

-- a field begins with its name, and the value follows
pub pair_begins : (limits : Limits) → AllowsRows limits → (left : List ℕ) (p : List ℕ × List ℕ) (rest : List ℕ)
    → IsPair limits p → left ≡ pair_bytes p ++ rest
    → BeginsWithText limits left p.0 (bulk_bytes p.1 ++ rest) × BeginsWithText limits (bulk_bytes p.1 ++ rest) p.1 rest
pair_begins limits a left p rest h is = (
  text_begins limits a left p.0 (bulk_bytes p.1 ++ rest) h.name (pair_split p rest left is),
  text_begins limits a (bulk_bytes p.1 ++ rest) p.1 rest h.value refl,
)

-- ---- the fields of an entry, or nil

-- the array that its elements make, and the bytes after them
abbrev array_made : Answers × List ℕ → Read Answer
array_made x = group_answer Array x.0 >>= λ a. Ok (a, x.1)

not_other : (other : Tree) → ((ts : List Tree) → array (trees ts) ≡ other → ⊥) → (ms : Answers) (after rest : List ℕ)
    → array_made (ms, after) ≡ Ok (value other, rest) → ⊥
unfolding group_tree
not_other other apart (values ts) after rest is =
    let pair : (value (array (trees ts)), after) ≡ (value other, rest) = cc in
    let same : value (array (trees ts)) ≡ value other = ap (λ (x : Answer × List ℕ). x.0) pair in
    apart ts cc
not_other other apart (mixed xs) after rest is =
    let pair : (group Array (answer_list xs), after) ≡ (value other, rest) = cc in
    let same : group Array (answer_list xs) ≡ value other = ap (λ (x : Answer × List ℕ). x.0) pair in
    cc

-- another value has no array header
pub no_array_is : (limits : Limits) (bytes : List ℕ) (at count after : ℕ) → IsArrayAt limits bytes at count after
    → (other : Tree) → ((ts : List Tree) → array (trees ts) ≡ other → ⊥) → (d : ℕ) (rest : List ℕ)
    → value_at limits (suc d) (drop at bytes) ≡ Ok (value other, rest) → ⊥
unfolding group_body_at
no_array_is limits bytes at count after head other apart d rest read =
    let b = bind_ok (many (value_at limits d) count (drop after bytes)) array_made (value other, rest)
    (sym (head.reads d) ∙ read) in
    not_other other apart b.0.0 b.0.1 rest b.2

-- nil has no array header
no_head : (limits : Limits) (bytes : List ℕ) (at count after : ℕ) → IsArrayAt limits bytes at count after
    → (rest : List ℕ) → BeginsWithNil limits (drop at bytes) rest → ⊥
no_head limits bytes at count after head rest h =
    no_array_is limits bytes at count after head nil (λ ts e. cc) 0 rest (nil_reads limits 0 (drop at bytes) rest h)

pub array_split : (form : NilForm) (ps : Pairs) (rest left : List ℕ) → left ≡ fields_bytes form (Some ps) ++ rest
    → left ≡ count_bytes 42 (2 * length ps) ++ (flat_map pair_bytes ps ++ rest)
unfolding fields_bytes
array_split form ps rest left is = is ∙ append_assoc (count_bytes 42 (2 * length ps)) (flat_map pair_bytes ps) rest

pub nil_split : (form : NilForm) (rest left : List ℕ) → left ≡ fields_bytes form None ++ rest
    → left ≡ nil_bytes form ++ rest
unfolding fields_bytes
nil_split form rest left is = is

module _ (limits : Limits) (bytes : List ℕ) (at : ℕ) (Q : Option Pairs → List ℕ → Type 0) where
  -- if no array header was found
  pub own_without : ((count : ℕ) (rest : List ℕ) → BeginsWithArray limits (drop at bytes) count rest → ⊥)
      → ((rest : List ℕ) → BeginsWithNil limits (drop at bytes) rest → Q None rest)
      → (form : NilForm) (fs : Option Pairs) (rest : List ℕ) → AllowsRows limits → ArePairs limits fs
      → drop at bytes ≡ fields_bytes form fs ++ rest → Q fs rest
  own_without apart none form None rest a h is =
      none rest (nil_begins limits a (drop at bytes) form rest (nil_split form rest (drop at bytes) is))
  own_without apart none form (Some ps) rest a h is = absurd (apart (2 * length ps) (flat_map pair_bytes ps ++ rest)
      (head_begins limits a (drop at bytes) 42 (2 * length ps) (flat_map pair_bytes ps ++ rest) h.0
      (array_split form ps rest (drop at bytes) is)))

  -- if one was found
  pub own_with : (members behind : ℕ) → IsArrayAt limits bytes at members behind
      → ((count : ℕ) (rest : List ℕ) → BeginsWithArray limits (drop at bytes) count rest
      → (members ≡ count) × (drop behind bytes ≡ rest))
      → ((ps : Pairs) (rest : List ℕ) → AllowsRows limits → members ≡ 2 * length ps
      → AllByRecursion (IsPair limits) ps → drop behind bytes ≡ flat_map pair_bytes ps ++ rest → Q (Some ps) rest)
      → (form : NilForm) (fs : Option Pairs) (rest : List ℕ) → AllowsRows limits → ArePairs limits fs
      → drop at bytes ≡ fields_bytes form fs ++ rest → Q fs rest
  own_with members behind head found step form None rest a h is = absurd (no_head limits bytes at members behind head
      rest (nil_begins limits a (drop at bytes) form rest (nil_split form rest (drop at bytes) is)))
  own_with members behind head found step form (Some ps) rest a h is =
      let f = found (2 * length ps) (flat_map pair_bytes ps ++ rest)
      (head_begins limits a (drop at bytes) 42 (2 * length ps) (flat_map pair_bytes ps ++ rest) h.0
      (array_split form ps rest (drop at bytes) is)) in
      step ps rest a f.0 h.1 f.1

-- ---- the time and the count

pub no_delivery_left : (d : Option (ℕ × ℕ)) (rest left : List ℕ) → IsOfForm false d
    → left ≡ delivery_bytes d ++ rest → left ≡ rest
unfolding delivery_bytes
no_delivery_left None rest left h is = is
no_delivery_left (Some d) rest left h is = absurd h

-- The bytes begin with two numbers.
pub record IsTwo (left rest : List ℕ) : Type 0 where
  pub elapsed : ℕ
  pub count : ℕ
  pub short : elapsed < 2 ^ 63
  pub few : count < 2 ^ 63
  pub is : left ≡ line_bytes 58 (decimal elapsed) ++ (line_bytes 58 (decimal count) ++ rest)

pub delivery_split : (d : Option (ℕ × ℕ)) (rest left : List ℕ) → IsOfForm true d → left ≡ delivery_bytes d ++ rest
    → IsTwo left rest
unfolding delivery_bytes
delivery_split None rest left h is = absurd h
delivery_split (Some d) rest left h is = record {
  elapsed = d.0;
  count = d.1;
  short = h.0;
  few = h.1;
  is = is ∙ append_assoc (line_bytes 58 (decimal d.0)) (line_bytes 58 (decimal d.1)) rest;
}

-- ---- rows

-- the bytes after the header of a row
abbrev pub behind_head : NilForm → SentEntry → List ℕ → List ℕ
behind_head form e rest =
    bulk_bytes e.id ++ (fields_bytes form e.fields ++ (delivery_bytes e.delivery ++ rest))

pub row_split : (form : NilForm) (e : SentEntry) (rest left : List ℕ) → left ≡ entry_bytes form e ++ rest
    → left ≡ count_bytes 42 (row_len e.delivery) ++ behind_head form e rest
unfolding entry_bytes
row_split form e rest left is =
    let head = count_bytes 42 (row_len e.delivery) in
    let id = bulk_bytes e.id in
    let fields = fields_bytes form e.fields in
    let last = delivery_bytes e.delivery in
    is ∙ append_assoc head (id ++ (fields ++ last)) rest
    ∙ ap (λ (z : List ℕ). head ++ z) (append_assoc id (fields ++ last) rest)
    ∙ ap (λ (z : List ℕ). head ++ (id ++ z)) (append_assoc fields last rest)

pub rows_split : (form : NilForm) (es : List SentEntry) (rest left : List ℕ) → left ≡ rows_bytes form es ++ rest
    → left ≡ count_bytes 42 (length es) ++ (flat_map (entry_bytes form) es ++ rest)
unfolding rows_bytes
rows_split form es rest left is = is ∙ append_assoc (count_bytes 42 (length es)) (flat_map (entry_bytes form) es) rest

pub form_small : (claim : Bool) (d : ℕ × ℕ) → IsOfForm claim (Some d) → (d.0 < 2 ^ 63) × (d.1 < 2 ^ 63)
form_small false d h = absurd h
form_small true d h = h

row_len_is : (claim : Bool) (d : Option (ℕ × ℕ)) → IsOfForm claim d → row_len d ≡ row_count claim
row_len_is false None h = refl
row_len_is false (Some d) h = absurd h
row_len_is true None h = absurd h
row_len_is true (Some d) h = refl

row_count_le : (claim : Bool) → row_count claim ≤ 4
row_count_le false = omega arith
row_count_le true = omega arith

pub row_begins : (limits : Limits) (claim : Bool) (left : List ℕ) (form : NilForm) (e : SentEntry) (rest : List ℕ)
    → AllowsRows limits → IsEntryOf limits claim e → left ≡ entry_bytes form e ++ rest
    → BeginsWithArray limits left (row_count claim) (behind_head form e rest)
row_begins limits claim left form e rest a h is =
    head_begins limits a left 42 (row_count claim) (behind_head form e rest) (omega (arith, a.row, row_count_le claim))
    (row_split form e rest left is
    ∙ ap (λ (n : ℕ). count_bytes 42 n ++ behind_head form e rest) (row_len_is claim e.delivery h.form))

-- ---- consecutive items

-- The next item, and after its bytes those of the items that are left.
pub record IsNext {A : Type 0} (f : A → List ℕ) (P : A → Type 0) (xs : List A) (i : ℕ) (left rest : List ℕ)
    : Type 0 where
  pub item : A
  pub tail : drop i xs ≡ item ∷ drop (i + 1) xs
  pub is : left ≡ f item ++ (flat_map f (drop (i + 1) xs) ++ rest)
  pub holds : P item

module _ {A : Type 0} (f : A → List ℕ) (P : A → Type 0) where
  next_in : (xs : List A) (i : ℕ) → i < length xs → AllByRecursion P xs
      → (x : A) × (drop i xs ≡ x ∷ drop (suc i) xs) × P x
  next_in [] i lt h = absurd (omega (arith, lt))
  next_in (x ∷ xs) zero lt h = (x, refl, h.0)
  next_in (x ∷ xs) (suc i) lt h = next_in xs i (omega arith) h.1

  pub next_is : (xs : List A) (i : ℕ) (left rest : List ℕ) → i < length xs → AllByRecursion P xs
      → left ≡ flat_map f (drop i xs) ++ rest → IsNext f P xs i left rest
  next_is xs i left rest lt h is =
      let n = next_in xs i lt h in
      let tail = n.1 ∙ ap (λ (k : ℕ). n.0 ∷ drop k xs) (sym (add-one i)) in
      record {
        item = n.0;
        tail = tail;
        is = is ∙ ap (λ (ys : List A). flat_map f ys ++ rest) tail
            ∙ append_assoc (f n.0) (flat_map f (drop (i + 1) xs)) rest;
        holds = n.2;
      }

  all_gone : (xs : List A) (i : ℕ) → i ≡ length xs → flat_map f (drop i xs) ≡ []
  all_gone [] zero e = refl
  all_gone [] (suc i) e = refl
  all_gone (x ∷ xs) zero e = absurd (omega (arith, e))
  all_gone (x ∷ xs) (suc i) e = all_gone xs i (omega arith)

  pub none_left : (xs : List A) (i : ℕ) (left rest : List ℕ) → i ≡ length xs
      → left ≡ flat_map f (drop i xs) ++ rest → left ≡ rest
  none_left xs i left rest e is = is ∙ ap (λ (z : List ℕ). z ++ rest) (all_gone xs i e)

-- After `i` items, the bytes that are left are those of the items that are left.
pub record IsLeft {A : Type 0} (f : A → List ℕ) (P : A → Type 0) (limits : Limits) (bytes : List ℕ)
    (at count i behind : ℕ) : Type 0 where
  pub left : (xs : List A) (rest : List ℕ) → AllowsRows limits → AllByRecursion P xs
      → drop at bytes ≡ flat_map f xs ++ rest → count ≡ length xs
      → drop behind bytes ≡ flat_map f (drop i xs) ++ rest

module _ {A : Type 0} (f : A → List ℕ) (P : A → Type 0) (limits : Limits) (bytes : List ℕ) (at count : ℕ) where
  pub left_start : IsLeft f P limits bytes at count 0 at
  left_start = record { left = λ xs rest allows each is n. is }

  module _ (i behind : ℕ) (h : IsLeft f P limits bytes at count i behind) where
    -- one more item was found
    pub left_more : (after : ℕ) → i < count
        → ((x : A) (rest : List ℕ) → AllowsRows limits → P x → drop behind bytes ≡ f x ++ rest
        → drop after bytes ≡ rest)
        → IsLeft f P limits bytes at count (i + 1) after
    left_more after lt step = record {
      left = λ xs rest allows each is n.
          let next = next_is f P xs i (drop behind bytes) rest (omega arith) each (h.left xs rest allows each is n) in
          step next.item (flat_map f (drop (i + 1) xs) ++ rest) allows next.holds next.is;
    }

    -- the next item was not found, although it is there
    pub left_none : i < count
        → ((x : A) (rest : List ℕ) → AllowsRows limits → P x → drop behind bytes ≡ f x ++ rest → ⊥)
        → (xs : List A) (rest : List ℕ) → AllowsRows limits → AllByRecursion P xs
        → drop at bytes ≡ flat_map f xs ++ rest → count ≡ length xs → ⊥
    left_none lt step xs rest allows each is n =
        let next = next_is f P xs i (drop behind bytes) rest (omega arith) each (h.left xs rest allows each is n) in
        step next.item (flat_map f (drop (i + 1) xs) ++ rest) allows next.holds next.is

    -- all were found
    pub left_end : i ≡ count → (xs : List A) (rest : List ℕ) → AllowsRows limits → AllByRecursion P xs
        → drop at bytes ≡ flat_map f xs ++ rest → count ≡ length xs → drop behind bytes ≡ rest
    left_end e xs rest allows each is n =
        none_left f P xs i (drop behind bytes) rest (e ∙ n) (h.left xs rest allows each is n)
