-- The scanned part of a command determines where the command goes on.
use Rattle.std.proofs.Common.{◌≡◌, ◌≤◌, ◌<◌, ◌+◌, ◌-◌, ◌==◌, ◌&&◌, ℕ, zero, suc, List, [], ◌∷◌, ◌++◌, length, take, drop, Bool, true, false, cond, not}
use Rattle.std.proofs.Common.{Result, Ok, Err, refl, sym, ap, subst, ◌∙◌, append_assoc, append-nil, arith, length-append}
use Rattle.std.proofs.lemmas.Bool.Decides.{nat_tests}
use Rattle.std.proofs.lemmas.Grind.{common_steps}
use Rattle.std.proofs.lemmas.List.{take-append-drop}
use Rattle.std.proofs.lemmas.List.Folds.{length-prefix_len}
use Rattle.std.proofs.Math.Seq.{drop-append_seam, take-append_seam}
use Rattle.std.specs.List.{prefix_len}
use Rattle.std.specs.Prelude.{nat_lt, slice_index, if◌then◌else◌}
use Rattle.server_commands.specs.declared.incoming.Scan.{Scan}
use Rattle.server_commands.specs.declared.incoming.ProtocolError.{ProtocolError}
use Rattle.server_commands.specs.declared.incoming.ProtocolError.TheVariants as errors
use Rattle.server_commands.specs.Incoming.{Read, Halt, ◌>>=◌, short, bad, no_end, is_before, ended, before, behind_one, head_at, word_count, word_len}
use Rattle.server_commands.specs.Incoming.{behind_two, body_at, word_at, words_at, count_at, array_at, command_at, IsScan}

-- This is read of a prefix of the bytes, and it is read of that prefix whatever bytes follow.
pub record Fronts {A : Type 0} (read : List ℕ → Read A) (bytes : List ℕ) (x : A) (rest : List ℕ) : Type 0 where
  pub front : List ℕ
  pub is : bytes ≡ front ++ rest
  pub so : (more : List ℕ) → read (front ++ more) ≡ Ok (x, more)

-- one step, and after it the next one
module _ {A B : Type 0} (first : List ℕ → Read A) (next : A → List ℕ → Read B) (bytes : List ℕ)
    (ahead : (x : A) (rest : List ℕ) → first bytes ≡ Ok (x, rest) → Fronts first bytes x rest)
    (later : (x : A) (rest : List ℕ) (y : B) (left : List ℕ) → next x rest ≡ Ok (y, left) → Fronts (next x) rest y left)
    (y : B) (left : List ℕ) where
  by_first : (r : Read A) → first bytes ≡ r → (r >>= λ x. next x.0 x.1) ≡ Ok (y, left)
      → Fronts (λ bs. first bs >>= λ x. next x.0 x.1) bytes y left
  by_first (Ok x) is g =
      let one = ahead x.0 x.1 is in
      let two = later x.0 x.1 y left g in
      record {
        front = one.front ++ two.front;
        is = one.is ∙ ap (λ (r : List ℕ). one.front ++ r) two.is ∙ sym (append_assoc one.front two.front left);
        so = λ more. rw (append_assoc one.front two.front more, one.so (two.front ++ more)) (two.so more);
      }
  by_first (Err e) is g = cc

  then_on : (first bytes >>= λ x. next x.0 x.1) ≡ Ok (y, left) → Fronts (λ bs. first bs >>= λ x. next x.0 x.1) bytes y left
  then_on h = by_first (first bytes) refl h

if_ok : {A : Type 0} (c : Bool) (x y : A) (e : Halt) → (if c then Ok x else Err e) ≡ Ok y → (c ≡ true) × (x ≡ y)
if_ok true x y e h = (refl, cc)
if_ok false x y e h = cc

unless_ok : {A : Type 0} (c : Bool) (read : Result A Halt) (y : A) (e : Halt) → (if c then Err e else read) ≡ Ok y
    → (c ≡ false) × (read ≡ Ok y)
unless_ok true read y e h = cc
unless_ok false read y e h = (refl, h)

module _ (p : ℕ → Bool) (b : ℕ) (rest more : List ℕ) (no : p b ≡ false) where
  passed : (x : ℕ) (ys : List ℕ) → p x ≡ true → prefix_len p (x ∷ ys) ≡ 1 + prefix_len p ys
  passed x ys is = ap (λ (v : Bool). cond v (1 + prefix_len p ys) 0) is

  stopped : (x : ℕ) (ys : List ℕ) → p x ≡ false → prefix_len p (x ∷ ys) ≡ 0
  stopped x ys is = ap (λ (v : Bool). cond v (1 + prefix_len p ys) 0) is

  later_stop : (x : ℕ) (xs : List ℕ) (v : Bool) → p x ≡ v
      → (drop (prefix_len p xs) xs ≡ b ∷ rest → prefix_len p (take (prefix_len p xs) xs ++ b ∷ more) ≡ prefix_len p xs)
      → drop (prefix_len p (x ∷ xs)) (x ∷ xs) ≡ b ∷ rest
      → prefix_len p (take (prefix_len p (x ∷ xs)) (x ∷ xs) ++ b ∷ more) ≡ prefix_len p (x ∷ xs)
  later_stop x xs true passes rec h =
      let one : 1 + prefix_len p xs ≡ suc (prefix_len p xs) = omega arith in
      let len : prefix_len p (x ∷ xs) ≡ suc (prefix_len p xs) = passed x xs passes ∙ one in
      let from : drop (prefix_len p xs) xs ≡ b ∷ rest = subst (λ (n : ℕ). drop n (x ∷ xs) ≡ b ∷ rest) len h in
      subst (λ (n : ℕ). prefix_len p (take n (x ∷ xs) ++ b ∷ more) ≡ n) (sym len)
      (passed x (take (prefix_len p xs) xs ++ b ∷ more) passes ∙ ap (λ (n : ℕ). 1 + n) (rec from) ∙ one)
  later_stop x xs false fails rec h =
      subst (λ (n : ℕ). prefix_len p (take n (x ∷ xs) ++ b ∷ more) ≡ n) (sym (stopped x xs fails)) (stopped b more no)

  stops_there : (bytes : List ℕ) → drop (prefix_len p bytes) bytes ≡ b ∷ rest
      → prefix_len p (take (prefix_len p bytes) bytes ++ b ∷ more) ≡ prefix_len p bytes
  stops_there [] h = cc
  stops_there (x ∷ xs) h = later_stop x xs (p x) refl (stops_there xs) h

not_before : (end : ℕ) → is_before end end ≡ false
not_before end = grind (arith, nat_tests)

itself : (end : ℕ) → end == end ≡ true
itself end = grind (arith, nat_tests)

took : (n : ℕ) (bytes : List ℕ) → nat_lt (length bytes) n ≡ false → length (take n bytes) ≡ n
took n bytes h = grind (arith, nat_tests, common_steps)

drop_within : (n : ℕ) (xs ys : List ℕ) → n ≤ length xs → drop n (xs ++ ys) ≡ drop n xs ++ ys
drop_within n xs ys h = grind (arith, common_steps)

value_or : {A : Type 0} → A → Read A → A
value_or d (Ok x) = x.0
value_or d (Err e) = d

rest_of : {A : Type 0} → Read A → List ℕ
rest_of (Ok x) = x.1
rest_of (Err e) = []

same_ok : {A : Type 0} (read : Read A) (x y : A) (r s : List ℕ) → read ≡ Ok (x, r) → read ≡ Ok (y, s)
    → (x ≡ y) × (r ≡ s)
unfolding value_or rest_of
same_ok read x y r s p q = (ap (λ v. value_or x v) (sym p ∙ q), ap (λ v. rest_of v) (sym p ∙ q))

is_end : (b end : ℕ) → b == end ≡ true → b ≡ end
is_end b end h = grind (arith, nat_tests)

-- what was read where a byte had to end it
ended_so : (end n : ℕ) (e : ProtocolError) (front behind f r : List ℕ) → ended end e n front behind ≡ Ok (f, r)
    → (behind ≡ end ∷ r) × (front ≡ f)
unfolding ended
ended_so end n e front [] f r h = cc
ended_so end n e front (b ∷ rest) f r h =
    let is = if_ok (b == end) (front, rest) (f, r) (no_end e n) h in
    let same : b ≡ end = is_end b end is.0 in
    (rw (same, ap (λ (x : List ℕ × List ℕ). x.1) is.1) refl, ap (λ (x : List ℕ × List ℕ). x.0) is.1)

at_seam : (end : ℕ) (e : ProtocolError) (xs more : List ℕ) → prefix_len (is_before end) (xs ++ end ∷ more) ≡ length xs
    → nat_lt 65536 (length xs) ≡ false → end == end ≡ true → before end e (xs ++ end ∷ more) ≡ Ok (xs, more)
unfolding before ended
at_seam end e xs more len_is small same = rw (len_is, small, take-append_seam xs (end ∷ more), drop-append_seam xs (end ∷ more), same) refl

before_fronts : (end : ℕ) (e : ProtocolError) (bytes f r : List ℕ) → before end e bytes ≡ Ok (f, r)
    → Fronts (before end e) bytes f r
unfolding before
before_fronts end e bytes f r h =
    let p : ℕ = prefix_len (is_before end) bytes in
    let within = unless_ok (nat_lt 65536 p) (ended end e (length bytes) (take p bytes) (drop p bytes)) (f, r) (bad e) h in
    let so = ended_so end (length bytes) e (take p bytes) (drop p bytes) f r within.1 in
    let len : length (take p bytes) ≡ p = length-prefix_len (is_before end) bytes in
    record {
      front = take p bytes ++ end ∷ [];
      is = sym (take-append-drop p bytes) ∙ ap (λ (x : List ℕ). take p bytes ++ x) so.0 ∙ sym (append_assoc (take p bytes) (end ∷ []) r);
      so = λ more.
          let there = stops_there (is_before end) end r more (not_before end) bytes so.0 in
          rw (append_assoc (take p bytes) (end ∷ []) more)
          (subst (λ (v : List ℕ). before end e (take p bytes ++ end ∷ more) ≡ Ok (v, more)) so.1
          (at_seam end e (take p bytes) more (there ∙ sym len) (rw len within.0) (itself end)));
    }

one_fronts : (line rest f r : List ℕ) → behind_one line rest ≡ Ok (f, r) → Fronts (behind_one line) rest f r
unfolding behind_one
one_fronts line [] f r h = cc
one_fronts line (b ∷ rest) f r h =
    let same = same_ok (behind_one line (b ∷ rest)) line f rest r refl h in
    record { front = b ∷ []; is = ap (λ (x : List ℕ). b ∷ x) same.1; so = λ more. rw same.0 refl }

head_fronts : (e : ProtocolError) (bytes f r : List ℕ) → head_at e bytes ≡ Ok (f, r) → Fronts (head_at e) bytes f r
unfolding head_at
head_fronts e bytes f r h = then_on (before 13 e) behind_one bytes (before_fronts 13 e bytes) one_fronts f r h

-- ---- a word

long_enough : (xs ys : List ℕ) → nat_lt (length (xs ++ ys)) (length xs) ≡ false
long_enough xs ys = grind (arith, nat_tests, length-append {A = ℕ})

body_seam : (xs : List ℕ) (a b : ℕ) (more : List ℕ) → body_at (xs ++ a ∷ b ∷ more) (length xs) ≡ Ok (xs, more)
unfolding body_at behind_two
body_seam xs a b more =
    rw (long_enough xs (a ∷ b ∷ more), take-append_seam xs (a ∷ b ∷ more), drop-append_seam xs (a ∷ b ∷ more)) refl

two_so : (body rest w r : List ℕ) → behind_two body rest ≡ Ok (w, r)
    → (a : ℕ) × (b : ℕ) × (rest ≡ a ∷ b ∷ r) × (body ≡ w)
unfolding behind_two
two_so body [] w r h = cc
two_so body (a ∷ []) w r h = cc
two_so body (a ∷ b ∷ rest) w r h =
    let same = same_ok (behind_two body (a ∷ b ∷ rest)) body w rest r refl h in
    (a, b, ap (λ (x : List ℕ). a ∷ b ∷ x) same.1, same.0)

body_fronts : (n : ℕ) (bytes w r : List ℕ) → body_at bytes n ≡ Ok (w, r) → Fronts (λ bs. body_at bs n) bytes w r
unfolding body_at
body_fronts n bytes w r h =
    let within = unless_ok (nat_lt (length bytes) n) (behind_two (take n bytes) (drop n bytes)) (w, r) short h in
    let so = two_so (take n bytes) (drop n bytes) w r within.1 in
    let len : length (take n bytes) ≡ n = took n bytes within.0 in
    record {
      front = take n bytes ++ so.0 ∷ so.1 ∷ [];
      is = sym (take-append-drop n bytes) ∙ ap (λ (x : List ℕ). take n bytes ++ x) so.2
          ∙ sym (append_assoc (take n bytes) (so.0 ∷ so.1 ∷ []) r);
      so = λ more. rw (append_assoc (take n bytes) (so.0 ∷ so.1 ∷ []) more)
          (subst (λ (v : List ℕ). body_at (take n bytes ++ so.0 ∷ so.1 ∷ more) n ≡ Ok (v, more)) so.3
          (subst (λ (k : ℕ). body_at (take n bytes ++ so.0 ∷ so.1 ∷ more) k ≡ Ok (take n bytes, more)) len
          (body_seam (take n bytes) so.0 so.1 more)));
    }

-- a number in a line, and this number of bytes
sized_by : (line rest w r : List ℕ) (len : Result ℕ Halt) → word_len line ≡ len → (len >>= body_at rest) ≡ Ok (w, r)
    → Fronts (λ bs. word_len line >>= body_at bs) rest w r
sized_by line rest w r (Ok n) is h =
    let body = body_fronts n rest w r h in
    record { front = body.front; is = body.is; so = λ more. rw is (body.so more) }
sized_by line rest w r (Err e) is h = cc

word_fronts : (bytes w r : List ℕ) → word_at bytes ≡ Ok (w, r) → Fronts word_at bytes w r
unfolding word_at
word_fronts bytes w r h = then_on (head_at errors.LongLength) (λ line rest. word_len line >>= body_at rest) bytes
    (head_fronts errors.LongLength bytes) (λ line rest y left g. sized_by line rest y left (word_len line) refl g) w r h

-- ---- a count

abbrev counted : List ℕ → ℕ → Read ℕ
counted rest n = Ok (n, rest)

counted_by : (line rest : List ℕ) (n : ℕ) (r : List ℕ) (count : Result ℕ Halt) → word_count line ≡ count
    → (count >>= counted rest) ≡ Ok (n, r) → Fronts (λ bs. word_count line >>= counted bs) rest n r
counted_by line rest n r (Ok k) is h =
    let same = same_ok (counted rest k) k n rest r refl h in
    record { front = []; is = same.1; so = λ more. rw (is, same.0) refl }
counted_by line rest n r (Err e) is h = cc

count_fronts : (bytes : List ℕ) (n : ℕ) (r : List ℕ) → count_at bytes ≡ Ok (n, r) → Fronts count_at bytes n r
unfolding count_at
count_fronts bytes n r h = then_on (head_at errors.LongCount) (λ line rest. word_count line >>= counted rest) bytes
    (head_fronts errors.LongCount bytes) (λ line rest y left g. counted_by line rest y left (word_count line) refl g) n r h

-- ---- how far a command was looked through

-- the bytes after a prefix are those after its length
behind_front : (bytes front rest : List ℕ) → bytes ≡ front ++ rest → drop (length bytes - length rest) bytes ≡ rest
behind_front bytes front rest is =
    let len : length bytes - length rest ≡ length front = omega (arith, ap length is, length-append {A = ℕ}) in
    rw (len, is) (drop-append_seam front rest)

-- nothing was looked through
pub none_so : (scan : Scan) (bytes : List ℕ) → scan.at ≡ 0 → scan.left ≡ 0 → IsScan scan bytes
unfolding words_at
none_so scan bytes at left = record {
  within = omega (arith, at);
  goes_on = λ more h. let no : words_at 0 (drop scan.at bytes ++ more) ≡ Err short = subst (λ (k : ℕ). words_at k (drop scan.at bytes ++ more) ≡ Err short) left h in cc;
}

-- it is as far
pub same_so : (scan new : Scan) (bytes : List ℕ) → new.at ≡ scan.at → new.left ≡ scan.left → IsScan scan bytes → IsScan new bytes
same_so scan new bytes at left is = record {
  within = rw at is.within;
  goes_on = λ more. rw (at, left) (is.goes_on more);
}

-- more bytes came in
pub more_so : (scan : Scan) (bytes more : List ℕ) → IsScan scan bytes → IsScan scan (bytes ++ more)
more_so scan bytes more is = record {
  within = omega (arith, is.within, length-append {A = ℕ});
  goes_on = λ others h. rw (append_assoc bytes more others)
      (is.goes_on (more ++ others) (rw (sym (append_assoc (drop scan.at bytes) more others)) (rw (drop_within scan.at bytes more is.within) at h)));
}

is_array : (b : ℕ) (bytes : List ℕ) → b ≡ 42 → command_at (b ∷ bytes) ≡ array_at (b ∷ bytes)
unfolding command_at
is_array b bytes is = let so : b == 42 ≡ true = grind (arith, nat_tests, is) in rw so refl

-- the count was read
pub begun_so : (scan : Scan) (bytes : List ℕ) (n : ℕ) (rest : List ℕ) → 1 ≤ length bytes → slice_index bytes 0 ≡ 42
    → count_at bytes ≡ Ok (n, rest) → scan.at ≡ length bytes - length rest → scan.left ≡ n → IsScan scan bytes
unfolding command_at array_at
begun_so scan [] n rest some first h at left = absurd (omega (arith, some))
begun_so scan (b ∷ xs) n rest some first h at left =
    let read = count_fronts (b ∷ xs) n rest h in
    record {
      within = omega (arith, at);
      goes_on = λ more g.
          let is_rest : drop scan.at (b ∷ xs) ≡ rest = rw at (behind_front (b ∷ xs) read.front rest read.is) in
          let words : words_at n (rest ++ more) ≡ Err short = rw (← is_rest, ← left) g in
          let count : count_at ((b ∷ xs) ++ more) ≡ Ok (n, rest ++ more) =
          subst (λ (bs : List ℕ). count_at (bs ++ more) ≡ Ok (n, rest ++ more)) (sym read.is)
          (rw (append_assoc read.front rest more) (read.so (rest ++ more))) in
          let array : array_at (b ∷ (xs ++ more)) ≡ Err short = rw count words in
          is_array b (xs ++ more) first ∙ array;
    }

-- a word was read
pub on_so : (scan new : Scan) (bytes w behind : List ℕ) → 0 < scan.left → word_at (drop scan.at bytes) ≡ Ok (w, behind)
    → new.at ≡ length bytes - length behind → new.left ≡ scan.left - 1 → IsScan scan bytes → IsScan new bytes
unfolding words_at
on_so scan new bytes w behind some h at left is =
    let read = word_fronts (drop scan.at bytes) w behind h in
    let whole : bytes ≡ (take scan.at bytes ++ read.front) ++ behind =
    sym (take-append-drop scan.at bytes) ∙ ap (λ (x : List ℕ). take scan.at bytes ++ x) read.is
    ∙ sym (append_assoc (take scan.at bytes) read.front behind) in
    let is_behind : drop new.at bytes ≡ behind = rw at (behind_front bytes (take scan.at bytes ++ read.front) behind whole) in
    record {
      within = omega (arith, at);
      goes_on = λ more g.
          let words : words_at (scan.left - 1) (behind ++ more) ≡ Err short = rw (← is_behind, ← left) g in
          let word : word_at (drop scan.at bytes ++ more) ≡ Ok (w, behind ++ more) =
          subst (λ (bs : List ℕ). word_at (bs ++ more) ≡ Ok (w, behind ++ more)) (sym read.is)
          (rw (append_assoc read.front behind more) (read.so (behind ++ more))) in
          let all : words_at (suc (scan.left - 1)) (drop scan.at bytes ++ more) ≡ Err short = rw (word, words) refl in
          let one : suc (scan.left - 1) ≡ scan.left = omega (arith, some) in
          is.goes_on more (subst (λ (k : ℕ). words_at k (drop scan.at bytes ++ more) ≡ Err short) one all);
    }

-- a word is not complete
pub short_so : (scan : Scan) (bytes : List ℕ) → IsScan scan bytes → 0 < scan.left → word_at (drop scan.at bytes) ≡ Err short
    → command_at bytes ≡ Err short
unfolding words_at
short_so scan bytes is some h =
    let all : words_at (suc (scan.left - 1)) (drop scan.at bytes) ≡ Err short = rw h refl in
    let one : suc (scan.left - 1) ≡ scan.left = omega (arith, some) in
    let words : words_at scan.left (drop scan.at bytes ++ []) ≡ Err short =
    rw (append-nil (drop scan.at bytes)) (subst (λ (k : ℕ). words_at k (drop scan.at bytes) ≡ Err short) one all) in
    rw (append-nil bytes) at (is.goes_on [] words)
