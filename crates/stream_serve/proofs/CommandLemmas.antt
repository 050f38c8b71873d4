-- A command at the start of bytes is the same one if more bytes follow.
use Rattle.std.proofs.Common.{◌≡◌, ◌≤◌, ◌<◌, ◌==◌, ℕ, zero, suc, List, [], ◌∷◌, ◌++◌, length, take, drop, Bool, true, false}
use Rattle.std.proofs.Common.{Result, Ok, Err, refl, ap, ◌∙◌, arith, length-append}
use Rattle.std.proofs.lemmas.Bool.Decides.{nat_tests}
use Rattle.std.proofs.lemmas.Grind.{common_steps}
use Rattle.std.proofs.lemmas.List.{length-drop, take-append-le}
use Rattle.std.proofs.lemmas.List.Folds.{prefix_len-append}
use Rattle.std.specs.List.{prefix_len}
use Rattle.std.specs.Prelude.{nat_lt, if◌then◌else◌}
use Rattle.server_commands.specs.declared.incoming.ProtocolError.{ProtocolError}
use Rattle.server_commands.specs.declared.incoming.ProtocolError.TheVariants as errors
use Rattle.server_commands.specs.Incoming.{Halt, Read, ◌>>=◌, array_at, bad, balanced, before, behind_one, behind_two, body_at}
use Rattle.server_commands.specs.Incoming.{command_at, count_at, ended, head_at, is_before, line_at, no_end, short, word_at}
use Rattle.server_commands.specs.Incoming.{word_count, word_len, words_at}
use Rattle.server_commands.specs.Quoted.{split_words}

-- What is read of bytes stays so if more follow. These are then left too.
abbrev Stays : {A : Type 0} → (List ℕ → Read A) → Type 0
Stays {A} read = (bytes more : List ℕ) (x : A) (rest : List ℕ) → read bytes ≡ Ok (x, rest)
    → read (bytes ++ more) ≡ Ok (x, rest ++ more)

-- one step, and after it the next one
module _ {A B : Type 0} (first : List ℕ → Read A) (next : A → List ℕ → Read B) (one : Stays first)
    (two : (x : A) → Stays (next x)) where
  by_first : (bytes more : List ℕ) (y : B) (left : List ℕ) (r : Read A) → first bytes ≡ r
      → (r >>= λ x. next x.0 x.1) ≡ Ok (y, left) → (first (bytes ++ more) >>= λ x. next x.0 x.1) ≡ Ok (y, left ++ more)
  by_first bytes more y left (Ok x) is h = rw (one bytes more x.0 x.1 is) (two x.0 x.1 more y left h)
  by_first bytes more y left (Err e) is h = cc

  then_stays : Stays (λ bs. first bs >>= λ x. next x.0 x.1)
  then_stays bytes more y left h = by_first bytes more y left (first bytes) refl h

value_or : {A : Type 0} → A → Read A → A
value_or d (Ok x) = x.0
value_or d (Err e) = d

rest_of : {A : Type 0} → Read A → List ℕ
rest_of (Ok x) = x.1
rest_of (Err e) = []

-- what was read is one thing
same_ok : {A : Type 0} (x y : A) (r s : List ℕ) → let read : Read A = Ok (x, r) in read ≡ Ok (y, s) → (x ≡ y) × (r ≡ s)
unfolding value_or rest_of
same_ok x y r s h = (ap (λ v. value_or x v) h, ap (λ v. rest_of v) h)

-- nothing more is read
done_stays : {A B : Type 0} (f : A → B) (x : A) → Stays (λ bs. Ok (f x, bs))
done_stays f x bytes more y rest h =
    let same = same_ok (f x) y bytes rest h in
    rw (same.0, same.1) refl

if_ok : {A : Type 0} (c : Bool) (x y : A) (e : Halt) → (if c then Ok x else Err e) ≡ Ok y → (c ≡ true) × (x ≡ y)
if_ok true x y e h = (refl, cc)
if_ok false x y e h = cc

unless_ok : {A : Type 0} (c : Bool) (read : Result A Halt) (y : A) (e : Halt) → (if c then Err e else read) ≡ Ok y
    → (c ≡ false) × (read ≡ Ok y)
unless_ok true read y e h = cc
unless_ok false read y e h = (refl, h)

-- -- a line

itself : (end : ℕ) → end == end ≡ true
itself end = grind (arith, nat_tests)

is_end : (b end : ℕ) → b == end ≡ true → b ≡ end
is_end b end h = grind (arith, nat_tests)

ended_so : (end n : ℕ) (e : ProtocolError) (front behind f r : List ℕ) → ended end e n front behind ≡ Ok (f, r)
    → (behind ≡ end ∷ r) × (front ≡ f)
unfolding ended
ended_so end n e front [] f r h = cc
ended_so end n e front (b ∷ rest) f r h =
    let is = if_ok (b == end) (front, rest) (f, r) (no_end e n) h in
    let same : b ≡ end = is_end b end is.0 in
    (rw (same, ap (λ (x : List ℕ × List ℕ). x.1) is.1) refl, ap (λ (x : List ℕ × List ℕ). x.0) is.1)

ended_here : (end n : ℕ) (e : ProtocolError) (front rest : List ℕ) → ended end e n front (end ∷ rest) ≡ Ok (front, rest)
unfolding ended
ended_here end n e front rest = rw (itself end) refl

-- a front that ends before the bytes do
within_so : (n b : ℕ) (bytes rest : List ℕ) → drop n bytes ≡ b ∷ rest → n < length bytes
within_so n b bytes rest h = omega (arith, ap length h, length-drop n bytes)

front_stays : (p : ℕ → Bool) (bytes more : List ℕ) → prefix_len p bytes < length bytes
    → prefix_len p (bytes ++ more) ≡ prefix_len p bytes
front_stays p bytes more h =
    let no : prefix_len p bytes == length bytes ≡ false = grind (arith, nat_tests) in
    rw (prefix_len-append p bytes more, no) refl

drop_within : (n : ℕ) (xs ys : List ℕ) → n ≤ length xs → drop n (xs ++ ys) ≡ drop n xs ++ ys
drop_within n xs ys h = grind (arith, common_steps)

before_stays : (end : ℕ) (e : ProtocolError) → Stays (before end e)
unfolding before
before_stays end e bytes more f r h =
    let p : ℕ = prefix_len (is_before end) bytes in
    let so = unless_ok (nat_lt 65536 p) (ended end e (length bytes) (take p bytes) (drop p bytes)) (f, r) (bad e) h in
    let there = ended_so end (length bytes) e (take p bytes) (drop p bytes) f r so.1 in
    let within : p < length bytes = within_so p end bytes r there.0 in
    let len : prefix_len (is_before end) (bytes ++ more) ≡ p = front_stays (is_before end) bytes more within in
    let front : take p (bytes ++ more) ≡ f = take-append-le p bytes more (omega arith) ∙ there.1 in
    let behind : drop p (bytes ++ more) ≡ end ∷ (r ++ more) =
    drop_within p bytes more (omega arith) ∙ ap (λ (l : List ℕ). l ++ more) there.0 in
    rw (len, so.0, front, behind) (ended_here end (length (bytes ++ more)) e f (r ++ more))

one_stays : (line : List ℕ) → Stays (behind_one line)
unfolding behind_one
one_stays line [] more f r h = cc
one_stays line (b ∷ rest) more f r h =
    let same = same_ok line f rest r h in
    rw (same.0, same.1) refl

head_stays : (e : ProtocolError) → Stays (head_at e)
unfolding head_at
head_stays e = then_stays (before 13 e) behind_one (before_stays 13 e) one_stays

-- -- a word

two_stays : (body : List ℕ) → Stays (behind_two body)
unfolding behind_two
two_stays body [] more w r h = cc
two_stays body (a ∷ []) more w r h = cc
two_stays body (a ∷ b ∷ rest) more w r h =
    let same = same_ok body w rest r h in
    rw (same.0, same.1) refl

enough : (n : ℕ) (bytes : List ℕ) → nat_lt (length bytes) n ≡ false → n ≤ length bytes
enough n bytes h = grind (arith, nat_tests)

enough_more : (n : ℕ) (bytes more : List ℕ) → n ≤ length bytes → nat_lt (length (bytes ++ more)) n ≡ false
enough_more n bytes more h = grind (arith, nat_tests, length-append {A = ℕ})

body_stays : (n : ℕ) → Stays (λ bs. body_at bs n)
unfolding body_at
body_stays n bytes more w r h =
    let so = unless_ok (nat_lt (length bytes) n) (behind_two (take n bytes) (drop n bytes)) (w, r) short h in
    let within : n ≤ length bytes = enough n bytes so.0 in
    rw (enough_more n bytes more within, take-append-le n bytes more within, drop_within n bytes more within)
    (two_stays (take n bytes) (drop n bytes) more w r so.1)

sized_by : (line : List ℕ) (len : Result ℕ Halt) → word_len line ≡ len → Stays (λ bs. len >>= body_at bs)
sized_by line (Ok n) is = body_stays n
sized_by line (Err e) is = λ bytes more w r h. cc

sized_stays : (line : List ℕ) → Stays (λ bs. word_len line >>= body_at bs)
sized_stays line = sized_by line (word_len line) refl

word_stays : Stays word_at
unfolding word_at
word_stays = then_stays (head_at errors.LongLength) (λ line rest. word_len line >>= body_at rest)
    (head_stays errors.LongLength) sized_stays

words_stays : (n : ℕ) → Stays (words_at n)
unfolding words_at
words_stays zero = done_stays (λ (ws : List (List ℕ)). ws) []
words_stays (suc n) = then_stays word_at (λ w rest. words_at n rest >>= λ y. Ok (w ∷ y.0, y.1)) word_stays
    (λ w. then_stays (words_at n) (λ ws rest. Ok (w ∷ ws, rest)) (words_stays n) (done_stays (λ (ws : List (List ℕ)). w ∷ ws)))

-- -- a command

counted_by : (count : Result ℕ Halt) → Stays (λ bs. count >>= λ n. Ok (n, bs))
counted_by (Ok n) = done_stays (λ (k : ℕ). k) n
counted_by (Err e) = λ bytes more n r h. cc

count_stays : Stays count_at
unfolding count_at
count_stays = then_stays (head_at errors.LongCount) (λ line rest. word_count line >>= λ n. Ok (n, rest))
    (head_stays errors.LongCount) (λ line. counted_by (word_count line))

array_stays : Stays array_at
unfolding array_at
array_stays = then_stays count_at words_at count_stays words_stays

split_by : (words : Result (List (List ℕ)) Halt) → Stays (λ bs. words >>= λ ws. Ok (ws, bs))
split_by (Ok ws) = done_stays (λ (vs : List (List ℕ)). vs) ws
split_by (Err e) = λ bytes more ws r h. cc

line_stays : Stays line_at
unfolding line_at
line_stays = then_stays (before 10 errors.LongLine) (λ line rest. balanced (split_words line) >>= λ words. Ok (words, rest))
    (before_stays 10 errors.LongLine) (λ line. split_by (balanced (split_words line)))

chosen : (c : Bool) → Stays (λ bs. if c then array_at bs else line_at bs)
chosen true = array_stays
chosen false = line_stays

pub command_stays : (bytes more : List ℕ) (words : List (List ℕ)) (behind : List ℕ)
    → command_at bytes ≡ Ok (words, behind) → command_at (bytes ++ more) ≡ Ok (words, behind ++ more)
unfolding command_at
command_stays [] more words behind h = cc
command_stays (b ∷ bytes) more words behind h = chosen (b == 42) (b ∷ bytes) more words behind h
