-- Lemmas on push messages that are skipped.
use Rattle.std.proofs.Common.{◌≡◌, ◌==◌, ℕ, zero, suc, Bool, true, false, List, [], ◌∷◌, length, take, drop}
use Rattle.std.proofs.Common.{Option, Some, None, Result, Ok, Err, refl, sym, ◌∙◌, ap, subst, slice_index, ℤ, ◌≤◌}
use Rattle.std.proofs.lemmas.Bool.{eqb-true}
use Rattle.std.specs.Prelude.{if◌then◌else◌, codes, nat_lt, ◌&&◌}
use Rattle.std.specs.Str.{is_utf8, bytes_eq}
use Rattle.redis_resp.specs.Tree.{Tree}
use Rattle.redis_wire.specs.Decimal.{is_double, is_integer}
use Rattle.redis_wire.specs.Grammar.{IsReply, IsAnyReply, IsValue, IsOfKind, IsBlobBody, IsGroupBody, IsPushBody, Where, Then, IsLength}
use Rattle.redis_wire.specs.Grammar.{IsPush}
use Rattle.redis_wire.specs.Group.{group_answer, group_tree, no_group_answer, attribute_round, pairs_of}
use Rattle.redis_wire.specs.Kind.{kind_of}
use Rattle.redis_wire.specs.Reading.{Halt, ◌>>=◌}
use Rattle.redis_wire.specs.Reply.{Answer, Answers, values, mixed}
use Rattle.redis_wire.specs.Scalar.{line_answer, blob_answer, no_blob_answer, text_answer, int_answer, number_of}
use Rattle.redis_wire.specs.Scalar.{boolean_answer, written_answer, verbatim_answer}
use Rattle.redis_wire.specs.declared.kind.BlobKind.{BlobKind}
use Rattle.redis_wire.specs.declared.kind.BlobKind.TheVariants as blobs
use Rattle.redis_wire.specs.declared.kind.GroupKind.{GroupKind}
use Rattle.redis_wire.specs.declared.kind.GroupKind.TheVariants as groups
use Rattle.redis_wire.specs.declared.kind.Kind.{Kind}
use Rattle.redis_wire.specs.declared.kind.Kind.TheVariants as kinds
use Rattle.redis_wire.specs.declared.kind.LineKind.{LineKind}
use Rattle.redis_wire.specs.declared.kind.LineKind.TheVariants as lines
use Rattle.redis_wire.specs.declared.limits.Limits.{Limits}
use Rattle.redis_connection.specs.Link.{Link, Receives, Stands, Waits, IsInPlace}
use Rattle.redis_connection.specs.Passing.{IsMessage, BeginsAsMessage, one_more, Passes, ReceivesAnswer}
use Rattle.redis_connection.specs.Passing.{AwaitsAnswer, IsAnswerInPlace}

-- ---- a value is no push message

abbrev NoMessage : Result Answer Halt → Type 0
NoMessage (Ok a) = IsMessage a → ⊥
NoMessage (Err e) = Unit {0}

either : (b : Bool) (x y : Result Answer Halt) → NoMessage x → NoMessage y → NoMessage (if b then x else y)
either true x y p q = p
either false x y p q = q

after_that : {A : Type 0} (r : Result A Halt) (f : A → Result Answer Halt) → ((x : A) → NoMessage (f x))
    → NoMessage (r >>= f)
after_that (Ok x) f p = p x
after_that (Err e) f p = tt

text_no : (line : List ℕ) → NoMessage (text_answer line)
text_no line = either (is_utf8 line) _ _ (λ m. m) (λ m. m)

written_no : (b : Bool) (line : List ℕ) → NoMessage (written_answer b line)
written_no true line = text_no line
written_no false line = tt

int_no : (o : Option ℤ) → NoMessage (int_answer o)
int_no None = tt
int_no (Some z) = λ m. m

boolean_no : (line : List ℕ) → NoMessage (boolean_answer line)
boolean_no line = either (bytes_eq line (codes "t")) _ _ (λ m. m) (either (bytes_eq line (codes "f")) _ _ (λ m. m) tt)

line_no : (k : LineKind) (line : List ℕ) → NoMessage (line_answer k line)
unfolding line_answer
line_no lines.Status line = either (bytes_eq line (codes "OK")) _ _ (λ m. m) (text_no line)
line_no lines.Error line = λ m. m
line_no lines.Int line = int_no (number_of line)
line_no lines.Null line = either (length line == 0) _ _ (λ m. m) tt
line_no lines.Boolean line = boolean_no line
line_no lines.Double line = written_no (is_double line) line
line_no lines.BigNumber line = written_no (is_integer line) line

verbatim_no : (text : List ℕ) → NoMessage (verbatim_answer text)
verbatim_no text = either (nat_lt (length text) 4) _ _ tt (either (slice_index text 3 == 58) _ _
    (either (is_utf8 (take 3 text) && is_utf8 (drop 4 text)) _ _ (λ m. m) (λ m. m)) tt)

blob_no : (k : BlobKind) (text : List ℕ) → NoMessage (blob_answer k text)
unfolding blob_answer
blob_no blobs.Bulk text = λ m. m
blob_no blobs.BlobError text = λ m. m
blob_no blobs.Verbatim text = verbatim_no text

no_blob_no : (k : BlobKind) → NoMessage (no_blob_answer k)
unfolding no_blob_answer
no_blob_no blobs.Bulk = λ m. m
no_blob_no blobs.BlobError = tt
no_blob_no blobs.Verbatim = tt

round_no : (o : Option Tree) (r : Result (List (Tree × Tree)) Halt) → NoMessage (attribute_round o r)
round_no None r = tt
round_no (Some t) r = after_that r _ (λ ps m. m)

tree_no : (k : GroupKind) (ts : List Tree) → NoMessage (group_tree k ts)
unfolding group_tree
tree_no groups.Array ts = λ m. m
tree_no groups.Set ts = λ m. m
tree_no groups.Map ts = after_that (pairs_of ts) _ (λ ps m. m)
tree_no groups.Attribute ts = round_no _ _

group_no : (k : GroupKind) (xs : Answers) → NoMessage (group_answer k xs)
group_no k (values ts) = tree_no k ts
group_no k (mixed xs) = λ m. m

no_group_no : (k : GroupKind) → NoMessage (no_group_answer k)
unfolding no_group_answer
no_group_no groups.Array = λ m. m
no_group_no groups.Set = tt
no_group_no groups.Map = tt
no_group_no groups.Attribute = tt

blob_body_no : (k : BlobKind) (n : Option ℕ) (text : List ℕ) (a : Answer) → IsBlobBody k n text a → IsMessage a → ⊥
blob_body_no k None text a s = subst NoMessage s.made (no_blob_no k)
blob_body_no k (Some n) text a s = subst NoMessage s.at_second.made (blob_no k s.a)

group_body_no : (R : List ℕ → Answer → Type 0) (k : GroupKind) (n : Option ℕ) (text : List ℕ) (a : Answer)
    → IsGroupBody R k n text a → IsMessage a → ⊥
group_body_no R k None text a s = subst NoMessage s.made (no_group_no k)
group_body_no R k (Some n) text a s = subst NoMessage s.at_second.made (group_no k s.a)

kind_no : (limits : Limits) (R : List ℕ → Answer → Type 0) (o : Option Kind) (text : List ℕ) (a : Answer)
    → IsOfKind limits R o text a → IsMessage a → ⊥
kind_no limits R None text a s = absurd s
kind_no limits R (Some (kinds.Line k)) text a s = subst NoMessage s.at_second.made (line_no k s.a)
kind_no limits R (Some (kinds.Blob k)) text a s = blob_body_no k s.a s.second a s.at_second
kind_no limits R (Some (kinds.Group k)) text a s = group_body_no R k s.a s.second a s.at_second

value_no : (limits : Limits) (d : ℕ) (text : List ℕ) (a : Answer) → IsValue limits d text a → IsMessage a → ⊥
unfolding IsValue
value_no limits zero text a s = absurd s
value_no limits (suc d) [] a s = absurd s
value_no limits (suc d) (b ∷ text) a s = kind_no limits (IsValue limits d) (kind_of b) text a s

-- ---- and what begins with `>` is one

abbrev SaysMessage : Result Answer Halt → Type 0
SaysMessage (Ok b) = IsMessage b
SaysMessage (Err e) = ⊥

push_body_is : (limits : Limits) (n : Option ℕ) (text : List ℕ) (a : Answer) → IsPushBody limits n text a → IsMessage a
push_body_is limits None text a s = absurd s
push_body_is limits (Some zero) text a s = absurd s
push_body_is limits (Some (suc n)) text a s = subst SaysMessage s.at_second.at_second.made tt

push_is : (limits : Limits) (text : List ℕ) (a : Answer) → IsPush limits text a → IsMessage a
push_is limits text a s = by (limits.depth == 0) s
  where
    by : (c : Bool) → Where c ⊥ (Then (IsLength limits) (IsPushBody limits) text a) → IsMessage a
    by true s = absurd s
    by false s = push_body_is limits s.a s.second a s.at_second

pub true_false : true ≡ false → ⊥
true_false e = absurd cc

choose : {A B C : Type 0} (w : Bool) → Where w A B → (w ≡ true → A → C) → (w ≡ false → B → C) → C
choose true s f g = f refl s
choose false s f g = g refl s

-- what begins with `>` is a push message
pub message_is : (limits : Limits) (text : List ℕ) (a : Answer) → IsReply limits text a → BeginsAsMessage text
    → IsMessage a
unfolding IsAnyReply
message_is limits text a r begins = by text r.reply begins
  where
    by : (text : List ℕ) → IsAnyReply limits text a → BeginsAsMessage text → IsMessage a
    by [] s m = absurd s
    by (b ∷ text) s m = choose (b == 62) s (λ is p. push_is limits text a p)
        (λ is p. absurd (true_false (sym (ap (λ n. n == 62) m) ∙ is)))

-- and anything else is a reply to a command
pub answer_is : (limits : Limits) (text : List ℕ) (a : Answer) → IsReply limits text a → (BeginsAsMessage text → ⊥)
    → IsMessage a → ⊥
unfolding IsAnyReply
answer_is limits text a r begins = by text r.reply begins
  where
    by : (text : List ℕ) → IsAnyReply limits text a → (BeginsAsMessage text → ⊥) → IsMessage a → ⊥
    by [] s m = absurd s
    by (b ∷ text) s m = choose (b == 62) s (λ is p. absurd (m (eqb-true b 62 is)))
        (λ is p. value_no limits limits.depth (b ∷ text) a p)

-- ---- push messages that were skipped so far

-- one more was received and counted
pub passes_on : (old mid here new : Link) (a : Answer) → (n : ℕ) × Passes n old mid → Receives mid here a → IsMessage a
    → new ≡ record here { passed = one_more here.passed } → (n : ℕ) × Passes n old new
passes_on old mid here new a p r is counted =
    (suc p.0, (mid, p.1, record { message = a; is_message = is; between = here; receives = r; counted = counted }))

-- a reply was received
pub answered : (old mid new : Link) (a : Answer) → (n : ℕ) × Passes n old mid → Receives mid new a
    → (IsMessage a → ⊥) → ReceivesAnswer old new a
answered old mid new a p r is = record { count = p.0; between = mid; passes = p.1; receives = r; is_answer = is }

-- none was received
pub awaits : (old mid new : Link) → (n : ℕ) × Passes n old mid → Waits mid new → AwaitsAnswer old new
awaits old mid new p w = record { count = p.0; between = mid; passes = p.1; waits = w }

-- the reply found in place does not begin with `>`
pub stands_as_answer : (old mid new : Link) (len : ℕ) (bytes : List ℕ) → (n : ℕ) × Passes n old mid
    → IsInPlace mid new len → (len ≤ new.in_place → bytes ≡ take len new.held.bytes)
    → (BeginsAsMessage bytes → ⊥) → IsAnswerInPlace old new len
stands_as_answer old mid new len bytes p s received begins = (
  s.0,
  record {
    count = p.0;
    between = mid;
    passes = p.1;
    stands = s.1;
    is_answer = answer_is mid.held.limits (take len new.held.bytes) s.0 s.1.reply
        (subst (λ b. BeginsAsMessage b → ⊥) (received s.1.within) begins);
  },
)

-- it does, and so it was consumed and counted
pub passes_in_place : (old mid here given new : Link) (len : ℕ) (bytes : List ℕ) → (n : ℕ) × Passes n old mid
    → IsInPlace mid here len → (len ≤ here.in_place → bytes ≡ take len here.held.bytes) → BeginsAsMessage bytes
    → ((before : Link) (a : Answer) → Stands before here len a → Receives before given a)
    → new ≡ record given { passed = one_more given.passed } → (n : ℕ) × Passes n old new
passes_in_place old mid here given new len bytes p s received begins gives counted =
    passes_on old mid given new s.0 p (gives mid s.0 s.1)
    (message_is mid.held.limits (take len here.held.bytes) s.0 s.1.reply
    (subst BeginsAsMessage (received s.1.within) begins)) counted
