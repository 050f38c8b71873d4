-- Where the text of an error is in the bytes of its reply: two bytes, CR and LF, end the reply after it.
use Rattle.std.proofs.Common.{◌≡◌, ◌==◌, ◌≤◌, ◌+◌, ℕ, zero, suc, Bool, true, false, List, [], ◌∷◌, ◌++◌, length, take}
use Rattle.std.proofs.Common.{drop, Option, Some, None, Result, Ok, Err, refl, sym, ◌∙◌, ap, subst, slice_index, ℤ}
use Rattle.std.proofs.Common.{length-append, append_assoc, rules}
use Rattle.std.proofs.lemmas.List.{append-nil, length-take-le, take-append-drop}
use Rattle.std.proofs.Math.Seq.{drop-append_seam, take-append_seam}
use Rattle.std.specs.Prelude.{if◌then◌else◌, codes, nat_lt, ◌&&◌, not}
use Rattle.std.proofs.lemmas.Slice.Eq.{bytes_eq-Decides}
use Rattle.std.specs.Str.{is_utf8, bytes_eq}
use Rattle.redis_resp.specs.Tree.{Tree}
use Rattle.redis_wire.specs.Decimal.{is_double, is_integer}
use Rattle.redis_wire.specs.Grammar.{IsReply, IsAnyReply, IsValue, IsOfKind, IsBlobBody, IsGroupBody, IsPushBody}
use Rattle.redis_wire.specs.Grammar.{IsPush, Where, Then, IsLength}
use Rattle.redis_wire.specs.Group.{group_answer, group_tree, no_group_answer, attribute_round, pairs_of}
use Rattle.redis_wire.specs.Kind.{kind_of}
use Rattle.redis_wire.specs.Packed.{crlf}
use Rattle.redis_wire.specs.Reading.{Halt, ◌>>=◌}
use Rattle.redis_wire.specs.Reply.{Answer, answer, refused, Answers, values, mixed}
use Rattle.redis_wire.specs.declared.reply.Reply.{the_lemmas}
use Rattle.redis_wire.specs.declared.reply.Reply.TheVariants as replies
use Rattle.redis_wire.specs.declared.reply.ServerError.{ServerError}
use Rattle.redis_wire.specs.Scalar.{line_answer, blob_answer, no_blob_answer, text_answer, int_answer, number_of}
use Rattle.redis_wire.specs.Scalar.{boolean_answer, written_answer, verbatim_answer}
use Rattle.redis_wire.specs.declared.kind.BlobKind.{BlobKind}
use Rattle.redis_wire.specs.declared.kind.BlobKind.TheVariants as blobs
use Rattle.redis_wire.specs.declared.kind.GroupKind.{GroupKind}
use Rattle.redis_wire.specs.declared.kind.GroupKind.TheVariants as groups
use Rattle.redis_wire.specs.declared.kind.Kind.{Kind}
use Rattle.redis_wire.specs.declared.kind.Kind.TheVariants as kinds
use Rattle.redis_wire.specs.declared.kind.LineKind.{LineKind}
use Rattle.redis_wire.specs.declared.kind.LineKind.TheVariants as lines
use Rattle.redis_wire.specs.declared.limits.Limits.{Limits}

-- ---- the text of an error is its line, or its bulk bytes

-- if a reply is an error, its text is such a one
abbrev Errors : (List ℕ → Type 0) → Result Answer Halt → Type 0
Errors P (Ok (refused t)) = P t
Errors P (Ok a) = Unit {0}
Errors P (Err e) = Unit {0}

-- no text is
abbrev None_is : List ℕ → Type 0
None_is t = ⊥

either : (P : List ℕ → Type 0) (b : Bool) (x y : Result Answer Halt) → Errors P x → Errors P y
    → Errors P (if b then x else y)
either P true x y p q = p
either P false x y p q = q

after_that : {A : Type 0} (P : List ℕ → Type 0) (r : Result A Halt) (f : A → Result Answer Halt)
    → ((x : A) → Errors P (f x)) → Errors P (r >>= f)
after_that P (Ok x) f p = p x
after_that P (Err e) f p = tt

text_errs : (P : List ℕ → Type 0) (line : List ℕ) → Errors P (text_answer line)
text_errs P line = either P (is_utf8 line) _ _ tt tt

written_errs : (P : List ℕ → Type 0) (b : Bool) (line : List ℕ) → Errors P (written_answer b line)
written_errs P true line = text_errs P line
written_errs P false line = tt

int_errs : (P : List ℕ → Type 0) (o : Option ℤ) → Errors P (int_answer o)
int_errs P None = tt
int_errs P (Some z) = tt

boolean_errs : (P : List ℕ → Type 0) (line : List ℕ) → Errors P (boolean_answer line)
boolean_errs P line = either P (bytes_eq line (codes "t")) _ _ tt (either P (bytes_eq line (codes "f")) _ _ tt tt)

line_errs : (k : LineKind) (line : List ℕ) → Errors (λ t. line ≡ t) (line_answer k line)
unfolding line_answer
line_errs lines.Status line = either (λ t. line ≡ t) (bytes_eq line (codes "OK")) _ _ tt (text_errs (λ t. line ≡ t) line)
line_errs lines.Error line = refl
line_errs lines.Int line = int_errs (λ t. line ≡ t) (number_of line)
line_errs lines.Null line = either (λ t. line ≡ t) (length line == 0) _ _ tt tt
line_errs lines.Boolean line = boolean_errs (λ t. line ≡ t) line
line_errs lines.Double line = written_errs (λ t. line ≡ t) (is_double line) line
line_errs lines.BigNumber line = written_errs (λ t. line ≡ t) (is_integer line) line

verbatim_errs : (P : List ℕ → Type 0) (text : List ℕ) → Errors P (verbatim_answer text)
verbatim_errs P text = either P (nat_lt (length text) 4) _ _ tt (either P (slice_index text 3 == 58) _ _
    (either P (is_utf8 (take 3 text) && is_utf8 (drop 4 text)) _ _ tt tt) tt)

blob_errs : (k : BlobKind) (text : List ℕ) → Errors (λ t. text ≡ t) (blob_answer k text)
unfolding blob_answer
blob_errs blobs.Bulk text = tt
blob_errs blobs.BlobError text = refl
blob_errs blobs.Verbatim text = verbatim_errs (λ t. text ≡ t) text

no_blob_errs : (k : BlobKind) → Errors None_is (no_blob_answer k)
unfolding no_blob_answer
no_blob_errs blobs.Bulk = tt
no_blob_errs blobs.BlobError = tt
no_blob_errs blobs.Verbatim = tt

round_errs : (o : Option Tree) (r : Result (List (Tree × Tree)) Halt) → Errors None_is (attribute_round o r)
round_errs None r = tt
round_errs (Some t) r = after_that None_is r _ (λ ps. tt)

tree_errs : (k : GroupKind) (ts : List Tree) → Errors None_is (group_tree k ts)
unfolding group_tree
tree_errs groups.Array ts = tt
tree_errs groups.Set ts = tt
tree_errs groups.Map ts = after_that None_is (pairs_of ts) _ (λ ps. tt)
tree_errs groups.Attribute ts = round_errs _ _

group_errs : (k : GroupKind) (xs : Answers) → Errors None_is (group_answer k xs)
group_errs k (values ts) = tree_errs k ts
group_errs k (mixed xs) = tt

no_group_errs : (k : GroupKind) → Errors None_is (no_group_answer k)
unfolding no_group_answer
no_group_errs groups.Array = tt
no_group_errs groups.Set = tt
no_group_errs groups.Map = tt
no_group_errs groups.Attribute = tt

-- ---- and the reply ends with it

-- these bytes end with the text, CR and LF
abbrev Ends : List ℕ → List ℕ → Type 0
Ends text t = (front : List ℕ) × (text ≡ front ++ (t ++ crlf))

ends_here : (whole first second body t : List ℕ) → whole ≡ first ++ second → first ≡ body ++ crlf → second ≡ []
    → body ≡ t → whole ≡ t ++ crlf
ends_here whole first second body t is crlf_ends none same =
    is ∙ ap (λ (x : List ℕ). first ++ x) none ∙ append-nil first ∙ crlf_ends ∙ ap (λ (x : List ℕ). x ++ crlf) same

line_ends : (limits : Limits) (R : List ℕ → Answer → Type 0) (k : LineKind) (text t : List ℕ)
    → IsOfKind limits R (Some (kinds.Line k)) text (refused t) → Ends text t
line_ends limits R k text t s = (
  [],
  ends_here text s.first s.second s.a t s.is s.at_first.is s.at_second.is
      (subst (Errors (λ (x : List ℕ). s.a ≡ x)) s.at_second.made (line_errs k s.a)),
)

blob_ends : (k : BlobKind) (n : Option ℕ) (text t : List ℕ) → IsBlobBody k n text (refused t) → text ≡ t ++ crlf
blob_ends k None text t s = absurd (subst (Errors None_is) s.made (no_blob_errs k))
blob_ends k (Some n) text t s =
    ends_here text s.first s.second s.a t s.is s.at_first.is s.at_second.is
    (subst (Errors (λ (x : List ℕ). s.a ≡ x)) s.at_second.made (blob_errs k s.a))

no_group_ends : (R : List ℕ → Answer → Type 0) (k : GroupKind) (n : Option ℕ) (text t : List ℕ)
    → IsGroupBody R k n text (refused t) → ⊥
no_group_ends R k None text t s = subst (Errors None_is) s.made (no_group_errs k)
no_group_ends R k (Some n) text t s = subst (Errors None_is) s.at_second.made (group_errs k s.a)

kind_ends : (limits : Limits) (R : List ℕ → Answer → Type 0) (o : Option Kind) (text t : List ℕ)
    → IsOfKind limits R o text (refused t) → Ends text t
kind_ends limits R None text t s = absurd s
kind_ends limits R (Some (kinds.Line k)) text t s = line_ends limits R k text t s
kind_ends limits R (Some (kinds.Blob k)) text t s =
    (s.first, s.is ∙ ap (λ (x : List ℕ). s.first ++ x) (blob_ends k s.a s.second t s.at_second))
kind_ends limits R (Some (kinds.Group k)) text t s = absurd (no_group_ends R k s.a s.second t s.at_second)

one_before : (b : ℕ) (text t : List ℕ) → Ends text t → Ends (b ∷ text) t
one_before b text t e = (b ∷ e.0, ap (λ (x : List ℕ). b ∷ x) e.1)

value_ends : (limits : Limits) (d : ℕ) (text t : List ℕ) → IsValue limits d text (refused t) → Ends text t
unfolding IsValue
value_ends limits zero text t s = absurd s
value_ends limits (suc d) [] t s = absurd s
value_ends limits (suc d) (b ∷ text) t s =
    one_before b text t (kind_ends limits (IsValue limits d) (kind_of b) text t s)

push_body_ends : (limits : Limits) (n : Option ℕ) (text t : List ℕ) → IsPushBody limits n text (refused t) → ⊥
push_body_ends limits None text t s = s
push_body_ends limits (Some zero) text t s = s
push_body_ends limits (Some (suc n)) text t s = subst (Errors None_is) s.at_second.at_second.made tt

push_ends : (limits : Limits) (text t : List ℕ) → IsPush limits text (refused t) → ⊥
push_ends limits text t s = by (limits.depth == 0) s
  where
    by : (c : Bool) → Where c ⊥ (Then (IsLength limits) (IsPushBody limits) text (refused t)) → ⊥
    by true s = s
    by false s = push_body_ends limits s.a s.second t s.at_second

-- a reply that is an error ends with its text, CR and LF
pub error_ends : (limits : Limits) (text t : List ℕ) → IsReply limits text (refused t) → Ends text t
unfolding IsAnyReply
error_ends limits text t r = by text r.reply
  where
    by : (text : List ℕ) → IsAnyReply limits text (refused t) → Ends text t
    by [] s = absurd s
    by (b ∷ text) s = of (b == 62) s
      where
        of : (c : Bool) → Where c (IsPush limits text (refused t)) (IsValue limits limits.depth (b ∷ text) (refused t))
            → Ends (b ∷ text) t
        of true s = absurd (push_ends limits text t s)
        of false s = value_ends limits limits.depth (b ∷ text) t s

-- ---- where that is

-- there is room for it
pub room_there : (bytes front text : List ℕ) (len : ℕ) → len ≤ length bytes
    → take len bytes ≡ front ++ (text ++ crlf) → len ≡ length front + (length text + 2)
room_there bytes front text len le is =
    sym (length-take-le len bytes le) ∙ ap length is ∙ length-append front (text ++ crlf)
    ∙ ap (λ (n : ℕ). length front + n) (length-append text crlf)

-- and it is there
pub text_there : (bytes front text : List ℕ) (len : ℕ) → take len bytes ≡ front ++ (text ++ crlf)
    → take (length text) (drop (length front) bytes) ≡ text
text_there bytes front text len is =
    let all : bytes ≡ front ++ (text ++ (crlf ++ drop len bytes)) =
    sym (take-append-drop len bytes) ∙ ap (λ (x : List ℕ). x ++ drop len bytes) is
    ∙ append_assoc front (text ++ crlf) (drop len bytes)
    ∙ ap (λ (x : List ℕ). front ++ x) (append_assoc text crlf (drop len bytes)) in
    ap (λ (x : List ℕ). take (length text) (drop (length front) x)) all
    ∙ ap (take (length text)) (drop-append_seam front (text ++ (crlf ++ drop len bytes)))
    ∙ take-append_seam text (crlf ++ drop len bytes)

-- ---- bytes that differ

told_apart : (b : Bool) → not b ≡ true → b ≡ true → ⊥
told_apart true h e = absurd cc
told_apart false h e = absurd cc

-- bytes that differ are not the same
pub apart : (x y : List ℕ) → not (bytes_eq x y) ≡ true → x ≡ y → ⊥
apart x y h e = told_apart (bytes_eq x y) h ((bytes_eq-Decides x y).1 e)

-- ---- an error as a reply

pub answer-Error : (e : ServerError) → answer (replies.Error e) ≡ refused e.text.items
answer-Error e = search (rules, the_lemmas)
