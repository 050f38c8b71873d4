-- Lemmas on the commands of an outbox.
use Rattle.std.proofs.Common.{◌≡◌, ◌<◌, ◌+◌, ◌∙◌, ap, subst, refl, inl, inr, ℕ, suc, List, [], ◌∷◌, ◌++◌, map}
use Rattle.std.proofs.Common.{arith, true, length, get_or, take, drop, Vec, append-nil, Result, Ok, Err, IfErr, OnErr, OnOk}
use Rattle.std.proofs.lemmas.Grind.{flat_map-append}
use Rattle.std.proofs.lemmas.List.{map_more}
use Rattle.std.specs.declared.alloc.Global.{Global}
use Rattle.redis_connection.specs.Link.{Link, Sends, SendsFront}
use Rattle.redis_connection.specs.Passing.{ReceivesAnswer}
use Rattle.redis_wire.specs.Reply.{Answer}
use Rattle.worker.specs.Outbox.Sent.{all_bytes, IsNotTaken, IsNotTakenBy, IsRepliedToBy, Replied, SendsAll, SendsSome}
use Rattle.worker.specs.Outbox.Sent.{SendsSomeBy, takes}
use Rattle.worker.specs.declared.outbox.error.OutboxError.{OutboxError}
use Rattle.worker.specs.declared.outbox.error.OutboxError.TheVariants as causes

-- the bytes of commands, in order
abbrev pub texts_of : List (Vec ℕ Global) → List (List ℕ)
texts_of commands = map (λ (c : Vec ℕ Global). c.items) commands

-- those of one more
pub more_bytes : (commands : List (Vec ℕ Global)) (k : ℕ) (c : Vec ℕ Global) → k < length commands
    → all_bytes (texts_of (take (k + 1) commands))
    ≡ all_bytes (texts_of (take k commands)) ++ (get_or commands k c).items
more_bytes commands k c within =
    ap all_bytes (map_more (λ (c : Vec ℕ Global). c.items) commands k c within)
    ∙ flat_map-append (λ (xs : List ℕ). xs) (texts_of (take k commands)) ((get_or commands k c).items ∷ [])
    ∙ ap (λ (xs : List ℕ). all_bytes (texts_of (take k commands)) ++ xs) (append-nil (get_or commands k c).items)

-- ---- a send

none_left : (commands : List (List ℕ)) → drop (length commands) commands ≡ []
none_left [] = refl
none_left (c ∷ commands) = none_left commands

pub all_sent : (commands left : List (List ℕ)) (old m new : Link) (bytes : List ℕ) (count wanted : ℕ)
    → bytes ≡ all_bytes commands → Sends old m bytes → wanted ≡ length commands → count ≡ wanted → Replied wanted m new
    → left ≡ drop count commands → (left ≡ []) × SendsAll commands old new
all_sent commands left old m new bytes count wanted are sends is all replied rest = (
  rest ∙ ap (λ (n : ℕ). drop n commands) (all ∙ is) ∙ none_left commands,
  record {
    between = m;
    sends = subst (λ (bs : List ℕ). Sends old m bs) are sends;
    replied = subst (λ (n : ℕ). Replied n m new) is replied;
  },
)

pub some_sent : (commands left : List (List ℕ)) (old m new : Link) (bytes : List ℕ) (count wanted : ℕ)
    → bytes ≡ all_bytes commands → Sends old m bytes → wanted ≡ length commands → count < wanted
    → ((k : Link) × Replied count m k × IsNotTaken k new) → left ≡ drop count commands → SendsSome commands left old new
some_sent commands left old m new bytes count wanted are sends is fewer (k, replied, none) rest = inr (record {
  between = m;
  count = count;
  fewer = subst (λ (n : ℕ). count < n) is fewer;
  sends = subst (λ (bs : List ℕ). Sends old m bs) are sends;
  last = k;
  replied = replied;
  not_taken = none;
  left_is = rest;
})

-- one more reply
pub one_more_reply : (n : ℕ) (old m new : Link) → Replied n old m
    → ((a : Answer) × ReceivesAnswer m new a × (takes a ≡ true)) → Replied (n + 1) old new
one_more_reply n old m new before (a, receives, taken) =
    let same : suc n ≡ n + 1 = omega arith in
    subst (λ (k : ℕ). Replied k old new) same (m, a, before, receives, taken)

pub none_sent : (commands : List (List ℕ)) (l : Link) → SendsSome commands commands l l
none_sent commands l = inl (refl, inl refl)

pub front_sent : (commands : List (List ℕ)) (old new : Link) (bytes : List ℕ) → bytes ≡ all_bytes commands
    → SendsFront old new bytes → SendsSome commands commands old new
front_sent commands old new bytes are sends =
    inl (refl, inr (subst (λ (bs : List ℕ). SendsFront old new bs) are sends))

-- ---- why some commands are left

replied_by : (e : OutboxError) (commands left : List (List ℕ)) (old new : Link)
    → IsRepliedToBy e commands left old new → SendsSomeBy e commands left old new
replied_by (causes.Connection e) commands left old new r = inr r
replied_by (causes.Refused e) commands left old new r = r
replied_by causes.NotAnAnswer commands left old new r = r
replied_by causes.Memory commands left old new r = absurd r.1

pub some_sent_by : {A : Type 0} (ended : Result A OutboxError) (commands left : List (List ℕ)) (old m new : Link)
    (bytes : List ℕ) (count wanted : ℕ) → bytes ≡ all_bytes commands → Sends old m bytes → wanted ≡ length commands
    → OnErr ended ((count < wanted) × ((k : Link) × Replied count m k × IsNotTaken k new))
    → IfErr ended (λ e. (k : Link) × Replied count m k × IsNotTaken k new × IsNotTakenBy e k new)
    → left ≡ drop count commands → IfErr ended (λ e. SendsSomeBy e commands left old new)
some_sent_by (Ok x) commands left old m new bytes count wanted are sends is some cause rest = tt
some_sent_by (Err e) commands left old m new bytes count wanted are sends is some (k, replied, none, why) rest =
    replied_by e commands left old new (
      record {
        between = m;
        count = count;
        fewer = subst (λ (n : ℕ). count < n) is some.0;
        sends = subst (λ (bs : List ℕ). Sends old m bs) are sends;
        last = k;
        replied = replied;
        not_taken = none;
        left_is = rest;
      },
      why,
    )

pub front_sent_by : (commands : List (List ℕ)) (old new : Link) (bytes : List ℕ) → bytes ≡ all_bytes commands
    → SendsFront old new bytes → (commands ≡ commands) × SendsFront old new (all_bytes commands)
front_sent_by commands old new bytes are sends = (refl, subst (λ (bs : List ℕ). SendsFront old new bs) are sends)

-- ---- what a result says

pub on_err : {A E P : Type 0} (r : Result A E) → P → OnErr r P
on_err (Ok x) p = tt
on_err (Err e) p = p

pub ok_too : {A E P Q : Type 0} (r : Result A E) → OnOk r P → (P → Q) → OnOk r Q
ok_too (Ok x) p f = f p
ok_too (Err e) p f = tt

pub err_too : {A E P Q : Type 0} (r : Result A E) → OnErr r P → (P → Q) → OnErr r Q
err_too (Ok x) p f = tt
err_too (Err e) p f = f p
