-- What is sent early, and what is written of bytes that were sent before.
use Rattle.std.proofs.Common.{◌≡◌, refl, ◌∙◌, sym, ap, subst, ℕ, ◌-◌, ◌<◌, ◌⊎◌, inl, inr, ◌==◌, List, [], ◌∷◌, ◌++◌, length, length-take, take, drop, Option, Some, None, Bool, true, false, arith}
use Rattle.std.proofs.Math.Seq.{drop-append_seam, take-append_seam, take-length}
use Rattle.std.proofs.lemmas.List.{append_assoc, append-nil, length-append, take-append-drop}
use Rattle.std.proofs.lemmas.Slice.Eq.{bytes_eq-Decides}
use Rattle.std.specs.Io.KnownBytes.{Appends, Keeps, WriteAppends}
use Rattle.std.specs.Prelude.{Result, Ok, Err, if◌then◌else◌}
use Rattle.std.specs.Result.{result_unwrap_or}
use Rattle.std.specs.declared.io.Error.{Error}
use Rattle.std.specs.Str.{bytes_eq}
use Rattle.std.specs.List.{starts_with}
use Rattle.memchr.specs.Find.{FindsNeedle, NoneBefore}
use Rattle.redis_connection.specs.Early.{IsQueued, before_end, exec_bytes, multi_bytes, written}

-- ---- the commands before the first EXEC

-- the first number of which P holds is one
first_alike : (P : ℕ → Type 0) (j a b : ℕ) → NoneBefore P 0 j a × P a → NoneBefore P 0 j b × P b → a ≡ b
first_alike P j a b x y =
    let above : a < b → ⊥ = λ lt. y.0.before a (omega arith) lt x.1 in
    let below : b < a → ⊥ = λ lt. x.0.before b (omega arith) lt y.1 in
    grind (arith, above, below)

pub queued_at : (bytes out : List ℕ) (n : ℕ) → starts_with (λ a b. a == b) bytes multi_bytes ≡ true → out ≡ take n bytes
    → FindsNeedle bytes exec_bytes 0 (Some n) → IsQueued bytes out
queued_at bytes out n begins is first =
    let len : length out ≡ n = ap length is ∙ grind (arith, length-take, first.1.fits) in record {
      begins = begins;
      front = is ∙ ap (λ (k : ℕ). take k bytes) (sym len);
      first = subst (λ (k : ℕ). FindsNeedle bytes exec_bytes 0 (Some k)) (sym len) first;
    }

pub queued_alike : (bytes out queued : List ℕ) (n : ℕ) → out ≡ take n bytes → FindsNeedle bytes exec_bytes 0 (Some n)
    → IsQueued bytes queued → out ≡ queued
queued_alike bytes out queued n is first q =
    let same : n ≡ length queued = first_alike _ _ n (length queued) first q.first in
    is ∙ (ap (λ (k : ℕ). take k bytes) same ∙ sym q.front)

pub none_queued : (bytes queued : List ℕ) → FindsNeedle bytes exec_bytes 0 None → IsQueued bytes queued → ⊥
none_queued bytes queued none q = none (length queued) (omega arith) q.first.0.high q.first.1

pub some_queued : (bytes queued : List ℕ) → (queued ≡ []) ⊎ IsQueued bytes queued → (length queued ≡ 0 → ⊥)
    → IsQueued bytes queued
some_queued bytes queued (inl none) some = absurd (some (ap length none))
some_queued bytes queued (inr is) some = is

-- ---- a list and its end

front_length : (front end : List ℕ) → length (front ++ end) - length end ≡ length front
front_length front end = grind (arith, length-append)

chosen : (b : Bool) (x y : Option (List ℕ)) → b ≡ true → (if b then x else y) ≡ x
chosen true x y is = refl
chosen false x y is = absurd cc

before_is : (front end : List ℕ) → before_end end (front ++ end) ≡ Some front
before_is front end =
    let n = length (front ++ end) - length end in
    let at : n ≡ length front = front_length front end in
    let ends : drop n (front ++ end) ≡ end = ap (λ (k : ℕ). drop k (front ++ end)) at ∙ drop-append_seam front end in
    let begins : take n (front ++ end) ≡ front = ap (λ (k : ℕ). take k (front ++ end)) at ∙ take-append_seam front end in
    chosen _ _ _ ((bytes_eq-Decides (drop n (front ++ end)) end).1 ends) ∙ ap Some begins

parted : (b : Bool) (end all front : List ℕ) (n : ℕ) → (b ≡ true → drop n all ≡ end)
    → (if b then Some (take n all) else None) ≡ Some front → all ≡ front ++ end
parted true end all front n ends is =
    let begins : take n all ≡ front = cc is in
    sym (take-append-drop n all) ∙ (ap (λ (l : List ℕ). l ++ drop n all) begins ∙ ap (λ (l : List ℕ). front ++ l) (ends refl))
parted false end all front n ends is = absurd (let t : None ≡ Some front = is in cc)

is_parted : (end all front : List ℕ) → before_end end all ≡ Some front → all ≡ front ++ end
is_parted end all front is =
    let n = length all - length end in
    parted (bytes_eq (drop n all) end) end all front n (λ t. (bytes_eq-Decides (drop n all) end).0 t) is

-- ---- writes

kept : (old new : Option (List ℕ)) (all : List ℕ) → old ≡ Some all → new ≡ Some all → Keeps old new
kept None new all o n = tt
kept (Some xs) None all o n = absurd (let t : None ≡ Some all = n in cc)
kept (Some xs) (Some ys) all o n = let x : xs ≡ all = cc o in let y : ys ≡ all = cc n in y ∙ sym x

sent : (known new : Option (List ℕ)) (bytes : List ℕ) → Appends known new bytes → Keeps (written [] known) (written bytes new)
sent None new bytes appends = tt
sent (Some all) None bytes appends = absurd appends
sent (Some all) (Some more) bytes appends =
    kept (before_end [] all) (before_end bytes more) all
    (subst (λ (l : List ℕ). before_end [] l ≡ Some all) (append-nil all) (before_is all []))
    (subst (λ (l : List ℕ). before_end bytes l ≡ Some all) (sym appends) (before_is all bytes))

kept_sent : (known new : Option (List ℕ)) → Keeps known new → Keeps (written [] known) (written [] new)
kept_sent None new keeps = tt
kept_sent (Some all) None keeps = absurd keeps
kept_sent (Some all) (Some more) keeps = sent (Some all) (Some more) [] (keeps ∙ sym (append-nil all))

nothing : (early : List ℕ) → length early ≡ 0 → early ≡ []
nothing [] is = refl
nothing (b ∷ bytes) is = absurd cc

-- the bytes that were sent are the first of these
pub first_sent : (early grown bytes after : List ℕ) (n : ℕ) → length early ≡ 0 → grown ≡ early ++ bytes
    → after ≡ take n grown → after ≡ take n bytes
first_sent early grown bytes after n none grows is =
    is ∙ ap (λ (l : List ℕ). take n l) (grows ∙ ap (λ (l : List ℕ). l ++ bytes) (nothing early none))

-- a write of bytes before they are written
pub sent_early : (r : Result ℕ Error) (known new : Option (List ℕ)) (early grown bytes after : List ℕ)
    → length early ≡ 0 → grown ≡ early ++ bytes → after ≡ take (result_unwrap_or r 0) grown
    → WriteAppends known new r bytes → Keeps (written early known) (written after new)
sent_early (Ok n) known new early grown bytes after none grows is appends =
    let empty : early ≡ [] = nothing early none in
    let front : after ≡ take n bytes = first_sent early grown bytes after n none grows is in
    subst (λ (l : List ℕ). Keeps (written l known) (written after new)) (sym empty)
    (subst (λ (l : List ℕ). Keeps (written [] known) (written l new)) (sym front) (sent known new (take n bytes) appends))
sent_early (Err e) known new early grown bytes after none grows is keeps =
    let empty : early ≡ [] = nothing early none in
    let none_left : after ≡ [] = is in
    subst (λ (l : List ℕ). Keeps (written l known) (written after new)) (sym empty)
    (subst (λ (l : List ℕ). Keeps (written [] known) (written l new)) (sym none_left) (kept_sent known new keeps))

-- ---- a write of bytes that were sent before

appended : (old new : Option (List ℕ)) (front more : List ℕ) → old ≡ Some front → new ≡ Some (front ++ more) → Appends old new more
appended None new front more o n = tt
appended (Some xs) None front more o n = absurd (let t : None ≡ Some (front ++ more) = n in cc)
appended (Some xs) (Some ys) front more o n =
    let x : xs ≡ front = cc o in let y : ys ≡ front ++ more = cc n in y ∙ ap (λ (l : List ℕ). l ++ more) (sym x)

passed_known : (early rest more all : List ℕ) (old : Option (List ℕ)) → early ≡ more ++ rest → before_end early all ≡ old
    → Appends old (before_end rest all) more
passed_known early rest more all None splits is = tt
passed_known early rest more all (Some front) splits is =
    let whole : all ≡ (front ++ more) ++ rest =
    is_parted early all front is ∙ (ap (λ (l : List ℕ). front ++ l) splits ∙ sym (append_assoc front more rest)) in
    appended (Some front) (before_end rest all) front more refl
    (subst (λ (l : List ℕ). before_end rest l ≡ Some (front ++ more)) (sym whole) (before_is (front ++ more) rest))

-- the bytes that were sent before are written, and are not sent again
pub passed : (known : Option (List ℕ)) (early rest more : List ℕ) → early ≡ more ++ rest
    → Appends (written early known) (written rest known) more
passed None early rest more splits = tt
passed (Some all) early rest more splits = passed_known early rest more all (before_end early all) splits refl

pub all_passed : (early bytes after : List ℕ) (count : ℕ) → take count early ≡ take count bytes
    → count ≡ length early → after ≡ [] → early ≡ take count bytes ++ after
all_passed early bytes after count same at none =
    let whole : early ≡ take count bytes = sym (ap (λ (n : ℕ). take n early) at ∙ take-length early) ∙ same in
    whole ∙ (sym (append-nil (take count bytes)) ∙ ap (λ (l : List ℕ). take count bytes ++ l) (sym none))

pub some_passed : (early bytes after : List ℕ) (count : ℕ) → take count early ≡ take count bytes
    → after ≡ drop count early → early ≡ take count bytes ++ after
some_passed early bytes after count same rest =
    sym (take-append-drop count early) ∙ (ap (λ (l : List ℕ). l ++ drop count early) same
    ∙ ap (λ (l : List ℕ). take count bytes ++ l) (sym rest))

-- ---- bytes that were sent early are not written

pub nothing_more : (known new : Option (List ℕ)) → Keeps known new → Appends known new []
nothing_more None new keeps = tt
nothing_more (Some all) None keeps = absurd keeps
nothing_more (Some all) (Some same) keeps = keeps ∙ sym (append-nil all)
