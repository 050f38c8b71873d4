-- Lemmas on the entries that a reply of JSON adds.
use Rattle.std.proofs.Common.{◌≡◌, ◌∙◌, ◌++◌, ◌∷◌, ◌≤◌, ◌-◌, [], arith, refl, sym, ap, append_assoc, drop, flat_map, get_or, length, List, ℕ, Bool, true, false, map, take}
use Rattle.std.proofs.Common.{◌==◌, ◌<◌, codes, Option, Some, None, option_and_then, option_map, Bor}
use Rattle.std.proofs.lemmas.Str.{IsUtf8-from_is_utf8, is_utf8-from_IsUtf8}
use Rattle.std.specs.Str.{IsUtf8, is_utf8}
use Rattle.json.specs.Find.{as_str}
use Rattle.json.specs.Json.{Json, Items, item, Members, member, document}
use Rattle.json.specs.Value.{items_view, members_view}
use Rattle.json.specs.declared.value.Value.{Value}
use Rattle.redis_wire.specs.Packed.{command_bytes}
use Rattle.worker.specs.Letters.{Fields, words_of}
use Rattle.worker_jobs.specs.Added.{Added, AreWords, QueuesOne, QueuesSome, added_by, added_bytes, entries_in, entries_of}
use Rattle.worker_jobs.specs.Added.{entries_of_line, entry_in, entry_of_pair, entry_with, fields_in}
use Rattle.worker_jobs.specs.VerdictOf.{commands_of, either_of}
use Rattle.worker_jobs.specs.declared.reply.Reply.{Reply}
use Rattle.worker_jobs.specs.declared.reply.Reply.TheVariants.{Done}

pub append_none : {A : Type 0} (xs : List A) → xs ++ [] ≡ xs
append_none [] = refl
append_none (x ∷ xs) = ap (λ ys. x ∷ ys) (append_none xs)

-- ---- lists whose first items are known

pub first_more : {A : Type 0} (first : List A) (a : A) (all rest : Option (List A))
    → all ≡ option_map (λ xs. first ++ xs) (option_map (λ xs. a ∷ xs) rest)
    → all ≡ option_map (λ xs. (first ++ a ∷ []) ++ xs) rest
first_more first a all None q = q
first_more first a all (Some xs) q = q ∙ ap Some (sym (append_assoc first (a ∷ []) xs))

pub first_all : {A : Type 0} (first : List A) (all : Option (List A)) → all ≡ option_map (λ xs. first ++ xs) (Some [])
    → all ≡ Some first
first_all first all q = q ∙ ap Some (append_none first)

-- ---- words

pub words_more : (first : Fields) (name value : List ℕ)
    → words_of (first ++ (name, value) ∷ []) ≡ words_of first ++ name ∷ value ∷ []
words_more [] name value = refl
words_more (f ∷ first) name value = ap (λ ws. f.0 ∷ f.1 ∷ ws) (words_more first name value)

pub flat_more : {A : Type 0} (f : A → List ℕ) (ws : List A) (v w : A)
    → flat_map (λ x. f x ∷ []) ((ws ++ v ∷ []) ++ w ∷ []) ≡ flat_map (λ x. f x ∷ []) ws ++ f v ∷ f w ∷ []
flat_more f [] v w = refl
flat_more f (x ∷ ws) v w = ap (λ r. f x ∷ r) (flat_more f ws v w)

-- ---- one entry

pub queued_one : (o : Option Added) (old new : List (List ℕ)) → QueuesOne o true old new
    → (a : Added) × (o ≡ Some a) × (new ≡ old ++ added_bytes a ∷ [])
queued_one (Some a) old new q = (a, refl, q)
queued_one None old new q = absurd q

pub queued_none : (o : Option Added) (old new : List (List ℕ)) → QueuesOne o false old new → (o ≡ None) × (new ≡ old)
queued_none (Some a) old new q = absurd q
queued_none None old new q = (refl, q)

pub map_more : (first : List Added) (a : Added) → map added_bytes first ++ added_bytes a ∷ [] ≡ map added_bytes (first ++ a ∷ [])
map_more [] a = refl
map_more (x ∷ first) a = ap (λ r. added_bytes x ∷ r) (map_more first a)

-- ---- the first of what is left

all_taken : {A : Type 0} (n : ℕ) (xs : List A) → n ≡ length xs → take n xs ≡ xs
all_taken n xs e = rw e (all_of xs)
  where
    all_of : {A : Type 0} (xs : List A) → take (length xs) xs ≡ xs
    all_of [] = refl
    all_of (x ∷ xs) = ap (λ ys. x ∷ ys) (all_of xs)

pub first_and_more : {A : Type 0} (xs : List A) (x : A) → 1 ≤ length xs → x ≡ get_or xs 0 x
    → xs ≡ x ∷ take (length xs - 1) (drop 1 xs)
first_and_more [] x h e = absurd (omega arith)
first_and_more (y ∷ ys) x h e = ap (λ z. z ∷ ys) (sym e)
    ∙ ap (λ zs. x ∷ zs) (sym (all_taken (length (y ∷ ys) - 1) ys (omega arith)))

-- ---- one member, and one pair

pub fields_step : (name : List ℕ) (v : Json) (ms : Members) (text : List ℕ) → as_str v ≡ Some text
    → fields_in (member name v ms) ≡ option_map (λ fields. (name, text) ∷ fields) (fields_in ms)
fields_step name v ms text e = ap (λ o. option_and_then (λ t. option_map (λ fields. (name, t) ∷ fields) (fields_in ms)) o) e

pub entries_step : (j : Json) (js : Items) (a : Added) → entry_in j ≡ Some a
    → entries_in (item j js) ≡ option_map (λ more. a ∷ more) (entries_in js)
entries_step j js a e = ap (λ o. option_and_then (λ b. option_map (λ more. b ∷ more) (entries_in js)) o) e

pub queues_true : (b : Bool) (o : Option Added) (old new : List (List ℕ)) → b ≡ true → QueuesOne o b old new
    → QueuesOne o true old new
queues_true true o old new is q = q
queues_true false o old new is q = absurd (let z : false ≡ true = is in cc)

pub queues_nothing : (o : Option (List Added)) (old : List (List ℕ)) → o ≡ None → QueuesSome o false old old
queues_nothing o old e = rw e ([], sym (append_none old))

pub short_pair : {A : Type 0} (vs : List (Value A)) (old : List (List ℕ)) → length vs < 2
    → QueuesOne (entry_of_pair (items_view vs)) false old old
short_pair [] old h = refl
short_pair (v ∷ []) old h = refl
short_pair (v ∷ w ∷ vs) old h = absurd (omega arith)

pub long_pair : {A : Type 0} (vs : List (Value A)) (old : List (List ℕ)) → 3 ≤ length vs
    → QueuesOne (entry_of_pair (items_view vs)) false old old
long_pair [] old h = absurd (omega arith)
long_pair (v ∷ []) old h = absurd (omega arith)
long_pair (v ∷ w ∷ []) old h = absurd (omega arith)
long_pair (v ∷ w ∷ x ∷ vs) old h = refl

pub long_members : {A : Type 0} (ms : List (Bor (List ℕ) × Value A)) (old : List (List ℕ)) → 3 ≤ length ms
    → QueuesSome (option_and_then entries_in (added_by (members_view ms))) false old old
long_members [] old h = absurd (omega arith)
long_members (m ∷ []) old h = absurd (omega arith)
long_members (m ∷ n ∷ []) old h = absurd (omega arith)
long_members (m ∷ n ∷ o ∷ ms) old h = ([], sym (append_none old))

-- ---- an entry with its words

no_items : (ws : List (Bor (List ℕ))) → (length ws == 0) ≡ false → flat_map (λ w. w.now ∷ []) ws ≡ [] → ⊥
no_items [] q e = absurd (let z : true ≡ false = q in cc)
no_items (w ∷ ws) q e = absurd (let z : w.now ∷ flat_map (λ x. x.now ∷ []) ws ≡ [] = e in cc)

pub entry_queued : (stream : List ℕ) (o : Option Fields) (ws : List (Bor (List ℕ))) (old new : List (List ℕ))
    → AreWords o (flat_map (λ w. w.now ∷ []) ws) → (length stream == 0) ≡ false → (length ws == 0) ≡ false
    → new ≡ old ++ command_bytes (codes "XADD" ∷ stream ∷ codes "*" ∷ flat_map (λ w. w.now ∷ []) ws) ∷ []
    → QueuesOne (entry_with stream o) true old new
entry_queued stream None ws old new are some more q = absurd are
entry_queued stream (Some []) ws old new are some more q = absurd (no_items ws more are)
entry_queued [] (Some (f ∷ fields)) ws old new are some more q = absurd (let z : true ≡ false = some in cc)
entry_queued (b ∷ stream) (Some (f ∷ fields)) ws old new are some more q =
    q ∙ ap (λ words. old ++ command_bytes (codes "XADD" ∷ (b ∷ stream) ∷ codes "*" ∷ words) ∷ []) are

-- ---- a line

pub not_text : (line : List ℕ) (old : List (List ℕ)) → (IsUtf8 line → ⊥) → QueuesSome (entries_of_line line) false old old
not_text line old other = by (is_utf8 line) refl
  where
    by : (b : Bool) → is_utf8 line ≡ b → QueuesSome (entries_of_line line) false old old
    by true is = absurd (other (IsUtf8-from_is_utf8 line is))
    by false is = rw is ([], sym (append_none old))

pub line_entries : (line : List ℕ) (j : Json) → IsUtf8 line → document line ≡ Some j → entries_of_line line ≡ entries_of j
line_entries line j text is = rw (is_utf8-from_IsUtf8 line text, is) refl

-- ---- a reply that is no JSON

pub no_commands : (w : Option Reply) (e : Option (List Added)) (r : Reply) → either_of w e ≡ Some r → (r ≡ Done → ⊥)
    → commands_of w e ≡ []
no_commands (Some x) e r q n = refl
no_commands None (Some es) r q n = absurd (n (let z : Some Done ≡ Some r = q in cc))
no_commands None None r q n = refl
