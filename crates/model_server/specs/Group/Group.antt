-- The commands of the server on a stream and its group, as the Redis documentation describes them.
use Rattle.std.specs.Prelude.{ℕ, ◌+◌, ◌^◌, zero, suc, nat_lt, nat_eq, decimal, Bool, true, false, not, ◌&&◌, ◌||◌, List}
use Rattle.std.specs.Prelude.{[], ◌∷◌, ◌++◌, map, filter, Some, None, if◌then◌else◌}
use Rattle.std.specs.Str.{bytes_eq}
use Rattle.model_server.specs.Group.Worker.{Id, Entry, Delivered}

-- the name of a consumer
abbrev pub Name : Type 0
Name = List ℕ

-- a pending entry: delivered to `consumer` and not acknowledged. `count` is its delivery count
pub record Pending : Type 0 where
  pub id : Id
  pub consumer : Name
  pub count : ℕ

-- the two numbers of an id: a time in milliseconds and a sequence number. In an id of the server both are below 2^64
-- (`fits`)
abbrev pub Numbers : Type 0
Numbers = ℕ × ℕ

-- the id with these numbers, in the form that the server writes
abbrev pub id_text : Numbers → Id
id_text n = decimal n.0 ++ 45 ∷ decimal n.1

-- whether the id `m` is below the id `n`: by the time, then by the sequence number
abbrev pub is_below : Numbers → Numbers → Bool
is_below m n = nat_lt m.0 n.0 || (nat_eq m.0 n.0 && nat_lt m.1 n.1)

-- whether both numbers fit into 64 bits
abbrev pub fits : Numbers → Bool
fits n = nat_lt n.0 (2 ^ 64) && nat_lt n.1 (2 ^ 64)

-- whether `id` is one of these ids
abbrev pub listed : List Id → Id → Bool
listed [] id = false
listed (x ∷ xs) id = if bytes_eq x id then true else listed xs id

-- the ids of these entries
abbrev pub ids_of : {F : Type 0} → List (Entry F) → List Id
ids_of es = map (λ e. e.0) es

-- the ids of these pending entries
abbrev pub pending_ids : List Pending → List Id
pending_ids ps = map (λ p. p.id) ps

-- the entries that XREADGROUP with `>` and COUNT `n` returns: the first `n` that are not deleted
abbrev pub given : {F : Type 0} → List Id → ℕ → List (Entry F) → List (Entry F)
given deleted n [] = []
given deleted zero (e ∷ es) = []
given deleted (suc n) (e ∷ es) = if listed deleted e.0 then given deleted (suc n) es else e ∷ given deleted n es

-- the entries that such a read moves the last delivered id past: those of `given`, and the deleted ones before them.
-- They are all entries if `given` has fewer than `n`
abbrev pub passed : {F : Type 0} → List Id → ℕ → List (Entry F) → List (Entry F)
passed deleted n [] = []
passed deleted zero (e ∷ es) = []
passed deleted (suc n) (e ∷ es) = e ∷ (if listed deleted e.0 then passed deleted (suc n) es else passed deleted n es)

-- the entries that remain undelivered after such a read: those after `passed`
abbrev pub behind : {F : Type 0} → List Id → ℕ → List (Entry F) → List (Entry F)
behind deleted n [] = []
behind deleted zero (e ∷ es) = e ∷ es
behind deleted (suc n) (e ∷ es) = if listed deleted e.0 then behind deleted (suc n) es else behind deleted n es

-- these new entries as pending ones of the consumer, with delivery count 1
abbrev pub newly_pending : {F : Type 0} → Name → List (Entry F) → List Pending
newly_pending consumer es = map (λ e. record { id = e.0; consumer = consumer; count = 1 }) es

-- the entry with its fields, as a reply has it
abbrev pub whole : {F : Type 0} → Entry F → Delivered F
whole e = (e.0, Some e.1)

-- the entry as a reply has it: with its fields, or with nil if it was deleted
abbrev pub as_it_is : {F : Type 0} → List Id → Entry F → Delivered F
as_it_is deleted e = (e.0, if listed deleted e.0 then None else Some e.1)

-- the ids of the consumer's pending entries
abbrev pub own : Name → List Pending → List Id
own consumer ps = pending_ids (filter (λ p. bytes_eq p.consumer consumer) ps)

-- the entries that XREADGROUP with an id returns: the consumer's pending entries that `pick` selects, in the order of
-- the log. Each has its fields, or nil if it was deleted. `pick` models the id and COUNT
abbrev pub reread : {F : Type 0} → (Id → Bool) → Name → List Pending → List Id → List (Entry F) → List (Delivered F)
reread pick consumer ps deleted seen =
    map (as_it_is deleted) (filter (λ e. pick e.0 && listed (own consumer ps) e.0) seen)

-- a pending entry after XREADGROUP with an id: a redelivered one has a delivery count of one more. That of a deleted
-- one is unchanged
abbrev pub raised_one : (Id → Bool) → Name → List Id → Pending → Pending
raised_one pick consumer deleted p =
    if pick p.id && (bytes_eq p.consumer consumer && not (listed deleted p.id)) then record p { count = p.count + 1 }
    else p

-- all pending entries after XREADGROUP with an id
abbrev pub raised : (Id → Bool) → Name → List Id → List Pending → List Pending
raised pick consumer deleted ps = map (raised_one pick consumer deleted) ps

-- a pending entry after XAUTOCLAIM. If `pick` selects it, it goes to the consumer. Its delivery count grows by `more`:
-- 1, or 0 with JUSTID. A selected one that was deleted leaves the list
abbrev pub claimed_one : ℕ → (Id → Bool) → Name → List Id → Pending → List Pending
claimed_one more pick consumer deleted p =
    if pick p.id
    then (if listed deleted p.id then [] else record { id = p.id; consumer = consumer; count = p.count + more } ∷ [])
    else p ∷ []

-- all pending entries after XAUTOCLAIM
abbrev pub claimed : ℕ → (Id → Bool) → Name → List Id → List Pending → List Pending
claimed more pick consumer deleted [] = []
claimed more pick consumer deleted (p ∷ ps) =
    claimed_one more pick consumer deleted p ++ claimed more pick consumer deleted ps

-- the entries that XAUTOCLAIM returns: the pending ones that `pick` selects and that are not deleted
abbrev pub claim_answer : {F : Type 0} → (Id → Bool) → List Pending → List Id → List (Entry F) → List (Delivered F)
claim_answer pick ps deleted seen = map whole
    (filter (λ e. pick e.0 && (listed (pending_ids ps) e.0 && not (listed deleted e.0))) seen)

-- the pending entries after XACK with these ids
abbrev pub pending_after : List Id → List Pending → List Pending
pending_after ids ps = filter (λ p. not (listed ids p.id)) ps
