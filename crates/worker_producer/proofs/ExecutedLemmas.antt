-- The reply to EXEC with the ids of a batch, at the start of the bytes received.
use Rattle.std.proofs.Common.{◌≡◌, ◌<◌, ◌≤◌, ◌+◌, ◌-◌, ◌^◌, ℕ, zero, suc, true, List, [], ◌∷◌, ◌++◌, length, take}
use Rattle.std.proofs.Common.{map, inl, inr, refl, sym, ◌∙◌, ap, subst, append-nil, append_assoc, arith, decimal}
use Rattle.std.proofs.KnownBytes.{Consumes-nil}
use Rattle.std.proofs.lemmas.Bool.{cases_lt, eq-eqb}
use Rattle.std.proofs.lemmas.Fmt.{decimal_digit, length-decimal-le}
use Rattle.std.proofs.lemmas.List.{length-append, length-take, map-append}
use Rattle.std.specs.List.{AllByRecursion}
use Rattle.redis_resp.specs.Tree.{Tree, array, bulk, trees}
use Rattle.redis_wire.specs.Count.{values_of_trees}
use Rattle.redis_wire.specs.Grammar.{IsReply}
use Rattle.redis_wire.specs.Packed.{bulk_bytes}
use Rattle.redis_wire.specs.ReadBack.{AreWritable, IsWritable}
use Rattle.redis_wire.specs.Reply as wire
use Rattle.redis_wire.specs.Written.{count_bytes, tree_bytes, tree_count, trees_bytes}
use Rattle.redis_wire.specs.declared.limits.Limits.{Limits}
use Rattle.redis_wire.specs.declared.written.Protocol.TheVariants.{Resp2}
use Rattle.redis_wire.proofs.ReadBackLemmas.{answers_are_read}
use Rattle.redis_wire.proofs.WrittenLemmas.{trees_push}
use Rattle.redis_connection.specs.Link.{Link, Receives, Stands}
use Rattle.redis_connection.specs.Passing.{AwaitsAnswer}
use Rattle.model_server.specs.Once.Feed as feed
use Rattle.model_server.specs.Once.Feed.{knows, waits}
use Rattle.worker_producer.specs.Executed.{HoldsExecuted, executed_bytes, ids_bytes, own_ids}
use Rattle.worker_producer.specs.Learnt.{Learns}
use Rattle.worker_producer.specs.Machine.{Standing}
use Rattle.worker_producer.specs.Replies.{are_ids, is_executed, value_count}
use Rattle.worker_producer.specs.Sentences.{own_id}
use Rattle.worker_producer.specs.Session.{HearsOne}
use Rattle.worker_producer.proofs.LineLemmas.{receives_after}
use Rattle.worker_producer.proofs.TakenLemmas.{last_taken, learnt_executed}

-- ---- the ids, and their bytes

abbrev id_trees : ℕ → ℕ → List Tree
id_trees before n = map bulk (own_ids before n)

one_tree_more : (before n : ℕ) → id_trees before n ++ bulk (own_id (before + suc n)) ∷ [] ≡ id_trees before (suc n)
one_tree_more before n = sym (map-append bulk (own_ids before n) (own_id (before + suc n) ∷ []))

ids_are : (before n : ℕ) → ids_bytes before n ≡ trees_bytes Resp2 (trees (id_trees before n))
ids_are before zero = refl
ids_are before (suc n) =
    let last = own_id (before + suc n) in
    ap (λ (z : List ℕ). z ++ bulk_bytes last) (ids_are before n)
    ∙ sym (trees_push Resp2 (id_trees before n) (bulk last))
    ∙ ap (λ (ts : List Tree). trees_bytes Resp2 (trees ts)) (one_tree_more before n)

as_many_ids : (before n : ℕ) → length (own_ids before n) ≡ n
as_many_ids before zero = refl
as_many_ids before (suc n) =
    let last = own_id (before + suc n) in
    omega (arith, length-append (own_ids before n) (last ∷ []), as_many_ids before n)

trees_counted : (ids : List (List ℕ)) → tree_count (trees (map bulk ids)) ≡ length ids
trees_counted [] = refl
trees_counted (id ∷ ids) = ap suc (trees_counted ids)

values_counted : (ids : List (List ℕ)) → values_of_trees (trees (map bulk ids)) ≡ length ids
values_counted [] = refl
values_counted (id ∷ ids) = let e = values_counted ids in omega (arith, e)

replies_counted : (ids : List (List ℕ)) → value_count (trees (map bulk ids)) ≡ length ids
replies_counted [] = refl
replies_counted (id ∷ ids) = ap suc (replies_counted ids)

all_are_ids : (ids : List (List ℕ)) → are_ids (trees (map bulk ids)) ≡ true
all_are_ids [] = refl
all_are_ids (id ∷ ids) = all_are_ids ids

-- ---- they fit the limits

abbrev Fits : Limits → List ℕ → Type 0
Fits limits id = length id ≤ limits.length

id_length : (number : ℕ) → number < 2 ^ 64 → length (own_id number) ≤ 22
id_length number small =
    let digits : length (decimal number) ≤ 20 =
    length-decimal-le 20 number (omega arith) (omega (arith, small)) small in
    let zero_is : length (decimal 0) ≡ 1 = ap length (decimal_digit 0 (omega arith)) in
    omega (arith, digits, zero_is, length-append (decimal number) (45 ∷ decimal 0))

one_fits_more : (P : List ℕ → Type 0) (ids : List (List ℕ)) (id : List ℕ) → AllByRecursion P ids → P id
    → AllByRecursion P (ids ++ id ∷ [])
one_fits_more P [] id all one = (one, tt)
one_fits_more P (x ∷ ids) id all one = (all.0, one_fits_more P ids id all.1 one)

ids_fit : (limits : Limits) (before n : ℕ) → before + n < 2 ^ 64 → 22 ≤ limits.length
    → AllByRecursion (Fits limits) (own_ids before n)
ids_fit limits before zero small room = tt
ids_fit limits before (suc n) small room =
    let len = id_length (before + suc n) small in
    one_fits_more (Fits limits) (own_ids before n) (own_id (before + suc n))
    (ids_fit limits before n (omega (arith, small)) room) (omega (arith, len, room))

ids_written : (limits : Limits) (d : ℕ) (ids : List (List ℕ)) → AllByRecursion (Fits limits) ids
    → AreWritable Resp2 limits (suc d) (trees (map bulk ids))
ids_written limits d [] all = tt
ids_written limits d (id ∷ ids) all = (all.0, ids_written limits d ids all.1)

-- ---- the reply

abbrev reply_of : ℕ → ℕ → wire.Answer
reply_of before n = wire.value (array (trees (id_trees before n)))

pub says_executed : (before n : ℕ) → is_executed n (reply_of before n) ≡ true
says_executed before n =
    let ts = trees (id_trees before n) in
    let count = eq-eqb (value_count ts) n (replies_counted (own_ids before n) ∙ as_many_ids before n) in
    rw (count, all_are_ids (own_ids before n)) refl

reply_bytes : (before n : ℕ) → tree_bytes Resp2 (array (trees (id_trees before n))) ≡ executed_bytes before n
reply_bytes before n =
    ap (λ (m : ℕ). count_bytes 42 m ++ trees_bytes Resp2 (trees (id_trees before n)))
    (trees_counted (own_ids before n) ∙ as_many_ids before n)
    ∙ ap (λ (z : List ℕ). count_bytes 42 n ++ z) (sym (ids_are before n))

module _ (limits : Limits) (before n : ℕ) (small : before + n < 2 ^ 64) (bound : limits.length < 2 ^ 32)
    (depth : 2 ≤ limits.depth) (line : 20 ≤ limits.line) (room : 22 ≤ limits.length) (count : n ≤ limits.length)
    (values : n < limits.values) where
  written : IsWritable Resp2 limits limits.depth (array (trees (id_trees before n)))
  written =
      let d : ℕ = limits.depth - 2 in
      let e : suc (suc d) ≡ limits.depth = omega (arith, depth) in
      let c : tree_count (trees (id_trees before n)) ≡ n =
      trees_counted (own_ids before n) ∙ as_many_ids before n in
      subst (λ (k : ℕ). IsWritable Resp2 limits k (array (trees (id_trees before n)))) e
      (omega (arith, c, count), ids_written limits d (own_ids before n) (ids_fit limits before n small room))

  pub reply_read : IsReply limits (executed_bytes before n) (reply_of before n)
  reply_read =
      let c : values_of_trees (trees (id_trees before n)) ≡ n =
      values_counted (own_ids before n) ∙ as_many_ids before n in
      subst (λ (bytes : List ℕ). IsReply limits bytes (reply_of before n)) (reply_bytes before n)
      (answers_are_read Resp2 limits (reply_of before n) bound line written (omega (arith, c, values)))

-- ---- the reply in place

module _ (link : Link) (n : ℕ) (expected bytes : List ℕ) (front : length expected ≤ link.in_place
    → bytes ≡ take (length expected) link.held.bytes)
    (all : link.in_place ≤ length expected → bytes ≡ take link.in_place link.held.bytes) (is : bytes ≡ expected) where
  len : length bytes ≡ length expected
  len = ap length is

  within : length expected ≤ link.in_place
  within = elim (cases_lt link.in_place (length expected)) [
    | inr le ↦ le
    | inl lt ↦
        let l : length bytes ≡ length (take link.in_place link.held.bytes) = ap length (all (omega (arith, lt))) in
        absurd (omega (arith, lt, len, l, length-take link.in_place link.held.bytes))
  ]

  first : take (length expected) link.held.bytes ≡ expected
  first = sym (front within) ∙ is

  whole : length expected ≤ length link.held.bytes
  whole = let l : length (take (length expected) link.held.bytes) ≡ length expected = ap length first in
      omega (arith, l, length-take (length expected) link.held.bytes)

  pub executed_there : (before : ℕ) → before + n < 2 ^ 64 → expected ≡ executed_bytes before n → link.held.limits.length < 2 ^ 32 → 2 ≤ link.held.limits.depth
      → 20 ≤ link.held.limits.line → 22 ≤ link.held.limits.length → n ≤ link.held.limits.length
      → n < link.held.limits.values → HoldsExecuted n link (length expected)
  executed_there before small same bound depth line room count values = (
    reply_of before n,
    says_executed before n,
    record {
      count = 0;
      between = link;
      passes = refl;
      stands = record {
        taken = [];
        takes = record {
          consumes = Consumes-nil link.coming;
          bytes = sym (append-nil link.held.bytes);
          limits = refl;
          written = refl;
          passed = refl;
        };
        within = within;
        whole = whole;
        reply = subst (λ (text : List ℕ). IsReply link.held.limits text (reply_of before n)) (sym (first ∙ same))
            (reply_read link.held.limits before n small bound depth line room count values);
      };
      is_answer = λ x. x;
    },
  )

-- ---- it is taken

pub executed_heard : (base count m n size : ℕ) (old mid new : Link) (w x : Standing) → AwaitsAnswer old mid
    → HoldsExecuted n mid size → ((before : Link) (a : wire.Answer) → Stands before mid size a → Receives before new a)
    → w.stage ≡ waits m n → w.coming ≡ 1 → x.stage ≡ knows (m + n) → x.coming ≡ 0
    → HearsOne base count old new w x
executed_heard base count m n size old mid new w x held there gives at last is none =
    let s = there.2 in (
      there.0,
      receives_after old mid new there.0 held (record {
        count = s.count;
        between = s.between;
        passes = s.passes;
        receives = gives s.between there.0 s.stands;
        is_answer = s.is_answer;
      }),
      last_taken w.coming base count w x there.0 last
          (subst (λ (st : feed.Stage). Learns base count st x.stage there.0) (sym at)
          (learnt_executed base count m n there.0 x.stage there.1 is)) none,
    )

-- ---- its bytes

pub one_id_more : (before i : ℕ) (start out id new : List ℕ) → out ≡ start ++ ids_bytes before i
    → id ≡ own_id (before + i + 1) → new ≡ out ++ bulk_bytes id → new ≡ start ++ ids_bytes before (i + 1)
one_id_more before i start out id new so_far is grown =
    let e : suc i ≡ i + 1 = omega arith in
    let k : before + i + 1 ≡ before + suc i = omega arith in
    let step : new ≡ start ++ (ids_bytes before i ++ bulk_bytes (own_id (before + suc i))) =
    grown
    ∙ ap (λ (z : List ℕ). z ++ bulk_bytes id) so_far
    ∙ append_assoc start (ids_bytes before i) (bulk_bytes id)
    ∙ ap (λ (z : List ℕ). start ++ (ids_bytes before i ++ bulk_bytes z)) (is ∙ ap own_id k) in
    subst (λ (j : ℕ). new ≡ start ++ ids_bytes before j) e step
