-- An entry is handled at most as often as the server handed it out.
use Rattle.std.proofs.Common.{◌≡◌, refl, ap, ◌∙◌, ℕ, ◌+◌, ◌≤◌, arith, zero, suc, Bool, true, false, ◌&&◌, List, [], ◌∷◌}
use Rattle.std.proofs.Common.{◌++◌, map, Option, Some, None, if◌then◌else◌}
use Rattle.model_server.specs.Group.Worker.{Id, Entry, Delivered, Verdict, done, left_pending, stop, follows, entries_in}
use Rattle.model_server.specs.Group.Worker.{handled_one, handled_in}
use Rattle.model_server.specs.Group.Group.{Numbers, id_text, is_below, fits, listed, ids_of, given, whole, reread}
use Rattle.model_server.specs.Group.Group.{claim_answer}
use Rattle.model_server.specs.Group.World.{World, Reply, Event, Append, Delete, Read, Reread, Claim, Claim_ids, Comes, Commit}
use Rattle.model_server.specs.Group.World.{Acknowledge, Ack_comes, Go_back, Crash, item, but, comes, ack_comes, whole_one}
use Rattle.model_server.specs.Group.World.{whole_ids, happens, run, empty_world}
use Rattle.model_server.specs.Group.Law.{times, HandledAsDelivered}

times_append : (id : Id) (xs ys : List Id) → times id (xs ++ ys) ≡ times id xs + times id ys
times_append id [] ys = omega arith
times_append id (x ∷ xs) ys = omega (arith, times_append id xs ys)

module _ {F : Type 0} (id : Id) where
  ids_append : (xs ys : List (Entry F)) → ids_of (xs ++ ys) ≡ ids_of xs ++ ids_of ys
  ids_append [] ys = refl
  ids_append (x ∷ xs) ys = ap (λ l. x.0 ∷ l) (ids_append xs ys)

  one_handled : (i : Id) (o : Option F) (v : Verdict) → times id (ids_of (handled_one i o v)) ≤ times id (whole_one i o)
  one_handled i None v = omega arith
  one_handled i (Some f) done = omega arith
  one_handled i (Some f) left_pending = omega arith
  one_handled i (Some f) stop = omega arith

  handled : (ds : List (Delivered F)) (vs : List Verdict)
      → times id (ids_of (handled_in ds vs)) ≤ times id (whole_ids ds)
  handled [] vs = omega arith
  handled (d ∷ ds) [] = omega arith
  handled (d ∷ ds) (v ∷ vs) =
      let one = one_handled d.0 d.1 v in
      let rest : (b : Bool) → times id (ids_of (if b then handled_in ds vs else [])) ≤ times id (whole_ids ds)
      = λ b. elim b as (λ c. times id (ids_of (if c then handled_in ds vs else [])) ≤ times id (whole_ids ds))
      [ true ↦ handled ds vs | false ↦ omega arith ] in
      let behind = rest (follows d.1 v) in
      let l : times id (ids_of (handled_one d.0 d.1 v ++ (if follows d.1 v then handled_in ds vs else [])))
      ≡ times id (ids_of (handled_one d.0 d.1 v))
      + times id (ids_of (if follows d.1 v then handled_in ds vs else []))
      = ap (times id) (ids_append (handled_one d.0 d.1 v) (if follows d.1 v then handled_in ds vs else []))
      ∙ times_append id (ids_of (handled_one d.0 d.1 v))
      (ids_of (if follows d.1 v then handled_in ds vs else [])) in
      let r = times_append id (whole_one d.0 d.1) (whole_ids ds) in
      omega arith

  -- how often it is in a reply on the way
  abbrev on_way : List (Reply F) → ℕ
  on_way [] = 0
  on_way (r ∷ rs) = times id (whole_ids (entries_in r.answer)) + on_way rs

  on_way_but : (rs : List (Reply F)) (k : ℕ) (r : Reply F) → item rs k ≡ Some r
      → on_way rs ≡ times id (whole_ids (entries_in r.answer)) + on_way (but rs k)
  on_way_but [] k r h = absurd (let t : None ≡ Some r = h in cc)
  on_way_but (x ∷ rs) zero r h =
      let e : x ≡ r = let t : Some x ≡ Some r = h in cc in
      ap (λ (y : Reply F). times id (whole_ids (entries_in y.answer)) + on_way rs) e
  on_way_but (x ∷ rs) (suc k) r h = omega (arith, on_way_but rs k r h)

  abbrev Counted : World F → Type 0
  Counted w = times id (ids_of w.handled) + on_way w.replies ≤ times id w.deliveries

  one_more : (h n : ℕ) (ds : List (Delivered F)) (deliveries : List Id) → h + n ≤ times id deliveries
      → h + (times id (whole_ids ds) + n) ≤ times id (whole_ids ds ++ deliveries)
  one_more h n ds deliveries c = omega (arith, times_append id (whole_ids ds) deliveries)

  appends : (w : World F) (n : Numbers) (fields : F) → Counted w → (b : Bool)
      → Counted (if b then record w { fresh = w.fresh ++ (id_text n, fields) ∷ []; last = n } else w)
  appends w n fields c true = c
  appends w n fields c false = c

  deletes : (w : World F) (i : Id) → Counted w → (b : Bool)
      → Counted (if b then record w { deleted = i ∷ w.deleted } else w)
  deletes w i c true = c
  deletes w i c false = c

  answers : (w : World F) (k : ℕ) (vs : List Verdict) → Counted w → (o : Option (Reply F)) → item w.replies k ≡ o
      → Counted (comes w k o vs)
  answers w k vs c None q = c
  answers w k vs c (Some r) q =
      let b = on_way_but w.replies k r q in
      let h = handled (entries_in r.answer) vs in
      let l : times id (ids_of (w.handled ++ handled_in (entries_in r.answer) vs)) ≡ times id (ids_of w.handled)
      + times id (ids_of (handled_in (entries_in r.answer) vs))
      = ap (times id) (ids_append w.handled (handled_in (entries_in r.answer) vs))
      ∙ times_append id (ids_of w.handled) (ids_of (handled_in (entries_in r.answer) vs)) in
      omega arith

  acks : (w : World F) → Counted w → (o : Option (List ℕ × List Id)) → Counted (ack_comes w o)
  acks w c None = c
  acks w c (Some a) = one_more (times id (ids_of w.handled)) (on_way w.replies) [] w.deliveries c

  each : (w : World F) (e : Event F) → Counted w → Counted (happens w e)
  each w (Append n fields) c = appends w n fields c (is_below w.last n && fits n)
  each w (Delete i) c = deletes w i c (listed (ids_of (w.seen ++ w.fresh)) i)
  each w (Read name n) c = one_more (times id (ids_of w.handled)) (on_way w.replies)
      (map whole (given w.deleted n w.fresh)) w.deliveries c
  each w (Reread name pick) c = one_more (times id (ids_of w.handled)) (on_way w.replies)
      (reread pick name w.pending w.deleted w.seen) w.deliveries c
  each w (Claim name pick next) c = one_more (times id (ids_of w.handled)) (on_way w.replies)
      (claim_answer pick w.pending w.deleted w.seen) w.deliveries c
  each w (Claim_ids name pick) c = c
  each w (Commit name) c = c
  each w (Go_back name) c = c
  each w (Comes k vs) c = answers w k vs c (item w.replies k) refl
  each w (Acknowledge name) c = c
  each w (Ack_comes k) c = acks w c (item w.acks k)
  each w (Crash name every keeps ids) c = c

  over : (es : List (Event F)) (w : World F) → Counted w → Counted (run es w)
  over [] w c = c
  over (e ∷ es) w c = over es (happens w e) (each w e c)

  pub always_counted : (es : List (Event F))
      → times id (ids_of (run es empty_world).handled) ≤ times id (run es empty_world).deliveries
  always_counted es =
      let start : Counted empty_world = omega arith in
      let c = over es empty_world start in omega arith

pub handled_as_delivered : {F : Type 0} → HandledAsDelivered F
handled_as_delivered {F} es id = always_counted id es
