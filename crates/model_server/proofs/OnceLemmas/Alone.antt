-- The count of a pending entry is of that entry alone, if entries are redelivered one at a time.
use Rattle.std.proofs.Common.{ℕ, ◌+◌, ◌≤◌, arith, Bool, true, false, ◌&&◌, List, [], ◌∷◌, length}
use Rattle.std.proofs.Common.{Option, Some, None, if◌then◌else◌}
use Rattle.std.specs.Option.{is_none}
use Rattle.model_server.specs.Group.Worker.{Id, Phase, own, claiming, reading}
use Rattle.model_server.specs.Group.Group.{Name, Pending, is_below, fits}
use Rattle.model_server.specs.Group.World as group
use Rattle.model_server.specs.Group.World.{item, appended}
use Rattle.model_server.specs.Group.Law.{Among}
use Rattle.model_server.proofs.GroupLemmas.Alone.{Counted, Next, fewer, same, acks, appends, each, rereads, claims, reads}
use Rattle.model_server.specs.Once.Consumer.{is_idle, after_asking}
use Rattle.model_server.specs.Once.Feed.{Numbered}
use Rattle.model_server.specs.Once.Feed.{Request, batch, ask_last}
use Rattle.model_server.specs.Once.Producer.{add_all, filled_by}
use Rattle.model_server.specs.Once.World.{Setting, World, Event, Send, Arrive, Arrive_late, Hear, Break, Ask, Take, Sync}
use Rattle.model_server.specs.Once.World.{Acknowledge_now, Acknowledge_later, Reconnect, Restart, Else, first_world, happens, run}
use Rattle.model_server.specs.Once.World.{asked, acknowledges}
use Rattle.model_server.specs.Once.Alone.{asked_again, again, times_alone, OneAtATime, EachIsCountedAlone}

module _ {F : Type 0} where
  -- as often as before
  none_again : (k : Id → ℕ) (w : group.World F) → Counted (Next {F = F} k []) w → Counted k w
  none_again k w i = record {
    was_read = i.was_read;
    count = λ p h. omega (arith, i.count p h);
  }

  with_batch : (k : Id → ℕ) (b : List (Numbered F)) (w : group.World F) → Counted k w → Counted k (add_all w b)
  with_batch k [] w i = i
  with_batch k (r ∷ rs) w i =
      let v : group.World F = appended w r.0 r.1 in
      with_batch k rs v (none_again k v (appends k w r.0 r.1 i (is_below w.last r.0 && fits r.0)))

  with_request : (k : Id → ℕ) (executes : Bool) (o : Option (Request F)) (w : group.World F) → Counted k w
      → Counted (Next {F = F} k []) (filled_by executes w o)
  with_request k executes None w i = same k w i
  with_request k executes (Some ask_last) w i = same k w i
  with_request k true (Some (batch b)) w i = same k (add_all w b) (with_batch k b w i)
  with_request k false (Some (batch b)) w i = same k w i

  by_phase : (k : Id → ℕ) (name : Name) (n : ℕ) (pick : Id → Bool) (next : Id) (phase : Phase) (w : group.World F)
      → Counted k w → length (asked_again name pick next phase w) ≤ 1
      → Counted (Next k (asked_again name pick next phase w)) (after_asking name n pick next phase w)
  by_phase k name n pick next (own behind) w i le = rereads k w name pick i le
  by_phase k name n pick next (claiming from) w i le = claims k w name pick next i le
  by_phase k name n pick next (reading rounds) w i le = reads k w name n i

  with_asked : (k : Id → ℕ) (name : Name) (n : ℕ) (pick : Id → Bool) (next : Id) (w : World F) → Counted k w.stream
      → (b : Bool) → length (if b then asked_again name pick next w.consumer.machine.phase w.stream else []) ≤ 1
      → Counted (Next k (if b then asked_again name pick next w.consumer.machine.phase w.stream else []))
      (if b then asked name n pick next w else w).stream
  with_asked k name n pick next w i false le = same k w.stream i
  with_asked k name n pick next w i true le = by_phase k name n pick next w.consumer.machine.phase w.stream i le

  with_ack : (k : Id → ℕ) (name : Name) (w : World F) → Counted k w.stream → (b : Bool)
      → Counted (Next {F = F} k []) (if b then acknowledges name w else w).stream
  with_ack k name w i false = same k w.stream i
  with_ack k name w i true = acks k w.stream i (Some (name, w.consumer.machine.to_acknowledge))

  -- each event keeps it
  counted_then : (k : Id → ℕ) (s : Setting F) (w : World F) (e : Event F) → Counted k w.stream
      → length (again s w e) ≤ 1 → Counted (Next k (again s w e)) (happens s w e).stream
  counted_then k s w (Send n) i le = same k w.stream i
  counted_then k s w (Arrive b) i le = with_request k b w.producer.sent w.stream i
  counted_then k s w (Arrive_late which b) i le = with_request k b (item w.producer.late which) w.stream i
  counted_then k s w Hear i le = same k w.stream i
  counted_then k s w Break i le = same k w.stream i
  counted_then k s w (Ask n pick next) i le = with_asked k s.name n pick next w i (is_idle w.consumer) le
  counted_then k s w (Take vs) i le = same k w.stream i
  counted_then k s w Sync i le = same k w.stream i
  counted_then k s w Acknowledge_now i le = with_ack k s.name w i (is_none w.consumer.answer)
  counted_then k s w Acknowledge_later i le =
      fewer k w.stream (happens s w Acknowledge_later).stream i (λ p h. h) (λ e h. h)
  counted_then k s w Reconnect i le = same k w.stream i
  counted_then k s w (Restart every kept more) i le = same k w.stream i
  counted_then k s w (Else e) i le = each k w.stream e i le

  counted_over : (es : List (Event F)) (k : Id → ℕ) (s : Setting F) (w : World F) → Counted k w.stream
      → OneAtATime s es w → (p : Pending) → Among p (run s es w).stream.pending
      → p.count ≤ 1 + (k p.id + times_alone s p.id es w)
  counted_over [] k s w i one p h = omega (arith, i.count p h)
  counted_over (e ∷ es) k s w i one p h = omega (
    arith,
    counted_over es (Next k (again s w e)) s (happens s w e) (counted_then k s w e i one.0) one.1 p h,
  )

pub each_is_counted_alone : {F : Type 0} → EachIsCountedAlone F
each_is_counted_alone {F} s events one p h =
    let start : Counted {F = F} (λ id. 0) (first_world {F = F}).stream =
    record { was_read = λ q a. absurd a; count = λ q a. absurd a } in
    omega (arith, counted_over events (λ id. 0) s first_world start one p h)
