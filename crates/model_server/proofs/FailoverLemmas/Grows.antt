-- The file only grows, at its end.
use Rattle.std.proofs.Common.{refl, sym, ap, ◌∙◌, ℕ, Bool, true, false, ◌&&◌, List, [], ◌∷◌, ◌++◌, append_assoc, take, Option}
use Rattle.std.proofs.Common.{Some, None, if◌then◌else◌}
use Rattle.std.specs.Option.{is_none}
use Rattle.model_server.specs.Group.Worker.{Id, Verdict, Answer}
use Rattle.model_server.specs.Group.World.{item}
use Rattle.model_server.specs.Group.World as group
use Rattle.model_server.specs.Once.Consumer.{Consumer, is_empty, is_idle, syncs}
use Rattle.model_server.specs.Once.World.{Setting, Send, Arrive, Arrive_late, Hear, Break, Ask, Take, Sync}
use Rattle.model_server.specs.Once.World.{Acknowledge_now, Acknowledge_later, Reconnect, Restart, Else, asked, acknowledges}
use Rattle.model_server.specs.Once.World as once
use Rattle.model_server.specs.Once.Law.{AreFirst}
use Rattle.model_server.proofs.OnceLemmas.Fill.{append_nil}
use Rattle.model_server.specs.Failover.Lookup.{looks_up}
use Rattle.model_server.specs.Failover.World.{World, Event, Plain, Arrive_waits, Ask_waits, Failover, fails_over, is_confirmed}
use Rattle.model_server.specs.Failover.World.{plainly, happens, run}
use Rattle.model_server.specs.Failover.Law.{after, FileGrows}

same : {A : Type 0} (xs : List A) → AreFirst xs xs
same xs = ([], append_nil xs)

further : {A : Type 0} (xs ys zs : List A) → AreFirst xs ys → AreFirst ys zs → AreFirst xs zs
further xs ys zs a b = (a.0 ++ b.0, sym (append_assoc xs a.0 b.0) ∙ (ap (λ l. l ++ b.0) a.1 ∙ b.1))

module _ {F : Type 0} where
  abbrev Grows : Consumer F → Consumer F → Type 0
  Grows c d = AreFirst c.file d.file

  taken : (c : Consumer F) (vs : List Verdict) (o : Option (Answer F)) → Grows c (looks_up vs o c)
  taken c vs None = same c.file
  taken c vs (Some a) = same c.file

  synced : (c : Consumer F) (b : Bool) → Grows c (if b then syncs c else c)
  synced c true = (c.lines, refl)
  synced c false = same c.file

  asked_file : (s : Setting F) (n : ℕ) (pick : Id → Bool) (next : Id) (w : once.World F) (b : Bool)
      → Grows w.consumer (if b then asked s.name n pick next w else w).consumer
  asked_file s n pick next w true = same w.consumer.file
  asked_file s n pick next w false = same w.consumer.file

  acked_file : (s : Setting F) (w : once.World F) (b : Bool)
      → Grows w.consumer (if b then acknowledges s.name w else w).consumer
  acked_file s w true = same w.consumer.file
  acked_file s w false = same w.consumer.file

  plain : (s : Setting F) (w : once.World F) (e : once.Event F) → Grows w.consumer (plainly s w e).consumer
  plain s w (Send n) = same w.consumer.file
  plain s w (Arrive b) = same w.consumer.file
  plain s w (Arrive_late j b) = same w.consumer.file
  plain s w Hear = same w.consumer.file
  plain s w Break = same w.consumer.file
  plain s w (Ask n pick next) = asked_file s n pick next w (is_idle w.consumer)
  plain s w (Take vs) = taken w.consumer vs w.consumer.answer
  plain s w Sync = synced w.consumer (is_none w.consumer.answer && is_empty w.consumer.machine.to_acknowledge)
  plain s w Acknowledge_now = acked_file s w (is_none w.consumer.answer)
  plain s w Acknowledge_later = same w.consumer.file
  plain s w Reconnect = same w.consumer.file
  plain s w (Restart every kept n) = (take kept w.consumer.lines, refl)
  plain s w (Else e) = same w.consumer.file

  -- after a WAIT that was confirmed, or not
  either : (c : Consumer F) (v cut : once.World F) (b : Bool) → Grows c v.consumer → Grows c cut.consumer
      → Grows c (if b then v else cut).consumer
  either c v cut true g h = g
  either c v cut false g h = h

  failed : (w : World F) (o : Option (group.World F)) → Grows w.now.consumer (fails_over w o).now.consumer
  failed w None = same w.now.consumer.file
  failed w (Some k) = same w.now.consumer.file

  step : (s : Setting F) (w : World F) (e : Event F) → Grows w.now.consumer (happens s w e).now.consumer
  step s w (Plain e) = plain s w.now e
  step s w (Arrive_waits b asked said) =
      let v : once.World F = once.happens s w.now (Arrive b) in
      either w.now.consumer v (once.happens s v Break) (is_confirmed asked said)
      (same w.now.consumer.file) (same w.now.consumer.file)
  step s w (Ask_waits n pick next asked said) =
      let v : once.World F = once.happens s w.now (Ask n pick next) in
      let g = asked_file s n pick next w.now (is_idle w.now.consumer) in
      either w.now.consumer v (once.happens s v Reconnect) (is_confirmed asked said) g g
  step s w (Failover j) = failed w (item w.kept j)

  steps : (s : Setting F) (es : List (Event F)) (w : World F) → Grows w.now.consumer (run s es w).now.consumer
  steps s [] w = same w.now.consumer.file
  steps s (e ∷ es) w =
      further w.now.consumer.file (happens s w e).now.consumer.file (run s es (happens s w e)).now.consumer.file
      (step s w e) (steps s es (happens s w e))

pub file_grows : {F : Type 0} → FileGrows F
file_grows s es more = steps s more (after s es)
