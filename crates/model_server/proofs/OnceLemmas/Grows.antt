-- The file only grows, at its end.
use Rattle.std.proofs.Common.{refl, ℕ, Bool, true, false, ◌&&◌, List, [], ◌∷◌, take, Option}
use Rattle.std.proofs.Common.{Some, None, if◌then◌else◌}
use Rattle.std.specs.Option.{is_none}
use Rattle.model_server.specs.Group.Worker.{Id, Verdict, Answer}
use Rattle.model_server.specs.Group.Group.{Name}
use Rattle.model_server.specs.Once.Consumer.{Consumer, is_empty, is_idle, takes, syncs}
use Rattle.model_server.specs.Once.World.{Setting, World, Event, Send, Arrive, Arrive_late, Hear, Break, Ask, Take, Sync}
use Rattle.model_server.specs.Once.World.{Acknowledge_now, Acknowledge_later, Reconnect, Restart, Else, asked, acknowledges}
use Rattle.model_server.specs.Once.World.{happens, run}
use Rattle.model_server.specs.Once.Law.{after, AreFirst, FileGrows}
use Rattle.model_server.proofs.OnceLemmas.Ids.{same, further}

module _ {F : Type 0} where
  asked_file : (name : Name) (n : ℕ) (pick : Id → Bool) (next : Id) (w : World F) (b : Bool)
      → AreFirst w.consumer.file (if b then asked name n pick next w else w).consumer.file
  asked_file name n pick next w true = same w.consumer.file
  asked_file name n pick next w false = same w.consumer.file

  taken_file : (c : Consumer F) (vs : List Verdict) (o : Option (Answer F)) → AreFirst c.file (takes vs o c).file
  taken_file c vs None = same c.file
  taken_file c vs (Some a) = same c.file

  synced_file : (c : Consumer F) (b : Bool) → AreFirst c.file (if b then syncs c else c).file
  synced_file c true = (c.lines, refl)
  synced_file c false = same c.file

  acked_file : (name : Name) (w : World F) (b : Bool)
      → AreFirst w.consumer.file (if b then acknowledges name w else w).consumer.file
  acked_file name w true = same w.consumer.file
  acked_file name w false = same w.consumer.file

  -- no event takes anything from it
  grown : (s : Setting F) (w : World F) (e : Event F) → AreFirst w.consumer.file (happens s w e).consumer.file
  grown s w (Send count) = same w.consumer.file
  grown s w (Arrive executes) = same w.consumer.file
  grown s w (Arrive_late which executes) = same w.consumer.file
  grown s w Hear = same w.consumer.file
  grown s w Break = same w.consumer.file
  grown s w (Ask n pick next) = asked_file s.name n pick next w (is_idle w.consumer)
  grown s w (Take vs) = taken_file w.consumer vs w.consumer.answer
  grown s w Sync =
      synced_file w.consumer (is_none w.consumer.answer && is_empty w.consumer.machine.to_acknowledge)
  grown s w Acknowledge_now = acked_file s.name w (is_none w.consumer.answer)
  grown s w Acknowledge_later = same w.consumer.file
  grown s w Reconnect = same w.consumer.file
  grown s w (Restart every kept more) = (take kept w.consumer.lines, refl)
  grown s w (Else e) = same w.consumer.file

  grown_over : (s : Setting F) (es : List (Event F)) (w : World F)
      → AreFirst w.consumer.file (run s es w).consumer.file
  grown_over s [] w = same w.consumer.file
  grown_over s (e ∷ es) w =
      further w.consumer.file (happens s w e).consumer.file (run s es (happens s w e)).consumer.file (grown s w e)
      (grown_over s es (happens s w e))

pub file_grows : {F : Type 0} → FileGrows F
file_grows s es more = grown_over s more (after s es)
