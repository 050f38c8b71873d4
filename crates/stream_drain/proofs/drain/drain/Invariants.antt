use Rattle.std.proofs.Common.{◌≡◌, IfSome}
use Rattle.std.specs.Prelude.{option_map}
use Rattle.worker.specs.DeadLetters.Dead.{searcher_of}
use Rattle.worker.specs.Session.{standing_of}
use Rattle.stream_drain.specs.Lived.{Leads}
use Rattle.model_workers.specs.Loops.Loop.{Loops}
use Rattle.stream_drain.specs.Known.{known_by}
use Rattle.stream_drain.specs.Turn.{ConfirmedTurns}
use Rattle.stream_drain.specs.Written.{written_by}
use Rattle.stream_drain.proofs.drain.drain.Given as goal

-- the rounds so far lead from where the worker was to where it is, and the search is the same
abbrev pub invariant-loop-turn : goal.invariant-loop-turn
invariant-loop-turn g l = record {
  settings : l.worker.settings ≡ l.fn.worker.settings;
  same_search : option_map searcher_of l.dead ≡ option_map searcher_of l.fn.dead;
  leads : Leads (Loops l.fn.worker.settings) l.fn.connection l.connection
      (standing_of l.fn.worker (written_by l.fn.lines.json (known_by l.fn.lines.known) l.fn.lines.log.batch.items
      (g.D.LogFile.seen l.fn.lines.log.file) l.fn.lines.log.len))
      (standing_of l.worker (written_by l.lines.json (known_by l.lines.known) l.lines.log.batch.items
      (g.D.LogFile.seen l.lines.log.file) l.lines.log.len));
  confirmed : IfSome l.fn.wait (λ wait. ConfirmedTurns l.fn.worker.settings wait l._turn l.fn.connection l.connection
      (standing_of l.fn.worker (written_by l.fn.lines.json (known_by l.fn.lines.known) l.fn.lines.log.batch.items
      (g.D.LogFile.seen l.fn.lines.log.file) l.fn.lines.log.len))
      (standing_of l.worker (written_by l.lines.json (known_by l.lines.known) l.lines.log.batch.items
      (g.D.LogFile.seen l.lines.log.file) l.lines.log.len)));
}
