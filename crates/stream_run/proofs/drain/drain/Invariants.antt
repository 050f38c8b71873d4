use Rattle.std.proofs.Common.{◌≡◌}
use Rattle.std.specs.Prelude.{option_map, string_bytes}
use Rattle.worker_jobs.specs.Talk.{talk_of}
use Rattle.stream_run.specs.Rounds.{Rounds}
use Rattle.worker.specs.DeadLetters.Dead.{searcher_of}
use Rattle.worker.specs.Session.{standing_of}
use Rattle.stream_run.proofs.drain.drain.Given as goal

-- the rounds so far lead from where the worker was to where it is, and the search is the same
abbrev pub invariant-loop : goal.invariant-loop
invariant-loop g l = record {
  settings : l.worker.settings ≡ l.fn.worker.settings;
  same_search : option_map searcher_of l.dead ≡ option_map searcher_of l.fn.dead;
  rounds : Rounds l.fn.worker.settings l.fn.connection
      (standing_of l.fn.worker (talk_of l.fn.jobs.over (string_bytes l.fn.jobs.stream) (g.D.Write.contents l.fn.jobs.lines)
      (g.C.Read.remaining l.fn.jobs.replies)))
      l.connection
      (standing_of l.worker (talk_of l.jobs.over (string_bytes l.jobs.stream) (g.D.Write.contents l.jobs.lines)
      (g.C.Read.remaining l.jobs.replies)));
}
