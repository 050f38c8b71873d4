use Rattle.std.proofs.Common.{◌≡◌, ◌++◌, List, length, map, option_map}
use Rattle.json.specs.Value.{items_view}
use Rattle.worker.specs.Outbox.Sent.{unsent_of}
use Rattle.worker_jobs.specs.Added.{Added, added_bytes, entries_in}
use Rattle.worker_jobs.proofs.added.queue_items.Given as goal

-- the commands of the first pairs are queued
abbrev pub invariant-loop-rest : goal.invariant-loop-rest
invariant-loop-rest l = record {
  queued : (first : List Added) × (unsent_of l.outbox ≡ unsent_of l.fn.outbox ++ map added_bytes first)
      × (entries_in (items_view l.fn.items) ≡ option_map (λ entries. first ++ entries) (entries_in (items_view l.rest)));
}

abbrev pub decreases-loop-rest : goal.decreases-loop-rest
decreases-loop-rest l = length l.rest
