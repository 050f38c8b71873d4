use Rattle.std.proofs.Common.{◌∙◌, ◌++◌, ◌∷◌, ◌-◌, [], ap, append_assoc, drop, length, option_map, take}
use Rattle.json.specs.Value.{items_view, value_view}
use Rattle.worker.specs.Outbox.Sent.{unsent_of}
use Rattle.worker_jobs.specs.Added.{added_bytes, entries_in, entry_in}
use Rattle.worker_jobs.proofs.AddedLemmas.{entries_step, first_and_more, first_more, map_more, queued_one, queues_true}
use Rattle.worker_jobs.proofs.added.queue_items.Goals as goal

pub loop-rest-preserved : goal.loop-rest-preserved
loop-rest-preserved c =
    let so_far = c.loop-rest.invariant.queued in
    let one = queued_one (entry_in (value_view c.item-item.result)) (unsent_of c.loop-rest.outbox)
    (unsent_of c.queue_item.new.outbox)
    (queues_true c.in_ok-queue_item.field-0 _ _ _ c.if-not-branch.false c.in_ok-queue_item.ensures.ok) in
    record {
      queued = (
        so_far.0 ++ one.0 ∷ [],
        one.2 ∙ ap (λ cs. cs ++ added_bytes one.0 ∷ []) so_far.1
            ∙ append_assoc (unsent_of c.args.outbox.now) _ (added_bytes one.0 ∷ [])
            ∙ ap (λ cs. unsent_of c.args.outbox.now ++ cs) (map_more so_far.0 one.0),
        first_more so_far.0 one.0 _ _ (so_far.2
            ∙ ap (λ vs. option_map (λ es. so_far.0 ++ es) (entries_in (items_view vs)))
            (first_and_more c.loop-rest.rest.now c.item-item.result c.in-len1-up.len_at_least c.item-item.is)
            ∙ ap (λ o. option_map (λ es. so_far.0 ++ es) o) (entries_step (value_view c.item-item.result)
            (items_view (take (length c.loop-rest.rest.now - 1) (drop 1 c.loop-rest.rest.now))) one.0 one.1)),
      );
    }
