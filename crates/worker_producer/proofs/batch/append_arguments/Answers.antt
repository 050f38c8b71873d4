use Rattle.std.proofs.Common.{◌∙◌, ◌++◌, ap, List, ℕ}
use Rattle.redis_wire.specs.Packed.{bulk_bytes}
use Rattle.worker_producer.proofs.RequestLemmas.{argument_written}
use Rattle.worker_producer.proofs.batch.append_arguments.Goals as goal

pub loop-word-preserved : goal.loop-word-preserved
loop-word-preserved c =
    argument_written c.loop-word.word-index c.args.words.now c.word-item.result _ _ _ c.loop-word-test.true
    c.word-item.is
    (c.in_ok-append_argument.ensures ∙ ap (λ (bs : List ℕ). c.loop-word.out.items ++ bulk_bytes bs) c.deref.ensures.value)
    c.loop-word.invariant
