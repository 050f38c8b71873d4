use Rattle.std.proofs.Common.{◌∙◌, ◌++◌, ap, sym, ℕ, List, Vec, take}
use Rattle.std.specs.declared.alloc.Global.{Global}
use Rattle.worker.specs.Outbox.Sent.{all_bytes}
use Rattle.worker.proofs.OutboxLemmas.SentLemmas.{more_bytes, texts_of}
use Rattle.worker.proofs.outbox.outbox.join_commands.Goals as goal

pub loop-command-preserved : goal.loop-command-preserved
loop-command-preserved c =
    let commands = c.args.commands.now in
    let k = c.loop-command.command-index in
    c.in_ok-extend_from_slice.ensures.items
    ∙ ap (λ (xs : List ℕ). xs ++ c.deref.result.now) c.loop-command.invariant
    ∙ ap (λ (xs : List ℕ). all_bytes (texts_of (take k commands)) ++ xs)
    (c.deref.ensures.value ∙ ap (λ (v : Vec ℕ Global). v.items) c.command-item.is)
    ∙ sym (more_bytes commands k c.command-item.result c.loop-command-test.true)
