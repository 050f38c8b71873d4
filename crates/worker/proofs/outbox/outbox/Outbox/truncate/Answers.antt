use Rattle.std.proofs.Common.{◌∙◌, ap, sym, ℕ, Vec}
use Rattle.std.proofs.lemmas.List.{take-map}
use Rattle.std.specs.declared.alloc.Global.{Global}
use Rattle.worker.proofs.OutboxLemmas.SentLemmas.{texts_of}
use Rattle.worker.proofs.outbox.outbox.Outbox.truncate.Goals as goal

pub returns : goal.returns
returns c = ap texts_of c.truncate.ensures.items
    ∙ sym (take-map (λ (v : Vec ℕ Global). v.items) c.args.len c.args.self.now.commands.items)
