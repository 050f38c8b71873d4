use Rattle.std.proofs.Common.{◌∙◌, ap, sym, ℕ, Vec}
use Rattle.std.proofs.lemmas.List.{drop-map}
use Rattle.std.specs.declared.alloc.Global.{Global}
use Rattle.worker.proofs.OutboxLemmas.SentLemmas.{texts_of}
use Rattle.worker.proofs.outbox.outbox.Outbox.drop_first.Goals as goal

pub returns : goal.returns
returns c = ap texts_of (c.drop.ensures.items ∙ c.drain.ensures.kept)
    ∙ sym (drop-map (λ (v : Vec ℕ Global). v.items) c.args.count c.args.self.now.commands.items)
