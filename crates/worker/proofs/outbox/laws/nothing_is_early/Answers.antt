use Rattle.worker.proofs.OutboxLemmas.PostsLemmas as lemmas
use Rattle.worker.proofs.outbox.laws.nothing_is_early.Goals as goal

pub returns : goal.returns
returns g c = lemmas.nothing_is_early g.W.Work.with_verdict g.W.Work.with_commit g.W.Work.posts
