use Rattle.server_store.proofs.OrderLemmas.{split_at}
use Rattle.server_store.proofs.stream.Stream.find_start.Goals as goal

pub returns-in-Ok-clause-split : goal.returns-in-Ok-clause-split
returns-in-Ok-clause-split c = split_at (λ x. x.id) _ c.args.id _ c.in-Ok.ensures.bound c.in-Ok.ensures.found
