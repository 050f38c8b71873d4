use Rattle.std.proofs.Common.{inl, refl}
use Rattle.server_store.proofs.ConsumerLemmas.{found_there}
use Rattle.server_store.proofs.group.Group.see.Goals as goal

pub returns-in-Ok-clause-ok : goal.returns-in-Ok-clause-ok
returns-in-Ok-clause-ok c = inl (record {
  index = c.in-Ok.index;
  was = c.index_mut-consumer.result.now;
  there = found_there c.args.self.now c.args.name.now c.in-Ok.index c.index_mut-consumer.result.now c.in-Ok.ensures.bound
      c.index_mut-consumer.ensures.value c.in-Ok.ensures.found;
  numbered = refl;
  consumers = refl;
  next = refl;
})
