use Rattle.std.proofs.Common.{inl, refl}
use Rattle.server_store.proofs.ConsumerLemmas.{found_there}
use Rattle.server_store.proofs.group.Group.remove_consumer.Goals as goal

pub returns-clause-removed : goal.returns-clause-removed
returns-clause-removed c = inl (record {
  index = c.in-Ok.index;
  was = c.remove-consumer.result;
  there = found_there c.args.self.now c.args.name.now c.in-Ok.index c.remove-consumer.result c.in-Ok.ensures.bound
      c.remove-consumer.ensures.value c.in-Ok.ensures.found;
  consumers = c.remove-consumer.ensures.items;
  pending = c.remove_for.ensures;
  counted = refl;
})
