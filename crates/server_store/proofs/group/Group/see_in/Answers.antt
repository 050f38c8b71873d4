use Rattle.std.proofs.Common.{inl, refl}
use Rattle.server_store.proofs.ConsumerLemmas.{found_there, newcomer_seen}
use Rattle.server_store.proofs.group.Group.see_in.Goals as goal

pub returns-in-Ok-clause-ok : goal.returns-in-Ok-clause-ok
returns-in-Ok-clause-ok c = inl (record {
  index = c.in-Ok.index;
  was = c.index_mut-consumer.result.now;
  there = found_there c.args.self.now c.args.room.name.items c.in-Ok.index c.index_mut-consumer.result.now
      c.in-Ok.ensures.bound c.index_mut-consumer.ensures.value (rw c.deref.ensures.value at c.in-Ok.ensures.found);
  numbered = refl;
  consumers = refl;
  next = refl;
})

pub returns-in-Err-clause-ok : goal.returns-in-Err-clause-ok
returns-in-Err-clause-ok c =
    newcomer_seen c.make.result c.args.room.name.items c.args.now _ c.args.self.now c.make.new.self
    c.move_consumers.ensures.items refl c.make.ensures.ok
