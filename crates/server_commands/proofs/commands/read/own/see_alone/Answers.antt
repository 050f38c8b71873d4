use Rattle.std.proofs.Common.{inl, refl, sym, ap, ◌∙◌}
use Rattle.server_store.proofs.ConsumerLemmas.{found_there}
use Rattle.server_commands.proofs.commands.read.own.see_alone.Goals as goal

pub returns-in-Ok-clause-ok : goal.returns-in-Ok-clause-ok
returns-in-Ok-clause-ok c = inl (record {
  index = c.in-Ok.index;
  was = c.index_mut-consumer.result.now;
  there = found_there c.args.group.now c.args.room.name.items c.in-Ok.index c.index_mut-consumer.result.now
      c.in-Ok.ensures.bound c.index_mut-consumer.ensures.value (rw c.deref.ensures.value at c.in-Ok.ensures.found);
  numbered = refl;
  consumers = refl;
  next = refl;
})
