use Rattle.std.proofs.Common.{refl, rules, arith}
use Rattle.server_commands.proofs.ReadGroupLemmas.{plain_read}
use Rattle.server_commands.proofs.SteppingLemmas.{ok_so}
use Rattle.server_commands.proofs.commands.read.read_group.Goals as goal

pub returns-in-len6-clause-one : goal.returns-in-len6-clause-one
returns-in-len6-clause-one c =
    plain_read c.args.now c.args.streams.now c.read_one.new.streams c.args.arguments.now c.group-item.result c.consumer-item.result
    c.key-item.result c.text-item.result (search rules) (search rules) c.read_one.result
    (omega (arith, c.in-len6.len_at_least, c.in-len6.len_below)) (search rules) (search rules)
    (ok_so c.read_one.result _ _
    (rw (
      c.make_usual_reader-reader.ensures.consumer,
      c.make_usual_reader-reader.ensures.group,
      c.make_usual_reader-reader.ensures.others.0,
      c.make_usual_reader-reader.ensures.others.1,
      c.deref-in-len6.ensures.value,
      c.deref-in-len6-2.ensures.value,
      c.deref-in-len6-3.ensures.value,
      c.deref-in-len6-4.ensures.value,
    ) at c.read_one.ensures.news) (λ answer read is. read is c.make_usual_reader-reader.ensures.others.2))
    (rw (
      c.make_usual_reader-reader.ensures.consumer,
      c.make_usual_reader-reader.ensures.group,
      c.make_usual_reader-reader.ensures.others.0,
      c.make_usual_reader-reader.ensures.others.1,
      c.deref-in-len6.ensures.value,
      c.deref-in-len6-2.ensures.value,
      c.deref-in-len6-3.ensures.value,
      c.deref-in-len6-4.ensures.value,
    ) at c.read_one.ensures.own)
