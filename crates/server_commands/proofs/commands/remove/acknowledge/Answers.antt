use Rattle.std.proofs.Common.{refl, rules}
use Rattle.server_commands.proofs.AcknowledgeLemmas.{acknowledged_in, acknowledged_nowhere, acknowledged_without, word_at}
use Rattle.server_commands.proofs.IdWordLemmas.{rest_read}
use Rattle.server_commands.proofs.commands.remove.acknowledge.Goals as goal

pub returns-clause-ok : goal.returns-clause-ok
returns-clause-ok c =
    let keyed = word_at c.args.arguments.now 0 c.key-item.result c.deref.result.now (search rules) (search rules) (search rules) in
    let named = word_at c.args.arguments.now 1 c.name-item.result c.deref-2.result.now (search rules) (search rules) (search rules) in
    rw c.length.ensures
    (acknowledged_in c.args.arguments.now c.deref.result.now c.deref-2.result.now c.deref-3.result.now c.acknowledge_all.result
    c.args.streams.now c.in-Ok.index c.index-streams-index-2.result c.index-streams-index.result
    c.in-Ok-place_of_group.place c.index_mut.result.now c.acknowledge_all.new.group keyed named
    (rw c.deref-3.ensures.value (rest_read 2 c.args.arguments.now c.in_ok-ids.ids.items c.in_ok-ids.ensures.read)) c.in-Ok.ensures.bound
    c.in-Ok.ensures.found c.in-Ok-place_of_group.ensures.bound c.in-Ok-place_of_group.ensures.found
    c.index_mut.ensures.value c.acknowledge_all.ensures)

pub returns-in_default-place_of-clause-ok : goal.returns-in_default-place_of-clause-ok
returns-in_default-place_of-clause-ok c =
    let keyed = word_at c.args.arguments.now 0 c.key-item.result c.deref.result.now (search rules) (search rules) (search rules) in
    let named = word_at c.args.arguments.now 1 c.name-item.result c.name-item.result.items (search rules) (search rules) refl in
    acknowledged_nowhere c.args.arguments.now c.deref.result.now c.name-item.result.items c.args.streams.now keyed named
    c.in_default-place_of.ensures.missing

pub returns-in_default-place_of_group-clause-ok : goal.returns-in_default-place_of_group-clause-ok
returns-in_default-place_of_group-clause-ok c =
    let keyed = word_at c.args.arguments.now 0 c.key-item.result c.deref.result.now (search rules) (search rules) (search rules) in
    let named = word_at c.args.arguments.now 1 c.name-item.result c.deref-2.result.now (search rules) (search rules) (search rules) in
    acknowledged_without c.args.arguments.now c.deref.result.now c.deref-2.result.now c.args.streams.now c.in-Ok.index
    c.index-streams-index.result keyed named c.in-Ok.ensures.bound c.in-Ok.ensures.found
    c.in_default-place_of_group.ensures.missing
