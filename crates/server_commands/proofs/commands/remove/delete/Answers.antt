use Rattle.std.proofs.Common.{get_or, rules, sym}
use Rattle.std.proofs.lemmas.List.{get_or_default}
use Rattle.server_commands.proofs.AcknowledgeLemmas.{word_at}
use Rattle.server_commands.proofs.DeletingLemmas.{deleted_in}
use Rattle.server_commands.proofs.IdWordLemmas.{rest_read}
use Rattle.server_commands.proofs.commands.remove.delete.Goals as goal

pub returns-clause-ok : goal.returns-clause-ok
returns-clause-ok c =
    let keyed = word_at c.args.arguments.now 0 c.key-item.result c.deref.result.now (search rules) (search rules) (search rules) in
    let was = get_or c.args.streams.now c.in-Ok.index c.index-streams-index.result in
    rw c.length.ensures
    (deleted_in c.args.arguments.now c.deref.result.now c.deref-2.result.now c.remove_all.result c.args.streams.now
    c.in-Ok.index was c.remove_all.new.stream keyed
    (rw c.deref-2.ensures.value (rest_read 1 c.args.arguments.now c.in_ok-ids.ids.items c.in_ok-ids.ensures.read))
    c.in-Ok.ensures.bound c.in-Ok.ensures.found
    (sym (get_or_default c.args.streams.now c.in-Ok.index was c.index-streams-index.result c.in-Ok.ensures.bound))
    c.remove_all.ensures)
