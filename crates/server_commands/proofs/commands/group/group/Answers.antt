use Rattle.server_commands.proofs.StreamLemmas.{seen_streams-with_item}
use Rattle.server_commands.proofs.commands.group.group.Goals as goal

pub returns-in-Ok : goal.returns-in-Ok
returns-in-Ok c =
    seen_streams-with_item c.execute_on.result c.args.streams.now c.in-Ok.index c.index_mut.result.now c.execute_on.new.stream
    c.index_mut.ensures.value c.execute_on.ensures
