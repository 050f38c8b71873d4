use Rattle.std.proofs.Common.{map}
use Rattle.server_commands.proofs.ServingLemmas.{one_more_turn}
use Rattle.server_commands.proofs.client.answer_all.Goals as goal

pub commands-preserved : goal.commands-preserved
commands-preserved c = one_more_turn c.args.bytes.now c.commands.rest.now c.in-Ok.behind.now
    (map (λ w. w.items) c.in-Ok.words.items) c.args.answers.now.items c.commands.answers.items
    c.answer_one.new.answers.items (record { streams = c.args.server.now; session = c.args.session.now })
    (record { streams = c.commands.server; session = c.commands.session })
    (record { streams = c.answer_one.new.server; session = c.answer_one.new.session })
    c.commands.invariant c.in-Ok.ensures.gives c.in_ok-answer_one-in-Ok.ensures.ok
