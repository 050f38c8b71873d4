use Rattle.server_commands.proofs.ReadLemmas.{found_more, nothing_found}
use Rattle.server_commands.proofs.commands.read.read_behind.Goals as goal

pub loop-entry-init : goal.loop-entry-init
loop-entry-init c = nothing_found c.new-answers.result.items _ c.new-answers.ensures.items

pub loop-entry-preserved : goal.loop-entry-preserved
loop-entry-preserved c =
    found_more c.loop-entry.answers.items c.put.new.answers.items c.in_ok-entry_answer.field-0 c.in-Some.entry.now c.loop-entry.left
    _ _ _ c.if-left-eq0.false c.in-Some.ensures.steps c.in_ok-put.ensures c.in_ok-entry_answer.ensures c.loop-entry.invariant
