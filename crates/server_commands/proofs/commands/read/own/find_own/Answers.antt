use Rattle.server_commands.proofs.RereadLemmas.{found_own, missed, own_contained}
use Rattle.server_commands.proofs.commands.read.own.find_own.Goals as goal

pub returns-in-Ok-clause-own : goal.returns-in-Ok-clause-own
returns-in-Ok-clause-own c =
    found_own c.args.consumer.now c.args.behind c.args.most c.args.group.now c.find_pending.result c.in-Ok.index c.index.result.now
    c.in-Ok.ensures.bound c.index.ensures c.in-Ok.ensures.found c.find_pending.ensures

pub returns-in-Ok-clause-contained : goal.returns-in-Ok-clause-contained
returns-in-Ok-clause-contained c =
    own_contained c.find_pending.result c.index.result.now.number c.args.behind c.args.most c.args.group.now c.find_pending.ensures

pub returns-in-Err-clause-own : goal.returns-in-Err-clause-own
returns-in-Err-clause-own c =
    missed c.args.consumer.now c.args.behind c.args.most c.args.group.now c.new.result.items c.new.ensures.items c.in-Err.ensures.missing
