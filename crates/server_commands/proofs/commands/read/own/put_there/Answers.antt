use Rattle.std.proofs.Common.{rules}
use Rattle.server_commands.proofs.RereadLemmas.{kept_so, passed_so}
use Rattle.server_commands.proofs.StalledLemmas.{absent, present}
use Rattle.server_commands.proofs.commands.read.own.put_there.Goals as goal

pub returns-then-is_none : goal.returns-then-is_none
returns-then-is_none c = λ up.
    passed_so c.args.stream.now.entries.items c.args.pending c.args.there.now.items
    (absent c.args.stream.now.entries.items c.args.pending.id c.get.result (search rules) c.get.ensures.none up)

pub returns : goal.returns
returns c = λ up.
    kept_so c.args.stream.now.entries.items c.args.pending c.args.there.now.items c.push.new.self.items
    (present c.args.stream.now.entries.items c.args.pending.id c.get.result (search rules) c.get.ensures.some c.get.ensures.there)
    c.in_ok-push.ensures.items
