use Rattle.std.proofs.Common.{rules, arith, take}
use Rattle.std.proofs.lemmas.Bool.Decides.{nat_tests}
use Rattle.redis_connection.proofs.EarlyLemmas.{all_passed, passed, some_passed}
use Rattle.redis_connection.proofs.early.EarlyWriterWrite.write.Goals as goal

pub returns-then-count-len-clause-bytes : goal.returns-then-count-len-clause-bytes
returns-then-count-len-clause-bytes g c =
    passed (g.W.Write.contents c.args.self.now.inner) c.args.self.now.early.items c.clear.new.self.items
    (take c.min-count.result c.args.bytes.now)
    (all_passed c.args.self.now.early.items c.args.bytes.now c.clear.new.self.items c.min-count.result
    (search rules) (grind (arith, nat_tests, c.len-2.ensures, c.if-count-len.true)) c.clear.ensures.items)

pub returns-else-count-len-clause-bytes : goal.returns-else-count-len-clause-bytes
returns-else-count-len-clause-bytes g c =
    passed (g.W.Write.contents c.args.self.now.inner) c.args.self.now.early.items c.drop.new.self.0.items
    (take c.min-count.result c.args.bytes.now)
    (some_passed c.args.self.now.early.items c.args.bytes.now c.drop.new.self.0.items c.min-count.result
    (search rules) (search rules))
