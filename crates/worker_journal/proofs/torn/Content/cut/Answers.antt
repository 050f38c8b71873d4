use Rattle.std.proofs.Common.{◌≡◌, ◌+◌, ◌-◌, length, IfOk, subst, arith}
use Rattle.worker_journal.specs.Device.{Follows, IsCut}
use Rattle.worker_journal.specs.Torn.{Leaves}
use Rattle.worker_journal.proofs.torn.Content.cut.Goals as goal

pub returns-else-len-clause-crash : goal.returns-else-len-clause-crash
returns-else-len-clause-crash c =
    let front = length c.args.self.now.front.items in
    let same : front + (c.args.len - c.len-else-len.result) ≡ c.args.len =
    omega (arith, c.len.ensures, c.len-else-len.ensures, c.if-len.false) in
    subst (λ n. IfOk c.cut_waits.result (λ next. Follows (IsCut n) (Leaves c.args.self.now) (Leaves next))) same
    c.cut_waits.ensures.crash
