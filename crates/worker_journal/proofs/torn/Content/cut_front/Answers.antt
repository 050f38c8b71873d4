use Rattle.std.proofs.Common.{◌≡◌, ◌++◌, take, drop, rules, refl}
use Rattle.worker_journal.proofs.TornLemmas.{cut_front_leaves}
use Rattle.worker_journal.proofs.torn.Content.cut_front.Goals as goal

pub returns-clause-crash : goal.returns-clause-crash
returns-clause-crash c =
    let front : c.in_ok-front.front.items ≡ take c.args.len c.args.self.now.front.items = search rules in
    let cut_off : c.extend_from_slice.new.self.items
    ≡ drop c.args.len c.args.self.now.front.items ++ c.args.self.now.cut_off.items = search rules in
    cut_front_leaves c.args.self.now
    record { front = c.in_ok-front.front; cut_off = c.extend_from_slice.new.self; waits = c.new.result; extra = 0 }
    c.args.len c.requires front cut_off c.new.ensures.items refl
