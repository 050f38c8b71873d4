use Rattle.std.proofs.Common.{◌≡◌, ◌+◌, ap, length, take, arith, rules}
use Rattle.std.proofs.lemmas.List.{length-take}
use Rattle.worker_journal.proofs.TornLemmas.{cut_waits_leaves}
use Rattle.worker_journal.proofs.torn.Content.cut_waits.Goals as goal

pub returns-clause-crash : goal.returns-clause-crash
returns-clause-crash c =
    let copy = c.in_ok-next.ensures in
    let waits : c.truncate.new.self.items ≡ take c.args.len c.args.self.now.waits.items = search rules in
    cut_waits_leaves c.args.self.now
    record {
      front = c.in_ok-next.next.front;
      cut_off = c.in_ok-next.next.cut_off;
      waits = c.truncate.new.self;
      extra = c.saturating_add.result;
    }
    (length c.args.self.now.front.items + c.args.len) copy.front copy.cut_off
    (omega (
      arith,
      ap length waits,
      length-take c.args.len c.args.self.now.waits.items,
      c.len.ensures,
      c.len-2.ensures,
      c.saturating_sub-gone.ensures,
      c.saturating_add.ensures,
    ))
