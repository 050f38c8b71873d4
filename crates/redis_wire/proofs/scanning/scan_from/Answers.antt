use Rattle.std.proofs.Common.{rules, ◌≡◌, true, arith}
use Rattle.redis_wire.proofs.ScanLemmas.{pauses_in_line}
use Rattle.redis_wire.proofs.scanning.scan_from.Goals as goal

pub returns-in-Some : goal.returns-in-Some
returns-in-Some c =
    let started : c.args.from.started ≡ true = search rules in
    pauses_in_line c.args.limits c.args.from c.args.bytes.now c.requires c.in-Some.seen started
    (omega (arith, c.if-from-limits.true)) c.if-from-gt0-2.true c.if-from-gt0.true
    (rw c.bytes_behind-left.ensures at c.in-Some.ensures.in_line)
    (rw c.bytes_behind-left.ensures at c.in-Some.ensures.short)
