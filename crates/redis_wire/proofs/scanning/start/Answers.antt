use Rattle.redis_wire.specs.Reading.{bad}
use Rattle.redis_wire.proofs.ScanLemmas.{walk_begins, pauses_new, reply_none}
use Rattle.redis_wire.proofs.scanning.start.Goals as goal

pub walk-requires : goal.walk-requires
walk-requires c =
    walk_begins c.args.limits c.args.bytes.now c.in-Ok.rest.now c.in-Ok.inner c.new.result.items c.new.ensures.items
    c.in-Ok.ensures

pub returns-in-Err-Short-clause-is : goal.returns-in-Err-Short-clause-is
returns-in-Err-Short-clause-is c = pauses_new c.args.limits c.args.bytes.now c.new_scan.result c.new_scan.ensures
    (rw c.in-Err-Short.field-0-is at c.in-Err-Short.ensures)

pub returns-in-Err-Fault-clause-is : goal.returns-in-Err-Fault-clause-is
returns-in-Err-Fault-clause-is c = reply_none c.args.limits c.args.bytes.now (bad c.in-Err-Fault.field-0-0)
    (rw c.in-Err-Fault.field-0-is at c.in-Err-Fault.ensures)
