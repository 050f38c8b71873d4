use Rattle.worker.specs.Session.{standing_of}
use Rattle.worker.proofs.RoundLemmas.{no_fault, not_short, refused, taken}
use Rattle.worker.proofs.worker.Worker.take_next.Goals as goal

pub returns-in-Ok-clause-ok : goal.returns-in-Ok-clause-ok
returns-in-Ok-clause-ok g c =
    let h = g.H.Handler.history in
    taken g.H.Handler.with_verdict c.args.self.now.settings c.args.connection.now
    c.wait_for_reply.new.connection (standing_of c.args.self.now (h c.args.handler.now))
    (standing_of c.answered_in_place.new.self (h c.answered_in_place.new.handler)) c.in_ok-len.len
    c.in_ok-len.ensures.ok c.limits-limits.result c.received.result.now c.limits-limits.ensures
    c.received.ensures.within c.give_out.new.self c.give_out.ensures.receives c.in-Ok.progress c.in-Ok.ensures.ok

pub returns-in-Err-Answer-clause-err : goal.returns-in-Err-Answer-clause-err
returns-in-Err-Answer-clause-err g c =
    let h = g.H.Handler.history in
    refused g.H.Handler.with_verdict c.args.self.now.settings c.args.connection.now
    c.wait_for_reply.new.connection (standing_of c.args.self.now (h c.args.handler.now))
    (standing_of c.answered_in_place.new.self (h c.answered_in_place.new.handler)) c.in_ok-len.len
    c.in_ok-len.ensures.ok c.limits-limits.result c.received.result.now c.limits-limits.ensures
    c.received.ensures.within c.give_out-in-Err-Answer.new.self c.give_out-in-Err-Answer.ensures.receives
    c.in-Err-Answer.error (rw c.in-Err-Answer.field-0-is at c.in-Err-Answer.ensures.err)

pub unreachable-requires-in-Err-Incomplete : goal.unreachable-requires-in-Err-Incomplete
unreachable-requires-in-Err-Incomplete g c =
    let h = g.H.Handler.history in
    not_short g.H.Handler.with_verdict c.args.self.now.settings c.args.connection.now
    c.wait_for_reply.new.connection (standing_of c.args.self.now (h c.args.handler.now))
    (standing_of c.answered_in_place.new.self (h c.answered_in_place.new.handler)) c.in_ok-len.len
    c.in_ok-len.ensures.ok c.limits-limits.result c.received.result.now c.limits-limits.ensures
    c.received.ensures.within (rw c.in-Err-Incomplete.field-0-is at c.in-Err-Incomplete.ensures.err).1

pub unreachable-requires : goal.unreachable-requires
unreachable-requires g c =
    let h = g.H.Handler.history in
    let said = rw c.in-Err-Unread-Fault.field-0-is at c.in-Err-Unread-Fault.ensures.err in
    no_fault g.H.Handler.with_verdict c.args.self.now.settings c.args.connection.now
    c.wait_for_reply.new.connection (standing_of c.args.self.now (h c.args.handler.now))
    (standing_of c.answered_in_place.new.self (h c.answered_in_place.new.handler)) c.in_ok-len.len
    c.in_ok-len.ensures.ok c.limits-limits.result c.received.result.now c.limits-limits.ensures
    c.received.ensures.within (rw c.in-Err-Unread-Fault.field-0-0-is at said).1
