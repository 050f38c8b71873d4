use Rattle.std.proofs.Common.{Some, string_bytes}
use Rattle.worker.specs.Handed.{entries_sent}
use Rattle.worker.specs.Machine.{machine_of}
use Rattle.worker.proofs.InPlaceLemmas.{streams_say, memory_taken}
use Rattle.worker.proofs.WorkerLemmas.{own_went, own_cut}
use Rattle.worker.proofs.worker.Worker.take_found_own.Goals as goal

pub returns-in_err-take_in_place-clause-taken : goal.returns-in_err-take_in_place-clause-taken
returns-in_err-take_in_place-clause-taken g c t reads =
    let is = rw c.deref.ensures at c.in-Some.ensures in
    let said = streams_say (string_bytes c.args.self.now.settings.key) t c.args.streams
    (Some (entries_sent c.in-Some.entries)) reads is in
    let next = c.in_ok-next.ensures in
    let moved = c.in_err-take_in_place.ensures.moved in
    memory_taken g.H.Handler.with_verdict c.args.self.now.settings _ t _ _ _ _ c.from_residual-in_err-take_in_place.result c.from_residual-in_err-take_in_place.ensures.1
    (own_cut g.H.Handler.with_verdict c.args.self.now.settings t (machine_of c.args.self.now) _ _ _ _ _ said next moved)

pub returns-clause-taken : goal.returns-clause-taken
returns-clause-taken g c t reads =
    let is = rw c.deref.ensures at c.in-Some.ensures in
    let said = streams_say (string_bytes c.args.self.now.settings.key) t c.args.streams
    (Some (entries_sent c.in-Some.entries)) reads is in
    let next = c.in_ok-next.ensures in
    let moved = c.in_ok-take_in_place.ensures.moved in
    own_went g.H.Handler.with_verdict c.args.self.now.settings t (machine_of c.args.self.now) _ _ _ _ _
    c.in_ok-take_in_place.field-0 said next moved
