use Rattle.std.proofs.Common.{◌≡◌, Some, rules}
use Rattle.worker_journal.specs.Holds.{committed_in}
use Rattle.worker.specs.Handling.{pair_of}
use Rattle.stream_drain.proofs.ThereLemmas.{explained, if_err, on_ok, still_held, taken}
use Rattle.stream_drain.proofs.lines.Lines.take.Goals as goal

pub returns-in-Some-clause-there : goal.returns-in-Some-clause-there
returns-in-Some-clause-there g c =
    let old = c.args.self.now.log in
    let log = c.add_new.new.log in
    let known : c.args.self.now.known ≡ Some c.in-Some.known = search rules in
    let whole = still_held g.D.LogFile.seen g.D.LogFile.may_leave g.D.LogFile.is_sound old.file log.file old.len log.len
    old.is_broken c.add_new.ensures.file.0 c.add_new.ensures.file.1 c.args.self.now.held in
    on_ok c.add_new.result
    (taken c.args.self.now.known c.in-Some.known c.args.self.now.json (pair_of c.args.entry.now)
    (committed_in (g.D.LogFile.seen log.file) log.len) log.len log.batch.items known whole) c.add_new.ensures.there

pub returns-in-Some-clause-why : goal.returns-in-Some-clause-why
returns-in-Some-clause-why g c =
    let old = c.args.self.now.log in
    let log = c.add_new.new.log in
    let known : c.args.self.now.known ≡ Some c.in-Some.known = search rules in
    let whole = still_held g.D.LogFile.seen g.D.LogFile.may_leave g.D.LogFile.is_sound old.file log.file old.len log.len
    old.is_broken c.add_new.ensures.file.0 c.add_new.ensures.file.1 c.args.self.now.held in
    if_err c.add_new.result
    (explained c.args.self.now.known c.in-Some.known c.args.self.now.json (pair_of c.args.entry.now)
    (committed_in (g.D.LogFile.seen log.file) log.len) log.len log.batch.items known whole) c.add_new.ensures.why
