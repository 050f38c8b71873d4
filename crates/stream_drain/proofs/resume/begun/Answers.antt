use Rattle.std.proofs.Common.{◌∙◌, ap, refl}
use Rattle.worker_journal.specs.Holds.{committed_in}
use Rattle.worker.specs.Machine.{ids_of, machine_of}
use Rattle.stream_drain.specs.declared.resume.TheConstants.{LARGEST_COUNT}
use Rattle.stream_drain.specs.Counts.{has_any}
use Rattle.stream_drain.specs.Known.{known_by}
use Rattle.stream_drain.proofs.ResumeLemmas.{ids_are_there, it_begins_so, it_begins_with_last}
use Rattle.stream_drain.proofs.resume.begun.Goals as goal

pub returns-clause-lives : goal.returns-clause-lives
returns-clause-lives g c empty =
    let w = c.resumed-worker.result in
    it_begins_so LARGEST_COUNT c.args.settings c.args.lines.now.json (known_by c.args.lines.now.known) (ids_of c.in_ok-ids.ids)
    c.args.lines.now.log.batch.items
    (committed_in (g.D.LogFile.seen c.args.lines.now.log.file) c.args.lines.now.log.len)
    (machine_of w) w.group w.asked c.resumed-worker.ensures.machine c.resumed-worker.ensures.group
    c.resumed-worker.ensures.asked empty c.in_ok-ids.ensures

pub returns-clause-last : goal.returns-clause-last
returns-clause-last g c empty =
    let w = c.resumed-worker.result in
    it_begins_with_last LARGEST_COUNT c.args.settings c.args.lines.now.json (known_by c.args.lines.now.known) (ids_of c.in_ok-ids.ids)
    c.args.lines.now.log.batch.items
    (committed_in (g.D.LogFile.seen c.args.lines.now.log.file) c.args.lines.now.log.len)
    (machine_of w) w.group w.asked c.resumed-worker.ensures.machine c.resumed-worker.ensures.group
    c.resumed-worker.ensures.asked empty c.in_ok-ids.ensures

pub returns-clause-starts : goal.returns-clause-starts
returns-clause-starts g c =
    record { begins = refl; lives = returns-clause-lives g c; last = returns-clause-last g c }

pub returns-clause-acknowledges : goal.returns-clause-acknowledges
returns-clause-acknowledges g c =
    ids_are_there c.args.lines.now.json LARGEST_COUNT
    (committed_in (g.D.LogFile.seen c.args.lines.now.log.file) c.args.lines.now.log.len)
    c.in_ok-ids.ids.items c.has_ids-acknowledges.result
    (c.has_ids-acknowledges.ensures ∙ ap has_any c.deref.ensures.value) c.in_ok-ids.ensures
