use Rattle.std.proofs.Common.{◌≡◌, ◌+◌, Some, ap, arith, rules, ◌∙◌}
use Rattle.worker_journal.specs.Holds.{committed_in}
use Rattle.stream_drain.specs.There.{begun, found_in}
use Rattle.stream_drain.proofs.ThereLemmas.{read_shows}
use Rattle.stream_drain.proofs.there.what_is_at.Goals as goal

pub returns-in-Some : goal.returns-in-Some
returns-in-Some g c =
    let log = c.args.log.now in
    let read = c.in_ok-read.read.items in
    let text : Some c.in-Some.text.now ≡ begun c.args.at read = search rules in
    let found : c.compare_text.result ≡ found_in c.args.json c.args.id.now c.args.line.now (begun c.args.at read) =
    c.compare_text.ensures ∙ ap (found_in c.args.json c.args.id.now c.args.line.now) text in
    read_shows (committed_in (g.D.LogFile.seen log.file) log.len) log.len log.batch.items read c.args.json c.args.id.now
    c.args.line.now c.args.at c.saturating_sub.result (c.max-len.result + 2) c.compare_text.result
    (omega (arith, c.saturating_sub.ensures)) (omega (arith, c.max-len.ensures)) (omega (arith, c.max-len.ensures)) found
    c.in_ok-read.ensures
