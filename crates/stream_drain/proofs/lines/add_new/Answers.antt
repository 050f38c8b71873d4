use Rattle.std.proofs.Common.{◌≡◌, Some, false, rules}
use Rattle.worker_journal.specs.KnownIds.Known.{has, places_in}
use Rattle.worker_journal.specs.KnownIds.Number.{number_of}
use Rattle.stream_drain.proofs.LinesLemmas.{line_added}
use Rattle.worker.specs.Handling.{pair_of}
use Rattle.stream_drain.proofs.lines.add_new.Goals as goal

pub returns-clause-ok : goal.returns-clause-ok
returns-clause-ok g c =
    let number : number_of c.args.entry.now.id ≡ Some c.in-Some.number = search rules in
    let new : has (places_in c.args.known.now.ids.items) c.in-Some.number ≡ false = search rules in
    line_added c.args.json (places_in c.args.known.now.ids.items) (places_in c.add-2.new.self.ids.items) c.args.log.now.batch.items
    c.add.new.log.batch.items (g.D.LogFile.seen c.args.log.now.file) (g.D.LogFile.seen c.add.new.log.file) c.args.log.now.len
    c.add.new.log.len (pair_of c.args.entry.now) c.in-Some.number number new (search rules) c.in_ok-add.ensures.ok
    (search rules) (search rules)
