use Rattle.worker_journal.specs.KnownIds.Known.{places_in}
use Rattle.stream_drain.proofs.LinesLemmas.{file_known, places_known}
use Rattle.stream_drain.proofs.lines.read_ids.Goals as goal

pub returns-in_ok-numbers_of_file-clause-knows : goal.returns-in_ok-numbers_of_file-clause-knows
returns-in_ok-numbers_of_file-clause-knows g c =
    file_known (g.D.LogFile.seen c.args.file.now) c.args.json (places_in c.in_ok-numbers_of_file.field-0.items)
    (places_in c.of.result.ids.items) c.of.ensures.numbers c.in_ok-numbers_of_file.ensures

pub returns-in_ok-numbers_of_file-clause-places : goal.returns-in_ok-numbers_of_file-clause-places
returns-in_ok-numbers_of_file-clause-places g c =
    places_known (g.D.LogFile.seen c.args.file.now) c.args.json (places_in c.in_ok-numbers_of_file.field-0.items)
    c.of.result c.of.ensures.places c.in_ok-numbers_of_file.ensures
