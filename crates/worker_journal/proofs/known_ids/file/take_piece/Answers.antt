use Rattle.std.proofs.Common.{rules}
use Rattle.worker_journal.specs.KnownIds.Known.{places_in}
use Rattle.worker_journal.proofs.KnownIdsLemmas.FileLemmas.{one_taken, rest_taken}
use Rattle.worker_journal.proofs.known_ids.file.take_piece.Goals as goal

pub loop-end-preserved : goal.loop-end-preserved
loop-end-preserved c none =
    one_taken c.args.json (places_in c.args.ids.now.items) c.args.start.now c.args.line.now.items c.args.piece.now
    (places_in c.loop-end.ids.items) c.loop-end.start c.loop-end.line.items c.loop-end.rest.now
    (places_in c.take_line.new.ids.items) c.take_line.new.start c.in-Some.end.now c.in-Some.after.now
    c.take_line.new.line.items (c.loop-end.invariant none) c.in-Some.ensures.some c.in-Some.ensures.first
    c.in_ok-take_line.ensures.told c.in_ok-take_line.ensures.next c.in_ok-take_line.ensures.start

pub returns : goal.returns
returns c none =
    rest_taken c.args.json (places_in c.args.ids.now.items) c.args.start.now c.args.line.now.items c.args.piece.now
    (places_in c.loop-end.ids.items) c.loop-end.start c.loop-end.line.items c.loop-end.rest.now
    c.extend_from_slice.new.self.items (c.loop-end.invariant none) (search rules) c.in_ok-extend_from_slice.ensures.items
