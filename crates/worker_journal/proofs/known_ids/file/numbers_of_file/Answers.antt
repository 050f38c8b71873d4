use Rattle.std.proofs.Common.{◌≡◌, ◌+◌, ◌≤◌, refl, rules, take, drop, IfSome}
use Rattle.worker_journal.specs.KnownIds.Known.{places_in}
use Rattle.worker_journal.proofs.KnownIdsLemmas.FileLemmas.{all_taken, piece_taken}
use Rattle.worker_journal.proofs.known_ids.file.numbers_of_file.Goals as goal

pub loop-at-preserved : goal.loop-at-preserved
loop-at-preserved g c =
    let took = c.in_ok-take_piece.ensures c.loop-at.invariant.no_end in
    let within : c.loop-at.at + c.min-at.result ≤ c.in_ok-len.len = search rules in
    let stands : IfSome (g.D.LogFile.seen c.args.file.now)
    (λ bytes. c.deref.result.now ≡ take c.min-at.result (drop c.loop-at.at bytes)) = search rules in
    record {
      within = within;
      no_end = took.no_end;
      so_far = piece_taken (g.D.LogFile.seen c.args.file.now) c.args.json (places_in c.loop-at.ids.items) c.loop-at.start
          c.loop-at.line.items (places_in c.take_piece.new.ids.items) c.take_piece.new.start c.take_piece.new.line.items
          c.deref.result.now c.loop-at.at c.min-at.result (c.loop-at.at + c.min-at.result) refl stands took
          c.loop-at.invariant.so_far;
    }

pub returns : goal.returns
returns g c =
    let past : c.in_ok-len.len ≤ c.loop-at.at = search rules in
    all_taken (g.D.LogFile.seen c.args.file.now) c.args.json (places_in c.loop-at.ids.items) c.loop-at.start
    c.loop-at.line.items c.in_ok-len.len c.loop-at.at c.loop-at.invariant.no_end c.in_ok-len.ensures past
    c.loop-at.invariant.so_far
