use Rattle.std.proofs.Common.{ap, sym, ◌∙◌}
use Rattle.std.proofs.lemmas.Map.Iter.{rest_more}
use Rattle.std.specs.Map.Iter.{deref_pair}
use Rattle.test_notation.specs.Entry.{pairs_of, put_all}
use Rattle.test_notation.proofs.EntryLemmas.{pairs_of_insert}
use Rattle.test_notation.proofs.replies.rows.stream_id.sorted.Goals as goal

pub loop-name-preserved : goal.loop-name-preserved
loop-name-preserved c =
    let left = rest_more deref_pair c.loop-name.name-iterator c.next.new.self c.next.result
    (c.in-Some.name, c.in-Some.value) c.in-Some.is c.next.ensures.steps in
    let put = pairs_of_insert c.loop-name.fields.entries c.as_str.result c.in-Some.value in
    let before = ap (put_all (pairs_of c.loop-name.fields.entries)) left in
    rw (c.in_ok-insert.ensures.entries, put, c.as_str.ensures.value) (sym before ∙ c.loop-name.invariant)
