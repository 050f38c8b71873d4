use Rattle.std.proofs.Common.{[], codes, ◌∙◌}
use Rattle.test_notation.specs.Entry.{pair_form, pair_of, put_all}
use Rattle.test_notation.proofs.FormLemmas.{join_by_parts}
use Rattle.test_notation.proofs.replies.rows.stream_id.print_fields.Goals as goal

pub returns : goal.returns
returns c =
    let fields = c.in_ok-fields_in.field-0.items in
    let forms = join_by_parts pair_form pair_of (codes ",") fields (put_all [] c.args.map.now.entries)
    (c.in_ok-fields_in.ensures ∙ c.in_ok-sorted.ensures) in
    rw (← forms) (rw c.deref.ensures.value at c.print_joined.ensures)
