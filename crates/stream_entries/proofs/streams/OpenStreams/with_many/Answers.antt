use Rattle.stream_entries.specs.declared.overlap.Form.TheVariants.{Standard, Claim}
use Rattle.stream_entries.specs.declared.streams.OpenStreams.{OpenStreams}
use Rattle.stream_entries.proofs.StreamsLemmas.{with_many, told_of_all}
use Rattle.stream_entries.proofs.streams.OpenStreams.with_many.Goals as goal

pub returns-clause-ok : goal.returns-clause-ok
returns-clause-ok g c =
    let new : OpenStreams = record { forms = c.and-forms.result; keys = c.push_table.new.keys } in
    with_many c.args.self new c.in_ok-index_map_of.field-0.entries c.in_ok-list.list.0.items
    (g.S.Source.seen c.args.row) c.in_ok-list.ensures.ok c.in_ok-index_map_of.ensures.entries
    c.in_ok-push_table.ensures
    (told_of_all Standard _ _ _ _ _ c.and-forms.ensures.standard c.have_form.ensures c.deref.ensures.value)
    (told_of_all Claim _ _ _ _ _ c.and-forms.ensures.claim c.have_form-2.ensures c.deref-2.ensures.value)
