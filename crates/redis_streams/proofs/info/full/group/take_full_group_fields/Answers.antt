use Rattle.redis_streams.proofs.info.full.group.take_full_group_fields.Goals as goal

pub returns-clause-entries_read : goal.returns-clause-entries_read
returns-clause-entries_read g c =
    let after_first = c.take_field.ensures.rest in
    let after_second = rw after_first at c.take_field-2.ensures.rest in
    rw after_second at c.take_field-3.ensures.field
