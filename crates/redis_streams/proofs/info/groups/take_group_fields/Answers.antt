use Rattle.redis_streams.proofs.info.groups.take_group_fields.Goals as goal

pub returns-clause-entries_read : goal.returns-clause-entries_read
returns-clause-entries_read g c =
    let after_first = c.take_field.ensures.rest in
    let after_second = rw after_first at c.take_field-2.ensures.rest in
    let after_third = rw after_second at c.take_field-3.ensures.rest in
    let after_fourth = rw after_third at c.take_field-4.ensures.rest in
    rw after_fourth at c.take_field-5.ensures.field
