use Rattle.redis_streams.proofs.info.full.stream.take_full_fields.Goals as goal

pub returns-clause-recorded_first_entry_id : goal.returns-clause-recorded_first_entry_id
returns-clause-recorded_first_entry_id g c =
    let after_first = c.take_field.ensures.rest in
    let after_second = rw after_first at c.take_field-2.ensures.rest in
    let after_third = rw after_second at c.take_field-3.ensures.rest in
    let after_fourth = rw after_third at c.take_field-4.ensures.rest in
    let after_fifth = rw after_fourth at c.take_field-5.ensures.rest in
    let after_sixth = rw after_fifth at c.take_field-6.ensures.rest in
    rw after_sixth at c.take_field-7.ensures.field
