use Rattle.redis_streams.proofs.info.idempotency.take_producer_fields.Goals as goal

pub returns-clause-idmp_maxsize : goal.returns-clause-idmp_maxsize
returns-clause-idmp_maxsize g c =
    let after_first = c.take_field.ensures.rest in
    rw after_first at c.take_field-2.ensures.field

pub returns-clause-pids_tracked : goal.returns-clause-pids_tracked
returns-clause-pids_tracked g c =
    let after_first = c.take_field.ensures.rest in
    let after_second = rw after_first at c.take_field-2.ensures.rest in
    rw after_second at c.take_field-3.ensures.field

pub returns-clause-iids_tracked : goal.returns-clause-iids_tracked
returns-clause-iids_tracked g c =
    let after_first = c.take_field.ensures.rest in
    let after_second = rw after_first at c.take_field-2.ensures.rest in
    let after_third = rw after_second at c.take_field-3.ensures.rest in
    rw after_third at c.take_field-4.ensures.field

pub returns-clause-iids_duplicates : goal.returns-clause-iids_duplicates
returns-clause-iids_duplicates g c =
    let after_first = c.take_field.ensures.rest in
    let after_second = rw after_first at c.take_field-2.ensures.rest in
    let after_third = rw after_second at c.take_field-3.ensures.rest in
    let after_fourth = rw after_third at c.take_field-4.ensures.rest in
    let after_fifth = rw after_fourth at c.take_field-5.ensures.rest in
    rw after_fifth at c.take_field-6.ensures.field
