use Rattle.std.proofs.Common.{ap, sym, ◌∙◌}
use Rattle.redis_resp.specs.Value.{tree}
use Rattle.test_notation.proofs.AnswerLemmas.{is_answer, may_answer}
use Rattle.test_notation.proofs.answer.both_answers.Goals as goal

pub returns : goal.returns
returns g c =
    let meaning = g.T.FromRedisValue.meaning in
    let reading = g.T.FromRedisValue.reading in
    let may_refuse = g.T.FromRedisValue.may_refuse in
    let t = tree c.args.value in
    let owned =
    may_answer meaning reading may_refuse t c.from_redis_value.result c.from_redis_value.ensures.ok
    c.from_redis_value.ensures.err c.in_ok-owned.ensures.told in
    let lent =
    may_answer meaning reading may_refuse t c.from_redis_value_ref.result c.from_redis_value_ref.ensures.ok
    c.from_redis_value_ref.ensures.err c.in_ok-lent.ensures.told in
    is_answer meaning reading may_refuse g.T.PrintedForm.form t c.from_redis_value.result c.from_redis_value_ref.result
    _ _ c.compared_forms.result c.in_ok-owned.ensures.form
    (c.deref.ensures ∙ c.in_ok-lent.ensures.form) owned lent c.compared_forms.ensures
