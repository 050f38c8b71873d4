use Rattle.std.proofs.Common.{sym, ◌∙◌}
use Rattle.std.proofs.lemmas.Option.{same_Some}
use Rattle.std.proofs.lemmas.Result.{err_from_is_err_and}
use Rattle.redis.specs.Words.{map_of_pairs, pairs, rows_of_two, value}
use Rattle.examples.proofs.WireLemmas.{first_refused, second_refused}
use Rattle.examples.proofs.wire.streams_of_both.Goals as goal

pub returns-in_err-first-clause-refused : goal.returns-in_err-first-clause-refused
returns-in_err-first-clause-refused c = λ v w b d s.
    let p = err_from_is_err_and c.from_residual.result c.from_residual.ensures.1 in
    rw (p.1, p.2)
    (first_refused v w _ (c.respell_read.ensures.record v w s) (c.in_err-first.ensures.answer (value v) b))

pub returns-in_err-second-clause-refused : goal.returns-in_err-second-clause-refused
returns-in_err-second-clause-refused c = λ v w b d s.
    let p = err_from_is_err_and c.from_residual-in_err-second.result c.from_residual-in_err-second.ensures.1 in
    rw (p.1, p.2)
    (second_refused v w _ (c.respell_read.ensures.record v w s) (c.in_err-second.ensures.answer (value w) d))

pub returns-clause-same : goal.returns-clause-same
returns-clause-same c = λ v w b d s.
    same_Some _ _ (sym (c.in_ok-first.ensures.answer (value v) b) ∙ c.respell_read.ensures.record v w s
    ∙ c.in_ok-second.ensures.answer (value w) d)

pub returns-clause-protocols : goal.returns-clause-protocols
returns-clause-protocols c = λ streams b d.
    let v = rows_of_two streams in
    let w = map_of_pairs (pairs streams) in
    same_Some _ _ (sym (c.in_ok-first.ensures.answer (value v) b)
    ∙ c.respell_read.ensures.record v w (c.respell_read.ensures.protocols streams)
    ∙ c.in_ok-second.ensures.answer (value w) d)

pub returns-clause-first : goal.returns-clause-first
returns-clause-first c = λ v b. c.in_ok-first.ensures.answer (value v) b

pub returns-clause-second : goal.returns-clause-second
returns-clause-second c = λ w d. c.in_ok-second.ensures.answer (value w) d
