use Rattle.std.proofs.Common.{◌∙◌, ap, sym, inl, inr, refl, Some}
use Rattle.redis_resp.specs.Value.{tree}
use Rattle.worker.specs.Errors.{read_error}
use Rattle.worker.proofs.ReadLemmas.{streams_read, streams_refused}
use Rattle.worker.proofs.WorkerLemmas.{err_is, memory_err}
use Rattle.worker.proofs.reading.read_streams.Goals as goal

pub returns-in_err-lists-clause-err : goal.returns-in_err-lists-clause-err
returns-in_err-lists-clause-err c =
    let p = c.in_err-lists.field-0.0 in
    err_is c.from_residual.result _ (read_error p) c.from_residual.ensures.1
    (inr (p, refl, streams_refused (tree c.args.value) p c.in_err-lists.ensures.err))

pub returns-in_err-join-clause-err : goal.returns-in_err-join-clause-err
returns-in_err-join-clause-err c =
    memory_err c.from_residual-in_err-join.result _ c.from_residual-in_err-join.ensures.1 (inl refl)

pub returns-clause-ok : goal.returns-clause-ok
returns-clause-ok c =
    streams_read (tree c.args.value) c.in_ok-lists.lists c.in_ok-lists.ensures.ok ∙ ap Some (sym c.in_ok-join.ensures)
