use Rattle.std.proofs.Common.{inl, inr, refl, sym}
use Rattle.redis_resp.specs.Value.{tree}
use Rattle.stream_in_place.specs.SentMeaning.{sent_all}
use Rattle.worker.proofs.InPlaceLemmas.{news_say}
use Rattle.worker.proofs.ReadLemmas.{there_all}
use Rattle.worker.proofs.WorkerLemmas.{err_is}
use Rattle.worker.proofs.reading.read_new.Goals as goal

pub returns-in_err-entries-clause-err : goal.returns-in_err-entries-clause-err
returns-in_err-entries-clause-err c =
    err_is c.from_residual.result _ c.in_err-entries.field-0.0 c.from_residual.ensures.1 (inl c.in_err-entries.ensures.err)

pub returns-in-None-clause-ok : goal.returns-in-None-clause-ok
returns-in-None-clause-ok c =
    let none = rw c.in-None.is at c.in_ok-find_nil_id.ensures in
    let all = rw c.deref.ensures.value at none in
    news_say c.args.key.now (tree c.args.value) (sent_all c.in_ok-entries.entries) c.in_ok-entries.ensures.ok
    (there_all (sent_all c.in_ok-entries.entries) (sym all))

pub returns-in-Some-clause-err : goal.returns-in-Some-clause-err
returns-in-Some-clause-err c =
    let some = rw c.in-Some.is at c.in_ok-find_nil_id.ensures in
    let first = rw c.deref.ensures.value at some in
    inr (c.in-Some.id, refl, (sent_all c.in_ok-entries.entries, c.in_ok-entries.ensures.ok, sym first))
