-- What is sent to another stream.
use Rattle.std.proofs.Common.{◌≡◌, ◌∙◌, sym, subst, inl, inr, ⊎_elim, List}
use Rattle.worker_table.specs.RowTable.Rows.{Row}
use Rattle.worker_table.proofs.RowTableLemmas.SentLemmas as sent
use Rattle.worker_table.proofs.AcknowledgedLemmas.{law_holds, some_is}
use Rattle.worker_table.specs.Acknowledged.{IsThere}
use Rattle.worker_table.specs.Kept.{key_in}
use Rattle.worker_table.specs.Passed.{AcknowledgedIsPassedOn}

-- ---- the law

pub passed_on : AcknowledgedIsPassedOn
passed_on settings columns gone began w deleted acks first s done r g is id among =
    let settled = law_holds settings columns gone began w deleted acks r in
    let same : settled.rows ≡ s.rows = some_is settled.rows s.rows (sym settled.committed ∙ is) in
    ⊎_elim
    (λ there. inl (let here : IsThere s.rows id = subst (λ (rows : List Row). IsThere rows id) same there in
    (here, (sent.law_holds first s done g).rows (key_in id) here)))
    inr (settled.there id among)
