use Rattle.std.proofs.Common.{sym, ap, refl}
use Rattle.worker_table.specs.Acknowledged.{begins}
use Rattle.worker_table.specs.Kept.{Kept}
use Rattle.worker_table.proofs.InMemoryLemmas.{after_crash, there_after}
use Rattle.worker_table.proofs.laws.tables_in_memory_are_known.Goals as goal

pub returns : goal.returns
returns c = record {
  known = λ h. refl;
  may_stay = λ h. refl;
  starts = λ settings gone h rows loose is apart.
      (λ i. record { columns = h.columns.items; loose = sym loose i; committed = sym is i }, begins rows apart);
  goes_on = λ settings columns gone acknowledged left x.
      let r = after_crash settings columns gone acknowledged x.first _ left x.worker x.deleted x.reached
      (ap (λ (k : Kept). k.committed) x.keeps) x.leaves in
      (r, there_after settings columns gone acknowledged left r);
}
