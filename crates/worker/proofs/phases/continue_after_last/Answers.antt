use Rattle.std.proofs.Common.{rules, ◌≡◌, ◌∙◌, ap, sym, append_assoc, ◌∷◌, ◌++◌, []}
use Rattle.model_server.specs.Group.Worker.{own}
use Rattle.worker.proofs.PhaseLemmas.{behind_next}
use Rattle.worker.proofs.phases.continue_after_last.Goals as goal

pub loop-entry-preserved : goal.loop-entry-preserved
loop-entry-preserved c =
    let next : c.loop-entry.entry-iterator ≡ c.in-Some.entry ∷ c.next.new.self = search rules in
    record {
      whole = append_assoc c.loop-entry.yielded (c.in-Some.entry ∷ []) c.next.new.self
          ∙ ap (λ t. c.loop-entry.yielded ++ t) (sym next) ∙ c.loop-entry.invariant.whole;
      last = behind_next c.loop-entry.yielded c.in-Some.entry ∙ ap own (sym c.id.ensures);
    }
