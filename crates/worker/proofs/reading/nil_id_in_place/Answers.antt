use Rattle.std.proofs.Common.{rules, ◌≡◌, ◌∙◌, ap, sym, append_assoc, append-nil, ◌∷◌, ◌++◌, [], Some}
use Rattle.worker.specs.Answers.{first_nil}
use Rattle.worker.proofs.ReadLemmas.{nil_found, none_more}
use Rattle.worker.proofs.reading.nil_id_in_place.Goals as goal

pub loop-entry-preserved : goal.loop-entry-preserved
loop-entry-preserved c =
    let next : c.loop-entry.entry-iterator ≡ c.in-Some.entry ∷ c.next.new.self = search rules in
    record {
      whole = append_assoc c.loop-entry.yielded (c.in-Some.entry ∷ []) c.next.new.self
          ∙ ap (λ t. c.loop-entry.yielded ++ t) (sym next) ∙ c.loop-entry.invariant.whole;
      none = none_more c.loop-entry.yielded c.in-Some.entry c.loop-entry.invariant.none
          (sym c.is_deleted.ensures ∙ c.if-is_deleted.false);
    }

pub returns-then-is_deleted : goal.returns-then-is_deleted
returns-then-is_deleted c =
    let next : c.loop-entry.entry-iterator ≡ c.in-Some.entry ∷ c.next.new.self = search rules in
    ap Some c.id.ensures
    ∙ sym (nil_found c.loop-entry.yielded c.next.new.self c.in-Some.entry c.loop-entry.invariant.none
    (sym c.is_deleted.ensures ∙ c.if-is_deleted.true))
    ∙ ap first_nil (ap (λ t. c.loop-entry.yielded ++ t) (sym next) ∙ c.loop-entry.invariant.whole)

pub returns : goal.returns
returns c =
    let none : c.loop-entry.entry-iterator ≡ [] = search rules in
    let all : c.loop-entry.yielded ≡ c.args.entries =
    sym (append-nil c.loop-entry.yielded) ∙ ap (λ t. c.loop-entry.yielded ++ t) (sym none)
    ∙ c.loop-entry.invariant.whole in
    sym c.loop-entry.invariant.none ∙ ap first_nil all
