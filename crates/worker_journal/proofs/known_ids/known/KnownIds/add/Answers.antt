use Rattle.std.proofs.Common.{List, subst, sym}
use Rattle.std.specs.List.Sorted.{IsNonDecreasingBy}
use Rattle.std.specs.Prelude.{is_ok}
use Rattle.worker_journal.specs.KnownIds.Known.{HasOneMore, HasPlaceToo, number_in, places_in}
use Rattle.worker_journal.specs.declared.known_ids.known.KnownId.{KnownId}
use Rattle.worker_journal.proofs.KnownIdsLemmas.KnownLemmas.{one_more, place_too, still_rises}
use Rattle.worker_journal.proofs.known_ids.known.KnownIds.add.Goals as goal

pub invariant_of-self : goal.invariant_of-self
invariant_of-self c = record {
  rises = subst (λ (xs : List KnownId). IsNonDecreasingBy number_in xs) (sym c.insert.ensures.items)
      (still_rises c.args.self.now.ids.items c.args.number c.find_gap-at.result c.new.result (is_ok c.insert.result)
      c.new.ensures.number c.args.self.now.rises c.find_gap-at.ensures);
}

pub returns-clause-more : goal.returns-clause-more
returns-clause-more c =
    subst (λ (xs : List KnownId). HasOneMore (places_in c.args.self.now.ids.items) (places_in xs) c.args.number)
    (sym c.in_ok-insert.ensures.items)
    (one_more c.args.self.now.ids.items c.find_gap-at.result c.args.number c.new.result c.new.ensures.number)

pub returns-clause-place : goal.returns-clause-place
returns-clause-place c = subst
    (λ (xs : List KnownId). HasPlaceToo (places_in c.args.self.now.ids.items) (places_in xs) c.args.number c.args.place)
    (sym c.in_ok-insert.ensures.items)
    (place_too c.args.self.now.ids.items c.find_gap-at.result c.args.number c.args.place c.new.result c.new.ensures.number
    c.new.ensures.place)
