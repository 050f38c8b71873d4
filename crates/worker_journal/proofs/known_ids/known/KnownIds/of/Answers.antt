use Rattle.std.proofs.Common.{rules}
use Rattle.std.proofs.lemmas.List.Sorted.{IsNonDecreasingBy-from_sort_by_key}
use Rattle.worker_journal.specs.KnownIds.Known.{number_in}
use Rattle.worker_journal.proofs.KnownIdsLemmas.KnownLemmas.{same_numbers, same_places}
use Rattle.worker_journal.proofs.known_ids.known.KnownIds.of.Goals as goal

pub invariant_of-result : goal.invariant_of-result
invariant_of-result c = record {
  rises = IsNonDecreasingBy-from_sort_by_key number_in c.sort_unstable_by_key.new.self.items
      c.sort_unstable_by_key.ensures.sorted (λ a r q k. search rules);
}

pub returns-clause-numbers : goal.returns-clause-numbers
returns-clause-numbers c =
    same_numbers c.args.ids.items c.sort_unstable_by_key.new.self.items c.sort_unstable_by_key.ensures.permutation

pub returns-clause-places : goal.returns-clause-places
returns-clause-places c =
    same_places c.args.ids.items c.sort_unstable_by_key.new.self.items c.sort_unstable_by_key.ensures.permutation
