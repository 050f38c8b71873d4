use Rattle.std.proofs.Common.{rules}
use Rattle.std.proofs.lemmas.List.Sorted.{answers_always}
use Rattle.worker_journal.specs.KnownIds.Known.{number_in}
use Rattle.worker_journal.proofs.KnownIdsLemmas.KnownLemmas.{searched}
use Rattle.worker_journal.proofs.known_ids.known.KnownIds.search.Goals as goal

pub returns-in-Some : goal.returns-in-Some
returns-in-Some c =
    let facts = c.binary_search_by_key.ensures in
    let by_number = facts.position number_in (answers_always _ _ _ (λ f a r g called. search rules)) in
    rw (← c.deref-in-Some.ensures.value) (searched c.deref-in-Some.result.now c.args.number _
    (rw c.deref-in-Some.ensures.value c.args.self.now.rises) facts.bound by_number)
