use Rattle.std.proofs.Common.{rules}
use Rattle.std.proofs.lemmas.List.Sorted.{answers_always}
use Rattle.server_store.proofs.OrderLemmas.{found, missing}
use Rattle.server_store.proofs.stream.Stream.find_index.Goals as goal

-- the closure gives the id of an entry
pub returns-clause-found : goal.returns-clause-found
returns-clause-found c =
    let key = answers_always _ _ _ (λ f a r g called. search rules) in
    let by_id = c.binary_search_by_key.ensures.position (λ x. x.id) key in
    found (λ x. x.id) _ c.args.id _ by_id

pub returns-clause-missing : goal.returns-clause-missing
returns-clause-missing c =
    let key = answers_always _ _ _ (λ f a r g called. search rules) in
    let by_id = c.binary_search_by_key.ensures.position (λ x. x.id) key in
    missing (λ x. x.id) _ c.args.id _ by_id
