use Rattle.std.proofs.Common.{rules}
use Rattle.std.proofs.lemmas.List.Sorted.{answers_always}
use Rattle.server_store.proofs.OrderLemmas.{found, missing}
use Rattle.server_store.proofs.pending_list.find_place.Goals as goal

-- the closure gives the id of the slot
pub returns-clause-found : goal.returns-clause-found
returns-clause-found c =
    let key = answers_always _ _ _ (λ f a r g called. search rules) in
    let by_id = c.binary_search_by_key.ensures.position (λ x. x.held.id) key in
    found (λ x. x.held.id) _ c.args.id _ by_id

pub returns-clause-missing : goal.returns-clause-missing
returns-clause-missing c =
    let key = answers_always _ _ _ (λ f a r g called. search rules) in
    let by_id = c.binary_search_by_key.ensures.position (λ x. x.held.id) key in
    missing (λ x. x.held.id) _ c.args.id _ by_id
