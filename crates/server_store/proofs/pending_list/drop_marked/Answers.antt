use Rattle.std.proofs.Common.{◌∙◌, ap, rules}
use Rattle.std.proofs.lemmas.Fn.{filter_same}
use Rattle.server_store.specs.PendingList.{live}
use Rattle.server_store.proofs.SlotLemmas.{ascending_filter, filter_live, is_live}
use Rattle.server_store.proofs.pending_list.drop_marked.Goals as goal

pub returns-then-saturating_sub-len-clause-items : goal.returns-then-saturating_sub-len-clause-items
returns-then-saturating_sub-len-clause-items c =
    let is = filter_same _ is_live _ (λ x b f' k. search rules) _ _ c.retain.ensures.filtered in
    ap live is ∙ filter_live c.drop_back.new.slots.items ∙ c.drop_back.ensures.items ∙ c.drop_front.ensures.items

pub returns-then-saturating_sub-len-clause-ascend : goal.returns-then-saturating_sub-len-clause-ascend
returns-then-saturating_sub-len-clause-ascend c = λ up.
    let is = filter_same _ is_live _ (λ x b f' k. search rules) _ _ c.retain.ensures.filtered in
    rw is (ascending_filter (λ x. x.held.id) is_live c.drop_back.new.slots.items
    (c.drop_back.ensures.ascend (c.drop_front.ensures.ascend up)))
