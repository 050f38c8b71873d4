use Rattle.std.proofs.Common.{◌∙◌, ap, rules}
use Rattle.std.proofs.lemmas.Fn.{filter_same}
use Rattle.server_store.specs.PendingList.{live}
use Rattle.server_store.proofs.SlotLemmas.{filter_others, for_other}
use Rattle.server_store.proofs.PendingListLemmas.{others_sound}
use Rattle.server_store.proofs.pending_list.PendingList.remove_for.Goals as goal

pub invariant_of-self : goal.invariant_of-self
invariant_of-self c =
    let is = filter_same _ (for_other c.args.consumer) _ (λ x b f' k. search rules) _ _ c.retain.ensures.filtered in
    others_sound c.args.consumer c.self.inside.slots.items c.retain.new.self.items c.self.inside.len c.len-self-inside.result
    c.self.invariant is (c.len-self-inside.ensures ∙ c.retain.new.self.ok.0)

pub returns : goal.returns
returns c =
    let is = filter_same _ (for_other c.args.consumer) _ (λ x b f' k. search rules) _ _ c.retain.ensures.filtered in
    rw (← c.self.view_is) (ap live is ∙ filter_others c.args.consumer c.self.inside.slots.items)
