use Rattle.std.proofs.Common.{◌≡◌, ◌∙◌, List, ap, length, map, rules}
use Rattle.std.proofs.lemmas.List.{with_items_is}
use Rattle.std.specs.Vec.{with_items}
use Rattle.server_store.specs.Pending.{recounted, with_more}
use Rattle.server_store.specs.declared.group.Consumer.{Consumer}
use Rattle.server_store.proofs.GivenLemmas.{given_by}
use Rattle.server_store.proofs.group.Group.put.Goals as goal

pub returns-clause-ok : goal.returns-clause-ok
returns-clause-ok c =
    let len : length c.recount.new.consumers ≡ c.args.self.now.consumers.len = search rules in
    given_by c.in_ok-replaced.replaced c.args.held c.args.self.now c.put.new.self
    (with_items c.args.self.now.consumers c.recount.new.consumers) c.in_ok-replaced.ensures.ok
    (with_items_is c.args.self.now.consumers c.recount.new.consumers len ∙ rw c.get-consumer.ensures at c.recount.ensures
    ∙ ap (λ (cs : List Consumer). map (with_more c.args.held.consumer) (recounted c.in_ok-replaced.replaced cs)) c.deref_mut.ensures.value)
