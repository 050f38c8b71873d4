use Rattle.std.proofs.Common.{◌≡◌, ◌++◌, ◌∷◌, [], rules}
use Rattle.redis_wire.proofs.AttributeLemmas.{attribute_is}
use Rattle.redis_wire.proofs.ReplyLemmas.{says_value}
use Rattle.redis_wire.proofs.groups.make_attribute.Goals as goal

pub returns : goal.returns
returns c =
    let split : c.args.values.items ≡ c.pop.new.self.items ++ c.in-Some.payload ∷ [] = search rules in
    let inside : c.in_ok-new.field-0.value ≡ c.in-Some.payload = search rules in
    says_value _ _
    (attribute_is c.args.values.items c.pop.new.self.items c.in-Some.payload c.in_ok-new.field-0
    c.in_ok-attributes.attributes split inside c.in_ok-attributes.ensures)
