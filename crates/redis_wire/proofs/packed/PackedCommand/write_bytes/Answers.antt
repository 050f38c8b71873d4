use Rattle.std.proofs.Common.{◌≡◌, ◌++◌, ◌∙◌, ap, append_assoc, List, ℕ, rules}
use Rattle.redis_wire.specs.Packed.{head_bytes, command_bytes}
use Rattle.redis_wire.proofs.PackedLemmas.{packed_command}
use Rattle.redis_wire.proofs.packed.PackedCommand.write_bytes.Goals as goal

pub returns-clause-ok : goal.returns-clause-ok
returns-clause-ok c =
    let out = c.args.out.now.items in
    let body = c.self.inside.body.items in
    let head : c.push_head.new.out.items ≡ out ++ head_bytes c.self.inside.count = search rules in
    let both : c.extend_from_slice.new.self.items ≡ c.push_head.new.out.items ++ body = search rules in
    let whole = packed_command c.self.inside.count body c.self.invariant ∙ ap command_bytes c.self.view_is in
    both ∙ ap (λ (bytes : List ℕ). bytes ++ body) head ∙ append_assoc out (head_bytes c.self.inside.count) body
    ∙ ap (λ (bytes : List ℕ). out ++ bytes) whole
