use Rattle.std.proofs.Common.{rules, ◌≡◌, ◌-◌, ◌++◌, ◌∷◌, []}
use Rattle.redis_wire.proofs.ScanLemmas.{walk_in, walk_on}
use Rattle.redis_wire.proofs.scanning.find_next_group.Goals as goal

pub returns-then-asked-eq0-clause-is : goal.returns-then-asked-eq0-clause-is
returns-then-asked-eq0-clause-is c = λ limits count bytes left after few w read.
    walk_on limits count c.args.inner c.args.outer.now.items bytes left w few c.requires.deep c.requires.some
    c.args.asked after c.if-asked-eq0.true read

pub returns-clause-is : goal.returns-clause-is
returns-clause-is c = λ limits count bytes left after few w read.
    let more : c.push.new.self.items ≡ c.args.outer.now.items
    ++ record { depth = c.args.inner.depth; left = c.args.inner.left - 1 } ∷ [] = search rules in
    walk_in limits count c.args.inner c.args.outer.now.items bytes left w few c.requires.deep c.requires.some
    c.args.asked after c.push.new.self.items read more
