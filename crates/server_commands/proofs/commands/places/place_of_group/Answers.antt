use Rattle.std.proofs.Common.{rules, sym}
use Rattle.std.proofs.lemmas.Fn.{always_returns_same}
use Rattle.std.specs.Cmp.Lexicographic.{slice_cmp}
use Rattle.std.specs.Ordering.{nat_cmp}
use Rattle.server_commands.proofs.NameLemmas.{found_by_name, missing_by_name}
use Rattle.server_commands.proofs.commands.places.place_of_group.Goals as goal

-- the closure compares the name of a group with this name
pub returns-clause-found : goal.returns-clause-found
returns-clause-found c =
    rw (sym c.deref.ensures.value) (found_by_name (λ group. group.name.items) c.deref.result.now c.args.name.now _
    (c.binary_search_by.ensures.position (λ group. slice_cmp nat_cmp group.name.items c.args.name.now)
    (always_returns_same _ _ _ (λ a r g called. search rules))))

pub returns-clause-missing : goal.returns-clause-missing
returns-clause-missing c =
    rw (sym c.deref.ensures.value) (missing_by_name (λ group. group.name.items) c.deref.result.now c.args.name.now _
    (c.binary_search_by.ensures.position (λ group. slice_cmp nat_cmp group.name.items c.args.name.now)
    (always_returns_same _ _ _ (λ a r g called. search rules))))
