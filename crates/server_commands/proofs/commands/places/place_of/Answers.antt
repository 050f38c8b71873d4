use Rattle.std.proofs.Common.{rules}
use Rattle.std.proofs.lemmas.Fn.{always_returns_same}
use Rattle.std.specs.Cmp.Lexicographic.{slice_cmp}
use Rattle.std.specs.Ordering.{nat_cmp}
use Rattle.server_commands.proofs.NameLemmas.{found_by_name, missing_by_name}
use Rattle.server_commands.proofs.commands.places.place_of.Goals as goal

-- the closure compares the key of a stream with this key
pub returns-clause-found : goal.returns-clause-found
returns-clause-found c =
    found_by_name (λ stream. stream.key.items) c.args.streams.now c.args.key.now _
    (c.binary_search_by.ensures.position (λ stream. slice_cmp nat_cmp stream.key.items c.args.key.now)
    (always_returns_same _ _ _ (λ a r g called. search rules)))

pub returns-clause-missing : goal.returns-clause-missing
returns-clause-missing c =
    missing_by_name (λ stream. stream.key.items) c.args.streams.now c.args.key.now _
    (c.binary_search_by.ensures.position (λ stream. slice_cmp nat_cmp stream.key.items c.args.key.now)
    (always_returns_same _ _ _ (λ a r g called. search rules)))
