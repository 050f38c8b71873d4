use Rattle.std.proofs.Common.{◌≡◌, false, map, take}
use Rattle.std.specs.List.{AllByRecursion, Contains}
use Rattle.server_store.specs.Laws.{IsInOrder}
use Rattle.server_commands.specs.Acknowledging.{names_of}
use Rattle.server_commands.specs.Claiming.{after_claim, ids_of}
use Rattle.server_commands.proofs.commands.read.own.give_again.Given as goal

-- the entries so far are redelivered
abbrev pub invariant-loop-pending : goal.invariant-loop-pending
invariant-loop-pending l = record {
  given : IsInOrder l.initial.group → AllByRecursion (Contains l.initial.group.pending.items) l.delivered
      → l.group.pending.items ≡ map (after_claim l.number l.now false (ids_of (take l.pending-index l.delivered)))
      l.initial.group.pending.items;
  names : names_of l.group.consumers.items ≡ names_of l.initial.group.consumers.items;
  others : l.group ≡ record l.initial.group { pending = l.group.pending; consumers = l.group.consumers };
}
