use Rattle.std.proofs.Common.{false, refl, ap, ◌∙◌}
use Rattle.server_store.specs.declared.group.Group.{Group}
use Rattle.server_commands.proofs.ClaimCodeLemmas.{given_next, names_stay, none_given}
use Rattle.server_commands.proofs.commands.read.own.give_again.Goals as goal

pub loop-pending-init : goal.loop-pending-init
loop-pending-init c = record {
  given = λ up all. none_given c.args.number c.args.now false c.args.group.now.pending.items;
  names = refl;
  others = refl;
}

pub loop-pending-preserved : goal.loop-pending-preserved
loop-pending-preserved c =
    let new = c.give-given.new.self in
    record {
      given = λ up all.
          given_next c.args.number c.args.now false c.give-given.result c.args.delivered.now
          c.loop-pending.pending-index _ c.args.group.now.pending.items c.loop-pending.group new c.loop-pending-test.true up all
          (c.loop-pending.invariant.given up all) (rw c.deliver_once_more.ensures at c.give-given.ensures.ok)
          (rw c.deliver_once_more.ensures at c.give-given.ensures.err_new);
      names = names_stay c.give-given.result c.deliver_once_more.result c.loop-pending.group new c.give-given.ensures.ok
          c.give-given.ensures.err_consumers ∙ c.loop-pending.invariant.names;
      others = c.give-given.ensures.others
          ∙ ap (λ (g : Group). record g { pending = new.pending; consumers = new.consumers }) c.loop-pending.invariant.others;
    }
