use Rattle.std.proofs.Common.{◌≡◌, List, subst}
use Rattle.std.specs.Prelude.{IfOk}
use Rattle.server_store.specs.Stream.{Seen}
use Rattle.server_commands.specs.Stepping.{XackSteps, XaddSteps, XautoclaimSteps, XdelSteps, XreadgroupSteps}
use Rattle.server_commands.specs.Steps.{WaitsForExec}
use Rattle.server_commands.specs.Streams.{seen_streams}
use Rattle.server_commands.specs.declared.session.Mode.TheVariants.{AtOnce}
use Rattle.server_commands.proofs.ReadStepLemmas.{xreadgroup_steps}
use Rattle.server_commands.proofs.SteppingLemmas.{ok_so, xack_steps, xadd_steps, xautoclaim_steps, xdel_steps}
use Rattle.server_commands.proofs.server.Server.step.Goals as goal

pub returns-clause-xack : goal.returns-clause-xack
returns-clause-xack c =
    subst (λ (old : List Seen). IfOk c.answered.result (λ r. c.args.session.now.mode ≡ AtOnce
    → XackSteps c.args.command.items r old (seen_streams c.answered.new.streams))) c.self.view_is
    (ok_so c.answered.result _ _ c.answered.ensures.done
    (λ r done at. xack_steps c.args.now c.self.inside.streams.items c.answered.new.streams.items c.args.command.items r (done at)))

pub returns-clause-xdel : goal.returns-clause-xdel
returns-clause-xdel c =
    subst (λ (old : List Seen). IfOk c.answered.result (λ r. c.args.session.now.mode ≡ AtOnce
    → XdelSteps c.args.command.items r old (seen_streams c.answered.new.streams))) c.self.view_is
    (ok_so c.answered.result _ _ c.answered.ensures.done
    (λ r done at. xdel_steps c.args.now c.self.inside.streams.items c.answered.new.streams.items c.args.command.items r (done at)))

pub returns-clause-xadd : goal.returns-clause-xadd
returns-clause-xadd c =
    subst (λ (old : List Seen). IfOk c.answered.result (λ r. c.args.session.now.mode ≡ AtOnce
    → XaddSteps c.args.command.items r old (seen_streams c.answered.new.streams))) c.self.view_is
    (ok_so c.answered.result _ _ c.answered.ensures.done
    (λ r done at. xadd_steps c.args.now c.self.inside.streams.items c.answered.new.streams.items c.args.command.items r (done at)))

pub returns-clause-xautoclaim : goal.returns-clause-xautoclaim
returns-clause-xautoclaim c =
    subst (λ (old : List Seen). IfOk c.answered.result (λ r. c.args.session.now.mode ≡ AtOnce
    → XautoclaimSteps c.args.command.items r old (seen_streams c.answered.new.streams))) c.self.view_is
    (ok_so c.answered.result _ _ c.answered.ensures.done
    (λ r done at. xautoclaim_steps c.args.now c.self.inside.streams.items c.answered.new.streams.items c.args.command.items r (done at)))

pub returns-clause-xreadgroup : goal.returns-clause-xreadgroup
returns-clause-xreadgroup c =
    subst (λ (old : List Seen). IfOk c.answered.result (λ r. c.args.session.now.mode ≡ AtOnce
    → XreadgroupSteps c.args.command.items r old (seen_streams c.answered.new.streams))) c.self.view_is
    (ok_so c.answered.result _ _ c.answered.ensures.done
    (λ r done at. xreadgroup_steps c.args.now c.self.inside.streams.items c.answered.new.streams.items c.args.command.items r (done at)))

pub returns-clause-queued : goal.returns-clause-queued
returns-clause-queued c =
    subst (λ (old : List Seen). IfOk c.answered.result (λ r. WaitsForExec c.args.command r
    (record { streams = old; session = c.args.session.now })
    (record { streams = seen_streams c.answered.new.streams; session = c.answered.new.session })))
    c.self.view_is c.answered.ensures.queued
