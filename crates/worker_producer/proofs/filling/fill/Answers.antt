use Rattle.std.proofs.Common.{rules, ◌≡◌, ◌-◌, ◌^◌, arith, subst, ℕ, List, Option}
use Rattle.std.specs.Option.{ForSome}
use Rattle.worker_producer.specs.Ahead.{IsPrepared}
use Rattle.worker_producer.specs.Confirmed.{ConfirmedRounds}
use Rattle.worker_producer.specs.Machine.{idle, standing_of}
use Rattle.worker_producer.specs.Records.{Fields}
use Rattle.worker_producer.specs.declared.settings.Settings.{Settings}
use Rattle.worker_producer.proofs.filling.fill.Goals as goal

pub returns-clause-err : goal.returns-clause-err
returns-clause-err g c =
    let all : c.loop-round._round ≡ 2 ^ 64 - 1 = omega (arith, c.loop-round-test.false, c.loop-round.auto._round-end) in (
      standing_of c.loop-round.producer,
      subst (λ (n : ℕ). ConfirmedRounds c.args.wait c.args.settings (g.S.Source.records c.args.source.now) c.args.count n
          c.args.connection.now c.loop-round.connection idle (standing_of c.loop-round.producer)) all
          c.loop-round.invariant.made,
    )

pub loop-round-preserved : goal.loop-round-preserved
loop-round-preserved g c =
    let was = c.loop-round.invariant in
    let all = g.S.Source.records c.args.source.now in
    let next = c.round_confirmed_ahead.new.ahead in
    let ahead : ForSome next (IsPrepared c.args.settings all) =
    subst (λ (s : Settings). ForSome next (IsPrepared s all)) was.settings
    (subst (λ (rs : Option (List Fields)). ForSome next (IsPrepared c.loop-round.producer.settings rs)) was.records
    c.round_confirmed_ahead.ensures.ahead) in
    record { settings = search rules; records = search rules; made = search rules; ahead = ahead }
