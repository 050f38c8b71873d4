use Rattle.std.proofs.Common.{◌≡◌, ◌<◌, ap, arith}
use Rattle.worker_producer.specs.Machine.{stage_of, standing_of}
use Rattle.worker_producer.proofs.RequestLemmas.{asking_err, asking_ok, some_records, waits_still}
use Rattle.worker_producer.proofs.TakenLemmas.{still_to_come}
use Rattle.worker_producer.proofs.producer.Producer.request.Goals as goal

pub returns-then-self-gt0-clause-ok : goal.returns-then-self-gt0-clause-ok
returns-then-self-gt0-clause-ok g c =
    let all = some_records (g.S.Source.records c.args.source.now) in
    let some : 0 < c.args.self.now.coming = omega (arith, c.if-self-gt0.true) in (
      all.0,
      all.1,
      still_to_come c.args.self.now.coming c.args.self.now.settings all.0 c.args.out.now.items
          (standing_of c.args.self.now) some,
    )

pub returns-in-Asking-clause-ok : goal.returns-in-Asking-clause-ok
returns-in-Asking-clause-ok g c =
    let none : c.args.self.now.coming ≡ 0 = omega (arith, c.if-self-gt0.false) in
    asking_ok c.ask.result (g.S.Source.records c.args.source.now) c.args.self.now c.ask.new.self c.args.out.now.items
    c.ask.new.out.items none (ap stage_of c.in-Asking.is) c.ask.ensures.bytes c.ask.ensures.standing c.ask.ensures.asked

pub returns-in-Asking-clause-err : goal.returns-in-Asking-clause-err
returns-in-Asking-clause-err g c =
    let none : c.args.self.now.coming ≡ 0 = omega (arith, c.if-self-gt0.false) in
    asking_err c.ask.result c.args.self.now.settings (g.S.Source.records c.args.source.now) (standing_of c.args.self.now)
    none c.ask.ensures.err

pub returns-in-Waits-clause-ok : goal.returns-in-Waits-clause-ok
returns-in-Waits-clause-ok g c =
    let all = some_records (g.S.Source.records c.args.source.now) in
    let none : c.args.self.now.coming ≡ 0 = omega (arith, c.if-self-gt0.false) in (
      all.0,
      all.1,
      waits_still c.args.self.now.settings all.0 c.args.out.now.items (stage_of c.args.self.now.stage)
          c.args.self.now.coming c.in-Waits.field-0.known c.in-Waits.field-0.sent none (ap stage_of c.in-Waits.is),
    )
