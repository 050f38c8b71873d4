use Rattle.std.proofs.Common.{◌≡◌, arith}
use Rattle.worker_producer.specs.Machine.{standing_of}
use Rattle.worker_producer.proofs.SessionLemmas.{ran, ran_out}
use Rattle.worker_producer.proofs.producer.Producer.run.Goals as goal

pub returns-in-Nothing-clause-ok : goal.returns-in-Nothing-clause-ok
returns-in-Nothing-clause-ok g c =
    ran c.args.self.now.settings c.loop-round.self.settings (g.S.Source.records c.args.source.now)
    (g.S.Source.records c.loop-round.source) c.args.count c.args.rounds c.loop-round._round c.args.connection.now
    c.loop-round.connection c.round.new.connection (standing_of c.loop-round.self) (standing_of c.round.new.self)
    c.in_ok-asked.asked c.loop-round.invariant.settings c.loop-round.invariant.records c.loop-round.invariant.made
    c.in_ok-asked.ensures.ok c.in-Nothing.is

pub returns-clause-ok : goal.returns-clause-ok
returns-clause-ok g c =
    let all : c.loop-round._round ≡ c.args.rounds
    = omega (arith, c.loop-round-test.false, c.loop-round.auto._round-end) in
    ran_out c.args.self.now.settings (g.S.Source.records c.args.source.now) c.args.count c.args.rounds
    c.loop-round._round c.args.connection.now c.loop-round.connection (standing_of c.loop-round.self) all
    c.loop-round.invariant.made
