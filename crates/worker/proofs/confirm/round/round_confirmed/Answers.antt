use Rattle.std.proofs.Common.{inr}
use Rattle.redis_connection.specs.declared.error.ConnectionError.TheVariants.{Memory}
use Rattle.redis_wire.specs.Reply.{answer}
use Rattle.worker.proofs.SessionLemmas.{stands_failed}
use Rattle.worker.specs.Session.{standing_of}
use Rattle.worker.specs.declared.error.RunError.TheVariants as causes
use Rattle.worker.proofs.ConfirmLemmas.ConfirmedLemmas.{confirmed_turn, confirmed_failure}
use Rattle.worker.proofs.confirm.round.round_confirmed.Goals as goal

pub returns-in-Ok-take_confirmed-clause-ok : goal.returns-in-Ok-take_confirmed-clause-ok
returns-in-Ok-take_confirmed-clause-ok g c = record {
  link = c.ask.new.connection;
  turned =
      confirmed_turn g.H.Handler.with_verdict g.H.Handler.with_commit c.args.worker.now.settings c.args.connection.now
      c.ask.new.connection (standing_of c.args.worker.now (g.H.Handler.history c.args.handler.now))
      (standing_of c.ask.new.self (g.H.Handler.history c.ask.new.handler))
      (standing_of c.take_confirmed.new.worker (g.H.Handler.history c.take_confirmed.new.handler))
      (answer c.in_ok-reply.reply) c.in_ok-reply.ensures.ok c.ask.new.self.settings c.ask.ensures.settings
      c.in-Ok-take_confirmed.round.asked c.in-Ok-take_confirmed.round.progress c.in-Ok-take_confirmed.ensures.ok;
  confirmed = c.in-Ok.ensures.ok;
}

pub returns-in-Err-take_confirmed-clause-err : goal.returns-in-Err-take_confirmed-clause-err
returns-in-Err-take_confirmed-clause-err g c = inr (record {
  link = c.ask.new.connection;
  fails =
      confirmed_failure g.H.Handler.with_verdict g.H.Handler.with_commit c.args.worker.now.settings c.args.connection.now
      c.ask.new.connection (standing_of c.args.worker.now (g.H.Handler.history c.args.handler.now))
      (standing_of c.ask.new.self (g.H.Handler.history c.ask.new.handler))
      (standing_of c.take_confirmed.new.worker (g.H.Handler.history c.take_confirmed.new.handler))
      (answer c.in_ok-reply.reply) c.in_ok-reply.ensures.ok c.ask.new.self.settings c.ask.ensures.settings
      c.in-Err-take_confirmed.error c.in-Err-take_confirmed.ensures.err;
  confirmed = c.in-Ok.ensures.ok;
})

pub returns-in-Err-clause-err : goal.returns-in-Err-clause-err
returns-in-Err-clause-err g c = record {
  link = c.ask.new.connection;
  standing = standing_of c.ask.new.self (g.H.Handler.history c.ask.new.handler);
  answer = answer c.in_ok-reply.reply;
  asked = c.in_ok-reply.ensures.ok;
  unconfirmed = c.in-Err.ensures.err;
  stands =
      stands_failed c.ask.new.self c.begin_again.new.self (g.H.Handler.history c.ask.new.handler)
      (causes.Receive c.ask.new.self.asked Memory) c.begin_again.ensures.machine c.begin_again.ensures.group
      c.begin_again.ensures.asked;
}
