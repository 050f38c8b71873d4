use Rattle.redis_connection.proofs.LinkLemmas.{reply_given_out}
use Rattle.redis_connection.proofs.connection.Connection.give_out.Goals as goal

pub returns-clause-receives : goal.returns-clause-receives
returns-clause-receives g c = reply_given_out c.self.inside.passed (g.W.Write.contents c.self.inside.writer)
    (g.R.Read.remaining c.self.inside.reader) c.self.inside.replies c.give_out.new.self c.self.inside.piece.items
    c.self.inside.unfed c.args.len c.args.self.now c.self.view_is c.give_out.ensures
