use Rattle.std.proofs.Common.{ap, ℕ, List}
use Rattle.worker.specs.Outbox.Posts.{posts_by}
use Rattle.worker.specs.Outbox.Sent.{unsent_of}
use Rattle.worker.specs.Session.{standing_of}
use Rattle.worker.proofs.outbox.posting.Posting.round.Goals as goal

pub returns-in-Ok-send-clause-ok : goal.returns-in-Ok-send-clause-ok
returns-in-Ok-send-clause-ok g c =
    let work = g.W.Work.history c.round.new.handler.work in
    record {
      between = c.round.new.connection;
      after = standing_of c.round.new.self (posts_by work (unsent_of c.round.new.handler.outbox));
      turned = c.in-Ok.ensures.ok;
      sends = c.in-Ok-send.ensures.ok.1;
      stands = ap (λ (xs : List (List ℕ)). standing_of c.round.new.self (posts_by work xs)) c.in-Ok-send.ensures.ok.0;
    }
