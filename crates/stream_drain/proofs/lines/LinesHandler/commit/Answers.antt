use Rattle.std.proofs.Math.Logic.{∥∥₁_elim, ∥∥₁_map}
use Rattle.std.proofs.Props.{props}
use Rattle.worker_journal.specs.Holds.{committed_in}
use Rattle.stream_drain.specs.Known.{known_by}
use Rattle.stream_drain.proofs.WrittenLemmas.{committed_now, same_now}
use Rattle.stream_drain.proofs.lines.LinesHandler.commit.Goals as goal

pub invariant_of-self : goal.invariant_of-self
invariant_of-self g c = record { held = ∥∥₁_map c.args.self.now.held c.commit.ensures.still_held }

pub invariant_of-self-in-Err : goal.invariant_of-self-in-Err
invariant_of-self-in-Err g c = record { held = ∥∥₁_map c.args.self.now.held c.commit.ensures.still_held }

pub returns-in-Ok-clause-history : goal.returns-in-Ok-clause-history
returns-in-Ok-clause-history g c =
    committed_now c.args.self.now.json (known_by c.args.self.now.known) c.args.self.now.log.batch.items c.commit.new.self.batch.items
    (committed_in (g.D.LogFile.seen c.args.self.now.log.file) c.args.self.now.log.len)
    (committed_in (g.D.LogFile.seen c.commit.new.self.file) c.commit.new.self.len) c.in-Ok.ensures.batch
    (∥∥₁_elim c.args.self.now.held (search props) c.in-Ok.ensures.more)

pub returns-in-Err-clause-history_kept : goal.returns-in-Err-clause-history_kept
returns-in-Err-clause-history_kept g c =
    same_now c.args.self.now.json (known_by c.args.self.now.known) c.args.self.now.log.batch.items c.commit.new.self.batch.items
    (committed_in (g.D.LogFile.seen c.args.self.now.log.file) c.args.self.now.log.len)
    (committed_in (g.D.LogFile.seen c.commit.new.self.file) c.commit.new.self.len) c.in-Err.ensures.kept
    (∥∥₁_elim c.args.self.now.held (search props) c.in-Err.ensures.no_more)
