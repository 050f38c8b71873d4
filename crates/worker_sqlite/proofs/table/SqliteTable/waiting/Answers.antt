use Rattle.std.proofs.Common.{◌≡◌, subst, inr, rules, Bool, true}
use Rattle.worker_sqlite.specs.Outbox.{ShowsOutbox}
use Rattle.worker_sqlite.proofs.table.SqliteTable.waiting.Goals as goal

pub returns-in_default-clause-shown : goal.returns-in_default-clause-shown
returns-in_default-clause-shown g c =
    let has : c.in_ok-has_outbox.field-0 ≡ true = search rules in
    inr (
      c.has_outbox.new.conn,
      subst (λ (b : Bool). ShowsOutbox g.S.Store c.args.self.now.conn c.has_outbox.new.conn b) has c.in_ok-has_outbox.ensures,
      (rw c.in_default.is at c.in_ok-first.ensures),
    )

pub returns-clause-shown : goal.returns-clause-shown
returns-clause-shown g c =
    let has : c.in_ok-has_outbox.field-0 ≡ true = search rules in (
      c.has_outbox.new.conn,
      c.find_first_post.new.conn,
      subst (λ (b : Bool). ShowsOutbox g.S.Store c.args.self.now.conn c.has_outbox.new.conn b) has c.in_ok-has_outbox.ensures,
      (rw c.in-Some.is at c.in_ok-first.ensures),
      c.in_ok-count.ensures,
    )
