use Rattle.std.proofs.Common.{subst, List, ℕ, string_bytes}
use Rattle.worker_sqlite.specs.Statements.{IsMade}
use Rattle.worker_sqlite.proofs.table.SqliteTable.over.Goals as goal

pub returns-clause-made : goal.returns-clause-made
returns-clause-made g c =
    subst (λ (name : List ℕ). IsMade g.S.Store c.args.conn c.make.new.conn name (string_bytes c.args.form.create))
    c.deref.ensures
    (subst (λ (create : List ℕ). IsMade g.S.Store c.args.conn c.make.new.conn c.deref.result.now create) c.deref-2.ensures
    c.in_ok-make.ensures.made)
