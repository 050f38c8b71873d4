use Rattle.std.proofs.Common.{◌∙◌, ap, ℕ, List, ◌++◌, codes, flat_map}
use Rattle.worker_sqlite.specs.Form.{condition_text, quoted}
use Rattle.worker_sqlite.proofs.FormLemmas.{four, then_ok}
use Rattle.worker_sqlite.proofs.form.push_holds.Goals as goal

pub returns : goal.returns
returns c = then_ok c.push_conditions.result
    (four c.args.out.now.items (codes "SELECT 1 FROM ") (quoted c.args.name.now)
    (codes " WHERE milliseconds = ? AND sequence = ?") (flat_map condition_text c.args.columns.now)
    c.extend_from_slice.new.self.items c.push_name.new.out.items c.extend_from_slice-2.new.self.items
    c.push_conditions.new.out.items c.in_ok-extend_from_slice.ensures.items (c.in_ok-push_name.ensures
    ∙ ap (λ (n : List ℕ). c.extend_from_slice.new.self.items ++ quoted n) c.as_bytes.ensures.value)
    c.in_ok-extend_from_slice-2.ensures.items)
    c.push_conditions.ensures
