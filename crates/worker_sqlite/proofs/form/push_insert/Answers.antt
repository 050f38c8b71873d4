use Rattle.std.proofs.Common.{◌∙◌, ap, ℕ, List, ◌++◌, codes, flat_map}
use Rattle.worker_sqlite.specs.Form.{value_text, quoted}
use Rattle.worker_sqlite.proofs.FormLemmas.{five}
use Rattle.worker_sqlite.proofs.form.push_insert.Goals as goal

pub returns : goal.returns
returns c = five c.args.out.now.items (codes "INSERT INTO ") (quoted c.args.name.now) (codes " VALUES (?, ?")
    (flat_map value_text c.args.columns.now) (codes ") ON CONFLICT DO NOTHING")
    c.extend_from_slice.new.self.items c.push_name.new.out.items c.extend_from_slice-2.new.self.items
    c.push_values.new.out.items c.extend_from_slice-3.new.self.items c.in_ok-extend_from_slice.ensures.items
    (c.in_ok-push_name.ensures
    ∙ ap (λ (n : List ℕ). c.extend_from_slice.new.self.items ++ quoted n) c.as_bytes.ensures.value) c.in_ok-extend_from_slice-2.ensures.items c.in_ok-push_values.ensures
    c.in_ok-extend_from_slice-3.ensures.items
