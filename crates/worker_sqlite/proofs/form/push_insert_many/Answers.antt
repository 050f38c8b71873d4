use Rattle.std.proofs.Common.{◌∙◌, ap, ℕ, List, ◌++◌, codes}
use Rattle.worker_sqlite.specs.Form.{more_places_text, places_text, quoted}
use Rattle.worker_sqlite.proofs.FormLemmas.{five, then_ok}
use Rattle.worker_sqlite.proofs.form.push_insert_many.Goals as goal

pub returns : goal.returns
returns c = then_ok c.push_more_places.result
    (five c.args.out.now.items (codes "INSERT INTO ") (quoted c.args.name.now) (codes " VALUES ")
    (places_text c.args.width) (more_places_text c.args.width 49) c.extend_from_slice.new.self.items
    c.push_name.new.out.items c.extend_from_slice-2.new.self.items c.push_places.new.out.items
    c.push_more_places.new.out.items c.in_ok-extend_from_slice.ensures.items (c.in_ok-push_name.ensures
    ∙ ap (λ (n : List ℕ). c.extend_from_slice.new.self.items ++ quoted n) c.as_bytes.ensures.value)
    c.in_ok-extend_from_slice-2.ensures.items c.in_ok-push_places.ensures)
    c.push_more_places.ensures
