use Rattle.std.proofs.Common.{◌≡◌, ◌∷◌, [], List, codes, false, refl, rules, subst}
use Rattle.std.proofs.lemmas.List.{nil_from_length}
use Rattle.std.specs.Str.{bytes_eq}
use Rattle.worker_sqlite.specs.Form.{IsFormOf}
use Rattle.worker_table.specs.declared.row_table.cell.Column.{Column}
use Rattle.worker_table.specs.declared.row_table.cell.Kind.TheVariants.{Text}
use Rattle.stream_sqlite.proofs.FormLemmas.{of_fields}
use Rattle.stream_sqlite.proofs.open.make_form.Goals as goal

pub returns : goal.returns
returns c =
    let name = c.args.name.now in
    let column : Column = record { name = c.in_ok-from_str.field-0; kind = Text; optional = false } in
    let none : c.args.columns.now ≡ [] = nil_from_length _ (search rules) in
    let other : bytes_eq name (codes "entries") ≡ false = search rules in
    let items : c.deref.result.now ≡ column ∷ [] = search rules in
    of_fields name c.args.columns.now column c.in_ok-of-2.field-0 none other
    (record { name = search rules; kind = refl; optional = refl })
    (subst (λ (cs : List Column). IsFormOf name cs c.in_ok-of-2.field-0) items c.in_ok-of-2.ensures)
