-- Handlers whose table is known.
use Rattle.std.proofs.Common.{◌≡◌, ◌∙◌, ◌⊎◌, sym, subst, List, [], Some, append-nil}
use Rattle.std.proofs.lemmas.Option.{same_Some}
use Rattle.worker_table.specs.declared.row_table.cell.Column.{Column}
use Rattle.worker_table.specs.RowTable.Rows.{KeysApart, Row}
use Rattle.model_server.specs.Group.Law.{Among}
use Rattle.model_server.specs.Group.Worker.{Id}
use Rattle.worker.specs.Session.{Standing}
use Rattle.worker.specs.declared.state.Settings.{Settings}
use Rattle.worker_table.specs.Acknowledged.{IsThere, Reaches, crashes}
use Rattle.worker_table.specs.Kept.{Kept}
use Rattle.worker_table.specs.Lived.{newborn_with}
use Rattle.worker_table.proofs.AcknowledgedLemmas.{law_holds}

module _ (settings : Settings) (columns : List Column) (gone acknowledged : List Id) where
  -- a crash that leaves just the committed rows
  pub after_crash : (first rows left : List Row) (w : Standing Kept) (deleted : List Id)
      → Reaches settings columns gone first w deleted acknowledged → w.history.committed ≡ Some rows → left ≡ rows
      → Reaches settings columns gone left (newborn_with settings (columns, Some left)) [] acknowledged
  after_crash first rows left w deleted r known is =
      let s = law_holds settings columns gone first w deleted acknowledged r in
      let same : s.rows ≡ left = same_Some s.rows rows (sym s.committed ∙ known) ∙ sym is in
      crashes first w deleted acknowledged rows left r known ([], is ∙ sym (append-nil rows)) (subst KeysApart same s.apart)

  -- what is there after it
  pub there_after : (left : List Row)
      → Reaches settings columns gone left (newborn_with settings (columns, Some left)) [] acknowledged
      → (id : Id) → Among id acknowledged → IsThere left id ⊎ Among id gone
  there_after left r id among =
      let s = law_holds settings columns gone left (newborn_with settings (columns, Some left)) [] acknowledged r in
      let same : s.rows ≡ left = sym (same_Some left s.rows s.committed) in
      subst (λ (rows : List Row). IsThere rows id ⊎ Among id gone) same (s.there id among)
