use Rattle.std.proofs.Common.{◌≡◌, ◌∷◌, ◌==◌, ◌<◌, ◌-◌, ◌∙◌, [], List, Some, ap, drop, length, map, rules, sym, take}
use Rattle.std.proofs.lemmas.List.{nil_from_length}
use Rattle.std.specs.List.{after_first, before_first, position_or_len}
use Rattle.stream_sqlite.specs.Columns.{column_in, shape_of}
use Rattle.worker_table.specs.declared.row_table.cell.Column.{Column}
use Rattle.stream_sqlite.proofs.ColumnsLemmas.{first_and_more, one_more, only_one}
use Rattle.stream_sqlite.proofs.said.lists.Goals as goal

pub returns-then-is_empty : goal.returns-then-is_empty
returns-then-is_empty c = λ yes.
    let left = c.loop-left.left.now in
    let rest = c.loop-left.rest.now in
    let none : take (length left - 1) (drop 1 left) ≡ [] = nil_from_length _ (search rules) in
    let one : left ≡ c.column-item.result ∷ [] =
    first_and_more left c.column-item.result c.in-len1-up.len_at_least c.column-item.is
    ∙ ap (λ (cs : List Column). c.column-item.result ∷ cs) none in
    let whole : position_or_len (λ b. b == 44) rest ≡ length rest = search rules in
    c.loop-left.invariant.1 (only_one rest (shape_of c.column-item.result) whole (c.is_column.ensures yes)
    ∙ ap (λ (cs : List Column). Some (map shape_of cs)) (sym one))

pub loop-left-preserved : goal.loop-left-preserved
loop-left-preserved c =
    let left = c.loop-left.left.now in
    let rest = c.loop-left.rest.now in
    let column = c.column-item.result in
    let more = take (length left - 1) (drop 1 left) in
    let inside : position_or_len (λ b. b == 44) rest < length rest = search rules in
    let front : c.in-Some.part.now ≡ before_first (λ b. b == 44) rest = search rules in
    let back : c.in-Some.behind.now ≡ after_first (λ b. b == 44) rest = search rules in
    let is : column_in c.in-Some.part.now ≡ Some (shape_of column) = search rules in (
      search rules,
      λ later. c.loop-left.invariant.1 (one_more rest c.in-Some.part.now c.in-Some.behind.now (shape_of column)
          (map shape_of more) inside front back is later
          ∙ ap (λ (cs : List Column). Some (map shape_of cs))
          (sym (first_and_more left column c.in-len1-up.len_at_least c.column-item.is))),
    )
