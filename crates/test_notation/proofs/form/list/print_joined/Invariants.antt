use Rattle.std.proofs.Common.{◌≡◌, ◌++◌, string_bytes, take}
use Rattle.std.specs.Prelude.{flat_map}
use Rattle.test_notation.proofs.form.list.print_joined.Given as goal

abbrev pub invariant-loop-other : goal.invariant-loop-other
invariant-loop-other g l =
    string_bytes l.line
    ≡ string_bytes l.initial.line ++ flat_map (λ y. l.separator ++ g.T.PrintedForm.form y) (take l.other-index l.others)
