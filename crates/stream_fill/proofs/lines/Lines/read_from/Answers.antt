use Rattle.std.proofs.Common.{◌∙◌, All, List, subst, sym}
use Rattle.stream_fill.specs.Placed.{IsPlace}
use Rattle.stream_fill.specs.declared.line_reader.Place.{Place}
use Rattle.stream_fill.proofs.lines.Lines.read_from.Goals as goal

pub seek_line-requires : goal.seek_line-requires
seek_line-requires g c all is =
    subst (λ (xs : List Place). All (IsPlace all) xs) (sym c.deref.ensures.value) (c.args.self.now.placed all is)

pub invariant_of-self : goal.invariant_of-self
invariant_of-self g c =
    let now = c.args.self.now in
    let same = sym c.seek_line.ensures.file in record {
      placed = λ all is. now.placed all (same ∙ is);
      counted = λ all is. now.counted all (same ∙ is);
      torn = λ all is. now.torn all (same ∙ is);
    }

pub invariant_of-self-2 : goal.invariant_of-self-2
invariant_of-self-2 g c =
    let now = c.args.self.now in
    let same = sym (c.read_records.ensures.file ∙ c.seek_line.ensures.file) in record {
      placed = λ all is. now.placed all (same ∙ is);
      counted = λ all is. now.counted all (same ∙ is);
      torn = λ all is. now.torn all (same ∙ is);
    }
