use Rattle.std.proofs.Common.{◌/◌, subst, sym}
use Rattle.stream_fill.specs.Placed.{IsPlace}
use Rattle.stream_fill.specs.declared.line_reader.Place.{Place}
use Rattle.stream_fill.proofs.lines.seek_line.Goals as goal

pub seek-requires : goal.seek-requires
seek-requires g c all is =
    let at = c.in-Some.ensures.lookup in
    subst (λ (p : Place). IsPlace all p) (sym at.1) (c.requires all is (c.args.number / 65536) c.in-Some.place.now at.3.0)
