use Rattle.std.proofs.Common.{◌∙◌, subst, sym}
use Rattle.stream_fill.specs.Placed.{IsPlace}
use Rattle.stream_fill.specs.declared.line_reader.Place.{Place}
use Rattle.stream_fill.proofs.LinesLemmas.{all_too}
use Rattle.stream_fill.proofs.lines.find_places.Goals as goal

pub returns-then-not-branch-clause-places : goal.returns-then-not-branch-clause-places
returns-then-not-branch-clause-places g c all is =
    let known = sym c.pass_lines.ensures.file ∙ is in
    all_too (IsPlace all) c.loop.places.items c.store_place.new.places.items c.place-place.result (c.loop.invariant.places all known)
    (subst (λ (p : Place). IsPlace all p) (sym c.place-place.ensures) (c.loop.reader.is_place all known)) c.in_ok-store_place.ensures

pub loop-preserved : goal.loop-preserved
loop-preserved g c = record {
  file = c.pass_lines.ensures.file ∙ c.loop.invariant.file;
  places = λ all is.
      let known = sym c.pass_lines.ensures.file ∙ is in
      all_too (IsPlace all) c.loop.places.items c.store_place.new.places.items c.place-place.result (c.loop.invariant.places all known)
      (subst (λ (p : Place). IsPlace all p) (sym c.place-place.ensures) (c.loop.reader.is_place all known)) c.in_ok-store_place.ensures;
}
