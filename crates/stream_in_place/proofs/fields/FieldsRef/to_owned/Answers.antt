use Rattle.std.proofs.Common.{◌≡◌, ◌≤◌, length, sym, ap, map, true, Some, rules, arith}
use Rattle.std.specs.Str.{is_utf8}
use Rattle.stream_in_place.specs.Placed.{field_in}
use Rattle.stream_in_place.specs.Copied.{NotOwned}
use Rattle.stream_in_place.specs.Sent.{AreTextFields}
use Rattle.stream_in_place.proofs.CopyLemmas.{copy_starts, copy_goes, copy_ends, none_left}
use Rattle.stream_in_place.proofs.GetLemmas.{any_field}
use Rattle.stream_in_place.proofs.NamedLemmas.{next_field, left_starts, left_goes, left_ends, left_stops}
use Rattle.stream_in_place.proofs.fields.FieldsRef.to_owned.Goals as goal

pub loop-place-init : goal.loop-place-init
loop-place-init c = record {
  copied = copy_starts c.self.inside.bytes.now c.self.inside.places.now c.args.self.now c.new-copies.result
      c.self.invariant (sym c.self.view_is) c.new-copies.ensures.empty;
  named = left_starts (λ p. is_utf8 p.0 ≡ true) _ _ c.self.view_is;
}

pub loop-place-preserved : goal.loop-place-preserved
loop-place-preserved c =
    let bytes = c.self.inside.bytes.now in
    let places = c.self.inside.places.now in
    record {
      copied = copy_goes bytes places c.loop-place.place-index any_field c.args.self.now _ _ _ _
          c.loop-place-test.true c.in_ok-name.ensures.name c.in_ok-name.ensures.value c.in_ok-put.ensures
          c.loop-place.invariant.copied;
      named = left_goes (λ p. is_utf8 p.0 ≡ true) _ _ _ _
          (next_field bytes places c.loop-place.place-index any_field c.loop-place-test.true)
          c.in_ok-name.ensures.named c.loop-place.invariant.named;
    }

pub returns-clause-ok : goal.returns-clause-ok
returns-clause-ok c =
    let end : length c.self.inside.places.now ≤ c.loop-place.place-index = omega (arith, c.loop-place-test.false) in
    copy_ends c.self.inside.bytes.now c.self.inside.places.now c.loop-place.place-index c.args.self.now _ end
    c.loop-place.invariant.copied

pub returns-clause-named : goal.returns-clause-named
returns-clause-named c =
    let end : length c.self.inside.places.now ≤ c.loop-place.place-index = omega (arith, c.loop-place-test.false) in
    left_ends (λ p. is_utf8 p.0 ≡ true) _ _
    (ap (map (field_in c.self.inside.bytes.now)) (none_left c.self.inside.places.now c.loop-place.place-index end))
    c.loop-place.invariant.named

pub returns-in_err-name-clause-err : goal.returns-in_err-name-clause-err
returns-in_err-name-clause-err c =
    let stop : NotOwned (AreTextFields (Some c.args.self.now)) c.in_err-name.field-0.0 =
    left_stops (λ p. is_utf8 p.0 ≡ true) _ _ _ _ _
    (next_field c.self.inside.bytes.now c.self.inside.places.now c.loop-place.place-index any_field
    c.loop-place-test.true) c.in_err-name.ensures.err c.loop-place.invariant.named in
    search rules
