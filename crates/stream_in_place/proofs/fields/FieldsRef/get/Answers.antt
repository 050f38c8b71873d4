use Rattle.std.proofs.Common.{◌∙◌, sym, ap, option_map, List, ℕ, Bor, Some}
use Rattle.stream_in_place.proofs.GetLemmas.{any_field, each_left, got_it, got_other}
use Rattle.stream_in_place.proofs.fields.FieldsRef.get.Goals as goal
use Rattle.stream_in_place.proofs.fields.FieldsRef.get.Goals.{then-eq, else-eq}

pub loop-place-preserved : goal.loop-place-preserved
loop-place-preserved c =
    let bytes = c.self.inside.bytes.now in
    let fields = c.self.inside.places.now in
    let name = c.args.name.now in
    let text = c.text_in.result.now in
    elim c.if-eq.branch [
      | then-eq w ↦
          record {
            each = each_left bytes name fields c.loop-place.place-index any_field
                (option_map
                (λ v. v.now) c.loop-place.found) _ c.loop-place-test.true c.loop-place.invariant.each
                c.loop-place.invariant.so_far;
            so_far = got_it bytes name fields c.loop-place.place-index _
                (option_map
                (λ v. v.now) c.loop-place.found) _ c.loop-place-test.true c.loop-place.invariant.each
                c.loop-place.invariant.so_far text _ c.text_in.ensures
                (sym c.eq.ensures ∙ w.if-eq.true) (ap (option_map (λ (v : Bor (List ℕ)). v.now)) w.found-is
                ∙ ap Some w.text_in-then-eq.ensures);
          }
      | else-eq w ↦
          record {
            each = each_left bytes name fields c.loop-place.place-index any_field
                (option_map
                (λ v. v.now) c.loop-place.found) _ c.loop-place-test.true c.loop-place.invariant.each
                c.loop-place.invariant.so_far;
            so_far = got_other bytes name fields c.loop-place.place-index _
                (option_map
                (λ v. v.now) c.loop-place.found) _ c.loop-place-test.true c.loop-place.invariant.each
                c.loop-place.invariant.so_far text _ c.text_in.ensures
                (sym c.eq.ensures ∙ w.if-eq.false) (ap (option_map (λ (v : Bor (List ℕ)). v.now)) w.found-is);
          }
    ]
