use Rattle.std.proofs.Common.{◌≡◌, ◌++◌, ◌∷◌, ◌∙◌, [], ap, sym, map, option_map, arith, List, ℕ}
use Rattle.std.proofs.lemmas.Grind.{common_steps}
use Rattle.redis_resp.specs.Reading.{both_read}
use Rattle.redis_c.specs.Placed.{text_at}
use Rattle.redis_c.specs.declared.argument.Argument.{Argument}
use Rattle.stream_in_place.specs.declared.places.FieldPlace.{FieldPlace}
use Rattle.redis_c.proofs.PlacedLemmas.{any_field, place_read, both_there}
use Rattle.redis_c.proofs.placed.fields_at.Goals as goal

pub loop-place-preserved : goal.loop-place-preserved
loop-place-preserved c =
    let texts : Argument × Argument → List ℕ × List ℕ = λ field. (field.0.0.now, field.1.0.now) in
    let bytes = c.args.bytes.now in
    let pushed : map texts c.push.new.self.items
    ≡ map texts c.loop-place.fields.items ++ (c.in-Some-Some.name.0.now, c.in-Some-Some.value.0.now) ∷ [] =
    grind (arith, common_steps) in
    place_read (λ (field : FieldPlace). both_read (text_at bytes field.name) (text_at bytes field.value))
    c.args.places.now c.loop-place.place-index any_field _ _ (c.in-Some-Some.name.0.now, c.in-Some-Some.value.0.now)
    c.loop-place-test.true
    (both_there _ _ _ _ (sym c.text_at.ensures ∙ ap (option_map (λ (text : Argument). text.0.now)) c.in-Some-Some.is-0)
    (sym c.text_at-in-loop-place.ensures
    ∙ ap (option_map (λ (text : Argument). text.0.now)) c.in-Some-Some.is-1)) pushed c.loop-place.invariant
