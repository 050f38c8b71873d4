use Rattle.std.proofs.Common.{◌≡◌, ◌++◌, ◌∷◌, ◌∙◌, [], ap, sym, map, option_map, arith, List, ℕ}
use Rattle.std.proofs.lemmas.Grind.{common_steps}
use Rattle.std.specs.Global.{Vec}
use Rattle.redis_c.specs.Placed.{text_at}
use Rattle.redis_c.specs.declared.argument.Argument.{Argument}
use Rattle.redis_c.proofs.PlacedLemmas.{nowhere, place_read}
use Rattle.redis_c.proofs.placed.texts_at.Goals as goal

pub loop-place-preserved : goal.loop-place-preserved
loop-place-preserved c =
    let bytes_of : Vec ℕ → List ℕ = λ text. text.items in
    let pushed : map bytes_of c.push.new.self.items
    ≡ map bytes_of c.loop-place.texts.items ++ c.in-Ok-from_slice.text.items ∷ [] = grind (arith, common_steps) in
    place_read (text_at c.args.bytes.now) c.args.places.now c.loop-place.place-index nowhere _ _
    c.in-Some.text.0.now c.loop-place-test.true
    (sym c.text_at.ensures ∙ ap (option_map (λ (text : Argument). text.0.now)) c.in-Some.is)
    (pushed
    ∙ ap (λ (text : List ℕ). map bytes_of c.loop-place.texts.items ++ text ∷ []) c.in-Ok-from_slice.ensures.items)
    c.loop-place.invariant
