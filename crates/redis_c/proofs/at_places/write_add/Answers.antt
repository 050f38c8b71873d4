use Rattle.std.proofs.Common.{◌≡◌, ◌∷◌, ◌∙◌, [], List, ℕ, ap, sym, codes, rules}
use Rattle.std.specs.List.{flat_map}
use Rattle.std.proofs.lemmas.List.Folds.{flat_map-map}
use Rattle.stream_commands.specs.NonEmpty.{all}
use Rattle.redis_c.specs.Commands.{add_args}
use Rattle.redis_c.specs.declared.argument.Argument.{Argument}
use Rattle.redis_c.proofs.PackingLemmas.{packed_of, texts_of}
use Rattle.redis_c.proofs.at_places.write_add.Goals as goal

pub returns-in-Some : goal.returns-in-Some
returns-in-Some c =
    let key = c.args.key.now in
    let id = c.args.id.now in
    let pair : List ℕ × List ℕ → List (List ℕ) = λ field. field.0 ∷ field.1 ∷ [] in
    let listed : all c.in-Some.fields ≡ c.in-Ok.fields.items = search rules in
    packed_of (add_args key id) _ _ c.xadd.result c.write_command.new.out c.write_command.result c.in-Ok.ensures.ok
    (c.xadd.ensures
    ∙ ap
    (λ (fields : List (Argument × Argument)). codes "XADD" ∷ key ∷ id
    ∷ flat_map (λ (field : Argument × Argument). field.0.0.now ∷ field.1.0.now ∷ []) fields) listed
    ∙ ap (λ (args : List (List ℕ)). codes "XADD" ∷ key ∷ id ∷ args) (sym (flat_map-map pair texts_of c.in-Ok.fields.items)))
    c.write_command.ensures
