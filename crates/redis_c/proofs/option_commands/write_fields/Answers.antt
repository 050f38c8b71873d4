use Rattle.std.proofs.Common.{◌≡◌, ◌∷◌, ◌++◌, ◌∙◌, [], List, ℕ, ap, sym, codes, rules}
use Rattle.std.specs.List.{flat_map}
use Rattle.std.proofs.lemmas.List.Folds.{flat_map-map}
use Rattle.stream_commands.specs.NonEmpty.{all}
use Rattle.stream_options.specs.Add.{add_sentence}
use Rattle.redis_c.specs.Commands.{add_options_args}
use Rattle.redis_c.specs.declared.argument.Argument.{Argument}
use Rattle.redis_c.proofs.PackingLemmas.{packed_of, texts_of}
use Rattle.redis_c.proofs.option_commands.write_fields.Goals as goal

pub returns-in-Some : goal.returns-in-Some
returns-in-Some c =
    let key = c.args.key.now in
    let id = c.args.id.now in
    let options = c.args.options.now in
    let pair : List ℕ × List ℕ → List (List ℕ) = λ field. field.0 ∷ field.1 ∷ [] in
    let listed : all c.in-Some.fields ≡ c.in-Ok.fields.items = search rules in
    packed_of (add_options_args key id options) _ _ c.xadd_options.result c.write_command.new.out c.write_command.result
    c.in-Ok.ensures.ok
    (c.xadd_options.ensures
    ∙ ap
    (λ (fields : List (Argument × Argument)). codes "XADD" ∷ key
    ∷ (add_sentence options ++ id
    ∷ flat_map (λ (field : Argument × Argument). field.0.0.now ∷ field.1.0.now ∷ []) fields)) listed
    ∙ ap (λ (args : List (List ℕ)). codes "XADD" ∷ key ∷ (add_sentence options ++ id ∷ args))
    (sym (flat_map-map pair texts_of c.in-Ok.fields.items)))
    c.write_command.ensures
