use Rattle.std.proofs.Common.{◌≡◌, ◌∷◌, ◌++◌, ◌∙◌, [], List, ℕ, map, ap, codes, rules}
use Rattle.std.specs.List.{flat_map}
use Rattle.std.proofs.lemmas.List.{append_assoc}
use Rattle.stream_commands.specs.NonEmpty.{all}
use Rattle.stream_commands.specs.Read.{read_word}
use Rattle.stream_commands.specs.WholeCommands.{read_list}
use Rattle.stream_options.specs.Read.{read_sentence}
use Rattle.redis_c.specs.declared.argument.Argument.{Argument}
use Rattle.redis_c.proofs.PackingLemmas.{packed_of, texts_of, keys_of, ids_of}
use Rattle.redis_c.proofs.option_commands.write_streams_read.Goals as goal

pub returns-in-Some : goal.returns-in-Some
returns-in-Some c =
    let options = c.args.options.now in
    let word = read_word options in
    let sentence = read_sentence options in
    let key : Argument × Argument → List (List ℕ) = λ s. s.0.0.now ∷ [] in
    let id : Argument × Argument → List (List ℕ) = λ s. s.1.0.now ∷ [] in
    let found = c.in-Ok.streams.items in
    let listed : all c.in-Some.streams ≡ found = search rules in
    packed_of (λ streams. read_list (record { options = options; streams = streams })) _ _ c.xread_options.result
    c.write_command.new.out c.write_command.result c.in-Ok.ensures.ok
    (c.xread_options.ensures
    ∙ append_assoc (word ∷ sentence) (codes "STREAMS" ∷ flat_map key (all c.in-Some.streams))
    (flat_map id (all c.in-Some.streams))
    ∙ ap
    (λ (streams : List (Argument × Argument)). word
    ∷ (sentence ++ codes "STREAMS" ∷ (flat_map key streams ++ flat_map id streams))) listed
    ∙ ap (λ (keys : List (List ℕ)). word ∷ (sentence ++ codes "STREAMS" ∷ (keys ++ flat_map id found))) (keys_of found)
    ∙ ap
    (λ (ids : List (List ℕ)). word
    ∷ (sentence ++ codes "STREAMS" ∷ (map (λ s. s.0) (map texts_of found) ++ ids))) (ids_of found))
    c.write_command.ensures
