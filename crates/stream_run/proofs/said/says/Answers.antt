use Rattle.std.proofs.Common.{◌≡◌, ◌<◌, ◌∙◌, [], ◌∷◌, IsTrue, List, ap, arith, length, map, refl, rules, string_bytes, sym}
use Rattle.std.specs.Borrow.{Bor}
use Rattle.command_lines.specs.Words.{Text}
use Rattle.stream_run.proofs.said.says.Goals as goal

-- no more names
no_more : (names : List (Bor Text)) → length names < 1 → map (λ (name : Bor Text). name.now) names ≡ []
no_more [] few = refl
no_more (name ∷ names) few = absurd (omega arith)

pub returns : goal.returns
returns c = λ is.
    let s = c.args.options.now.settings in
    let settings : IsTrue c.in_ok-settings.settings = search rules in
    let pipes : IsTrue c.in_ok-pipes.pipes = search rules in
    record {
      names = sym c.in_ok-names.ensures ∙ (ap (map (λ (name : Bor Text). name.now)) (sym c.deref.ensures.value)
          ∙ (c.in-Some-empty.ensures
          ∙ ap (λ (rest : List Text). string_bytes s.key ∷ string_bytes s.group ∷ string_bytes s.consumer ∷ rest)
          (no_more c.in-Some-empty.field-0.now c.in-Some-empty.len_below)));
      settings = c.in_ok-settings.ensures settings c.requires.settings;
      until_empty = search rules;
      dead = search rules;
      pipes = c.in_ok-pipes.ensures pipes;
    }
