use Rattle.std.proofs.Common.{◌≡◌, ◌∙◌, ◌∷◌, [], IsTrue, List, ap, get_or, map, rules, string_bytes, sym}
use Rattle.std.specs.Borrow.{Bor}
use Rattle.clap.specs.Words.{found_of}
use Rattle.command_lines.specs.Words.{Text}
use Rattle.command_lines.proofs.SaidLemmas.{one_name}
use Rattle.stream_sqlite.proofs.SaidLemmas.{are_apart}
use Rattle.stream_sqlite.proofs.said.says.Goals as goal

pub returns : goal.returns
returns c = λ is.
    let settings : IsTrue c.in_ok-settings.settings = search rules in
    let table : IsTrue c.in_ok-table.table = search rules in
    let dead : IsTrue c.in_ok-dead.dead = search rules in
    let options = c.args.options.now in
    let rest = c.in-Some-len1.field-0.now in
    let none : Bor Text = record { ref_ptr = (0, 0); now = [] } in
    let path : (get_or rest 0 none).now ≡ string_bytes options.path = search rules in
    let last : map (λ (n : Bor Text). n.now) rest ≡ string_bytes options.path ∷ [] =
    one_name rest none (string_bytes options.path) c.in-Some-len1.len_at_least c.in-Some-len1.len_below path in
    let names : map (λ (n : Bor Text). n.now) c.deref.result.now ≡ string_bytes options.settings.key
    ∷ string_bytes options.settings.group ∷ string_bytes options.settings.consumer
    ∷ map (λ (n : Bor Text). n.now) rest = c.in-Some-len1.ensures in
    record {
      names = sym c.in_ok-names.ensures ∙ (ap (λ (ns : List (Bor Text)). map (λ (n : Bor Text). n.now) ns)
          (sym c.deref.ensures.value) ∙ (names ∙ ap (λ (ns : List Text). string_bytes options.settings.key
          ∷ string_bytes options.settings.group ∷ string_bytes options.settings.consumer ∷ ns) last));
      settings = c.in_ok-settings.ensures settings c.requires.settings;
      table = c.in_ok-table.ensures table;
      until_empty = search rules;
      dead = c.in_ok-dead.ensures dead;
      apart = are_apart (found_of c.args.matches.now) options c.requires;
    }
