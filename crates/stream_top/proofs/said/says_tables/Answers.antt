use Rattle.std.proofs.Common.{◌≡◌, ◌∙◌, ◌-◌, ◌^◌, [], IsTrue, List, ap, get_or, map, rules, sym}
use Rattle.std.specs.Borrow.{Bor}
use Rattle.command_lines.specs.Said.{IsNumberOf}
use Rattle.command_lines.specs.Words.{Text}
use Rattle.stream_top.specs.Measured.{name_of}
use Rattle.stream_top.specs.Options.{is_word}
use Rattle.stream_top.proofs.SaidLemmas.{two_names}
use Rattle.stream_top.proofs.said.says_tables.Goals as goal

pub returns : goal.returns
returns c = λ yes.
    let names = c.as_slice.result.now in
    let key = c.args.key.now in
    let none : Bor Text = record { ref_ptr = (0, 0); now = [] } in
    let first : (get_or names 0 none).now ≡ name_of key = search rules in
    let word : IsTrue (is_word c.args.words.now key) = search rules in
    let number : IsNumberOf 0 (2 ^ 32 - 1) (get_or names 1 none).now c.args.rounds = search rules in
    record {
      text = (get_or names 1 none).now;
      names = sym c.in_ok-names.ensures ∙ (ap (λ (ns : List (Bor Text)). map (λ (n : Bor Text). n.now) ns)
          (sym c.as_slice.ensures.value)
          ∙ two_names names none (name_of key) c.in-len2.len_at_least c.in-len2.len_below first);
      word = word;
      number = number;
    }
