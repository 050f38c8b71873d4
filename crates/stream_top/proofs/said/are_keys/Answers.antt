use Rattle.std.proofs.Common.{◌≡◌, ◌-◌, ◌<◌, [], IsTrue, drop, get_or, length, rules, take}
use Rattle.std.specs.Borrow.{Bor}
use Rattle.command_lines.specs.Words.{Text}
use Rattle.stream_top.specs.Measured.{name_of}
use Rattle.stream_top.specs.Options.{is_word}
use Rattle.stream_top.proofs.SaidLemmas.{first_and_more, zip_more}
use Rattle.stream_top.proofs.said.are_keys.Goals as goal

pub loop-name-preserved : goal.loop-name-preserved
loop-name-preserved c = λ later.
    let words = c.args.words.now in
    let names = c.args.names.now in
    let left = c.loop-name.left.now in
    let i = c.loop-name.name-index in
    let key = c.key-item.result in
    let none : Bor Text = record { ref_ptr = (0, 0); now = [] } in
    let within : i < length names = search rules in
    let named : name_of key ≡ (get_or names i none).now = search rules in
    let word : IsTrue (is_word words key) = search rules in
    c.loop-name.invariant (zip_more words names i none key left (take (length left - 1) (drop 1 left)) within
    (first_and_more left key c.in-len1-up.len_at_least c.key-item.is) (record { named = named; word = word }) later)
