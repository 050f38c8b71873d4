use Rattle.std.proofs.Common.{◌≡◌, ◌∙◌, rules, None, sym}
use Rattle.std.proofs.lemmas.Result.{IfOk-weaker}
use Rattle.redis_wire.specs.declared.reply.Reply.{the_lemmas}
use Rattle.redis_wire.specs.Reply.{answer}
use Rattle.redis_wire.specs.Words.{words_in}
use Rattle.redis_wire.proofs.WordsLemmas.{are_words, are_unpacked, words_of_value}
use Rattle.redis_wire.proofs.words.command_words.Goals as goal

pub returns-in-Value-clause-words : goal.returns-in-Value-clause-words
returns-in-Value-clause-words c =
    let same = words_of_value c.args.command c.in-Value.value c.in-Value.is in
    IfOk-weaker c.read_array_texts.result _ _ (λ words e. are_words (answer c.args.command) _ (e ∙ same))
    c.read_array_texts.ensures

pub returns-in-Value-clause-packed : goal.returns-in-Value-clause-packed
returns-in-Value-clause-packed c =
    let same = words_of_value c.args.command c.in-Value.value c.in-Value.is in
    IfOk-weaker c.read_array_texts.result _ _
    (λ words e. are_unpacked (answer c.args.command) _ (are_words (answer c.args.command) _ (e ∙ same)))
    c.read_array_texts.ensures

pub returns : goal.returns
returns c =
    let none : words_in (answer c.args.command) ≡ None = search (rules, the_lemmas, c.in_default.not-Value) in
    let are = are_words (answer c.args.command) None (sym none) in
    record { words = are; packed = are_unpacked (answer c.args.command) None are }
