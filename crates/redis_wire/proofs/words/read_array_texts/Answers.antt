use Rattle.std.proofs.Common.{◌∙◌}
use Rattle.std.proofs.lemmas.Result.{IfOk-weaker}
use Rattle.redis_wire.proofs.WordsLemmas.{words_of_array}
use Rattle.redis_wire.proofs.words.read_array_texts.Goals as goal

pub returns-in-Array : goal.returns-in-Array
returns-in-Array c =
    let same = words_of_array c.args.v c.in-Array.values c.in-Array.is in
    IfOk-weaker c.read_texts.result _ _ (λ words e. e ∙ same) c.read_texts.ensures
