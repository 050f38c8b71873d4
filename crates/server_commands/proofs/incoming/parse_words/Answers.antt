use Rattle.std.proofs.Common.{◌≡◌, ◌++◌, ◌∷◌, [], map, rules, arith}
use Rattle.std.proofs.lemmas.Result.{err_from_is_err_and}
use Rattle.server_commands.specs.Incoming.{words_at}
use Rattle.server_commands.proofs.CommandLemmas.{one_more, no_more, is_done, word_pushed}
use Rattle.server_commands.proofs.incoming.parse_words.Goals as goal

pub returns-in_err-word-clause-gives : goal.returns-in_err-word-clause-gives
returns-in_err-word-clause-gives c =
    let p = err_from_is_err_and c.from_residual.result c.from_residual.ensures.1 in
    rw (p.1, p.2) (no_more (map (λ w. w.items) c.loop-left.words.items) c.loop-left.rest.now
    (words_at c.args.count c.args.bytes.now) c.in_err-word.field-0.0 c.loop-left.left c.loop-left-test.true
    c.in_err-word.ensures.gives c.loop-left.invariant.so_far)

pub loop-left-preserved : goal.loop-left-preserved
loop-left-preserved c =
    let pushed : c.push.new.self.items ≡ c.loop-left.words.items ++ c.in_ok-from_slice.field-0 ∷ [] = search rules in
    let same : c.in_ok-from_slice.field-0.items ≡ c.in_ok-word.word.now = search rules in
    record {
      so_far =
          rw (word_pushed c.loop-left.words.items c.push.new.self.items c.in_ok-from_slice.field-0
          c.in_ok-word.word.now pushed same) (one_more (map (λ w. w.items) c.loop-left.words.items) c.loop-left.rest.now
          (words_at c.args.count c.args.bytes.now) c.in_ok-word.word.now c.loop-left.left c.in_ok-word.behind.now
          c.loop-left-test.true c.in_ok-word.ensures.gives c.loop-left.invariant.so_far);
      within = omega (arith, c.in_ok-word.ensures.within, c.loop-left.invariant.within);
    }

pub returns-clause-gives : goal.returns-clause-gives
returns-clause-gives c = is_done (map (λ w. w.items) c.loop-left.words.items) c.loop-left.rest.now
    (words_at c.args.count c.args.bytes.now) c.loop-left.left c.loop-left-test.false c.loop-left.invariant.so_far
