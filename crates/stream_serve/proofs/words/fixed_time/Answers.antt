use Rattle.std.proofs.Common.{◌≡◌, ◌+◌, ◌++◌, ◌∷◌, Option, [], arith, map, string_bytes, subst, sym, take, ℕ}
use Rattle.std.proofs.lemmas.Grind.{common_steps}
use Rattle.stream_serve.specs.Words.{FixesTime}
use Rattle.stream_serve.proofs.WordsLemmas.{number_word, other_word}
use Rattle.stream_serve.proofs.words.fixed_time.Goals.{in-Ok, in_default}
use Rattle.stream_serve.proofs.words.fixed_time.Goals as goal

pub loop-word-preserved : goal.loop-word-preserved
loop-word-preserved c =
    let words = c.args.words.now in
    let i = c.loop-word.word-index in
    let word = string_bytes c.word-item.result in
    let before = map string_bytes (take i words) in
    let more : map string_bytes (take (i + 1) words) ≡ before ++ word ∷ [] = grind (arith, common_steps) in
    let fixes : Option ℕ → Type 0 = λ time. FixesTime (before ++ word ∷ []) time in
    rw more
    (elim c.match-parse.branch [
      | in-Ok w ↦
          let parsed = rw c.as_str.ensures.value at w.in-Ok.ensures.value.0 in
          subst fixes (sym w.fixed-is) (number_word before word w.in-Ok.time parsed.0 parsed.1)
      | in_default w ↦
          let parsed = rw c.as_str.ensures.value at w.in_default.ensures.value.0 in
          subst fixes (sym w.fixed-is) (other_word before word c.loop-word.fixed c.loop-word.invariant parsed)
    ])
