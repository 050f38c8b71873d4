use Rattle.std.proofs.Common.{arith, ◌≡◌, ◌∙◌, length, sym, take, drop}
use Rattle.std.proofs.lemmas.Grind.{common_steps}
use Rattle.redis_c.proofs.ErrorLemmas.{room_there, text_there, apart}
use Rattle.redis_c.proofs.other.find_error_text.Goals as goal

pub returns-then-ne-clause-found : goal.returns-then-ne-clause-found
returns-then-ne-clause-found c = λ _ le front is.
    let room = room_there c.args.bytes.now front c.args.text.now c.args.len le is in
    let there = text_there c.args.bytes.now front c.args.text.now c.args.len is in
    let start : c.in_ok-start.start ≡ length front = grind (arith, common_steps, room) in
    let found : c.in_ok-there.there.now ≡ take (length c.args.text.now) (drop c.in_ok-start.start c.args.bytes.now) =
    grind (arith, common_steps) in
    apart c.in_ok-there.there.now c.args.text.now (sym c.ne.ensures ∙ c.if-ne.true) (found ∙ (rw start there))
