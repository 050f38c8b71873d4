use Rattle.std.proofs.Common.{◌≡◌, ◌++◌, ◌∷◌, [], rules, sym, ◌∙◌}
use Rattle.redis_wire.proofs.ReplyLemmas.{error_of_last_is}
use Rattle.redis_wire.proofs.reply.+errors.Goals as goal

pub find_error_in_last-returns-in-Some : goal.find_error_in_last-returns-in-Some
find_error_in_last-returns-in-Some t c =
    let split : c.args.replies.items ≡ c.pop.new.self.items ++ c.in-Some.last ∷ [] = search rules in
    c.find_first_error.ensures ∙ sym (error_of_last_is c.args.replies.items c.pop.new.self.items c.in-Some.last split)
