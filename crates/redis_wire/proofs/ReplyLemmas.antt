-- Errors in replies, and values as replies.
use Rattle.std.proofs.Common.{◌≡◌, List, [], ◌∷◌, ◌++◌, map, Result, Ok, rules, refl, ap, sym, ◌∙◌}
use Rattle.std.proofs.lemmas.List.{map_push}
use Rattle.redis_resp.specs.Value.{tree}
use Rattle.redis_resp.specs.declared.value.Value.{Value}
use Rattle.redis_wire.specs.declared.reply.Reply.{Reply, the_lemmas}
use Rattle.redis_wire.specs.declared.reply.Reply.TheVariants as replies
use Rattle.redis_wire.specs.Reading.{Halt}
use Rattle.redis_wire.specs.Reply.{Answer, answer, value, answer_list, first_error, error_of_last}

pub answer-Value : (v : Value) → answer (replies.Value v) ≡ value (tree v)
answer-Value v = search (rules, the_lemmas)

-- a result that is a value is the reply of that value
pub says_value : (r : Result Answer Halt) (v : Value) → r ≡ Ok (value (tree v)) → r ≡ Ok (answer (replies.Value v))
says_value r v e = e ∙ ap (λ (a : Answer). Ok a) (sym (answer-Value v))

last_error : (xs : List Answer) (a : Answer) → error_of_last (answer_list (xs ++ a ∷ [])) ≡ first_error a
last_error [] a = refl
last_error (x ∷ []) a = refl
last_error (x ∷ y ∷ xs) a = last_error (y ∷ xs) a

pub error_of_last_is : (all rest : List Reply) (r : Reply) → all ≡ rest ++ r ∷ []
    → error_of_last (answer_list (map answer all)) ≡ first_error (answer r)
error_of_last_is all rest r split = rw (split, map_push answer rest r) (last_error (map answer rest) (answer r))
