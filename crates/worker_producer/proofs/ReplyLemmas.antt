-- Replies, counted and looked at one by one.
use Rattle.std.proofs.Common.{◌≡◌, ◌≢◌, ℕ, suc, Bool, true, false, ◌&&◌, List, [], ◌∷◌, length, map, refl, ap, sym, ◌∙◌}
use Rattle.std.proofs.Common.{Option, Some, None, subst}
use Rattle.std.proofs.lemmas.Bool.{eq-eqb, ne_eqb}
use Rattle.std.specs.Prelude.{Result, Ok, Err, OnOk, IfErr, nat_eq}
use Rattle.std.specs.List.{list_all}
use Rattle.redis_resp.specs.Tree.{trees, array}
use Rattle.redis_resp.specs.Value.{tree}
use Rattle.redis_resp.specs.declared.value.Value.{Value}
use Rattle.redis_wire.specs.Reply as wire
use Rattle.redis_wire.specs.Reply.{answer, answer_list, AnswerList}
use Rattle.redis_wire.specs.declared.reply.Reply.{Reply}
use Rattle.worker_producer.specs.Replies.{value_count, are_ids, is_id, is_ids, is_none, not_standing, reply_count}
use Rattle.worker_producer.specs.Unheard.{ByCount, IsOfFirst}
use Rattle.worker_producer.specs.declared.error.FeedError.{FeedError}
use Rattle.worker_producer.specs.declared.error.FeedError.TheVariants as causes

pub values_counted : (vs : List Value) → value_count (trees (map tree vs)) ≡ length vs
values_counted [] = refl
values_counted (v ∷ vs) = ap suc (values_counted vs)

pub values_seen : (vs : List Value) → are_ids (trees (map tree vs)) ≡ list_all (λ v. is_id (tree v)) vs
values_seen [] = refl
values_seen (v ∷ vs) = ap (λ b. is_id (tree v) && b) (values_seen vs)

pub replies_counted : (rs : List Reply) → reply_count (answer_list (map answer rs)) ≡ length rs
replies_counted [] = refl
replies_counted (r ∷ rs) = ap suc (replies_counted rs)

same_number : (a b : ℕ) → a ≡ b → nat_eq a b ≡ true
same_number a b e = eq-eqb a b e

other_number : (a b : ℕ) → a ≢ b → nat_eq a b ≡ false
other_number a b e = ne_eqb a b e

-- as many values as records
pub as_many_values : (n : ℕ) (vs : List Value) → length vs ≡ n
    → list_all (λ v. is_id (tree v)) vs ≡ is_ids n (array (trees (map tree vs)))
as_many_values n vs e =
    sym (values_seen vs)
    ∙ ap (λ b. b && are_ids (trees (map tree vs))) (sym (same_number _ n (values_counted vs ∙ e)))

-- or not
pub other_values : (n : ℕ) (vs : List Value) → length vs ≢ n → false ≡ is_ids n (array (trees (map tree vs)))
other_values n vs e =
    ap (λ b. b && are_ids (trees (map tree vs)))
    (sym (other_number _ n (λ (same : value_count (trees (map tree vs)) ≡ n). e (sym (values_counted vs) ∙ same))))

pub as_many_replies : (n : ℕ) (rs : List Reply) → length rs ≡ n
    → nat_eq (reply_count (answer_list (map answer rs))) n ≡ true
as_many_replies n rs e = same_number _ n (replies_counted rs ∙ e)

pub other_replies : (n : ℕ) (rs : List Reply) → length rs ≢ n
    → nat_eq (reply_count (answer_list (map answer rs))) n ≡ false
other_replies n rs e =
    other_number _ n (λ (same : reply_count (answer_list (map answer rs)) ≡ n). e (sym (replies_counted rs) ∙ same))

-- there are not as many replies as records
pub miscounted : (b : Bool) (xs : AnswerList) → b ≡ false
    → ((b && is_none (not_standing xs)) ≡ false) × ByCount b xs causes.NotAnAnswer
miscounted b xs e =
    subst (λ c. ((c && is_none (not_standing xs)) ≡ false) × ByCount c xs causes.NotAnAnswer) (sym e) (refl, refl)

-- there are this number, and each is of a record in the stream
pub all_fine : {A E : Type 0} (r : Result A E) (b : Bool) (xs : AnswerList) → b ≡ true
    → OnOk r (not_standing xs ≡ None) → OnOk r ((b && is_none (not_standing xs)) ≡ true)
all_fine (Ok x) b xs e none = subst (λ c. (c && is_none (not_standing xs)) ≡ true) (sym e) (ap is_none none)
all_fine (Err x) b xs e none = tt

-- or the first one that is not is reported
first_told : (b : Bool) (xs : AnswerList) (x : FeedError) → b ≡ true → IsOfFirst (not_standing xs) x
    → ((b && is_none (not_standing xs)) ≡ false) × ByCount b xs x
first_told b xs x e told =
    subst (λ c. ((c && is_none (not_standing xs)) ≡ false) × ByCount c xs x) (sym e) (by (not_standing xs) told, told)
  where
    by : (o : Option wire.Answer) → IsOfFirst o x → is_none o ≡ false
    by None t = absurd t
    by (Some a) t = refl

pub first_is_told : {A : Type 0} (r : Result A FeedError) (b : Bool) (xs : AnswerList) → b ≡ true
    → IfErr r (IsOfFirst (not_standing xs))
    → IfErr r (λ x. ((b && is_none (not_standing xs)) ≡ false) × ByCount b xs x)
first_is_told (Ok y) b xs e told = tt
first_is_told (Err x) b xs e told = first_told b xs x e told
