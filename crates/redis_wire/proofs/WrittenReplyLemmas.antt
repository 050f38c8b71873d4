-- Replies that are written one after the other.
use Rattle.std.proofs.Common.{◌≡◌, ℕ, ◌+◌, suc, List, [], ◌∷◌, ◌++◌, length, map, Vec, Global, String, refl, sym, ap}
use Rattle.std.proofs.Common.{◌∙◌, append_assoc, append-nil, rules, arith, string_bytes}
use Rattle.std.proofs.lemmas.List.{length-map}
use Rattle.redis_wire.specs.declared.kind.GroupKind.{GroupKind}
use Rattle.redis_wire.specs.declared.written.Protocol.{Protocol}
use Rattle.redis_wire.specs.declared.reply.Reply.{Reply, the_lemmas}
use Rattle.redis_wire.specs.declared.reply.Reply.TheVariants as replies
use Rattle.redis_wire.specs.Reply.{Answer, group, pushed, answer, answer_list}
use Rattle.redis_wire.specs.Packed.{bulk_bytes}
use Rattle.redis_wire.specs.WrittenReply.{group_head, push_head, answer_count, answer_bytes, answers_bytes}

answer_count_is : (xs : List Answer) → answer_count (answer_list xs) ≡ length xs
answer_count_is [] = refl
answer_count_is (a ∷ xs) = let e = answer_count_is xs in omega (arith, e)

pub answers_push : (p : Protocol) (xs : List Answer) (a : Answer)
    → answers_bytes p (answer_list (xs ++ a ∷ [])) ≡ answers_bytes p (answer_list xs) ++ answer_bytes p a
answers_push p [] a = append-nil (answer_bytes p a)
answers_push p (b ∷ xs) a = ap (λ (z : List ℕ). answer_bytes p b ++ z) (answers_push p xs a)
    ∙ sym (append_assoc (answer_bytes p b) (answers_bytes p (answer_list xs)) (answer_bytes p a))

count_answers : (rs : List Reply) (n : ℕ) → n ≡ length rs → n ≡ answer_count (answer_list (map answer rs))
count_answers rs n len = len ∙ sym (length-map rs answer) ∙ sym (answer_count_is (map answer rs))

answer-Group : (k : GroupKind) (rs : Vec Reply Global)
    → answer (replies.Group k rs) ≡ group k (answer_list (map answer rs.items))
answer-Group k rs = search (rules, the_lemmas)

answer-Push : (k : String Global) (rs : Vec Reply Global)
    → answer (replies.Push k rs) ≡ pushed (string_bytes k) (answer_list (map answer rs.items))
answer-Push k rs = search (rules, the_lemmas)

module _ (p : Protocol) (x : Reply) (n : ℕ) where
  pub group_is : (k : GroupKind) (rs : Vec Reply Global) → x ≡ replies.Group k rs → n ≡ length rs.items
      → group_head p k n ++ answers_bytes p (answer_list (map answer rs.items)) ≡ answer_bytes p (answer x)
  group_is k rs is len =
      ap (λ (m : ℕ). group_head p k m ++ answers_bytes p (answer_list (map answer rs.items)))
      (count_answers rs.items n len)
      ∙ ap (answer_bytes p) (sym (answer-Group k rs)) ∙ ap (λ (y : Reply). answer_bytes p (answer y)) (sym is)

  pub pushed_is : (k : String Global) (rs : Vec Reply Global) → x ≡ replies.Push k rs → n ≡ length rs.items
      → (push_head p (n + 1) ++ bulk_bytes (string_bytes k)) ++ answers_bytes p (answer_list (map answer rs.items))
      ≡ answer_bytes p (answer x)
  pushed_is k rs is len =
      let members = answers_bytes p (answer_list (map answer rs.items)) in
      append_assoc (push_head p (n + 1)) (bulk_bytes (string_bytes k)) members
      ∙ (let e = count_answers rs.items n len in
      let more : n + 1 ≡ suc (answer_count (answer_list (map answer rs.items))) = omega (arith, e) in
      ap (λ (m : ℕ). push_head p m ++ (bulk_bytes (string_bytes k) ++ members)) more)
      ∙ ap (answer_bytes p) (sym (answer-Push k rs)) ∙ ap (λ (y : Reply). answer_bytes p (answer y)) (sym is)
