-- The output made of the replies to lines.
use Rattle.std.proofs.Common.{◌≡◌, ℕ, List, [], ◌∷◌, ◌++◌, length, refl, sym, ◌∙◌, ap, subst, arith, append_assoc}
use Rattle.std.proofs.Common.{append-nil}
use Rattle.std.proofs.Common.{suc, ◌≤◌, ◌+◌, All, length-append, vec_len, vec_capacity}
use Rattle.std.specs.Global.{Vec}
use Rattle.stream_option_parsing.specs.Answer.{Reply, IsAnswer, IsReply, AnswersLines, reply_line}
use Rattle.stream_option_parsing.specs.Answer.{AppendsAnswer, IsUnknownWord, HasRoomFor, NeedsNoMemory}
use Rattle.stream_option_parsing.specs.Lines.{lines_of, parts_of}
use Rattle.stream_option_parsing.proofs.OneAnswer.{one_reply}

-- the output for a rest that begins with this line
answer_more : (rest line after tail : List ℕ) (reply : Reply) → lines_of rest ≡ line ∷ lines_of after
    → IsReply (parts_of line) reply → IsAnswer after tail
    → IsAnswer rest (reply_line reply ++ tail)
answer_more rest line after tail reply e r a =
    subst (λ lines. AnswersLines lines (reply_line reply ++ tail)) (sym e) (reply, tail, r, refl, a)

-- one more line has its reply
pub answers_more : (all old out new rest line after : List ℕ) (reply : Reply)
    → ((tail : List ℕ) → IsAnswer rest tail → AppendsAnswer all old (out ++ tail))
    → lines_of rest ≡ line ∷ lines_of after → IsReply (parts_of line) reply → new ≡ out ++ reply_line reply
    → (tail : List ℕ) → IsAnswer after tail → AppendsAnswer all old (new ++ tail)
answers_more all old out new rest line after reply so_far e r n tail a =
    subst (λ t. AppendsAnswer all old t) (sym (append_assoc out (reply_line reply) tail) ∙ ap (λ t. t ++ tail) (sym n))
    (so_far (reply_line reply ++ tail) (answer_more rest line after tail reply e r a))

-- all lines have their replies
pub answers_all : (all old out rest : List ℕ)
    → ((tail : List ℕ) → IsAnswer rest tail → AppendsAnswer all old (out ++ tail))
    → length rest ≡ 0 → AppendsAnswer all old out
answers_all all old out [] so_far none = subst (λ t. AppendsAnswer all old t) (append-nil out) (so_far [] refl)
answers_all all old out (b ∷ rest) so_far none = absurd (omega arith)

-- a line that is left is such a word
pub word_next : (rest line after : List ℕ) (output : Vec ℕ) → lines_of rest ≡ line ∷ lines_of after
    → NeedsNoMemory rest output → IsUnknownWord line
word_next rest line after output e n = subst (λ lines. All IsUnknownWord lines) e n.0 0 line (omega arith)

-- the room is for the reply to the line, and for the output for the lines after it
room_next : (rest line after : List ℕ) (output : Vec ℕ) (reply : Reply) → lines_of rest ≡ line ∷ lines_of after
    → IsReply (parts_of line) reply → HasRoomFor rest output
    → (tail : List ℕ) × IsAnswer after tail
    × (vec_len output + length (reply_line reply) + length tail ≤ vec_capacity output)
room_next rest line after output reply e r n =
    let a = subst (λ lines. AnswersLines lines n.0) e n.1 in
    let same : length (reply_line a.0) ≡ length (reply_line reply) =
    ap (λ t. length (reply_line t)) (one_reply (parts_of line) a.0 reply a.2 r) in
    (a.1, a.4, omega (arith, n.2, same, ap length a.3, length-append (reply_line a.0) a.1))

-- there is room for its reply
pub word_fits : (rest line after : List ℕ) (output : Vec ℕ) (reply : Reply) → lines_of rest ≡ line ∷ lines_of after
    → IsReply (parts_of line) reply → NeedsNoMemory rest output
    → vec_len output + length (reply_line reply) ≤ vec_capacity output
word_fits rest line after output reply e r n =
    let a = room_next rest line after output reply e r n.1 in
    omega (arith, a.2)

-- and then for those that are left
pub words_fit : (rest line after : List ℕ) (output new : Vec ℕ) (reply : Reply) → lines_of rest ≡ line ∷ lines_of after
    → IsReply (parts_of line) reply → vec_len new ≡ vec_len output + length (reply_line reply)
    → vec_capacity output ≤ vec_capacity new → NeedsNoMemory rest output → NeedsNoMemory after new
words_fit rest line after output new reply e r len capacity n =
    let a = room_next rest line after output reply e r n.1 in
    let words : All IsUnknownWord (lines_of after) =
    λ k d lt. subst (λ lines. All IsUnknownWord lines) e n.0 (suc k) d (omega arith) in
    (words, (a.0, a.1, omega (arith, a.2, len, capacity)))
