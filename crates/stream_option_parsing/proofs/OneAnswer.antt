-- An input has at most one output.
use Rattle.std.proofs.Common.{◌≡◌, ℕ, List, [], ◌∷◌, ◌++◌, refl, sym, ◌∙◌, ap, Option, Some, None}
use Rattle.stream_options.proofs.Sentences.{ReadsAlike, alike}
use Rattle.stream_options.proofs.UniqueDecoding.{trim_reads, add_reads, config_reads, autoclaim_reads, claim_reads}
use Rattle.stream_options.proofs.UniqueDecoding.{read_alike, nack_reads}
use Rattle.stream_option_parsing.specs.Answer.{OptionType, trim, add, config, autoclaim, claim, read, nack, Reply, unknown}
use Rattle.stream_option_parsing.specs.Answer.{no, ok, reply_line, IsVerdict, IsReplyOfType, IsReplyOf, IsReply}
use Rattle.stream_option_parsing.specs.Answer.{AnswersLines, IsAnswer}
use Rattle.stream_option_parsing.specs.Lines.{lines_of, parts_of}
use Rattle.stream_option_parsing.proofs.Splits.{same_count}

one_verdict : {T : Type 0} (Fits : T → Type 0) (f : T → List (List ℕ)) (words : List (List ℕ)) (Alike : T → T → Type 0)
    (reading : List (List ℕ) → Option (T × List (List ℕ)))
    → ReadsAlike Fits f words Alike reading → (args : List (List ℕ)) (r s : Reply) → IsVerdict Fits f words args r
    → IsVerdict Fits f words args s → r ≡ s
one_verdict Fits f words Alike reading p args unknown s v w = absurd v
one_verdict Fits f words Alike reading p args no unknown v w = absurd w
one_verdict Fits f words Alike reading p args no no v w = refl
one_verdict Fits f words Alike reading p args no (ok l) v w = absurd (v w.0 l w.1)
one_verdict Fits f words Alike reading p args (ok k) unknown v w = absurd w
one_verdict Fits f words Alike reading p args (ok k) no v w = absurd (w v.0 k v.1)
one_verdict Fits f words Alike reading p args (ok k) (ok l) v w =
    ap ok (same_count Fits f words Alike reading p args v.0 w.0 k l v.1 w.1)

one_of_type : (type : OptionType) (args : List (List ℕ)) (r s : Reply) → IsReplyOfType type args r
    → IsReplyOfType type args s → r ≡ s
one_of_type trim = one_verdict _ _ _ _ _ (alike trim_reads)
one_of_type add = one_verdict _ _ _ _ _ (alike add_reads)
one_of_type config = one_verdict _ _ _ _ _ (alike config_reads)
one_of_type autoclaim = one_verdict _ _ _ _ _ (alike autoclaim_reads)
one_of_type claim = one_verdict _ _ _ _ _ (alike claim_reads)
one_of_type read = one_verdict _ _ _ _ _ read_alike
one_of_type nack = one_verdict _ _ _ _ _ (alike nack_reads)

one_of : (type : Option OptionType) (args : List (List ℕ)) (r s : Reply) → IsReplyOf type args r → IsReplyOf type args s
    → r ≡ s
one_of None args r s v w = v ∙ sym w
one_of (Some type) args r s v w = one_of_type type args r s v w

-- a line has one reply
pub one_reply : (parts : List (List ℕ)) (r s : Reply) → IsReply parts r → IsReply parts s → r ≡ s
one_reply [] r s v w = absurd v
one_reply (word ∷ args) r s v w = one_of _ args r s v w

answers_equal : (lines : List (List ℕ)) (a b : List ℕ) → AnswersLines lines a → AnswersLines lines b → a ≡ b
answers_equal [] a b v w = v ∙ sym w
answers_equal (line ∷ lines) a b v w =
    v.3 ∙ ap (λ r. reply_line r ++ v.1) (one_reply (parts_of line) v.0 w.0 v.2 w.2)
    ∙ ap (λ t. reply_line w.0 ++ t) (answers_equal lines v.1 w.1 v.4 w.4) ∙ sym w.3

-- two outputs for one input are equal
pub one_answer : (input a b : List ℕ) → IsAnswer input a → IsAnswer input b → a ≡ b
one_answer input a b v w = answers_equal (lines_of input) a b v w
