-- The settings of each option type can be read back from their arguments, so the arguments determine
-- them.
use Rattle.std.proofs.Common.{◌≡◌, ℕ, ◌≤◌, Bool, true, false, cond, leb, ◌&&◌, ◌||◌, List, [], ◌∷◌, ◌++◌, codes}
use Rattle.std.proofs.Common.{decimal, Option, Some, None, refl, sym, ◌∙◌, ap, subst, ◌⊎◌, inl, inr, arith, append-nil}
use Rattle.std.specs.Prelude.{IfSome, IsSome, is_some, length}
use Rattle.std.specs.Option.{option_map}
use Rattle.std.specs.Str.{bytes_eq, IsUtf8}
use Rattle.std.proofs.lemmas.Bool.{leb-true, le-leb}
use Rattle.std.proofs.lemmas.Option.{some_pair_parts, same_Some}
use Rattle.std.proofs.lemmas.Slice.Eq.{bytes_eq-Decides}
use Rattle.redis_args.specs.Clause.{clause, word_number, word_text}
use Rattle.stream_options.specs.Add.{add_sentence, add_words, AddFits}
use Rattle.stream_options.specs.AutoClaim.{autoclaim_sentence, autoclaim_words, AutoClaimFits}
use Rattle.stream_options.specs.Claim.{Claim, claim_sentence, claim_words, ClaimFits}
use Rattle.stream_options.specs.Config.{config_sentence, config_words, IsConfig, IsDuration, IsMaxsize}
use Rattle.stream_options.specs.Idempotency.{Idempotency, manual, automatic, idempotency_sentence, idempotency_words}
use Rattle.stream_options.specs.Idempotency.{IdempotencyFits}
use Rattle.stream_options.specs.Laws.{Any, Determines, IsExact, Equal}
use Rattle.stream_options.specs.Maxlen.{Maxlen, maxlen_sentence, maxlen_words, MaxlenFits}
use Rattle.stream_options.specs.Nack.{Nack, silent, fail, fatal, nack_word, nack_sentence, nack_words}
use Rattle.stream_options.specs.Policy.{Policy, keep_ref, del_ref, acked, policy_word, policy_sentence, policy_words}
use Rattle.stream_options.specs.Read.{Group, Read, group_sentence, read_sentence, read_words, IsSingle, ReadFits}
use Rattle.stream_options.specs.Read.{CountAlike}
use Rattle.stream_options.specs.ReadBack.{number_of, text_of, number_clause, text_clause, both, one, two, ClaimParts}
use Rattle.stream_options.specs.ReadBack.{claim_with, claim_at, policy_of, policy_clause, idempotency_at, mode_of}
use Rattle.stream_options.specs.ReadBack.{bound_at, bound_words, strategy_with, strategy_at, trim_with, trim_at}
use Rattle.stream_options.specs.ReadBack.{maxlen_with, maxlen_at, add_with, add_at, optional, single_group, group_at}
use Rattle.stream_options.specs.ReadBack.{Ungrouped, Grouped, grouped_with, grouped_at, ungrouped_at, counted_at}
use Rattle.stream_options.specs.ReadBack.{read_with, read_at, seen, nack_of, nack_at, argument_at, autoclaim_with}
use Rattle.stream_options.specs.ReadBack.{autoclaim_at, argument_clause, kept, in_duration, in_maxsize, any_set}
use Rattle.stream_options.specs.ReadBack.{config_with, config_at}
use Rattle.stream_options.specs.Trim.{Mode, exact, approx, mode_word, mode_sentence, mode_words, Bound, max_len, min_id}
use Rattle.stream_options.specs.Trim.{bound_sentence, BoundFits, Strategy, strategy_sentence, strategy_words}
use Rattle.stream_options.specs.Trim.{StrategyFits, trim_sentence, trim_words, TrimFits}
use Rattle.stream_options.specs.Words.{begins, IsUsize}
use Rattle.stream_options.proofs.Sentences.{seen_some, ReadsAlike, cases, CasesFit, and_true, free_within, ReadsBack}
use Rattle.stream_options.proofs.Sentences.{ReadsArgument, gives, optional_reads, either_reads, determined, whole}
use Rattle.stream_options.proofs.Sentences.{kept_reads, filtered_reads, apart, as_reads, told, both_reads}
use Rattle.stream_options.proofs.Sentences.{argument_reads, argument_at_reads, one_takes, flag_reads, number_reads}
use Rattle.stream_options.proofs.Sentences.{text_reads}
use Rattle.stream_options.proofs.Sentences as sentences

number : (word : List ℕ) → ReadsBack (λ o. IfSome o IsUsize) (clause (word_number word)) (word ∷ [])
    (number_clause word)
number word = argument_reads IsUsize decimal number_of word number_reads

text : (word : List ℕ) → ReadsBack (λ o. IfSome o IsUtf8) (clause (word_text word)) (word ∷ []) (text_clause word)
text word = argument_reads IsUtf8 (λ x. x) text_of word text_reads

-- one after the other, with no word in common
seq : {A B : Type 0} {F : A → Type 0} {f : A → List (List ℕ)} {ws : List (List ℕ)} {rf : List (List ℕ)
    → Option (A × List (List ℕ))}
    {G : B → Type 0} {g : B → List (List ℕ)} {vs : List (List ℕ)} {rg : List (List ℕ) → Option (B × List (List ℕ))}
    → ReadsBack F f ws rf → ReadsBack G g vs rg → apart ws vs ≡ true
    → ReadsBack (λ x. F x.0 × G x.1) (λ x. f x.0 ++ g x.1) (ws ++ vs) (both rf rg)
seq p q e = both_reads _ _ _ _ _ _ _ _ p q e

abbrev claim_flat : Claim → ClaimParts
claim_flat c = (c.idle, (c.time, (c.retry, (c.force, (c.justid, c.lastid)))))

pub claim_reads : ReadsBack ClaimFits claim_sentence claim_words claim_at
claim_reads =
    whole _ _ _ _
    (as_reads claim_flat claim_with _ _ _ _
    (seq (number (codes "IDLE")) (seq (number (codes "TIME")) (seq (number (codes "RETRYCOUNT"))
    (seq (flag_reads (codes "FORCE")) (seq (flag_reads (codes "JUSTID"))
    (text (codes "LASTID")) refl) refl) refl) refl) refl) (λ _. refl) (λ _. refl)) claim_words refl ClaimFits
    (λ c h. (h.idle, (h.time, (h.retry, (tt, (tt, h.lastid))))))
    (λ c h. record { idle = h.0; time = h.1.0; retry = h.1.1.0; lastid = h.1.1.1.1.1 })

pub claim_determined : Determines ClaimFits claim_sentence claim_words Equal
claim_determined = determined _ _ _ _ claim_reads

pub claim_exact : IsExact ClaimFits claim_sentence Equal
claim_exact = sentences.exact _ _ _ _ claim_reads

-- ---- automatic claim

pub autoclaim_reads : ReadsBack AutoClaimFits autoclaim_sentence autoclaim_words autoclaim_at
autoclaim_reads =
    whole _ _ _ _ (as_reads (λ c. (c.count, c.justid)) autoclaim_with _ _ _ _
    (seq (number (codes "COUNT")) (flag_reads (codes "JUSTID")) refl) (λ _. refl) (λ _. refl))
    autoclaim_words refl AutoClaimFits (λ c h. (h, tt)) (λ c h. h.0)

pub autoclaim_determined : Determines AutoClaimFits autoclaim_sentence autoclaim_words Equal
autoclaim_determined = determined _ _ _ _ autoclaim_reads

pub autoclaim_exact : IsExact AutoClaimFits autoclaim_sentence Equal
autoclaim_exact = sentences.exact _ _ _ _ autoclaim_reads

-- ---- config

ranged : (test : ℕ → Bool) (word : List ℕ)
    → ReadsBack (λ o. IfSome o (λ n. IsUsize n × (test n ≡ true))) (clause (word_number word)) (word ∷ [])
    (argument_clause (kept test number_of) word)
ranged test word = argument_reads _ decimal _ word (kept_reads IsUsize decimal number_of test number_reads)

some_then : {T : Type 0} {P Q : T → Type 0} (o : Option T) → ((x : T) → P x → Q x) → IfSome o P → IfSome o Q
some_then None k h = tt
some_then (Some x) k h = k x h

-- a number between two others, tested
between : (n m : ℕ) → (leb 1 n && leb n m) ≡ true → (1 ≤ n) × (n ≤ m)
between n m e = let t = and_true (leb 1 n) (leb n m) e in (leb-true 1 n t.0, leb-true n m t.1)

between_test : (n m : ℕ) → (1 ≤ n) × (n ≤ m) → (leb 1 n && leb n m) ≡ true
between_test n m h = rw (le-leb 1 n h.0, le-leb n m h.1) refl

is_duration : (n : ℕ) → IsDuration n → IsUsize n × (in_duration n ≡ true)
is_duration n h = (omega (arith, h.1), between_test n 86400 h)

is_maxsize : (n : ℕ) → IsMaxsize n → IsUsize n × (in_maxsize n ≡ true)
is_maxsize n h = (omega (arith, h.1), between_test n 10000 h)

any_is_set : (a b : Option ℕ) → IsSome a ⊎ IsSome b → (is_some a || is_some b) ≡ true
any_is_set (Some n) b h = refl
any_is_set None (Some n) h = refl
any_is_set None None (inl h) = absurd cc
any_is_set None None (inr h) = absurd cc

set_is_any : (a b : Option ℕ) → (is_some a || is_some b) ≡ true → IsSome a ⊎ IsSome b
set_is_any (Some n) b h = inl refl
set_is_any None (Some n) h = inr refl
set_is_any None None h = absurd cc

pub config_reads : ReadsBack IsConfig config_sentence config_words config_at
config_reads = whole _ _ _ _ (filtered_reads _ _ _ _ any_set (as_reads (λ c. (c.seconds, c.maxsize)) config_with _ _ _ _
    (seq (ranged in_duration (codes "IDMP-DURATION")) (ranged in_maxsize (codes "IDMP-MAXSIZE")) refl) (λ _. refl)
    (λ _. refl)))
    config_words refl IsConfig
    (λ c h. (
      (some_then c.seconds is_duration h.seconds, some_then c.maxsize is_maxsize h.maxsize),
      any_is_set c.seconds c.maxsize h.any,
    ))
    (λ c h. record {
      seconds = some_then c.seconds (λ n f. between n 86400 f.1) h.0.0;
      maxsize = some_then c.maxsize (λ n f. between n 10000 f.1) h.0.1;
      any = set_is_any c.seconds c.maxsize h.1;
    })

pub config_determined : Determines IsConfig config_sentence config_words Equal
config_determined = determined _ _ _ _ config_reads

pub config_exact : IsExact IsConfig config_sentence Equal
config_exact = sentences.exact _ _ _ _ config_reads

-- ---- add

two_takes : {A B V : Type 0} (make : A → B → V) (o : Option A) (p : Option B) (rest : List (List ℕ)) (v : V)
    (r : List (List ℕ)) {P : Type 0} → gives (two make o p rest) v r
    → ((a : A) (b : B) → o ≡ Some a → p ≡ Some b → make a b ≡ v → rest ≡ r → P) → P
two_takes make None p rest v r e k = absurd cc
two_takes make (Some a) None rest v r e k = absurd cc
two_takes make (Some a) (Some b) rest v r e k = let s = some_pair_parts (make a b) v rest r e in k a b refl refl s.0 s.1

-- a test for a word
word_is : {A : Type 0} (w word : List ℕ) (x y : A) (z : A) {P : Type 0} → cond (bytes_eq w word) x y ≡ z
    → (w ≡ word → x ≡ z → P) → (y ≡ z → P) → P
word_is w word x y z {P = P} e yes_ no_ = elim (bytes_eq w word) as (λ q. bytes_eq w word ≡ q → cond q x y ≡ z → P) [
  | true ↦ λ h e. yes_ ((bytes_eq-Decides w word).0 h) e
  | false ↦ λ h e. no_ e
] refl e

mode_reads_word : ReadsArgument Any mode_word mode_of
mode_reads_word = record {
  again = elim [ exact ↦ λ _. refl | approx ↦ λ _. refl ];
  takes = λ bytes m e. word_is bytes (codes "=") _ _ _ e
      (λ h s. (h ∙ ap mode_word (same_Some exact m s), tt))
      (λ e. word_is bytes (codes "~") _ _ _ e
      (λ h s. (h ∙ ap mode_word (same_Some approx m s), tt))
      (λ e. absurd cc));
}

policy_reads_word : ReadsArgument Any policy_word policy_of
policy_reads_word = record {
  again = elim [ keep_ref ↦ λ _. refl | del_ref ↦ λ _. refl | acked ↦ λ _. refl ];
  takes = λ bytes m e. word_is bytes (codes "KEEPREF") _ _ _ e
      (λ h s. (h ∙ ap policy_word (same_Some keep_ref m s), tt))
      (λ e. word_is bytes (codes "DELREF") _ _ _ e
      (λ h s. (h ∙ ap policy_word (same_Some del_ref m s), tt))
      (λ e. word_is bytes (codes "ACKED") _ _ _ e
      (λ h s. (h ∙ ap policy_word (same_Some acked m s), tt))
      (λ e. absurd cc)));
}

policy_begins : (p : Policy) → begins policy_words (policy_sentence p) ≡ true
policy_begins keep_ref = refl
policy_begins del_ref = refl
policy_begins acked = refl

pub policy_reads : ReadsBack Any policy_sentence policy_words (argument_at policy_of)
policy_reads = argument_at_reads Any policy_word policy_of policy_words policy_reads_word policy_begins

pub policy_determined : Determines Any policy_sentence policy_words Equal
policy_determined = determined _ _ _ _ policy_reads

pub policy_exact : IsExact Any policy_sentence Equal
policy_exact = sentences.exact _ _ _ _ policy_reads

policy_clause_reads : ReadsBack (λ o. IfSome o Any) (clause policy_sentence) policy_words policy_clause
policy_clause_reads = optional_reads _ _ _ _ policy_reads policy_begins

-- ---- negative acknowledgements

nack_reads_word : ReadsArgument Any nack_word nack_of
nack_reads_word = record {
  again = elim [ silent ↦ λ _. refl | fail ↦ λ _. refl | fatal ↦ λ _. refl ];
  takes = λ bytes m e. word_is bytes (codes "SILENT") _ _ _ e
      (λ h s. (h ∙ ap nack_word (same_Some silent m s), tt))
      (λ e. word_is bytes (codes "FAIL") _ _ _ e
      (λ h s. (h ∙ ap nack_word (same_Some fail m s), tt))
      (λ e. word_is bytes (codes "FATAL") _ _ _ e
      (λ h s. (h ∙ ap nack_word (same_Some fatal m s), tt))
      (λ e. absurd cc)));
}

nack_begins : (n : Nack) → begins nack_words (nack_sentence n) ≡ true
nack_begins silent = refl
nack_begins fail = refl
nack_begins fatal = refl

pub nack_reads : ReadsBack Any nack_sentence nack_words nack_at
nack_reads = argument_at_reads Any nack_word nack_of nack_words nack_reads_word nack_begins

pub nack_determined : Determines Any nack_sentence nack_words Equal
nack_determined = determined _ _ _ _ nack_reads

pub nack_exact : IsExact Any nack_sentence Equal
nack_exact = sentences.exact _ _ _ _ nack_reads

-- ---- modes

mode_begins : (m : Mode) → begins mode_words (mode_sentence m) ≡ true
mode_begins exact = refl
mode_begins approx = refl

pub mode_reads : ReadsBack Any mode_sentence mode_words (argument_at mode_of)
mode_reads = argument_at_reads Any mode_word mode_of mode_words mode_reads_word mode_begins

pub mode_determined : Determines Any mode_sentence mode_words Equal
mode_determined = determined _ _ _ _ mode_reads

pub mode_exact : IsExact Any mode_sentence Equal
mode_exact = sentences.exact _ _ _ _ mode_reads

-- ---- idempotency

idempotency_begins : (x : Idempotency) → begins idempotency_words (idempotency_sentence x) ≡ true
idempotency_begins (manual p i) = refl
idempotency_begins (automatic p) = refl

-- the word is that of the automatic one
automatic_takes : (w p : List ℕ) (rest : List (List ℕ)) (x : Idempotency) (r : List (List ℕ)) → w ≡ codes "IDMPAUTO"
    → gives (one automatic (text_of p) rest) x r → (w ∷ p ∷ rest ≡ idempotency_sentence x ++ r) × IdempotencyFits x
automatic_takes w p rest x r h e = one_takes automatic (text_of p) rest x r e (λ t eq is s.
    let k = text_reads.takes p t eq in subst (λ y. (w ∷ p ∷ rest ≡ idempotency_sentence y ++ r) × IdempotencyFits y) is
    (rw (h, k.0, s) refl, k.1))

pub idempotency_reads : ReadsBack IdempotencyFits idempotency_sentence idempotency_words idempotency_at
idempotency_reads = record {
  again = elim [
    | manual p i ↦ λ r fits free. rw (text_reads.again p fits.0, text_reads.again i fits.1) refl
    | automatic p ↦ elim [
      | [] ↦ λ fits free. rw (text_reads.again p fits) refl
      | (a ∷ r) ↦ λ fits free. rw (text_reads.again p fits) refl
    ]
  ];
  takes = elim [
    | [] ↦ λ x r e. absurd cc
    | (w ∷ []) ↦ λ x r e. absurd cc
    | (w ∷ p ∷ []) ↦ λ x r e. word_is w (codes "IDMPAUTO") _ _ _ e (λ h e. automatic_takes w p [] x r h e)
        (λ e. absurd cc)
    | (w ∷ p ∷ i ∷ rest) ↦ λ x r e. word_is w (codes "IDMPAUTO") _ _ _ e
        (λ h e. automatic_takes w p (i ∷ rest) x r h e)
        (λ e. word_is w (codes "IDMP") _ _ _ e
        (λ h e. two_takes manual (text_of p) (text_of i) rest x r e (λ t u et eu is s.
        let k = text_reads.takes p t et in let l = text_reads.takes i u eu in
        subst (λ y. (w ∷ p ∷ i ∷ rest ≡ idempotency_sentence y ++ r) × IdempotencyFits y) is
        (rw (h, k.0, l.0, s) refl, (k.1, l.1))))
        (λ e. absurd cc))
  ];
  opens = λ x. inr (idempotency_begins x);
}

pub idempotency_determined : Determines IdempotencyFits idempotency_sentence idempotency_words Equal
idempotency_determined = determined _ _ _ _ idempotency_reads

pub idempotency_exact : IsExact IdempotencyFits idempotency_sentence Equal
idempotency_exact = sentences.exact _ _ _ _ idempotency_reads

-- ---- trimming

maxlen_begins : (x : Maxlen) → begins maxlen_words (maxlen_sentence x) ≡ true
maxlen_begins x = refl

pub maxlen_reads : ReadsBack MaxlenFits maxlen_sentence maxlen_words maxlen_at
maxlen_reads = record {
  again = λ x r fits free. rw (mode_reads_word.again x.mode tt, number_reads.again x.count fits) refl;
  takes = elim [
    | [] ↦ λ x r e. absurd cc
    | (w ∷ []) ↦ λ x r e. absurd cc
    | (w ∷ m ∷ []) ↦ λ x r e. absurd cc
    | (w ∷ m ∷ v ∷ rest) ↦ λ x r e. word_is w (codes "MAXLEN") _ _ _ e
        (λ h e. two_takes maxlen_with (mode_of m) (number_of v) rest x r e (λ t u et eu is s.
        let k = mode_reads_word.takes m t et in let l = number_reads.takes v u eu in
        subst (λ y. (w ∷ m ∷ v ∷ rest ≡ maxlen_sentence y ++ r) × MaxlenFits y) is (rw (h, k.0, l.0, s) refl, l.1)))
        (λ e. absurd cc)
  ];
  opens = λ x. inr (maxlen_begins x);
}

pub maxlen_determined : Determines MaxlenFits maxlen_sentence maxlen_words Equal
maxlen_determined = determined _ _ _ _ maxlen_reads

pub maxlen_exact : IsExact MaxlenFits maxlen_sentence Equal
maxlen_exact = sentences.exact _ _ _ _ maxlen_reads

bound_begins : (x : Bound) → begins bound_words (bound_sentence x) ≡ true
bound_begins (max_len m n) = refl
bound_begins (min_id m i) = refl

bound_reads : ReadsBack BoundFits bound_sentence bound_words bound_at
bound_reads = record {
  again = elim [
    | max_len m n ↦ λ r fits free. rw (mode_reads_word.again m tt, number_reads.again n fits) refl
    | min_id m i ↦ λ r fits free. rw (mode_reads_word.again m tt, text_reads.again i fits) refl
  ];
  takes = elim [
    | [] ↦ λ x r e. absurd cc
    | (w ∷ []) ↦ λ x r e. absurd cc
    | (w ∷ m ∷ []) ↦ λ x r e. absurd cc
    | (w ∷ m ∷ v ∷ rest) ↦ λ x r e. word_is w (codes "MAXLEN") _ _ _ e
        (λ h e. two_takes max_len (mode_of m) (number_of v) rest x r e (λ t u et eu is s.
        let k = mode_reads_word.takes m t et in let l = number_reads.takes v u eu in
        subst (λ y. (w ∷ m ∷ v ∷ rest ≡ bound_sentence y ++ r) × BoundFits y) is (rw (h, k.0, l.0, s) refl, l.1)))
        (λ e. word_is w (codes "MINID") _ _ _ e
        (λ h e. two_takes min_id (mode_of m) (text_of v) rest x r e (λ t u et eu is s.
        let k = mode_reads_word.takes m t et in let l = text_reads.takes v u eu in
        subst (λ y. (w ∷ m ∷ v ∷ rest ≡ bound_sentence y ++ r) × BoundFits y) is (rw (h, k.0, l.0, s) refl, l.1)))
        (λ e. absurd cc))
  ];
  opens = λ x. inr (bound_begins x);
}

-- the words that its clauses begin with
strategy_reads_back : ReadsBack (λ s. BoundFits s.bound × IfSome s.limit IsUsize) strategy_sentence
    (bound_words ++ codes "LIMIT" ∷ []) strategy_at
strategy_reads_back = as_reads (λ s. (s.bound, s.limit)) strategy_with _ _ _ _
    (seq bound_reads (number (codes "LIMIT")) refl) (λ _. refl) (λ _. refl)

pub strategy_reads : ReadsBack StrategyFits strategy_sentence strategy_words strategy_at
strategy_reads = whole _ _ _ _ strategy_reads_back strategy_words refl StrategyFits (λ s h. (h.bound, h.limit))
    (λ s h. record { bound = h.0; limit = h.1 })

strategy_begins : (s : Strategy) → begins strategy_words (strategy_sentence s) ≡ true
strategy_begins s =
    elim s.bound as (λ b. begins strategy_words (bound_sentence b ++ clause (word_number (codes "LIMIT")) s.limit)
    ≡ true) [ max_len m n ↦ refl | min_id m i ↦ refl ]

pub strategy_determined : Determines StrategyFits strategy_sentence strategy_words Equal
strategy_determined = determined _ _ _ _ strategy_reads

pub strategy_exact : IsExact StrategyFits strategy_sentence Equal
strategy_exact = sentences.exact _ _ _ _ strategy_reads

any_policy : (o : Option Policy) → IfSome o Any
any_policy None = tt
any_policy (Some p) = tt

pub trim_reads : ReadsBack TrimFits trim_sentence trim_words trim_at
trim_reads =
    whole _ _ _ _ (as_reads (λ t. (t.strategy, t.policy)) trim_with _ _ _ _
    (seq strategy_reads policy_clause_reads refl) (λ _. refl) (λ _. refl))
    trim_words refl TrimFits (λ t h. (h, any_policy t.policy)) (λ t h. h.0)

pub trim_determined : Determines TrimFits trim_sentence trim_words Equal
trim_determined = determined _ _ _ _ trim_reads

pub trim_exact : IsExact TrimFits trim_sentence Equal
trim_exact = sentences.exact _ _ _ _ trim_reads

-- ---- additions

-- the clause of a strategy reads back if it begins with the word of a bound
strategy_clause_reads : ReadsBack (λ o. IfSome o StrategyFits) (clause strategy_sentence) strategy_words
    (optional strategy_words strategy_at)
strategy_clause_reads = optional_reads _ _ _ _ strategy_reads strategy_begins

pub add_reads : ReadsBack AddFits add_sentence add_words add_at
add_reads = whole _ _ _ _ (as_reads (λ a. (a.nomkstream, (a.policy, (a.idempotency, a.trim)))) add_with _ _ _ _
    (seq (flag_reads (codes "NOMKSTREAM")) (seq policy_clause_reads
    (seq (optional_reads _ _ _ _ idempotency_reads idempotency_begins) strategy_clause_reads refl) refl) refl)
    (λ _. refl) (λ _. refl))
    add_words refl AddFits (λ a h. (tt, (any_policy a.policy, (h.idempotency, h.trim))))
    (λ a h. record { idempotency = h.1.1.0; trim = h.1.1.1 })

pub add_determined : Determines AddFits add_sentence add_words Equal
add_determined = determined _ _ _ _ add_reads

pub add_exact : IsExact AddFits add_sentence Equal
add_exact = sentences.exact _ _ _ _ add_reads

-- ---- read

length_one : (xs : List (List ℕ)) → length xs ≡ 1 → (x : List ℕ) × (xs ≡ x ∷ [])
length_one [] e = absurd (omega (arith, e))
length_one (x ∷ []) e = (x, refl)
length_one (x ∷ y ∷ xs) e = absurd (omega (arith, e))

group_begins : (x : Group) → begins (codes "GROUP" ∷ []) (group_sentence x) ≡ true
group_begins x = refl

group_same : (x : Group) (g c : List ℕ) → x.group ≡ g ∷ [] → x.consumer ≡ c ∷ [] → single_group g c ≡ x
group_same x g c p q = let make : List (List ℕ) → List (List ℕ) → Group = λ s t. record { group = s; consumer = t } in
    ap (λ s. make s (c ∷ [])) (sym p) ∙ ap (λ t. make x.group t) (sym q)

group_reads : ReadsBack IsSingle group_sentence (codes "GROUP" ∷ []) group_at
group_reads = record {
  again = λ x r fits free.
      let g = length_one x.group fits.0 in let c = length_one x.consumer fits.1 in
      subst (λ y. group_at (group_sentence y ++ r) ≡ Some (y, r)) (group_same x g.0 c.0 g.1 c.1) refl;
  takes = elim [
    | [] ↦ λ x r e. absurd cc
    | (w ∷ []) ↦ λ x r e. absurd cc
    | (w ∷ g ∷ []) ↦ λ x r e. absurd cc
    | (w ∷ g ∷ c ∷ rest) ↦ λ x r e. word_is w (codes "GROUP") _ _ _ e
        (λ h e. let s = some_pair_parts (single_group g c) x rest r e in
        subst (λ y. (w ∷ g ∷ c ∷ rest ≡ group_sentence y ++ r) × IsSingle y) s.0 (rw (h, s.1) refl, (refl, refl)))
        (λ e. absurd cc)
  ];
  opens = λ x. inr (group_begins x);
}

abbrev GroupedFits : Grouped → Type 0
GroupedFits x = IsSingle x.0 × (IfSome x.1.0 IsUsize × (IfSome x.1.1.0 IsUsize × (Unit {0} × IfSome x.1.1.1.1 IsUsize)))

grouped_reads : ReadsBack GroupedFits (λ x. read_sentence (grouped_with x)) read_words grouped_at
grouped_reads =
    seq group_reads
    (seq (number (codes "BLOCK"))
    (seq (number (codes "COUNT")) (seq (flag_reads (codes "NOACK")) (number (codes "CLAIM")) refl) refl) refl) refl

abbrev UngroupedFits : Ungrouped → Type 0
UngroupedFits x = IfSome x.0 IsUsize × IfSome x.1 IsUsize

abbrev ungrouped_sentence : Ungrouped → List (List ℕ)
ungrouped_sentence x = clause (word_number (codes "BLOCK")) x.0 ++ clause (word_number (codes "COUNT")) x.1

ungrouped_reads : ReadsBack UngroupedFits ungrouped_sentence (codes "BLOCK" ∷ codes "COUNT" ∷ []) ungrouped_at
ungrouped_reads = seq (number (codes "BLOCK")) (number (codes "COUNT")) refl

read_reads : ReadsBack (CasesFit GroupedFits UngroupedFits)
    (cases (λ x. read_sentence (grouped_with x)) ungrouped_sentence)
    (read_words ++ codes "BLOCK" ∷ codes "COUNT" ∷ []) counted_at
read_reads = either_reads _ _ _ _ _ _ _ _ (codes "GROUP" ∷ []) grouped_reads ungrouped_reads (λ _. refl) refl refl

-- the settings that count
abbrev counting : Option Group → Option ℕ → Option ℕ → Bool → Option ℕ → Grouped ⊎ Ungrouped
counting (Some g) b c n l = inl (g, (b, (c, (n, l))))
counting None b c n l = inr (b, c)

abbrev read_from : Option Group → Option ℕ → Option ℕ → Bool → Option ℕ → Read
read_from g b c n l = record { group = g; block = b; count = c; noack = n; claim = l }

abbrev counted : Read → Grouped ⊎ Ungrouped
counted r = counting r.group r.block r.count r.noack r.claim

counting_sentence : (g : Option Group) (b c : Option ℕ) (n : Bool) (l : Option ℕ)
    → read_sentence (read_from g b c n l)
    ≡ cases (λ x. read_sentence (grouped_with x)) ungrouped_sentence (counting g b c n l)
counting_sentence (Some g) b c n l = refl
counting_sentence None b c n l = ap (λ t. clause (word_number (codes "BLOCK")) b ++ t)
    (append-nil (clause (word_number (codes "COUNT")) c))

counting_fits : (g : Option Group) (b c : Option ℕ) (n : Bool) (l : Option ℕ) → ReadFits (read_from g b c n l)
    → CasesFit GroupedFits UngroupedFits (counting g b c n l)
counting_fits (Some g) b c n l h = (h.group, (h.block, (h.count, (tt, h.claim))))
counting_fits None b c n l h = (h.block, h.count)

same_inl : (x y : Grouped) → ◌≡◌ {A = Grouped ⊎ Ungrouped} (inl x) (inl y) → x ≡ y
same_inl x y e = cc

same_inr : (x y : Ungrouped) → ◌≡◌ {A = Grouped ⊎ Ungrouped} (inr x) (inr y) → x ≡ y
same_inr x y e = cc

counting_same : (g : Option Group) (b c : Option ℕ) (n : Bool) (l : Option ℕ) (g' : Option Group) (b' c' : Option ℕ)
    (n' : Bool) (l' : Option ℕ)
    → counting g b c n l ≡ counting g' b' c' n' l' → CountAlike (read_from g b c n l) (read_from g' b' c' n' l')
counting_same (Some g) b c n l (Some g') b' c' n' l' e =
    let i = same_inl (g, (b, (c, (n, l)))) (g', (b', (c', (n', l')))) e in
    record {
      group = ap (λ x. Some x.0) i;
      block = ap (λ x. x.1.0) i;
      count = ap (λ x. x.1.1.0) i;
      noack = λ _. ap (λ x. x.1.1.1.0) i;
      claim = λ _. ap (λ x. x.1.1.1.1) i;
    }
counting_same None b c n l None b' c' n' l' e =
    let i = same_inr (b, c) (b', c') e in
    record {
      group = refl;
      block = ap (λ x. x.0) i;
      count = ap (λ x. x.1) i;
      noack = λ h. absurd cc;
      claim = λ h. absurd cc;
    }
counting_same (Some g) b c n l None b' c' n' l' e = absurd cc
counting_same None b c n l (Some g') b' c' n' l' e = absurd cc

same_counting : (a b : Read) → CountAlike a b → counted a ≡ counted b
same_counting a b h = elim a.group as (λ g. a.group ≡ g → counting g a.block a.count a.noack a.claim ≡ counted b) [
  | None ↦ λ e. let f : b.group ≡ None = sym h.group ∙ e in rw (h.block, h.count, f) refl
  | Some g ↦ λ e. let f : b.group ≡ Some g = sym h.group ∙ e in
      let t : is_some a.group ≡ true = rw e refl in rw (h.block, h.count, h.noack t, h.claim t, f) refl
] refl

pub read_determined : Determines ReadFits read_sentence read_words CountAlike
read_determined a b r s fa fb fr fs e =
    let ea = counting_sentence a.group a.block a.count a.noack a.claim in
    let eb = counting_sentence b.group b.block b.count b.noack b.claim in
    let t = told _ _ _ _ read_reads (counted a) (counted b) r s
    (counting_fits a.group a.block a.count a.noack a.claim fa)
    (counting_fits b.group b.block b.count b.noack b.claim fb)
    (free_within (read_words ++ codes "BLOCK" ∷ codes "COUNT" ∷ []) read_words r refl fr)
    (free_within (read_words ++ codes "BLOCK" ∷ codes "COUNT" ∷ []) read_words s refl fs)
    (ap (λ x. x ++ r) (sym ea) ∙ e ∙ ap (λ x. x ++ s) eb) in
    (counting_same a.group a.block a.count a.noack a.claim b.group b.block b.count b.noack b.claim t.0, t.1)

pub same_read : (a b : Read) → CountAlike a b → read_sentence a ≡ read_sentence b
same_read a b h =
    counting_sentence a.group a.block a.count a.noack a.claim
    ∙ ap (cases (λ x. read_sentence (grouped_with x)) ungrouped_sentence) (same_counting a b h)
    ∙ sym (counting_sentence b.group b.block b.count b.noack b.claim)

pub read_exact : IsExact ReadFits read_sentence CountAlike
read_exact a b fa fb = (same_read a b, λ e. (read_determined a b [] [] fa fb refl refl (ap (λ t. t ++ []) e)).0)

-- ---- for the parsers of arguments

counted_alike : (g : Option Group) (b c : Option ℕ) (n : Bool) (l : Option ℕ)
    → CountAlike (read_from g b c n l) (read_with (counting g b c n l))
counted_alike (Some g) b c n l = record {
  group = refl;
  block = refl;
  count = refl;
  noack = λ _. refl;
  claim = λ _. refl;
}
counted_alike None b c n l = record {
  group = refl;
  block = refl;
  count = refl;
  noack = λ h. absurd cc;
  claim = λ h. absurd cc;
}

-- the arguments of the settings that count
counted_written : (x : Grouped ⊎ Ungrouped)
    → cases (λ g. read_sentence (grouped_with g)) ungrouped_sentence x ≡ read_sentence (read_with x)
counted_written (inl g) = refl
counted_written (inr y) = sym (counting_sentence None y.0 y.1 false None)

counted_fits : (x : Grouped ⊎ Ungrouped) → CasesFit GroupedFits UngroupedFits x → ReadFits (read_with x)
counted_fits (inl g) h = record {
  group = h.0;
  block = h.1.0;
  count = h.1.1.0;
  claim = h.1.1.1.1;
}
counted_fits (inr y) h = record {
  group = tt;
  block = h.0;
  count = h.1;
  claim = tt;
}

read_again : (x : Read) (r : List (List ℕ)) → ReadFits x → begins read_words r ≡ false
    → read_at (read_sentence x ++ r) ≡ Some (read_with (counted x), r)
read_again x r fits free =
    ap read_at (ap (λ t. t ++ r) (counting_sentence x.group x.block x.count x.noack x.claim))
    ∙ ap (λ o. option_map (seen read_with) o)
    (read_reads.again (counted x) r (counting_fits x.group x.block x.count x.noack x.claim fits)
    (free_within (read_words ++ codes "BLOCK" ∷ codes "COUNT" ∷ []) read_words r refl free))

pub read_alike : ReadsAlike ReadFits read_sentence read_words CountAlike read_at
read_alike = record {
  again =
      λ x r fits free. (
        read_with (counted x),
        read_again x r fits free,
        counted_alike x.group x.block x.count x.noack x.claim,
      );
  takes = λ args x r e. seen_some read_with (counted_at args) x r e (λ t h is.
      let k = read_reads.takes args t r h in
      subst (λ y. (args ≡ read_sentence y ++ r) × ReadFits y) is
      (k.0 ∙ ap (λ s. s ++ r) (counted_written t), counted_fits t k.1));
}

-- ---- the laws by type

pub ruleset maxlen_law = (maxlen_determined, maxlen_exact)

pub ruleset mode_law = (mode_determined, mode_exact)

pub ruleset strategy_law = (strategy_determined, strategy_exact)

pub ruleset trim_law = (trim_determined, trim_exact)

pub ruleset idempotency_law = (idempotency_determined, idempotency_exact)

pub ruleset config_law = (config_determined, config_exact)

pub ruleset add_law = (add_determined, add_exact)

pub ruleset autoclaim_law = (autoclaim_determined, autoclaim_exact)

pub ruleset claim_law = (claim_determined, claim_exact)

pub ruleset policy_law = (policy_determined, policy_exact)

pub ruleset nack_law = (nack_determined, nack_exact)

pub ruleset read_law = (read_determined, read_exact, same_read)
