-- The meaning of the order of calls.
use Rattle.std.proofs.Common.{◌≡◌, ◌≢◌, ℕ, Bool, List, [], ◌∷◌, ◌++◌, Option, Some, None, true, refl, sym, ◌∙◌, ap, ◌⊎◌}
use Rattle.std.proofs.Common.{inl, inr}
use Rattle.std.specs.Prelude.{is_some}
use Rattle.std.specs.Option.{option_or, unwrap_or}
use Rattle.stream_options.specs.AddCalls as add
use Rattle.stream_options.specs.AddCalls.{AddCall, add_said, final_add, after_add}
use Rattle.stream_options.specs.Add.{Add}
use Rattle.stream_options.specs.AutoClaimCalls as autoclaim
use Rattle.stream_options.specs.AutoClaimCalls.{autoclaim_said, final_autoclaim}
use Rattle.stream_options.specs.Calls.{last_said}
use Rattle.stream_options.specs.ClaimCalls as claim
use Rattle.stream_options.specs.ClaimCalls.{claim_said, final_claim}
use Rattle.stream_options.specs.ConfigCalls as config
use Rattle.stream_options.specs.ConfigCalls.{config_said, final_config}
use Rattle.stream_options.specs.Idempotency.{Idempotency}
use Rattle.stream_options.specs.Laws.{LastCallWins, SettersCommute}
use Rattle.stream_options.specs.Policy.{Policy}
use Rattle.stream_options.specs.Read.{Group, Read}
use Rattle.stream_options.specs.ReadCalls as read
use Rattle.stream_options.specs.ReadCalls.{ReadCall, read_said, final_read, after_read}
use Rattle.stream_options.specs.StrategyCalls as strategy
use Rattle.stream_options.specs.StrategyCalls.{strategy_said, final_strategy}
use Rattle.stream_options.specs.Trim.{Strategy}
use Rattle.stream_options.specs.TrimCalls as trim
use Rattle.stream_options.specs.TrimCalls.{trim_said, final_trim}

option_or_assoc : {T : Type 0} (a b c : Option T) → option_or (option_or a b) c ≡ option_or a (option_or b c)
option_or_assoc None b c = refl
option_or_assoc (Some x) b c = refl

option_or_none : {T : Type 0} (a : Option T) → option_or a None ≡ a
option_or_none None = refl
option_or_none (Some x) = refl

or_there : {T : Type 0} (a b : Option T) → is_some a ≡ true → option_or a b ≡ a
or_there None b e = absurd cc
or_there (Some x) b e = refl

-- the last value in two lists of calls, one after the other
pub last_said-append : {C T : Type 0} (said : C → Option T) (cs ds : List C)
    → last_said said (cs ++ ds) ≡ option_or (last_said said ds) (last_said said cs)
last_said-append said [] ds = sym (option_or_none (last_said said ds))
last_said-append said (c ∷ cs) ds = ap (λ o. option_or o (said c)) (last_said-append said cs ds)
    ∙ option_or_assoc (last_said said ds) (last_said said cs) (said c)

-- two lists give the same last value, whatever calls are before and after them
same_said : {C T : Type 0} (said : C → Option T) (before xs ys after : List C) → last_said said xs ≡ last_said said ys
    → last_said said (before ++ (xs ++ after)) ≡ last_said said (before ++ (ys ++ after))
same_said said before xs ys after e =
    last_said-append said before (xs ++ after)
    ∙ ap (λ o. option_or o (last_said said before)) (last_said-append said xs after
    ∙ ap (option_or (last_said said after)) e ∙ sym (last_said-append said ys after))
    ∙ sym (last_said-append said before (ys ++ after))

-- a call sets only the setting that it names
abbrev pub Names : {S : Type 0} {V : S → Type 0} → ((s : S) → (t : S) × V t → Option (V s)) → Type 0
Names {S = S} {V = V} said = (s : S) (c : (t : S) × V t)
    → ((is_some (said s c) ≡ true) × (c.0 ≡ s)) ⊎ ((said s c ≡ None) × (c.0 ≢ s))

-- of two calls that name the same setting the last one counts
pair_wins : {S : Type 0} {V : S → Type 0} (said : (s : S) → (t : S) × V t → Option (V s)) → Names said
    → (s : S) (c d : (t : S) × V t) → c.0 ≡ d.0
    → last_said (said s) (c ∷ d ∷ []) ≡ last_said (said s) (d ∷ [])
pair_wins said names s c d e = elim (names s d) [
  | inl h ↦ or_there (said s d) (said s c) h.0
  | inr h ↦ elim (names s c) [
    | inl k ↦ absurd (h.1 (sym e ∙ k.1))
    | inr k ↦ rw k.0 (option_or_none (said s d))
  ]
]

-- two calls that name different settings both count, in either order
pair_swaps : {S : Type 0} {V : S → Type 0} (said : (s : S) → (t : S) × V t → Option (V s)) → Names said
    → (s : S) (c d : (t : S) × V t) → c.0 ≢ d.0
    → last_said (said s) (c ∷ d ∷ []) ≡ last_said (said s) (d ∷ c ∷ [])
pair_swaps said names s c d e = elim (names s d) [
  | inl h ↦ elim (names s c) [
    | inl k ↦ absurd (e (k.1 ∙ sym h.1))
    | inr k ↦ rw k.0 (option_or_none (said s d))
  ]
  | inr h ↦ rw h.0 (sym (option_or_none (said s c)))
]

module _ {S : Type 0} {V : S → Type 0} (said : (s : S) → (t : S) × V t → Option (V s)) (names : Names said)
    (before after : List ((t : S) × V t)) (c d : (t : S) × V t) where
  wins : c.0 ≡ d.0 → (s : S) → last_said (said s) (before ++ c ∷ d ∷ after) ≡ last_said (said s) (before ++ d ∷ after)
  wins e s = same_said (said s) before (c ∷ d ∷ []) (d ∷ []) after (pair_wins said names s c d e)

  swaps : c.0 ≢ d.0 → (s : S) → last_said (said s) (before ++ c ∷ d ∷ after)
      ≡ last_said (said s) (before ++ d ∷ c ∷ after)
  swaps e s = same_said (said s) before (c ∷ d ∷ []) (d ∷ c ∷ []) after (pair_swaps said names s c d e)

-- ---- strategies of trimming

strategy_names : Names strategy_said
strategy_names strategy.limit (strategy.limit, n) = inl (refl, refl)

pub strategy_last_wins : LastCallWins final_strategy
strategy_last_wins start before after c d e =
    let w = wins strategy_said strategy_names before after c d e in
    rw (w strategy.limit) refl

pub strategy_commutes : SettersCommute final_strategy
strategy_commutes start before after c d e =
    let w = swaps strategy_said strategy_names before after c d e in
    rw (w strategy.limit) refl

-- ---- trimming

trim_names : Names trim_said
trim_names trim.limit (trim.limit, n) = inl (refl, refl)
trim_names trim.policy (trim.policy, p) = inl (refl, refl)
trim_names _ _ = inr (refl, λ e. cc)

pub trim_last_wins : LastCallWins final_trim
trim_last_wins start before after c d e =
    let w = wins trim_said trim_names before after c d e in
    rw (w trim.limit, w trim.policy) refl

pub trim_commutes : SettersCommute final_trim
trim_commutes start before after c d e =
    let w = swaps trim_said trim_names before after c d e in
    rw (w trim.limit, w trim.policy) refl

-- ---- additions

add_names : Names add_said
add_names add.nomkstream (add.nomkstream, x) = inl (refl, refl)
add_names add.policy (add.policy, x) = inl (refl, refl)
add_names add.idempotency (add.idempotency, x) = inl (refl, refl)
add_names add.trim (add.trim, x) = inl (refl, refl)
add_names _ _ = inr (refl, λ e. cc)

pub add_last_wins : LastCallWins final_add
add_last_wins start before after c d e =
    let w = wins add_said add_names before after c d e in
    rw (w add.nomkstream, w add.policy, w add.idempotency, w add.trim) refl

pub add_commutes : SettersCommute final_add
add_commutes start before after c d e =
    let w = swaps add_said add_names before after c d e in
    rw (w add.nomkstream, w add.policy, w add.idempotency, w add.trim) refl

-- ---- configurations

config_names : Names {V = λ _. ℕ} config_said
config_names config.seconds (config.seconds, n) = inl (refl, refl)
config_names config.maxsize (config.maxsize, n) = inl (refl, refl)
config_names _ _ = inr (refl, λ e. cc)

pub config_last_wins : LastCallWins final_config
config_last_wins start before after c d e =
    let w = wins {V = λ _. ℕ} config_said config_names before after c d e in
    rw (w config.seconds, w config.maxsize) refl

pub config_commutes : SettersCommute final_config
config_commutes start before after c d e =
    let w = swaps {V = λ _. ℕ} config_said config_names before after c d e in
    rw (w config.seconds, w config.maxsize) refl

-- ---- automatic claims

autoclaim_names : Names autoclaim_said
autoclaim_names autoclaim.count (autoclaim.count, n) = inl (refl, refl)
autoclaim_names autoclaim.justid (autoclaim.justid, x) = inl (refl, refl)
autoclaim_names _ _ = inr (refl, λ e. cc)

pub autoclaim_last_wins : LastCallWins final_autoclaim
autoclaim_last_wins start before after c d e =
    let w = wins autoclaim_said autoclaim_names before after c d e in
    rw (w autoclaim.count, w autoclaim.justid) refl

pub autoclaim_commutes : SettersCommute final_autoclaim
autoclaim_commutes start before after c d e =
    let w = swaps autoclaim_said autoclaim_names before after c d e in
    rw (w autoclaim.count, w autoclaim.justid) refl

-- ---- claims

claim_names : Names claim_said
claim_names claim.idle (claim.idle, n) = inl (refl, refl)
claim_names claim.time (claim.time, n) = inl (refl, refl)
claim_names claim.retry (claim.retry, n) = inl (refl, refl)
claim_names claim.force (claim.force, x) = inl (refl, refl)
claim_names claim.justid (claim.justid, x) = inl (refl, refl)
claim_names claim.lastid (claim.lastid, x) = inl (refl, refl)
claim_names _ _ = inr (refl, λ e. cc)

pub claim_last_wins : LastCallWins final_claim
claim_last_wins start before after c d e =
    let w = wins claim_said claim_names before after c d e in
    rw (w claim.idle, w claim.time, w claim.retry, w claim.force, w claim.justid, w claim.lastid) refl

pub claim_commutes : SettersCommute final_claim
claim_commutes start before after c d e =
    let w = swaps claim_said claim_names before after c d e in
    rw (w claim.idle, w claim.time, w claim.retry, w claim.force, w claim.justid, w claim.lastid) refl

-- ---- reads

read_names : Names read_said
read_names read.group (read.group, x) = inl (refl, refl)
read_names read.block (read.block, n) = inl (refl, refl)
read_names read.count (read.count, n) = inl (refl, refl)
read_names read.noack (read.noack, x) = inl (refl, refl)
read_names read.claim (read.claim, n) = inl (refl, refl)
read_names _ _ = inr (refl, λ e. cc)

pub read_last_wins : LastCallWins final_read
read_last_wins start before after c d e =
    let w = wins read_said read_names before after c d e in
    rw (w read.group, w read.block, w read.count, w read.noack, w read.claim) refl

pub read_commutes : SettersCommute final_read
read_commutes start before after c d e =
    let w = swaps read_said read_names before after c d e in
    rw (w read.group, w read.block, w read.count, w read.noack, w read.claim) refl

-- ---- one more call

-- the settings of an addition with these last values
abbrev add_of : Add → Option Bool → Option Policy → Option Idempotency → Option Strategy → Add
add_of start n p i t = record {
  nomkstream = unwrap_or n start.nomkstream;
  policy = option_or p start.policy;
  idempotency = option_or i start.idempotency;
  trim = option_or t start.trim;
}

add_pushed : (start : Add) (c : AddCall) (n : Option Bool) (p : Option Policy) (i : Option Idempotency)
    (t : Option Strategy)
    → add_of start (option_or (add_said add.nomkstream c) n) (option_or (add_said add.policy c) p)
    (option_or (add_said add.idempotency c) i) (option_or (add_said add.trim c) t)
    ≡ after_add (add_of start n p i t) c
add_pushed start (add.nomkstream, x) n p i t = refl
add_pushed start (add.policy, x) n p i t = refl
add_pushed start (add.idempotency, x) n p i t = refl
add_pushed start (add.trim, x) n p i t = refl

-- one more call on the options of an addition
pub add_final_push : (start : Add) (calls : List AddCall) (c : AddCall)
    → final_add start (calls ++ c ∷ []) ≡ after_add (final_add start calls) c
add_final_push start calls c =
    let one = c ∷ [] in
    rw (
      last_said-append (add_said add.nomkstream) calls one,
      last_said-append (add_said add.policy) calls one,
      last_said-append (add_said add.idempotency) calls one,
      last_said-append (add_said add.trim) calls one,
    )
    (add_pushed start c (last_said (add_said add.nomkstream) calls) (last_said (add_said add.policy) calls)
    (last_said (add_said add.idempotency) calls) (last_said (add_said add.trim) calls))

-- the settings of a read with these last values
abbrev read_of : Read → Option Group → Option ℕ → Option ℕ → Option Bool → Option ℕ → Read
read_of start g b n a c = record {
  group = option_or g start.group;
  block = option_or b start.block;
  count = option_or n start.count;
  noack = unwrap_or a start.noack;
  claim = option_or c start.claim;
}

read_pushed : (start : Read) (c : ReadCall) (g : Option Group) (b n : Option ℕ) (a : Option Bool) (m : Option ℕ)
    → read_of start (option_or (read_said read.group c) g) (option_or (read_said read.block c) b)
    (option_or (read_said read.count c) n) (option_or (read_said read.noack c) a)
    (option_or (read_said read.claim c) m) ≡ after_read (read_of start g b n a m) c
read_pushed start (read.group, x) g b n a m = refl
read_pushed start (read.block, x) g b n a m = refl
read_pushed start (read.count, x) g b n a m = refl
read_pushed start (read.noack, x) g b n a m = refl
read_pushed start (read.claim, x) g b n a m = refl

-- one more call on the options of a read
pub read_final_push : (start : Read) (calls : List ReadCall) (c : ReadCall)
    → final_read start (calls ++ c ∷ []) ≡ after_read (final_read start calls) c
read_final_push start calls c =
    let one = c ∷ [] in
    rw (
      last_said-append (read_said read.group) calls one,
      last_said-append (read_said read.block) calls one,
      last_said-append (read_said read.count) calls one,
      last_said-append (read_said read.noack) calls one,
      last_said-append (read_said read.claim) calls one,
    )
    (read_pushed start c (last_said (read_said read.group) calls) (last_said (read_said read.block) calls)
    (last_said (read_said read.count) calls) (last_said (read_said read.noack) calls)
    (last_said (read_said read.claim) calls))

-- ---- the laws of all types

pub ruleset last_wins = (
  strategy_last_wins,
  trim_last_wins,
  add_last_wins,
  config_last_wins,
  autoclaim_last_wins,
  claim_last_wins,
  read_last_wins,
)

pub ruleset commute =
    (strategy_commutes, trim_commutes, add_commutes, config_commutes, autoclaim_commutes, claim_commutes, read_commutes)
