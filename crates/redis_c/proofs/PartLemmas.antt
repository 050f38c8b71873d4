-- Texts of a sentence at the places of its arguments.
use Rattle.std.proofs.Common.{◌≡◌, ◌∙◌, ℕ, true, false, List, [], ◌∷◌, ◌++◌, length, drop, Option, Some, None}
use Rattle.std.proofs.Common.{refl, ap, codes, arith}
use Rattle.std.specs.Prelude.{option_map, is_some, nat_eq, IfSome, if◌then◌else◌}
use Rattle.std.specs.Str.{IsUtf8}
use Rattle.std.proofs.lemmas.Bool.Decides.{nat_tests}
use Rattle.std.proofs.lemmas.List.{append_assoc}
use Rattle.std.proofs.lemmas.Option.{same_Some}
use Rattle.redis_args.specs.Clause.{clause, flag, word_number, word_text}
use Rattle.redis_resp.specs.Reading.{both_read}
use Rattle.redis_resp.specs.Then.{◌>>=◌}
use Rattle.redis_wire.specs.declared.place.Span.{Span}
use Rattle.stream_options.specs.Add.{Add, AddFits, add_sentence}
use Rattle.stream_options.specs.Claim.{Claim, ClaimFits, claim_sentence}
use Rattle.stream_options.specs.Idempotency.{IdempotencyFits, idempotency_sentence, manual, automatic}
use Rattle.stream_options.specs.Laws.{Any}
use Rattle.stream_options.specs.Policy.{policy_sentence}
use Rattle.stream_options.specs.Read.{Group, ReadFits, group_sentence, read_sentence}
use Rattle.stream_options.specs.ReadBack.{single_group}
use Rattle.stream_options.specs.Trim.{Mode, mode_word, min_id, Strategy, StrategyFits, strategy_sentence}
use Rattle.stream_options.specs.Trim.{Trim, TrimFits, trim_sentence}
use Rattle.stream_option_parsing.specs.Parts.{group_of, read_of}
use Rattle.stream_option_parsing.specs.declared.read.GroupNames.{GroupNames}
use Rattle.stream_option_parsing.specs.declared.read.ReadParts.{ReadParts}
use Rattle.redis_c.specs.Parts.{first_place, Asked, asked_by, asked_of, group_by, group_in, Skips, Tells}
use Rattle.redis_c.specs.Placed.{text_at, texts_at}
use Rattle.redis_c.specs.Server.{read_for, read_in}
use Rattle.redis_c.specs.Settings.{if_set, utf8_at, mode_by, policy_by, strategy_in, any_strategy_in, trim_in}
use Rattle.redis_c.specs.Settings.{idempotency_by, idempotency_in, add_in, lastid_by, lastid_in, claim_in}
use Rattle.redis_c.specs.declared.commands.ReadSettings.{ReadSettings}
use Rattle.redis_c.specs.declared.server.GroupPlace.{GroupPlace}
use Rattle.redis_c.specs.declared.settings.AddSettings.{AddSettings}
use Rattle.redis_c.specs.declared.settings.ClaimSettings.{ClaimSettings}
use Rattle.redis_c.specs.declared.settings.TrimSettings.{TrimSettings}
use Rattle.redis_c.proofs.SettingsLemmas.{utf8_there}

-- ---- one text after the other

record First (bytes : List ℕ) (place : Span) (places : List Span) (args : List (List ℕ)) : Type 0 where
  text : List ℕ
  others : List (List ℕ)
  there : text_at bytes place ≡ Some text
  behind : texts_at bytes places ≡ Some others
  is : text ∷ others ≡ args

first_text : (bytes : List ℕ) (place : Span) (places : List Span) (args : List (List ℕ))
    → texts_at bytes (place ∷ places) ≡ Some args → First bytes place places args
first_text bytes place places args e = by (text_at bytes place) refl (texts_at bytes places) refl e
  where
    by : (t : Option (List ℕ)) → text_at bytes place ≡ t → (ts : Option (List (List ℕ))) → texts_at bytes places ≡ ts
        → (t >>= λ m. option_map (λ ms. m ∷ ms) ts) ≡ Some args → First bytes place places args
    by None a ts b e = absurd cc
    by (Some t) a None b e = absurd cc
    by (Some t) a (Some ts) b e = record {
      text = t;
      others = ts;
      there = a;
      behind = b;
      is = same_Some (t ∷ ts) args e;
    }

-- the first text is at the first place
pub text_there : (bytes : List ℕ) (places : List Span) (text : List ℕ) (more : List (List ℕ))
    → texts_at bytes places ≡ Some (text ∷ more) → text_at bytes (first_place places) ≡ Some text
text_there bytes [] text more e = absurd cc
text_there bytes (place ∷ places) text more e =
    let f = first_text bytes place places (text ∷ more) e in
    let s : f.text ≡ text = cc in
    f.there ∙ ap (λ (x : List ℕ). Some x) s

-- the texts after some are at the places after these
skip_there : (bytes : List ℕ) (places : List Span) (front more : List (List ℕ))
    → texts_at bytes places ≡ Some (front ++ more) → texts_at bytes (drop (length front) places) ≡ Some more
skip_there bytes places [] more e = e
skip_there bytes [] (w ∷ front) more e = absurd cc
skip_there bytes (place ∷ places) (w ∷ front) more e =
    let f = first_text bytes place places (w ∷ (front ++ more)) e in
    let s : f.others ≡ front ++ more = cc in
    skip_there bytes places front more (f.behind ∙ ap (λ (x : List (List ℕ)). Some x) s)

-- a text is at the place at this index
pub text_after : (bytes : List ℕ) (places : List Span) (front more : List (List ℕ)) (text : List ℕ) (place : Span)
    → place ≡ first_place (drop (length front) places) → texts_at bytes places ≡ Some (front ++ text ∷ more)
    → text_at bytes place ≡ Some text
text_after bytes places front more text place at e =
    ap (text_at bytes) at
    ∙ text_there bytes (drop (length front) places) text more (skip_there bytes places front (text ∷ more) e)

-- and one that is UTF-8
utf8_after : (bytes : List ℕ) (places : List Span) (front more : List (List ℕ)) (text : List ℕ) (place : Span)
    → place ≡ first_place (drop (length front) places) → texts_at bytes places ≡ Some (front ++ text ∷ more)
    → IsUtf8 text → utf8_at bytes place ≡ Some text
utf8_after bytes places front more text place at e h =
    utf8_there bytes place text (text_after bytes places front more text place at e) h

joined : (a b c : List (List ℕ)) (o : Option (List (List ℕ))) → o ≡ Some ((a ++ b) ++ c) → o ≡ Some (a ++ (b ++ c))
joined a b c o e = e ∙ ap (λ (x : List (List ℕ)). Some x) (append_assoc a b c)

-- ---- trimming

pub minid_told : (s : TrimSettings) (m : Mode) (id : List ℕ) (limit : Option ℕ) (places : List Span) → s.bound ≡ 2
    → mode_by s.approximate ≡ m → s.minid ≡ first_place (drop 2 places) → if_set s.has_limit s.limit ≡ limit
    → Tells StrategyFits strategy_sentence (λ bytes. strategy_in bytes s) (record { bound = min_id m id; limit = limit })
    places
minid_told s m id limit places bound mode at limited bytes rest e fits =
    let there = utf8_after bytes places (codes "MINID" ∷ mode_word m ∷ [])
    (clause (word_number (codes "LIMIT")) limit ++ rest) id s.minid at e fits.bound in
    rw (bound, mode, there, limited) refl

pub some_strategy_told : (s : TrimSettings) (x : Strategy) (places : List Span) → (s.bound ≡ 0 → ⊥)
    → Tells StrategyFits strategy_sentence (λ bytes. strategy_in bytes s) x places
    → Tells (λ o. IfSome o StrategyFits) (clause strategy_sentence) (λ bytes. any_strategy_in bytes s) (Some x) places
some_strategy_told s x places some told bytes rest e fits =
    let is : nat_eq s.bound 0 ≡ false = grind (arith, nat_tests) in
    rw (is, told bytes rest e fits) refl

pub trim_told : (s : TrimSettings) (t : Trim) (places : List Span) → policy_by s.policy ≡ Some t.policy
    → Tells StrategyFits strategy_sentence (λ bytes. strategy_in bytes s) t.strategy places
    → Tells TrimFits trim_sentence (λ bytes. trim_in bytes s) t places
trim_told s t places policy told bytes rest e fits =
    let front = strategy_sentence t.strategy in
    let tail = clause policy_sentence t.policy in
    rw (told bytes (tail ++ rest) (joined front tail rest (texts_at bytes places) e) fits, policy) refl

-- ---- adding

pub manual_told : (producer item : Span) (p i : List ℕ) (places : List Span) → producer ≡ first_place (drop 1 places)
    → item ≡ first_place (drop 2 places)
    → Tells (λ o. IfSome o IdempotencyFits) (clause idempotency_sentence)
    (λ bytes. idempotency_by bytes 1 producer item) (Some (manual p i)) places
manual_told producer item p i places at also bytes rest e fits =
    rw (
      utf8_after bytes places (codes "IDMP" ∷ []) (i ∷ rest) p producer at e fits.0,
      utf8_after bytes places (codes "IDMP" ∷ p ∷ []) rest i item also e fits.1,
    ) refl

pub automatic_told : (producer item : Span) (p : List ℕ) (places : List Span) → producer ≡ first_place (drop 1 places)
    → Tells (λ o. IfSome o IdempotencyFits) (clause idempotency_sentence)
    (λ bytes. idempotency_by bytes 2 producer item) (Some (automatic p)) places
automatic_told producer item p places at bytes rest e fits =
    rw (utf8_after bytes places (codes "IDMPAUTO" ∷ []) rest p producer at e fits) refl

pub add_told : (s : AddSettings) (a : Add) (places p1 p2 p3 : List Span) → s.nomkstream ≡ a.nomkstream
    → policy_by s.trim.policy ≡ Some a.policy
    → Skips (flag (codes "NOMKSTREAM") a.nomkstream) places p1
    → Skips (clause policy_sentence a.policy) p1 p2
    → Tells (λ o. IfSome o IdempotencyFits) (clause idempotency_sentence) (λ bytes. idempotency_in bytes s) a.idempotency p2
    → Skips (clause idempotency_sentence a.idempotency) p2 p3
    → Tells (λ o. IfSome o StrategyFits) (clause strategy_sentence) (λ bytes. any_strategy_in bytes s.trim) a.trim p3
    → Tells AddFits add_sentence (λ bytes. add_in bytes s) a places
add_told s a places p1 p2 p3 nomkstream policy after_flag after_policy told after_told strategy bytes rest e fits =
    let second = clause policy_sentence a.policy in
    let third = clause idempotency_sentence a.idempotency in
    let last = clause strategy_sentence a.trim in
    let e2 = after_policy bytes (third ++ last) rest (after_flag bytes (second ++ (third ++ last)) rest e) in
    let i = told bytes (last ++ rest) (joined third last rest (texts_at bytes p2) e2) fits.idempotency in
    rw (nomkstream, policy, i, strategy bytes rest (after_told bytes last rest e2) fits.trim) refl

-- ---- claiming

pub lastid_told : (place : Span) (id : List ℕ) (places : List Span) → place ≡ first_place (drop 1 places)
    → Tells (λ o. IfSome o IsUtf8) (clause (word_text (codes "LASTID"))) (λ bytes. lastid_by bytes true place) (Some id)
    places
lastid_told place id places at bytes rest e fits =
    rw (utf8_after bytes places (codes "LASTID" ∷ []) rest id place at e fits) refl

pub claim_told : (s : ClaimSettings) (c : Claim) (places p1 p2 p3 p4 p5 : List Span)
    → if_set s.has_idle s.idle ≡ c.idle → if_set s.has_time s.time ≡ c.time → if_set s.has_retry s.retry ≡ c.retry
    → s.force ≡ c.force → s.justid ≡ c.justid
    → Skips (clause (word_number (codes "IDLE")) c.idle) places p1
    → Skips (clause (word_number (codes "TIME")) c.time) p1 p2
    → Skips (clause (word_number (codes "RETRYCOUNT")) c.retry) p2 p3
    → Skips (flag (codes "FORCE") c.force) p3 p4
    → Skips (flag (codes "JUSTID") c.justid) p4 p5
    → Tells (λ o. IfSome o IsUtf8) (clause (word_text (codes "LASTID"))) (λ bytes. lastid_in bytes s) c.lastid p5
    → Tells ClaimFits claim_sentence (λ bytes. claim_in bytes s) c places
claim_told s c places p1 p2 p3 p4 p5 idle time retry force justid s1 s2 s3 s4 s5 told bytes rest e fits =
    let c6 = clause (word_text (codes "LASTID")) c.lastid in
    let c5 = flag (codes "JUSTID") c.justid ++ c6 in
    let c4 = flag (codes "FORCE") c.force ++ c5 in
    let c3 = clause (word_number (codes "RETRYCOUNT")) c.retry ++ c4 in
    let c2 = clause (word_number (codes "TIME")) c.time ++ c3 in
    let e5 = s5 bytes c6 rest (s4 bytes c5 rest (s3 bytes c4 rest (s2 bytes c3 rest (s1 bytes c2 rest e)))) in
    rw (told bytes rest e5 fits.lastid, idle, time, retry, force, justid) refl

-- ---- reading

pub read_told : (s : ReadSettings) (place : GroupPlace) (p : ReadParts) (places : List Span)
    → asked_by s ≡ asked_of p → (p.group ≡ None → p.noack ≡ false) → (p.group ≡ None → p.claim ≡ None)
    → place.has_group ≡ is_some p.group
    → Tells Any (clause group_sentence) (λ bytes. group_in bytes place) (option_map group_of p.group) places
    → Tells ReadFits read_sentence (λ bytes. read_in bytes s place) (read_of p) places
read_told s place p places asked noack claim has told bytes rest e fits =
    by p.group refl has (told bytes (others ++ rest) (joined front others rest (texts_at bytes places) e) cc)
  where
    front : List (List ℕ)
    front = clause group_sentence (option_map group_of p.group)

    others : List (List ℕ)
    others = clause (word_number (codes "BLOCK")) p.block
        ++ (clause (word_number (codes "COUNT")) p.count
        ++ (if is_some (option_map group_of p.group)
        then flag (codes "NOACK") p.noack ++ clause (word_number (codes "CLAIM")) p.claim
        else []))

    of : (g : Group) (o : Option (List ℕ × List ℕ)) → option_map group_by o ≡ Some (Some g)
        → option_map (read_for s) o
        ≡ Some (record { group = Some g; block = p.block; count = p.count; noack = p.noack; claim = p.claim })
    of g None h = absurd cc
    of g (Some names) h =
        let is : single_group names.0 names.1 ≡ g = cc in
        let b = ap (λ (x : Asked). x.0) asked in
        let k = ap (λ (x : Asked). x.1.0) asked in
        let n = ap (λ (x : Asked). x.1.1.0) asked in
        let c = ap (λ (x : Asked). x.1.1.1) asked in
        rw (← is, b, k, n, c) refl

    by : (names : Option GroupNames) → p.group ≡ names → place.has_group ≡ is_some names
        → group_in bytes place ≡ Some (option_map group_of names)
        → read_in bytes s place ≡ Some (record {
          group = option_map group_of names;
          block = p.block;
          count = p.count;
          noack = p.noack;
          claim = p.claim;
        })
    by None is h g =
        let b = ap (λ (x : Asked). x.0) asked in
        let k = ap (λ (x : Asked). x.1.0) asked in
        rw (h, b, k, noack is, claim is) refl
    by (Some names) is h g =
        rw h
        (of (group_of names) (both_read (text_at bytes place.group) (text_at bytes place.consumer)) (rw h at g))
