-- From what stands in bytes to what a worker did with it.
use Rattle.std.proofs.Common.{◌≡◌, ◌≢◌, refl, sym, ap, ◌∙◌, ℕ, Bool, List, take, drop, Option, Some, None}
use Rattle.std.proofs.Common.{string_bytes, Result, Ok, Err, inl, subst}
use Rattle.std.specs.Prelude.{true, if◌then◌else◌, option_and_then, option_map}
use Rattle.std.specs.Result.{IsErrAnd}
use Rattle.std.proofs.lemmas.List.{take-append-drop}
use Rattle.redis_resp.specs.Tree.{Tree}
use Rattle.redis_wire.specs.Decoded.{Decodes, IsFirstFault}
use Rattle.redis_wire.specs.Grammar.{IsAnyReply}
use Rattle.redis_wire.specs.Reply as wire
use Rattle.redis_wire.specs.declared.fault.WireError.{WireError}
use Rattle.redis_wire.specs.declared.fault.WireError.TheVariants as wire_errors
use Rattle.redis_wire.specs.declared.limits.Limits.{Limits}
use Rattle.model_server.specs.Group.Worker.{Machine, Verdict, begins_again, news, own_pending}
use Rattle.stream_in_place.specs.Sent.{Pairs, SentAutoClaim, SentEntry, SentStream}
use Rattle.stream_in_place.specs.SentReading.{sent_autoclaim_reading, sent_streams_reading}
use Rattle.worker.specs.Answered.{Failed, Went}
use Rattle.worker.specs.Answers.{told, all_there, by_value, claim_read, claim_there, group_after, entries_read}
use Rattle.worker.specs.Answers.{news_read, only_stream, shows_group, those_there}
use Rattle.worker.specs.InPlace.{FailedInPlace, Heads, TakenByValue, TakenInPlace, WentInPlace, in_answer}
use Rattle.worker.specs.Parts.{reads_own}
use Rattle.worker.specs.Session.{Standing}
use Rattle.worker.specs.Taking.{all_delivered}
use Rattle.worker.specs.declared.error.AnswerError.{AnswerError}
use Rattle.worker.specs.declared.error.InPlaceError.{InPlaceError}
use Rattle.worker.specs.declared.error.InPlaceError.TheVariants as causes
use Rattle.worker.specs.declared.error.WorkerError.{WorkerError}
use Rattle.worker.specs.declared.error.WorkerError.TheVariants as worker
use Rattle.worker.specs.declared.state.Asked.{Asked}
use Rattle.worker.specs.declared.state.Asked.TheVariants as asked
use Rattle.worker.specs.declared.state.Asked.TheVariants.{Nothing}
use Rattle.worker.specs.declared.state.GroupState.TheVariants.{Known}
use Rattle.worker.specs.declared.state.Settings.{Settings}
use Rattle.worker.specs.declared.worker.Progress.{Progress}
use Rattle.worker.proofs.WorkerLemmas.{own_as_asked, own_failed_as_asked}

-- the entries of the streams that a value holds
pub streams_say : (key : List ℕ) (t : Tree) (ss : List SentStream) (o : Option (List SentEntry))
    → sent_streams_reading t ≡ Some ss → o ≡ only_stream key ss → entries_read key t ≡ o
streams_say key t ss o reads is = ap (option_and_then (only_stream key)) reads ∙ sym is

-- new entries, where nil stands for the fields of none
pub news_say : (key : List ℕ) (t : Tree) (es : List SentEntry) → entries_read key t ≡ Some es → all_there es ≡ true
    → news_read key t ≡ Some es
news_say key t es reads there =
    ap (option_and_then those_there) reads ∙ ap (λ (b : Bool). if b then Some es else None) there

pub claim_says : (t : Tree) (c : SentAutoClaim) → sent_autoclaim_reading t ≡ Some c → all_there c.claimed ≡ true
    → claim_read t ≡ Some c
claim_says t c reads there =
    ap (option_and_then claim_there) reads ∙ ap (λ (b : Bool). if b then Some c else None) there

module _ {R : Type 0} (with_verdict : R → List ℕ × Pairs → Verdict → R) (settings : Settings) (t : Tree)
    (m n : Machine) (r s : R) (ss : List SentStream) (reads : sent_streams_reading t ≡ Some ss) where
  it_reads : sent_streams_reading t ≢ None
  it_reads e = let both : Some ss ≡ None = sym reads ∙ e in absurd cc

  other_stream : only_stream (string_bytes settings.key) ss ≡ None → entries_read (string_bytes settings.key) t ≡ None
  other_stream other = ap (option_and_then (only_stream (string_bytes settings.key))) reads ∙ other

  -- the streams are not the one that was asked for
  pub own_other : only_stream (string_bytes settings.key) ss ≡ None → n ≡ begins_again m → s ≡ r
      → Failed with_verdict settings asked.Own (wire.value t) m n r s worker.OtherStream
  own_other other i j = (
    (t, refl, other_stream other, it_reads),
    ap (option_map (λ es. told (own_pending (all_delivered es)))) (other_stream other),
    i,
    j,
  )

  pub news_other : only_stream (string_bytes settings.key) ss ≡ None → n ≡ begins_again m → s ≡ r
      → Failed with_verdict settings asked.New (wire.value t) m n r s worker.OtherStream
  news_other other i j = (
    (t, refl, other_stream other, it_reads),
    ap (λ o. option_map (λ es. told (news (all_delivered es))) (option_and_then those_there o)) (other_stream other),
    i,
    j,
  )

-- a value with entries of its own shows that the group is there
pub shows_own : (q : Asked) → reads_own q ≡ true → shows_group q ≡ true
shows_own asked.First own = refl
shows_own asked.Own own = refl
shows_own asked.Nothing own = absurd cc
shows_own asked.Acknowledgement own = absurd cc
shows_own asked.Group own = absurd cc
shows_own asked.Claim own = absurd cc
shows_own asked.New own = absurd cc

-- memory ran out before an entry was handed out
pub nothing_taken : {R : Type 0} (with_verdict : R → List ℕ × Pairs → Verdict → R) (settings : Settings)
    (q : Asked) (t : Tree) (m n : Machine) (r s : R) → n ≡ begins_again m → s ≡ r
    → Failed with_verdict settings q (wire.value t) m n r s worker.Memory
nothing_taken with_verdict settings q t m n r s i j = (t, refl, inl (i, j))

heads : (limits : Limits) (bytes : List ℕ) (len : ℕ) (a : wire.Answer) → IsAnyReply limits (take len bytes) a
    → Heads limits bytes a
heads limits bytes len a r = record {
  text = take len bytes;
  rest = drop len bytes;
  is = sym (take-append-drop len bytes);
  reply = r;
}

module _ {R : Type 0} (with_verdict : R → List ℕ × Pairs → Verdict → R) (settings : Settings) (limits : Limits)
    (bytes : List ℕ) (w x : Standing R) where
  pub went_at : (len : ℕ) (a : wire.Answer) (p : Progress) → IsAnyReply limits (take len bytes) a
      → Went with_verdict settings w.asked a w.machine x.machine w.history x.history p
      → x.group ≡ group_after settings w.group w.asked a → x.asked ≡ Nothing
      → WentInPlace with_verdict settings limits bytes w x p
  went_at len a p r went group answered = (a, heads limits bytes len a r, went, group, answered)

  pub failed_at : (len : ℕ) (a : wire.Answer) (e : AnswerError) → IsAnyReply limits (take len bytes) a
      → Failed with_verdict settings w.asked a w.machine x.machine w.history x.history e.error
      → x.group ≡ group_after settings w.group w.asked a → x.asked ≡ Nothing → e.asked ≡ w.asked
      → FailedInPlace with_verdict settings limits bytes w x (causes.Answer e)
  failed_at len a e r failed group answered named = (a, heads limits bytes len a r, failed, group, answered, named)

  pub unread : (e : WireError) → x ≡ w → Decodes limits bytes (Err e) → IsFirstFault limits bytes e
      → FailedInPlace with_verdict settings limits bytes w x (causes.Unread e)
  unread wire_errors.Memory same sound first = same
  unread (wire_errors.Fault fault) same sound first = (same, sound, first)

  known_after : (q : Asked) → w.asked ≡ q → shows_group q ≡ true → x.group ≡ Known
      → x.group ≡ by_value w.group w.asked
  known_after q is shows known =
      known ∙ sym (ap (λ (b : Bool). if b then Known else w.group) (ap shows_group is ∙ shows))

  -- a value that was taken where it stands
  value_went : (q : Asked) (len : ℕ) (t : Tree) (p : Progress) → w.asked ≡ q
      → IsAnyReply limits (take len bytes) (wire.value t)
      → Went with_verdict settings q (wire.value t) w.machine x.machine w.history x.history p
      → shows_group q ≡ true → x.group ≡ Known → x.asked ≡ Nothing
      → WentInPlace with_verdict settings limits bytes w x p
  value_went q len t p is r went shows known answered =
      went_at len (wire.value t) p r
      (subst (λ (y : Asked). Went with_verdict settings y (wire.value t) w.machine x.machine w.history x.history p)
      (sym is) went)
      (known_after q is shows known) answered

  -- the error, which says what was asked
  abbrev saying : WorkerError → AnswerError
  saying e = record { asked = w.asked; error = e }

  value_failed : (q : Asked) (len : ℕ) (t : Tree) (e : WorkerError) → w.asked ≡ q
      → IsAnyReply limits (take len bytes) (wire.value t)
      → Failed with_verdict settings q (wire.value t) w.machine x.machine w.history x.history e
      → shows_group q ≡ true → x.group ≡ Known → x.asked ≡ Nothing
      → FailedInPlace with_verdict settings limits bytes w x (causes.Answer (saying e))
  value_failed q len t e is r failed shows known answered =
      failed_at len (wire.value t) (saying e) r
      (subst (λ (y : Asked). Failed with_verdict settings y (wire.value t) w.machine x.machine w.history x.history e)
      (sym is) failed) (known_after q is shows known) answered refl

  pub value_taken : (q : Asked) (len : ℕ) (t : Tree) (o : Result Progress WorkerError) → w.asked ≡ q
      → IsAnyReply limits (take len bytes) (wire.value t)
      → TakenByValue with_verdict settings q t w.machine x.machine w.history x.history o
      → shows_group q ≡ true → x.group ≡ Known → x.asked ≡ Nothing
      → TakenInPlace with_verdict settings limits bytes w x (in_answer w.asked o)
  value_taken q len t (Ok p) is r took shows known answered = value_went q len t p is r took shows known answered
  value_taken q len t (Err e) is r took shows known answered = value_failed q len t e is r took shows known answered

  pub answer_taken : (r : Result Progress InPlaceError) (e : AnswerError) → IsErrAnd r (λ i. i ≡ causes.Answer e)
      → FailedInPlace with_verdict settings limits bytes w x (causes.Answer e)
      → TakenInPlace with_verdict settings limits bytes w x r
  answer_taken (Ok p) e h f = absurd h
  answer_taken (Err i) e h f = subst (FailedInPlace with_verdict settings limits bytes w x) (sym h) f

pub memory_taken : {R : Type 0} (with_verdict : R → List ℕ × Pairs → Verdict → R) (settings : Settings)
    (q : Asked) (t : Tree) (m n : Machine) (r s : R) (result : Result Progress WorkerError)
    → IsErrAnd result (λ e. e ≡ worker.Memory) → Failed with_verdict settings q (wire.value t) m n r s worker.Memory
    → TakenByValue with_verdict settings q t m n r s result
memory_taken with_verdict settings q t m n r s (Ok p) h f = absurd h
memory_taken with_verdict settings q t m n r s (Err e) h f =
    subst (Failed with_verdict settings q (wire.value t) m n r s) (sym h) f

-- its own pending entries are taken in the same way before anything is known of the group
pub own_taken_as_asked : {R : Type 0} (with_verdict : R → List ℕ × Pairs → Verdict → R) (settings : Settings)
    (t : Tree) (m n : Machine) (r s : R) (q : Asked) (o : Result Progress WorkerError) → reads_own q ≡ true
    → TakenByValue with_verdict settings asked.Own t m n r s o → TakenByValue with_verdict settings q t m n r s o
own_taken_as_asked with_verdict settings t m n r s q (Ok p) own took =
    own_as_asked with_verdict settings t m n r s q p own took
own_taken_as_asked with_verdict settings t m n r s q (Err e) own took =
    own_failed_as_asked with_verdict settings t m n r s q e own took
