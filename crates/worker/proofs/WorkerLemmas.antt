-- From what an answer says to what a worker did with it.
use Rattle.std.proofs.Common.{◌≡◌, ◌≢◌, inl, inr, refl, sym, ap, subst, ◌∙◌, ℕ, List, [], ◌∷◌, ◌++◌, Option, Some, None}
use Rattle.std.proofs.Common.{option_map, string_bytes, Result, Ok, Err, String, Global}
use Rattle.std.specs.Prelude.{option_and_then, OnOk, true, false, Bool, if◌then◌else◌}
use Rattle.std.specs.Result.{IfOk, IfErr, IsErrAnd}
use Rattle.redis_resp.specs.Number.{unsigned_reading}
use Rattle.redis_resp.specs.Refusal.{RefusesNumber}
use Rattle.redis_resp.specs.Tree.{Tree}
use Rattle.redis_resp.specs.declared.value.error.ParsingError.{ParsingError}
use Rattle.redis_resp.specs.declared.value.error.ParsingError.TheVariants as parsing
use Rattle.redis_wire.specs.Reply as wire
use Rattle.model_server.specs.Group.Worker as machine
use Rattle.model_server.specs.Group.Worker.{Id, Delivered, Verdict, Answer, acknowledged, own_pending, taken_over, news}
use Rattle.model_server.specs.Group.Worker.{Machine, Ending, cut_off, ending, after, after_own, after_claim, after_news}
use Rattle.model_server.specs.Group.Worker.{phase_after, phase_at, still, entries_in, acks_in, begins_again}
use Rattle.stream_in_place.specs.Sent.{Pairs, SentAutoClaim, SentEntry}
use Rattle.stream_in_place.specs.SentReading.{sent_autoclaim_reading, sent_streams_reading}
use Rattle.stream_in_place.specs.SentRefusal.{RefusesSentAutoClaim, RefusesSentStreams}
use Rattle.worker.specs.Answered.{Took, Went, WasCut, Failed, HasNil}
use Rattle.worker.specs.Answers.{Heard, told, no_group, group_made, is_gone, means, says, entries_read, only_stream}
use Rattle.worker.specs.Answers.{claim_read, claim_there, news_read, those_there}
use Rattle.worker.specs.Errors.{read_error}
use Rattle.worker.specs.Machine.{Moved, ending_of}
use Rattle.worker.specs.Parts.{IsAcknowledged, IsOfGroup, IsRefused, NoClaim, NoStreams, NotClaimed, NotNews, NotRead, Unread}
use Rattle.worker.specs.Parts.{reads_own}
use Rattle.worker.specs.Taking.{all_delivered}
use Rattle.worker.specs.declared.error.WorkerError.{WorkerError}
use Rattle.worker.specs.declared.error.WorkerError.TheVariants as causes
use Rattle.worker.specs.declared.state.Asked.{Asked}
use Rattle.worker.specs.declared.state.Asked.TheVariants as asked
use Rattle.worker.specs.declared.state.Settings.{Settings}
use Rattle.worker.specs.declared.worker.Progress.{Progress}
use Rattle.worker.specs.declared.worker.Progress.TheVariants.{GoesOn}
use Rattle.worker.proofs.ReadLemmas.{there_not}

-- what was moved is what the answer does to the machine
took : {R : Type 0} (with_verdict : R → List ℕ × Pairs → Verdict → R) (answer : Answer Pairs)
    (next : machine.Phase) (m n : Machine) (r s : R) (how : Ending)
    → next ≡ phase_after m.every m.phase answer → still m.to_acknowledge answer ≡ m.to_acknowledge
    → Moved with_verdict (entries_in answer) next (begins_again m) n r s how → Took with_verdict answer m n r s how
took with_verdict answer next m n r s how e k v = record {
  verdicts = v.verdicts;
  machine = v.machine
      ∙ (ap
      (λ h. let x : Machine = record {
        every = m.every;
        phase = phase_at h next;
        to_commit = m.to_commit ++ acks_in (entries_in answer) v.verdicts;
        to_acknowledge = m.to_acknowledge;
      } in x) v.ended
      ∙ (ap
      (λ p. let x : Machine = record {
        every = m.every;
        phase = phase_at (ending (entries_in answer) v.verdicts) p;
        to_commit = m.to_commit ++ acks_in (entries_in answer) v.verdicts;
        to_acknowledge = m.to_acknowledge;
      } in x) e
      ∙ ap
      (λ l. let x : Machine = record {
        every = m.every;
        phase = phase_at (ending (entries_in answer) v.verdicts)
            (phase_after m.every m.phase answer);
        to_commit = m.to_commit ++ acks_in (entries_in answer) v.verdicts;
        to_acknowledge = l;
      } in x) (sym k)));
  history = v.history;
  ended = v.ended;
}

said_own : (key : List ℕ) (t : Tree) (es : List SentEntry) → entries_read key t ≡ Some es
    → says key asked.Own t ≡ Some (told (own_pending (all_delivered es)))
said_own key t es h = ap (λ o. option_map (λ xs. told (own_pending (all_delivered xs))) o) h

said_news : (key : List ℕ) (t : Tree) (es : List SentEntry) → news_read key t ≡ Some es
    → says key asked.New t ≡ Some (told (news (all_delivered es)))
said_news key t es h = ap (λ o. option_map (λ xs. told (news (all_delivered xs))) o) h

said_claim : (key : List ℕ) (t : Tree) (c : SentAutoClaim) → claim_read t ≡ Some c
    → says key asked.Claim t ≡ Some (told (taken_over c.next (all_delivered c.claimed)))
said_claim key t c h = ap (λ o. option_map (λ x. told (taken_over x.next (all_delivered x.claimed))) o) h

module _ {R : Type 0} (with_verdict : R → List ℕ × Pairs → Verdict → R) (settings : Settings) (t : Tree)
    (m n : Machine) (r s : R) where
  pub own_went : (es : List SentEntry) (next : machine.Phase) (p : Progress)
      → entries_read (string_bytes settings.key) t ≡ Some es
      → next ≡ after_own (all_delivered es)
      → Moved with_verdict (all_delivered es) next (begins_again m) n r s (ending_of p)
      → Went with_verdict settings asked.Own (wire.value t) m n r s p
  own_went es next p h e v = record {
    heard = told (own_pending (all_delivered es));
    said = said_own (string_bytes settings.key) t es h;
    goes = took with_verdict (own_pending (all_delivered es)) next m n r s (ending_of p) e refl v;
  }

  pub own_cut : (es : List SentEntry) (next : machine.Phase) → entries_read (string_bytes settings.key) t ≡ Some es
      → next ≡ after_own (all_delivered es) → Moved with_verdict (all_delivered es) next (begins_again m) n r s cut_off
      → Failed with_verdict settings asked.Own (wire.value t) m n r s causes.Memory
  own_cut es next h e v = (
    t,
    refl,
    inr (record {
      answer = own_pending (all_delivered es);
      said = said_own (string_bytes settings.key) t es h;
      took = took with_verdict (own_pending (all_delivered es)) next m n r s cut_off e refl v;
    }),
  )

  pub news_went : (es : List SentEntry) (next : machine.Phase) (p : Progress)
      → news_read (string_bytes settings.key) t ≡ Some es
      → next ≡ after_news m.every m.phase → Moved with_verdict (all_delivered es) next (begins_again m) n r s
      (ending_of p)
      → Went with_verdict settings asked.New (wire.value t) m n r s p
  news_went es next p h e v = record {
    heard = told (news (all_delivered es));
    said = said_news (string_bytes settings.key) t es h;
    goes = took with_verdict (news (all_delivered es)) next m n r s (ending_of p) e refl v;
  }

  pub news_cut : (es : List SentEntry) (next : machine.Phase) → news_read (string_bytes settings.key) t ≡ Some es
      → next ≡ after_news m.every m.phase → Moved with_verdict (all_delivered es) next (begins_again m) n r s cut_off
      → Failed with_verdict settings asked.New (wire.value t) m n r s causes.Memory
  news_cut es next h e v = (
    t,
    refl,
    inr (record {
      answer = news (all_delivered es);
      said = said_news (string_bytes settings.key) t es h;
      took = took with_verdict (news (all_delivered es)) next m n r s cut_off e refl v;
    }),
  )

  pub claim_went : (c : SentAutoClaim) (next : machine.Phase) (p : Progress) → claim_read t ≡ Some c
      → next ≡ after_claim c.next → Moved with_verdict (all_delivered c.claimed) next (begins_again m) n r s
      (ending_of p)
      → Went with_verdict settings asked.Claim (wire.value t) m n r s p
  claim_went c next p h e v = record {
    heard = told (taken_over c.next (all_delivered c.claimed));
    said = said_claim (string_bytes settings.key) t c h;
    goes = took with_verdict (taken_over c.next (all_delivered c.claimed)) next m n r s (ending_of p) e refl v;
  }

  pub claim_cut : (c : SentAutoClaim) (next : machine.Phase) → claim_read t ≡ Some c
      → next ≡ after_claim c.next → Moved with_verdict (all_delivered c.claimed) next (begins_again m) n r s cut_off
      → Failed with_verdict settings asked.Claim (wire.value t) m n r s causes.Memory
  claim_cut c next h e v = (
    t,
    refl,
    inr (record {
      answer = taken_over c.next (all_delivered c.claimed);
      said = said_claim (string_bytes settings.key) t c h;
      took = took with_verdict (taken_over c.next (all_delivered c.claimed)) next m n r s cut_off e refl v;
    }),
  )

pub if_ok : {T E : Type 0} (r : Result T E) (P Q : T → Type 0) → ((x : T) → P x → Q x) → IfOk r P → IfOk r Q
if_ok (Ok x) P Q f h = f x h
if_ok (Err e) P Q f h = h

pub if_err : {T E : Type 0} (r : Result T E) (P Q : E → Type 0) → ((e : E) → P e → Q e) → IfErr r P → IfErr r Q
if_err (Ok x) P Q f h = h
if_err (Err e) P Q f h = f e h

pub memory_err : {T : Type 0} (r : Result T WorkerError) (P : WorkerError → Type 0)
    → IsErrAnd r (λ e. e ≡ causes.Memory) → P causes.Memory → IfErr r P
memory_err (Ok x) P h p = tt
memory_err (Err e) P h p = subst P (sym h) p

-- an error of a reading is `Memory`, or tells what was not read
pub read_failed : (P : WorkerError → Type 0) (p : ParsingError) → P causes.Memory
    → (p ≢ parsing.Memory → P (causes.Parsing p)) → P (read_error p)
read_failed P parsing.Memory m f = m
read_failed P parsing.NotText m f = f (λ e. absurd cc)
read_failed P parsing.NotNumber m f = f (λ e. absurd cc)
read_failed P parsing.NotList m f = f (λ e. absurd cc)
read_failed P parsing.NotPairs m f = f (λ e. absurd cc)
read_failed P (parsing.NotTuple n) m f = f (λ e. absurd cc)
read_failed P parsing.NotArray m f = f (λ e. absurd cc)
read_failed P (parsing.WrongItemCount n) m f = f (λ e. absurd cc)
read_failed P parsing.WrongClaimedType m f = f (λ e. absurd cc)
read_failed P parsing.UnknownReadFormat m f = f (λ e. absurd cc)
read_failed P parsing.PendingWithoutStart m f = f (λ e. absurd cc)
read_failed P parsing.PendingWithoutEnd m f = f (λ e. absurd cc)
read_failed P (parsing.NotPendingRow n) m f = f (λ e. absurd cc)
read_failed P (parsing.UnknownXDelEx n) m f = f (λ e. absurd cc)
read_failed P (parsing.UnknownXAckDel n) m f = f (λ e. absurd cc)
read_failed P parsing.NotXDelEx m f = f (λ e. absurd cc)
read_failed P parsing.NotXAckDel m f = f (λ e. absurd cc)
read_failed P parsing.NotBytes m f = f (λ e. absurd cc)

module _ {R : Type 0} (with_verdict : R → List ℕ × Pairs → Verdict → R) (settings : Settings) (t : Tree)
    (m n : Machine) (r s : R) where
  own_unread : (e : WorkerError) → Unread sent_streams_reading RefusesSentStreams t e → n ≡ begins_again m → s ≡ r
      → Failed with_verdict settings asked.Own (wire.value t) m n r s e
  own_unread e u i j =
      subst (λ (x : WorkerError). Failed with_verdict settings asked.Own (wire.value t) m n r s x) (sym u.1)
      (read_failed (λ (x : WorkerError). Failed with_verdict settings asked.Own (wire.value t) m n r s x) u.0
      (t, refl, inl (i, j))
      (λ other. (
        (t, refl, u.2),
        ap (λ o. option_map (λ es. told (own_pending (all_delivered es)))
            (option_and_then (only_stream (string_bytes settings.key)) o)) (u.2.1 other),
        i,
        j,
      )))

  own_no_streams : (e : WorkerError) → NoStreams t e → n ≡ begins_again m → s ≡ r
      → Failed with_verdict settings asked.Own (wire.value t) m n r s e
  own_no_streams e (inl h) i j =
      subst (λ (x : WorkerError). Failed with_verdict settings asked.Own (wire.value t) m n r s x) (sym h)
      (t, refl, inl (i, j))
  own_no_streams e (inr u) i j = own_unread e u i j

  -- a value that holds no entries of the stream
  pub own_not_read : (e : WorkerError) → NotRead (string_bytes settings.key) t e → n ≡ begins_again m → s ≡ r
      → Failed with_verdict settings asked.Own (wire.value t) m n r s e
  own_not_read e (inl u) i j = own_no_streams e u i j
  own_not_read e (inr o) i j =
      subst (λ (x : WorkerError). Failed with_verdict settings asked.Own (wire.value t) m n r s x) (sym o.0) (
        (t, refl, o.1, o.2),
        ap (λ es. option_map (λ xs. told (own_pending (all_delivered xs))) es) o.1,
        i,
        j,
      )

  news_unread : (e : WorkerError) → Unread sent_streams_reading RefusesSentStreams t e → n ≡ begins_again m → s ≡ r
      → Failed with_verdict settings asked.New (wire.value t) m n r s e
  news_unread e u i j =
      subst (λ (x : WorkerError). Failed with_verdict settings asked.New (wire.value t) m n r s x) (sym u.1)
      (read_failed (λ (x : WorkerError). Failed with_verdict settings asked.New (wire.value t) m n r s x) u.0
      (t, refl, inl (i, j))
      (λ other. (
        (t, refl, u.2),
        ap (λ o. option_map (λ es. told (news (all_delivered es)))
            (option_and_then those_there (option_and_then (only_stream (string_bytes settings.key)) o))) (u.2.1 other),
        i,
        j,
      )))

  news_no_streams : (e : WorkerError) → NoStreams t e → n ≡ begins_again m → s ≡ r
      → Failed with_verdict settings asked.New (wire.value t) m n r s e
  news_no_streams e (inl h) i j =
      subst (λ (x : WorkerError). Failed with_verdict settings asked.New (wire.value t) m n r s x) (sym h)
      (t, refl, inl (i, j))
  news_no_streams e (inr u) i j = news_unread e u i j

  pub news_not_read : (e : WorkerError) → NotRead (string_bytes settings.key) t e → n ≡ begins_again m → s ≡ r
      → Failed with_verdict settings asked.New (wire.value t) m n r s e
  news_not_read e (inl u) i j = news_no_streams e u i j
  news_not_read e (inr o) i j =
      subst (λ (x : WorkerError). Failed with_verdict settings asked.New (wire.value t) m n r s x) (sym o.0) (
        (t, refl, o.1, o.2),
        ap (λ es. option_map (λ xs. told (news (all_delivered xs))) (option_and_then those_there es)) o.1,
        i,
        j,
      )

  -- nil in a new entry
  nil_in_news : (id : List ℕ) → HasNil (string_bytes settings.key) asked.New t id
      → news_read (string_bytes settings.key) t ≡ None
  nil_in_news id h =
      ap (option_and_then those_there) h.1 ∙ ap (λ (b : Bool). if b then Some h.0 else None) (there_not h.0 id h.2)

  pub news_nil : (id : String Global) → HasNil (string_bytes settings.key) asked.New t (string_bytes id)
      → n ≡ begins_again m → s ≡ r
      → Failed with_verdict settings asked.New (wire.value t) m n r s (causes.NilFields id)
  news_nil id h i j = (
    (t, refl, h),
    ap (option_map (λ xs. told (news (all_delivered xs)))) (nil_in_news (string_bytes id) h),
    i,
    j,
  )

  -- a value that holds no new entries of the stream
  pub news_refused : (e : WorkerError) → NotNews (string_bytes settings.key) t e → n ≡ begins_again m → s ≡ r
      → Failed with_verdict settings asked.New (wire.value t) m n r s e
  news_refused e (inl u) i j = news_not_read e u i j
  news_refused e (inr h) i j =
      subst (λ (x : WorkerError). Failed with_verdict settings asked.New (wire.value t) m n r s x) (sym h.1)
      (news_nil h.0 h.2 i j)

  -- a value that is no answer to a claim
  pub claim_unread : (e : WorkerError) → Unread sent_autoclaim_reading RefusesSentAutoClaim t e → n ≡ begins_again m → s ≡ r
      → Failed with_verdict settings asked.Claim (wire.value t) m n r s e
  claim_unread e u i j =
      subst (λ (x : WorkerError). Failed with_verdict settings asked.Claim (wire.value t) m n r s x) (sym u.1)
      (read_failed (λ (x : WorkerError). Failed with_verdict settings asked.Claim (wire.value t) m n r s x) u.0
      (t, refl, inl (i, j))
      (λ other. (
        (t, refl, u.2),
        ap (λ o. option_map (λ (c : SentAutoClaim). told (taken_over c.next (all_delivered c.claimed)))
            (option_and_then claim_there o)) (u.2.1 other),
        i,
        j,
      )))

  -- nil in a claimed entry
  nil_in_claim : (id : List ℕ) → HasNil (string_bytes settings.key) asked.Claim t id → claim_read t ≡ None
  nil_in_claim id h =
      ap (option_and_then claim_there) h.1
      ∙ ap (λ (b : Bool). if b then Some h.0 else None) (there_not h.0.claimed id h.2)

  pub claim_nil : (id : String Global) → HasNil (string_bytes settings.key) asked.Claim t (string_bytes id)
      → n ≡ begins_again m → s ≡ r
      → Failed with_verdict settings asked.Claim (wire.value t) m n r s (causes.NilFields id)
  claim_nil id h i j = (
    (t, refl, h),
    ap (option_map (λ (c : SentAutoClaim). told (taken_over c.next (all_delivered c.claimed))))
        (nil_in_claim (string_bytes id) h),
    i,
    j,
  )

  claim_not_read : (e : WorkerError) → NoClaim t e → n ≡ begins_again m → s ≡ r
      → Failed with_verdict settings asked.Claim (wire.value t) m n r s e
  claim_not_read e (inl h) i j =
      subst (λ (x : WorkerError). Failed with_verdict settings asked.Claim (wire.value t) m n r s x) (sym h)
      (t, refl, inl (i, j))
  claim_not_read e (inr u) i j = claim_unread e u i j

  pub claim_refused : (key : List ℕ) (e : WorkerError) → NotClaimed key t e → n ≡ begins_again m → s ≡ r
      → Failed with_verdict settings asked.Claim (wire.value t) m n r s e
  claim_refused key e (inl u) i j = claim_not_read e u i j
  claim_refused key e (inr h) i j =
      subst (λ (x : WorkerError). Failed with_verdict settings asked.Claim (wire.value t) m n r s x) (sym h.1)
      (claim_nil h.0 h.2 i j)

  -- a value that is no count
  pub ack_unread : (e : WorkerError) → Unread (unsigned_reading 64) RefusesNumber t e → n ≡ begins_again m → s ≡ r
      → Failed with_verdict settings asked.Acknowledgement (wire.value t) m n r s e
  ack_unread e u i j =
      subst (λ (x : WorkerError). Failed with_verdict settings asked.Acknowledgement (wire.value t) m n r s x) (sym u.1)
      (read_failed (λ (x : WorkerError). Failed with_verdict settings asked.Acknowledgement (wire.value t) m n r s x) u.0
      (t, refl, inl (i, j))
      (λ other. ((t, refl, u.2), ap (λ o. option_map (λ k. told acknowledged) o) (u.2.1 other), i, j)))

pub err_is : {T : Type 0} (r : Result T WorkerError) (P : WorkerError → Type 0) (e : WorkerError)
    → IsErrAnd r (λ x. x ≡ e) → P e → IfErr r P
err_is (Ok x) P e h p = tt
err_is (Err x) P e h p = subst P (sym h) p

pub on_ok : {A E P : Type 0} (r : Result A E) → P → OnOk r P
on_ok (Ok x) p = p
on_ok (Err e) p = tt

some_of : {A B : Type 0} (o : Option A) (b : B) → o ≢ None → option_map (λ a. b) o ≡ Some b
some_of None b h = absurd (h refl)
some_of (Some a) b h = refl

nothing_behind : {A : Type 0} (xs : List A) → xs ++ [] ≡ xs
nothing_behind [] = refl
nothing_behind (x ∷ xs) = ap (λ r. x ∷ r) (nothing_behind xs)

module _ {R : Type 0} (with_verdict : R → List ℕ × Pairs → Verdict → R) (settings : Settings) (question : Asked)
    (m n : Machine) (r s : R) where
  pub ack_went : (t : Tree) (p : Progress) → question ≡ asked.Acknowledgement → s ≡ r
      → (p ≡ GoesOn) × IsAcknowledged t m n
      → Went with_verdict settings question (wire.value t) m n r s p
  ack_went t p q k h = record {
    heard = told acknowledged;
    said = ap (λ x. says (string_bytes settings.key) x t) q ∙ some_of (unsigned_reading 64 t) (told acknowledged) h.1.0;
    goes = record {
      verdicts = [];
      machine =
          h.1.1
          ∙ ap
          (λ l. let x : Machine = record { every = m.every; phase = m.phase; to_commit = l; to_acknowledge = [] } in x)
          (sym (nothing_behind m.to_commit));
      history = k;
      ended = ap ending_of h.0;
    };
  }

  -- a group that was heard of changes nothing else
  pub group_went : (text : List ℕ) (p : Progress) → n ≡ m → s ≡ r
      → (p ≡ GoesOn) × IsOfGroup (means settings.make_group question text)
      → Went with_verdict settings question (wire.refused text) m n r s p
  group_went text p j k h =
      let case : (o : Option Heard) → means settings.make_group question text ≡ o → IsOfGroup o
      → Went with_verdict settings question (wire.refused text) m n r s p
      = λ o. elim o as (λ v. means settings.make_group question text ≡ v → IsOfGroup v
      → Went with_verdict settings question (wire.refused text) m n r s p) [
        | None ↦ λ q f. absurd f
        | Some x ↦ elim x as (λ v. means settings.make_group question text ≡ Some v → IsOfGroup (Some v)
            → Went with_verdict settings question (wire.refused text) m n r s p) [
              | told answer ↦ λ q f. absurd f
              | no_group ↦ λ q f. record { heard = no_group; said = q; goes = (j, k, h.0) }
              | group_made ↦ λ q f. record { heard = group_made; said = q; goes = (j, k, h.0) }
            ]
      ] in
      case (means settings.make_group question text) refl h.1

  pub refused_failed : (text : List ℕ) (e : WorkerError) → n ≡ m → s ≡ r
      → IsRefused question text e × (means settings.make_group question text ≡ None)
      → Failed with_verdict settings question (wire.refused text) m n r s e
  refused_failed text causes.NotAsked j k h = (h.0, j, k)
  refused_failed text (causes.Server e) j k h = (
    h.0.0,
    ap wire.refused h.0.1,
    subst (λ (x : List ℕ). is_gone question x ≡ false) h.0.1 h.0.2,
    h.1,
    j,
    k,
  )
  refused_failed text (causes.GroupIsGone e) j k h =
      (ap wire.refused h.0.0, subst (λ (x : List ℕ). is_gone question x ≡ true) h.0.0 h.0.1, h.1, j, k)
  refused_failed text causes.NotAnAnswer j k h = absurd h.0
  refused_failed text (causes.Parsing e) j k h = absurd h.0
  refused_failed text causes.OtherStream j k h = absurd h.0
  refused_failed text (causes.NilFields id) j k h = absurd h.0
  refused_failed text causes.Memory j k h = absurd h.0

-- before anything is known of the group, entries of its own are taken in the same way
module _ {R : Type 0} (with_verdict : R → List ℕ × Pairs → Verdict → R) (settings : Settings) (t : Tree)
    (m n : Machine) (r s : R) where
  pub first_went : (p : Progress) → Went with_verdict settings asked.Own (wire.value t) m n r s p
      → Went with_verdict settings asked.First (wire.value t) m n r s p
  first_went p g = record { heard = g.heard; said = g.said; goes = g.goes }

  first_cut : (u : Tree) → WasCut with_verdict settings asked.Own u m n r s
      → WasCut with_verdict settings asked.First u m n r s
  first_cut u c = record { answer = c.answer; said = c.said; took = c.took }

  pub first_failed : (e : WorkerError) → Failed with_verdict settings asked.Own (wire.value t) m n r s e
      → Failed with_verdict settings asked.First (wire.value t) m n r s e
  first_failed causes.NotAsked f = let both : asked.Own ≡ asked.Nothing = f.0 in absurd cc
  first_failed (causes.Server e) f = let both : wire.value t ≡ wire.refused e.text.items = f.1 in absurd cc
  first_failed (causes.GroupIsGone e) f = let both : wire.value t ≡ wire.refused e.text.items = f.0 in absurd cc
  first_failed causes.NotAnAnswer f = absurd f.0
  first_failed (causes.Parsing e) f = f
  first_failed causes.OtherStream f = f
  first_failed (causes.NilFields id) f = absurd f.0.2
  first_failed causes.Memory f = (
    f.0,
    f.1,
    elim f.2 [
      | inl p ↦ inl p
      | inr c ↦ inr (first_cut f.0 c)
    ],
  )

  pub own_as_asked : (q : Asked) (p : Progress) → reads_own q ≡ true
      → Went with_verdict settings asked.Own (wire.value t) m n r s p
      → Went with_verdict settings q (wire.value t) m n r s p
  own_as_asked asked.First p own g = first_went p g
  own_as_asked asked.Own p own g = g
  own_as_asked asked.Nothing p own g = absurd cc
  own_as_asked asked.Acknowledgement p own g = absurd cc
  own_as_asked asked.Group p own g = absurd cc
  own_as_asked asked.Claim p own g = absurd cc
  own_as_asked asked.New p own g = absurd cc

  pub own_failed_as_asked : (q : Asked) (e : WorkerError) → reads_own q ≡ true
      → Failed with_verdict settings asked.Own (wire.value t) m n r s e
      → Failed with_verdict settings q (wire.value t) m n r s e
  own_failed_as_asked asked.First e own f = first_failed e f
  own_failed_as_asked asked.Own e own f = f
  own_failed_as_asked asked.Nothing e own f = absurd cc
  own_failed_as_asked asked.Acknowledgement e own f = absurd cc
  own_failed_as_asked asked.Group e own f = absurd cc
  own_failed_as_asked asked.Claim e own f = absurd cc
  own_failed_as_asked asked.New e own f = absurd cc
