-- The result returned for entries that are found determines the outcome.
use Rattle.std.proofs.Common.{◌≡◌, ◌≢◌, ◌++◌, ◌∙◌, ℕ, Bool, true, false, List, [], take, drop, Option, None}
use Rattle.std.proofs.Common.{Ok, Err, refl, sym, ap, subst}
use Rattle.std.specs.Prelude.{nat_lt, if◌then◌else◌}
use Rattle.std.proofs.lemmas.List.{take-append-drop}
use Rattle.redis_resp.specs.Tree.{Tree}
use Rattle.redis_wire.specs.declared.fault.Fault.{Fault}
use Rattle.redis_wire.specs.declared.fault.Fault.TheVariants.{TooMany}
use Rattle.redis_wire.specs.declared.fault.WireError.TheVariants as errors
use Rattle.redis_wire.specs.Bounded.{bounded_at, reply_begun}
use Rattle.redis_wire.specs.Decoded.{IsFirstFault}
use Rattle.redis_wire.specs.Grammar.{IsAnyReply, IsReply}
use Rattle.redis_wire.specs.Limits.{default_limits}
use Rattle.redis_wire.specs.Push.{reply_at}
use Rattle.redis_wire.specs.Reading.{bad, Read}
use Rattle.redis_wire.specs.Reply.{Answer, value, refused, group, pushed}
use Rattle.redis_wire.proofs.FitsLemmas.{reply_fits}
use Rattle.stream_in_place.specs.Held.{Held}
use Rattle.stream_in_place.specs.declared.places.AutoClaimPlace.{AutoClaimPlace}
use Rattle.stream_in_place.specs.declared.places.FieldPlace.{FieldPlace}
use Rattle.stream_in_place.specs.declared.places.EntryPlace.{EntryPlace}
use Rattle.stream_in_place.specs.declared.places.StreamPlace.{StreamPlace}
use Rattle.redis_c.specs.Claimed.{AutoClaimIn, JustIdIn}
use Rattle.redis_c.specs.Outcome.{code}
use Rattle.redis_c.specs.Records.{HasNoRecord, IsUnread, TellsFinding}
use Rattle.redis_c.specs.Told.{IsNoError, IsOther, IsOutcome, RangeIn, StreamsIn, first_of}
use Rattle.redis_c.specs.declared.outcome.Counts.{Counts}
use Rattle.redis_c.specs.declared.outcome.Outcome.{Outcome}
use Rattle.redis_c.specs.declared.outcome.Outcome.TheVariants as outcomes
use Rattle.redis_c.proofs.TellLemmas.{is_whole, same_answer, early_unread, error_unread, fault_unread}

-- no value has a record
abbrev nothing_read : Tree → Option ℕ
nothing_read t = None

no_record : (a : Answer) → HasNoRecord nothing_read [] a
no_record (value t) = refl
no_record (refused text) = tt
no_record (group k xs) = tt
no_record (pushed k xs) = tt

unread : (bytes : List ℕ) (o : Outcome) → IsOther bytes o → IsUnread nothing_read bytes o
unread bytes outcomes.Incomplete i = i
unread bytes outcomes.Memory i = i
unread bytes (outcomes.ServerError len text) i = i
unread bytes (outcomes.OtherShape len) i =
    record { a = i.a; answered = i.answered; no_error = i.no_error; no_record = no_record i.a }
unread bytes (outcomes.Fault f) i = i
unread bytes (outcomes.InPlace len counts) i = absurd i
unread bytes (outcomes.Room len counts) i = absurd i

no_fault_read : (b : Bool) (r : Read Answer) (f : Fault) (x : Answer × List ℕ)
    → (if b then Err (bad TooMany) else r) ≡ Err (bad f) → r ≡ Ok x → f ≢ TooMany → ⊥
no_fault_read true r f x e is apart = let same : f ≡ TooMany = cc in apart same
no_fault_read false r f x e is apart = absurd cc

module _ (bytes : List ℕ) (len : ℕ) (a : Answer) (there : IsAnyReply default_limits (take len bytes) a) where
  no_fault_there : (f : Fault) → f ≢ TooMany → IsFirstFault default_limits bytes (errors.Fault f) → ⊥
  unfolding bounded_at
  no_fault_there f apart first =
      no_fault_read (nat_lt default_limits.values (reply_begun default_limits bytes)) (reply_at default_limits bytes) f
      (a, drop len bytes) first
      (ap (reply_at default_limits) (sym (take-append-drop len bytes))
      ∙ (reply_fits default_limits).again (take len bytes) (drop len bytes) a there) apart

  no_error_there : (text rest e : List ℕ) → IsNoError a → IsReply default_limits text (refused e)
      → bytes ≡ text ++ rest → ⊥
  no_error_there text rest e sound s is =
      subst IsNoError (same_answer bytes len a there text rest (refused e) s is) sound

  -- a value that is found is reported as nothing else
  value_found : (n : ℕ) → IsNoError a → TellsFinding bytes n
  value_found n sound = record {
    early = λ more b some s. absurd (is_whole bytes len a there more b some s);
    error = λ text rest e s is. absurd (no_error_there text rest e sound s is);
    fault = λ f apart first. absurd (no_fault_there f apart first);
  }

other_told : (bytes : List ℕ) (o : Outcome) → IsOther bytes o → TellsFinding bytes (code o)
other_told bytes o is = record {
  early = early_unread nothing_read bytes o (unread bytes o is);
  error = error_unread nothing_read bytes o (unread bytes o is);
  fault = λ f apart first. fault_unread nothing_read bytes o (unread bytes o is) f first;
}

module _ (In : List ℕ → ℕ → Held → Type 0) (bytes : List ℕ)
    (whole : (len : ℕ) (held : Held) → In bytes len held
    → (t : Tree) × IsAnyReply default_limits (take len bytes) (value t))
    (room : Counts) (streams : List StreamPlace) (entries : List EntryPlace) (fields : List FieldPlace) where
  found_told : (len : ℕ) (held : Held) (n : ℕ) → In bytes len held → TellsFinding bytes n
  found_told len held n is = let w = whole len held is in value_found bytes len (value w.0) w.1 n tt

  outcome_told : (o : Outcome) → IsOutcome In bytes room streams entries fields o → TellsFinding bytes (code o)
  outcome_told (outcomes.InPlace len counts) is = found_told len (first_of counts streams entries fields) 0 is
  outcome_told (outcomes.Room len counts) is = found_told len is.0 1 is.1
  outcome_told outcomes.Incomplete is = other_told bytes outcomes.Incomplete is
  outcome_told outcomes.Memory is = other_told bytes outcomes.Memory is
  outcome_told (outcomes.ServerError len text) is = other_told bytes (outcomes.ServerError len text) is
  outcome_told (outcomes.OtherShape len) is = other_told bytes (outcomes.OtherShape len) is
  outcome_told (outcomes.Fault f) is = other_told bytes (outcomes.Fault f) is

  -- which outcome is returned for which bytes
  pub finding_told : (o : Outcome) (n : ℕ) → n ≡ code o → IsOutcome In bytes room streams entries fields o
      → TellsFinding bytes n
  finding_told o n number is = subst (TellsFinding bytes) (sym number) (outcome_told o is)

module _ (bytes : List ℕ) (len : ℕ) (held : Held) where
  pub range_whole : RangeIn bytes len held → (t : Tree) × IsAnyReply default_limits (take len bytes) (value t)
  range_whole i = (_, i.reply)

  pub streams_whole : StreamsIn bytes len held → (t : Tree) × IsAnyReply default_limits (take len bytes) (value t)
  streams_whole i = (i.tree, i.reply)

  pub autoclaim_whole : (place : AutoClaimPlace) → AutoClaimIn place bytes len held
      → (t : Tree) × IsAnyReply default_limits (take len bytes) (value t)
  autoclaim_whole place i = (_, i.is.reply)

  pub justid_whole : (place : AutoClaimPlace) → JustIdIn place bytes len held
      → (t : Tree) × IsAnyReply default_limits (take len bytes) (value t)
  justid_whole place i = (_, i.is.reply)
