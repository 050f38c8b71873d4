-- The result returned for bytes determines the outcome: no two outcomes are true of the same bytes.
use Rattle.std.proofs.Common.{◌≡◌, ◌≢◌, ◌⊎◌, ◌∙◌, ℕ, List, [], ◌++◌, length, take, drop, Option, Some, None}
use Rattle.std.proofs.Common.{Ok, refl, sym, ap, arith, subst, inl, inr}
use Rattle.std.proofs.lemmas.List.{length-append, take_at, take-append-drop, append-nil, append_assoc, nil_from_length}
use Rattle.redis_resp.specs.Tree.{Tree}
use Rattle.redis_wire.specs.declared.fault.Fault.{Fault}
use Rattle.redis_wire.specs.declared.fault.WireError.TheVariants as errors
use Rattle.redis_wire.specs.Decoded.{NoReply, IsFirstFault}
use Rattle.redis_wire.specs.Grammar.{IsAnyReply, IsReply}
use Rattle.redis_wire.specs.Limits.{default_limits}
use Rattle.redis_wire.specs.Push.{reply_at}
use Rattle.redis_wire.specs.Reading.{Read}
use Rattle.redis_wire.specs.Reply.{Answer, value, refused}
use Rattle.redis_wire.proofs.DecodeLemmas.{fault_whole}
use Rattle.redis_wire.proofs.FitsLemmas.{reply_fits}
use Rattle.redis_c.specs.Outcome.{code, code_of_fault}
use Rattle.redis_c.specs.Records.{IsRecordAt, IsUnread, AreRecords, HasNoRecord}
use Rattle.redis_c.specs.Records.{IsOrMemory, TellsReplies, HasRoom, TellsRecords, records_code}
use Rattle.redis_c.specs.Told.{IsAnswered, IsNoError}
use Rattle.redis_c.specs.declared.outcome.Outcome.{Outcome}
use Rattle.redis_c.specs.declared.outcome.Outcome.TheVariants as outcomes
use Rattle.redis_c.specs.declared.records.Records.{Records}
use Rattle.redis_c.specs.declared.records.Records.TheVariants as records

-- ---- one reply at the head

same_read : (r : Read Answer) (x y : Answer × List ℕ) → r ≡ Ok x → r ≡ Ok y → (x.0 ≡ y.0) × (x.1 ≡ y.1)
same_read r x y p q = let e : x ≡ y = cc in (ap (λ (z : Answer × List ℕ). z.0) e, ap (λ (z : Answer × List ℕ). z.1) e)

-- bytes begin with one reply, however many values it has
pub any_form : (x y more others : List ℕ) (a b : Answer) → IsAnyReply default_limits x a
    → IsAnyReply default_limits y b → x ++ more ≡ y ++ others → (a ≡ b) × (more ≡ others)
any_form x y more others a b s t same =
    same_read (reply_at default_limits (x ++ more)) (a, more) (b, others)
    ((reply_fits default_limits).again x more a s)
    (ap (reply_at default_limits) same ∙ (reply_fits default_limits).again y others b t)

module _ (bytes : List ℕ) (len : ℕ) (b : Answer) (there : IsAnyReply default_limits (take len bytes) b) where
  -- so the reply there is this one
  pub same_answer : (text rest : List ℕ) (a : Answer) → IsReply default_limits text a → bytes ≡ text ++ rest → b ≡ a
  same_answer text rest a s is =
      (any_form (take len bytes) text (drop len bytes) rest b a there s.reply (take-append-drop len bytes ∙ is)).0

  -- and they are no proper beginning of one
  pub is_whole : (more : List ℕ) (a : Answer) → more ≢ [] → IsReply default_limits (bytes ++ more) a → ⊥
  is_whole more a some s =
      let all : take len bytes ++ (drop len bytes ++ more) ≡ (bytes ++ more) ++ [] =
      sym (append_assoc (take len bytes) (drop len bytes) more)
      ∙ ap (λ (x : List ℕ). x ++ more) (take-append-drop len bytes) ∙ sym (append-nil (bytes ++ more)) in
      let left = (any_form (take len bytes) (bytes ++ more) (drop len bytes ++ more) [] b a there s.reply all).1 in
      some (nil_from_length more (omega (arith, ap length left, length-append (drop len bytes) more)))

-- no reply is at the head of bytes that begin with none
pub none_there : (bytes text rest : List ℕ) (a : Answer) → NoReply default_limits bytes
    → IsReply default_limits text a → bytes ≡ text ++ rest → ⊥
none_there bytes text rest a none s is =
    none (length text) a
    (subst (λ (x : List ℕ). IsReply default_limits x a)
    (sym (take_at text rest (length text) refl) ∙ ap (take (length text)) (sym is)) s)

-- nor after more of them
pub none_later : (bytes more : List ℕ) (a : Answer) → NoReply default_limits (bytes ++ more)
    → IsReply default_limits (bytes ++ more) a → ⊥
none_later bytes more a none s =
    none_there (bytes ++ more) (bytes ++ more) [] a none s (sym (append-nil (bytes ++ more)))

no_value_is_refused : (t : Tree) (e : List ℕ) → value t ≡ refused e → ⊥
no_value_is_refused t e same = subst IsNoError same tt

same_tree : (t u : Tree) → value t ≡ value u → t ≡ u
same_tree t u same = cc

-- ---- records

module _ {M : Type 0} (reading : Tree → Option M) (bytes : List ℕ) where
  pub early_unread : (o : Outcome) → IsUnread reading bytes o → (more : List ℕ) (a : Answer) → more ≢ []
      → IsReply default_limits (bytes ++ more) a → IsOrMemory 2 (code o)
  early_unread outcomes.Incomplete u more a some s = inl refl
  early_unread outcomes.Memory u more a some s = inr refl
  early_unread (outcomes.ServerError len text) u more a some s =
      absurd (is_whole bytes len _ u.answered.reply.reply more a some s)
  early_unread (outcomes.OtherShape len) u more a some s =
      absurd (is_whole bytes len u.a u.answered.reply.reply more a some s)
  early_unread (outcomes.Fault f) u more a some s = absurd (none_later bytes more a (u.none more) s)
  early_unread (outcomes.InPlace len counts) u more a some s = absurd u
  early_unread (outcomes.Room len counts) u more a some s = absurd u

  pub error_unread : (o : Outcome) → IsUnread reading bytes o → (text rest e : List ℕ)
      → IsReply default_limits text (refused e) → bytes ≡ text ++ rest → IsOrMemory 3 (code o)
  error_unread outcomes.Incomplete u text rest e s is = absurd (none_there bytes text rest (refused e) u.none s is)
  error_unread outcomes.Memory u text rest e s is = inr refl
  error_unread (outcomes.ServerError len place) u text rest e s is = inl refl
  error_unread (outcomes.OtherShape len) u text rest e s is =
      absurd (subst IsNoError (same_answer bytes len u.a u.answered.reply.reply text rest (refused e) s is) u.no_error)
  error_unread (outcomes.Fault f) u text rest e s is =
      absurd (none_there (bytes ++ []) text rest (refused e) (u.none []) s (append-nil bytes ∙ is))
  error_unread (outcomes.InPlace len counts) u text rest e s is = absurd u
  error_unread (outcomes.Room len counts) u text rest e s is = absurd u

  -- a fault is not where a reply is
  pub no_fault : (f : Fault) (len : ℕ) (a : Answer) → IsFirstFault default_limits bytes (errors.Fault f)
      → IsAnswered bytes len a → ⊥
  no_fault f len a first at =
      fault_whole default_limits bytes f first (take len bytes) (drop len bytes) a at.reply
      (sym (take-append-drop len bytes))

  pub fault_unread : (o : Outcome) → IsUnread reading bytes o → (f : Fault)
      → IsFirstFault default_limits bytes (errors.Fault f) → IsOrMemory (code_of_fault f) (code o)
  fault_unread outcomes.Incomplete u f first = let e = u.early in absurd cc
  fault_unread outcomes.Memory u f first = inr refl
  fault_unread (outcomes.ServerError len place) u f first = absurd (no_fault f len _ first u.answered)
  fault_unread (outcomes.OtherShape len) u f first = absurd (no_fault f len u.a first u.answered)
  fault_unread (outcomes.Fault g) u f first =
      let e = u.first in let same : g ≡ f = cc in inl (ap code_of_fault same)
  fault_unread (outcomes.InPlace len counts) u f first = absurd u
  fault_unread (outcomes.Room len counts) u f first = absurd u

  -- of a value, only that it has another shape, or that memory ran out
  value_unread : (o : Outcome) → IsUnread reading bytes o → (text rest : List ℕ) (t : Tree)
      → IsReply default_limits text (value t) → bytes ≡ text ++ rest
      → ((code o ≡ 4) × (reading t ≡ None)) ⊎ (code o ≡ 5)
  value_unread outcomes.Incomplete u text rest t s is = absurd (none_there bytes text rest (value t) u.none s is)
  value_unread outcomes.Memory u text rest t s is = inr refl
  value_unread (outcomes.ServerError len place) u text rest t s is =
      absurd (no_value_is_refused t _ (sym (same_answer bytes len _ u.answered.reply.reply text rest (value t) s is)))
  value_unread (outcomes.OtherShape len) u text rest t s is =
      let same = same_answer bytes len u.a u.answered.reply.reply text rest (value t) s is in
      inl (refl, subst (HasNoRecord reading bytes) same u.no_record)
  value_unread (outcomes.Fault f) u text rest t s is =
      absurd (none_there (bytes ++ []) text rest (value t) (u.none []) s (append-nil bytes ∙ is))
  value_unread (outcomes.InPlace len counts) u text rest t s is = absurd u
  value_unread (outcomes.Room len counts) u text rest t s is = absurd u

  -- the record at the head is that of the value at the head
  same_reading : (len : ℕ) (m : M) → IsRecordAt reading bytes len m → (text rest : List ℕ) (t : Tree)
      → IsReply default_limits text (value t) → bytes ≡ text ++ rest → reading t ≡ Some m
  same_reading len m at text rest t s is =
      ap reading
      (sym (same_tree at.t t
      (same_answer bytes len (value at.t) at.answered.reply.reply text rest (value t) s is))) ∙ at.reads

  no_error_at : (len : ℕ) (m : M) → IsRecordAt reading bytes len m → (text rest e : List ℕ)
      → IsReply default_limits text (refused e) → bytes ≡ text ++ rest → ⊥
  no_error_at len m at text rest e s is =
      no_value_is_refused at.t e
      (same_answer bytes len (value at.t) at.answered.reply.reply text rest (refused e) s is)

one_record : {M : Type 0} (o : Option M) (m n : M) → o ≡ Some m → o ≡ Some n → m ≡ n
one_record o m n p q = cc

module _ {M : Type 0} (reading : Tree → Option M) (bytes : List ℕ) (Holds : ℕ → ℕ → M → Type 0) (records_of : M → ℕ)
    (text_of : M → List ℕ) (room text_room : ℕ) where
  abbrev Are : Records → Type 0
  Are = AreRecords reading bytes Holds records_of text_of room text_room

  replies_told : (r : Records) → Are r → TellsReplies bytes (records_code r)
  replies_told (records.Copied len count text) c = record {
    early = λ more a some s. absurd (is_whole bytes len _ c.at.answered.reply.reply more a some s);
    error = λ text rest e s is. absurd (no_error_at reading bytes len c.m c.at text rest e s is);
    fault = λ f first. absurd (no_fault reading bytes f len _ first c.at.answered);
  }
  replies_told (records.Room len count text) c = record {
    early = λ more a some s. absurd (is_whole bytes len _ c.at.answered.reply.reply more a some s);
    error = λ text rest e s is. absurd (no_error_at reading bytes len c.m c.at text rest e s is);
    fault = λ f first. absurd (no_fault reading bytes f len _ first c.at.answered);
  }
  replies_told (records.Unread o) u = record {
    early = early_unread reading bytes o u;
    error = error_unread reading bytes o u;
    fault = fault_unread reading bytes o u;
  }

  abbrev Room : M → Type 0
  Room = HasRoom reading records_of text_of room text_room

  copied_told : (r : Records) → Are r → (text rest : List ℕ) (t : Tree) (m : M)
      → IsReply default_limits text (value t) → bytes ≡ text ++ rest → reading t ≡ Some m → Room m
      → IsOrMemory 0 (records_code r)
  copied_told (records.Copied len count size) c text rest t m s is reads fits = inl refl
  copied_told (records.Room len count size) c text rest t m s is reads fits =
      let same = one_record (reading t) c.m m (same_reading reading bytes len c.m c.at text rest t s is) reads in
      absurd (elim c.more [
        | inl more ↦ omega (arith, more, c.count_is, ap records_of same, fits.few)
        | inr more ↦ omega (arith, more, c.text_is, ap (λ (x : M). length (text_of x)) same, fits.short)
      ])
  copied_told (records.Unread o) u text rest t m s is reads fits =
      elim (value_unread reading bytes o u text rest t s is) [ inl p ↦ let e = p.1 in absurd cc | inr p ↦ inr p ]

  wanted_told : (r : Records) → Are r → (text rest : List ℕ) (t : Tree) (m : M)
      → IsReply default_limits text (value t) → bytes ≡ text ++ rest → reading t ≡ Some m → (Room m → ⊥)
      → IsOrMemory 1 (records_code r)
  wanted_told (records.Copied len count size) c text rest t m s is reads never =
      let same = one_record (reading t) c.m m (same_reading reading bytes len c.m c.at text rest t s is) reads in
      absurd (never (record {
        few = omega (arith, c.count_is, ap records_of same, c.few);
        short = omega (arith, c.text_is, ap (λ (x : M). length (text_of x)) same, c.short);
      }))
  wanted_told (records.Room len count size) c text rest t m s is reads never = inl refl
  wanted_told (records.Unread o) u text rest t m s is reads never =
      elim (value_unread reading bytes o u text rest t s is) [ inl p ↦ let e = p.1 in absurd cc | inr p ↦ inr p ]

  other_told : (r : Records) → Are r → (text rest : List ℕ) (t : Tree)
      → IsReply default_limits text (value t) → bytes ≡ text ++ rest → reading t ≡ None
      → IsOrMemory 4 (records_code r)
  other_told (records.Copied len count size) c text rest t s is none =
      let e = same_reading reading bytes len c.m c.at text rest t s is in absurd cc
  other_told (records.Room len count size) c text rest t s is none =
      let e = same_reading reading bytes len c.m c.at text rest t s is in absurd cc
  other_told (records.Unread o) u text rest t s is none =
      elim (value_unread reading bytes o u text rest t s is) [ inl p ↦ inl p.0 | inr p ↦ inr p ]

  all_told : (r : Records) → Are r → TellsRecords reading records_of text_of room text_room bytes (records_code r)
  all_told r are = record {
    replies = replies_told r are;
    copied = copied_told r are;
    wanted = wanted_told r are;
    other = other_told r are;
  }

  -- which outcome is returned for which bytes
  pub records_tell : (r : Records) (n : ℕ) → n ≡ records_code r → Are r
      → TellsRecords reading records_of text_of room text_room bytes n
  records_tell r n number are =
      subst (TellsRecords reading records_of text_of room text_room bytes) (sym number) (all_told r are)
