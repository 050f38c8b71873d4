-- Why a reply does not fit the command.
use Rattle.std.specs.Prelude.{◌≡◌, ℕ, Bool, true, false, nat_eq, Option, Some, None}
use Rattle.redis_wire.specs.Reply as wire
use Rattle.redis_wire.specs.Reply.{AnswerList}
use Rattle.redis_wire.specs.declared.kind.GroupKind.{GroupKind}
use Rattle.redis_wire.specs.declared.kind.GroupKind.TheVariants as groups
use Rattle.worker_producer.specs.Replies.{last_of, not_standing, reply_count}
use Rattle.worker_producer.specs.declared.error.FeedError.{FeedError}
use Rattle.worker_producer.specs.declared.error.FeedError.TheVariants as causes

-- the reply is not an error
abbrev pub IsNoError : wire.Answer → Type 0
IsNoError (wire.value t) = Unit {0}
IsNoError (wire.refused text) = ⊥
IsNoError (wire.group kind members) = Unit {0}
IsNoError (wire.pushed kind payload) = Unit {0}

-- the reply is a value
abbrev pub IsValue : wire.Answer → Type 0
IsValue (wire.value t) = Unit {0}
IsValue (wire.refused text) = ⊥
IsValue (wire.group kind members) = ⊥
IsValue (wire.pushed kind payload) = ⊥

-- the reply as an error: its text if it is an error reply, and else `NotAnAnswer`
abbrev pub IsCause : wire.Answer → FeedError → Type 0
IsCause a causes.NotAsked = ⊥
IsCause a (causes.Server e) = a ≡ wire.refused e.text.items
IsCause a causes.NotAnAnswer = IsNoError a
IsCause a causes.OtherWriter = ⊥
IsCause a causes.Memory = ⊥

-- why a reply to XINFO STREAM has no last id
abbrev pub IsUnasked : wire.Answer → FeedError → Type 0
IsUnasked a causes.NotAsked = ⊥
IsUnasked a (causes.Server e) = (a ≡ wire.refused e.text.items) × (last_of a ≡ None)
IsUnasked a causes.NotAnAnswer = IsNoError a × (last_of a ≡ None)
IsUnasked a causes.OtherWriter = ⊥
IsUnasked a causes.Memory = IsValue a

-- the first reply that is not one of a record in the stream, as an error
abbrev pub IsOfFirst : Option wire.Answer → FeedError → Type 0
IsOfFirst None e = ⊥
IsOfFirst (Some a) e = IsCause a e

-- the error of the replies in a group, by whether there are as many as records were sent
abbrev pub ByCount : Bool → AnswerList → FeedError → Type 0
ByCount true xs e = IsOfFirst (not_standing xs) e
ByCount false xs e = e ≡ causes.NotAnAnswer

-- the error of a group
abbrev pub OfGroup : ℕ → GroupKind → AnswerList → FeedError → Type 0
OfGroup n groups.Array xs e = ByCount (nat_eq (reply_count xs) n) xs e
OfGroup n groups.Set xs e = e ≡ causes.NotAnAnswer
OfGroup n groups.Map xs e = e ≡ causes.NotAnAnswer
OfGroup n groups.Attribute xs e = e ≡ causes.NotAnAnswer

-- why a batch of this number of records is not in the stream, by the reply to EXEC
abbrev pub IsUnexecuted : ℕ → wire.Answer → FeedError → Type 0
IsUnexecuted n (wire.value t) e = e ≡ causes.NotAnAnswer
IsUnexecuted n (wire.refused text) e = IsCause (wire.refused text) e
IsUnexecuted n (wire.group kind members) e = OfGroup n kind members e
IsUnexecuted n (wire.pushed kind payload) e = e ≡ causes.NotAnAnswer
