-- What XADD does.
use Rattle.std.specs.Prelude.{◌≡◌, ◌+◌, ◌==◌, ◌⊎◌, ◌∷◌, ℕ, List, Option, Some, None, true, false, codes, drop, nat_lt, if◌then◌else◌}
use Rattle.std.specs.Bool.{MatchBool}
use Rattle.std.specs.Global.{Vec}
use Rattle.std.specs.List.{HoldsAt}
use Rattle.std.specs.declared.cmp.Ordering.TheVariants.{Less}
use Rattle.server_store.specs.EntryId.{id_number, id_text}
use Rattle.server_store.specs.Order.{id_order}
use Rattle.server_store.specs.Stream.{IsLonger}
use Rattle.server_store.specs.Trim.{IsTrimmed}
use Rattle.server_store.specs.declared.entry_id.EntryId.{EntryId}
use Rattle.server_store.specs.declared.stream.Entry.{Entry}
use Rattle.server_store.specs.declared.stream.Stream.{Stream}
use Rattle.server_store.specs.declared.trim.Trim.{Trim}
use Rattle.server_commands.specs.Changed.{IsChangedAt, IsMade}
use Rattle.server_commands.specs.IdWords.{Fits, texts_of}
use Rattle.server_commands.specs.Places.{AreInOrder, IsMissing, keys_of}
use Rattle.server_commands.specs.declared.answer.Answer.{Answer}
use Rattle.server_commands.specs.declared.answer.Answer.TheVariants.{Id, Nil}
use Rattle.server_commands.specs.declared.commands.new_ids.NewId.{NewId}
use Rattle.server_commands.specs.declared.commands.new_ids.NewId.TheVariants.{Automatic, Within, Given}
use Rattle.server_commands.specs.declared.commands.retention.Retention.{Retention}

-- the options that are an id alone
abbrev pub id_alone : NewId → Retention
id_alone id = record { makes_stream = true; trim = None; id = id; len = 1 }

-- The options that words begin with: an id alone, if the first word is the text of one, or `*`.
pub record AreOptions (words : List (Vec ℕ)) (options : Retention) : Type 0 where
  pub given : (id : EntryId) (others : List (List ℕ)) → Fits id → texts_of words ≡ id_text id ∷ others
      → options ≡ id_alone (Given id)
  pub automatic : (others : List (List ℕ)) → texts_of words ≡ codes "*" ∷ others → options ≡ id_alone Automatic

-- the id that a new entry gets: the one that is given; the next one of a millisecond; or one of now, or the next one
abbrev pub IsIdFor : EntryId → NewId → ℕ → EntryId → Type 0
IsIdFor last (Given wanted) now id = id ≡ wanted
IsIdFor last (Within ms) now id =
    id ≡ record { milliseconds = ms; sequence = if ms == last.milliseconds then last.sequence + 1 else 0 }
IsIdFor last Automatic now id = MatchBool (nat_lt last.milliseconds now)
    (id ≡ record { milliseconds = now; sequence = 0 }) (id_number id ≡ id_number last + 1)

-- if a trim is given, the stream is trimmed by it
abbrev pub IsTrimmedBy : Option Trim → Stream → Stream → Type 0
IsTrimmedBy None old new = new ≡ old
IsTrimmedBy (Some trim) old new = (count : ℕ) × IsTrimmed trim count old new

-- an entry of these fields is the newest of the stream, which is trimmed then; its id, which is the reply, is above
pub record IsAdded (fields : Vec (Vec ℕ)) (options : Retention) (now : ℕ) (answer : Answer) (old new : Stream) : Type 0 where
  pub entry : Entry
  pub longer : Stream
  pub fielded : entry.fields ≡ fields
  pub fit : Fits entry.id
  pub above : id_order old.last_id entry.id ≡ Less
  pub wanted : IsIdFor old.last_id options.id now entry.id
  pub added : IsLonger entry old longer
  pub trimmed : IsTrimmedBy options.trim longer new
  pub answered : answer ≡ Id entry.id

-- no stream is made, by the option NOMKSTREAM
pub record IsNotMade (options : Retention) (answer : Answer) (old new : List Stream) : Type 0 where
  pub asked : options.makes_stream ≡ false
  pub same : new ≡ old
  pub answered : answer ≡ Nil

-- there is no stream of this key: one is made, to which the entry is added, or by the option none is made
pub record IsXaddOfNone (key : List ℕ) (fields : Vec (Vec ℕ)) (options : Retention) (now : ℕ) (answer : Answer) (old new : List Stream) : Type 0 where
  pub none : AreInOrder (keys_of old) → IsMissing key (keys_of old)
  pub how : IsMade key (IsAdded fields options now answer) old new ⊎ IsNotMade options answer old new

-- the entry, whose fields are the words after the options, is added to the stream of the key, or to a new one
pub record IsXadd (words : List (Vec ℕ)) (now : ℕ) (answer : Answer) (old new : List Stream) : Type 0 where
  pub key : List ℕ
  pub options : Retention
  pub fields : Vec (Vec ℕ)
  pub keyed : HoldsAt (λ word. word.items ≡ key) words 1
  pub read : AreOptions (drop 2 words) options
  pub fielded : fields.items ≡ drop (2 + options.len) words
  pub how : IsChangedAt key (IsAdded fields options now answer) old new
      ⊎ IsXaddOfNone key fields options now answer old new
