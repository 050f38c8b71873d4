-- The search for entries that are given up, over a connection: none is acknowledged before the reply to its letter.
use Rattle.std.specs.Prelude.{◌≡◌, ◌≢◌, ◌<◌, ◌≤◌, ◌+◌, ◌-◌, ◌^◌, ◌⊎◌, ℕ, zero, suc, Bool, true, false, filter, if◌then◌else◌, nat_le}
use Rattle.std.specs.Prelude.{List, [], ◌∷◌, ◌++◌, length, map, min, Option, None, Some}
use Rattle.std.specs.Prelude.{option_map, codes, decimal, String, Vec, string_bytes}
use Rattle.std.specs.declared.alloc.Global.{Global}
use Rattle.redis_args.specs.declared.raw_bytes.RawBytes.{RawBytes}
use Rattle.redis_wire.specs.Packed.{command_bytes}
use Rattle.redis_wire.specs.Reply.{Answer, code_of, first_error}
use Rattle.redis_connection.specs.Ask.{Asks, Exchanges, Fails}
use Rattle.redis_connection.specs.Link.{Link, Sends}
use Rattle.redis_connection.specs.Passing.{ReceivesAnswer}
use Rattle.redis_resp.specs.Bytes.{bytes_reading}
use Rattle.redis_resp.specs.Number.{unsigned_reading}
use Rattle.redis_resp.specs.Reading.{four_reading, list_reading, option_reading, two_reading}
use Rattle.redis_resp.specs.Text.{text_reading}
use Rattle.redis_resp.specs.Tree.{Tree}
use Rattle.redis_resp.specs.declared.value.Value.{Value}
use Rattle.worker.specs.Letters.{Entry}
use Rattle.worker.specs.Letters.{Fields}
use Rattle.worker.specs.declared.dead_letters.search.DeadLetterSearch.{DeadLetterSearch}
use Rattle.worker.specs.declared.dead_letters.search.GiveUp.{GiveUp}
use Rattle.worker.specs.declared.dead_letters.search.Waiting.{Waiting}
use Rattle.worker.specs.declared.dead_letters.error.SearchSettingsError.{SearchSettingsError}
use Rattle.worker.specs.declared.dead_letters.error.SearchSettingsError.TheVariants.{NoDeliveries, NoStream, SameStream, Memory}
use Rattle.worker.specs.declared.state.Asked.{Asked}
use Rattle.worker.specs.declared.state.Asked.TheVariants.{New}
use Rattle.worker.specs.Letters.{Names, letter_for, words_of}
use Rattle.worker.specs.Letters.{Desk, after_letter, letter_asks, letter_bytes, serves}

-- the settings of a search are valid. The delivery count is not 0. The dead-letter stream has a name, which is
-- not `key`
pub record IsAllowed (key : List ℕ) (to : GiveUp) : Type 0 where
  pub deliveries : to.deliveries ≢ 0
  pub named : string_bytes to.stream ≢ []
  pub other : string_bytes to.stream ≢ key

-- why the settings of a search are refused, by the error
abbrev pub IsRefused : List ℕ → GiveUp → SearchSettingsError → Type 0
IsRefused key to NoDeliveries = to.deliveries ≡ 0
IsRefused key to NoStream = string_bytes to.stream ≡ []
IsRefused key to SameStream = string_bytes to.stream ≡ key
IsRefused key to Memory = Unit {0}

-- the id of a pending entry, its delivery count, and why it is given up
abbrev pub waiting_of : Waiting → List ℕ × ℕ × List ℕ
waiting_of w = (string_bytes w.id, w.deliveries, w.reason.items)

-- the id and the delivery count of a decoded row, without a reason
abbrev pub row_of : String Global × Value × Value × ℕ → List ℕ × ℕ × List ℕ
row_of r = (string_bytes r.0, r.3, [])

-- a row of the reply to XPENDING: the id, the consumer, the idle time, and the delivery count
abbrev pub PendingRow : Type 0
PendingRow = List ℕ × Tree × Tree × ℕ

-- the rows of XPENDING in a value
abbrev pub pending_reading : Tree → Option (List PendingRow)
pending_reading = list_reading (four_reading text_reading (λ t. Some t) (λ t. Some t) (unsigned_reading 64))

-- the id and the delivery count of a row, without a reason
abbrev pub pending_of : PendingRow → List ℕ × ℕ × List ℕ
pending_of row = (row.0, row.3, [])

-- the command `words` was sent, and `page` has the entries of the reply. `page` is empty if the reply is the
-- error NOGROUP
abbrev pub ReadsPage : Link → Link → List (List ℕ) → List (List ℕ × ℕ × List ℕ) → Type 0
ReadsPage old new words page = ((rows : List PendingRow) × Asks old new words pending_reading rows × (page ≡ map pending_of rows))
    ⊎ ((a : Answer) × (text : List ℕ) × Exchanges old new words a × (first_error a ≡ Some text)
    × (code_of text ≡ codes "NOGROUP") × (page ≡ []))

-- `XPENDING key group id id 1 consumer`
abbrev pub own_words : DeadLetterSearch → List ℕ → List (List ℕ)
own_words d id = codes "XPENDING" ∷ string_bytes d.key ∷ string_bytes d.group ∷ id ∷ id ∷ decimal 1
    ∷ string_bytes d.consumer ∷ []

-- the page has a last entry. `start` is a parenthesis and the id of that entry
pub record IsBehind (page : List Waiting) (start : List ℕ) : Type 0 where
  pub before : List Waiting
  pub last : Waiting
  pub page_is : page ≡ before ++ last ∷ []
  pub start_is : start ≡ codes "(" ++ string_bytes last.id

-- `None`: the page is the last one, since it is not full. `Some(start)`: the next page begins at `start`
abbrev pub IsNext : List Waiting → Option (List ℕ) → Type 0
IsNext page None = length page < 100
IsNext page (Some start) = (100 ≤ length page) × IsBehind page start

-- a row of the reply to XCLAIM: the id and the texts of the entry, or nil
abbrev pub Row : Type 0
Row = Option (List ℕ × List (List ℕ))

-- the rows of XCLAIM in a value
abbrev pub rows_reading : Tree → Option (List Row)
rows_reading = list_reading (option_reading (two_reading text_reading (list_reading bytes_reading)))

-- decoded rows as rows of XCLAIM
abbrev pub rows_of : List (Option (String Global × Vec RawBytes Global)) → List Row
rows_of rows = map (option_map (λ p. (string_bytes p.0, map (λ (text : RawBytes). text.0.items) p.1.items))) rows

-- the arguments of XCLAIM: the stream, the group, the consumer, and the idle time
pub record Claimer : Type 0 where
  pub key : List ℕ
  pub group : List ℕ
  pub consumer : List ℕ
  pub min_idle : ℕ

-- the arguments of XCLAIM for the search `d`, with the idle time `min_idle`
abbrev pub claimer_of : DeadLetterSearch → ℕ → Claimer
claimer_of d min_idle = record {
  key = string_bytes d.key;
  group = string_bytes d.group;
  consumer = string_bytes d.consumer;
  min_idle = min_idle;
}

-- the stream, the group and the dead-letter stream of a search
abbrev pub letter_names : DeadLetterSearch → Names
letter_names d = (string_bytes d.key, string_bytes d.group, string_bytes d.stream)

-- `XCLAIM key group consumer min-idle id`
abbrev pub claim_words : Claimer → List ℕ → List (List ℕ)
claim_words c id = codes "XCLAIM" ∷ c.key ∷ c.group ∷ c.consumer ∷ decimal c.min_idle ∷ id ∷ []

-- nothing was sent, a prefix of the command `words` was sent, or all of it was sent. A reply to it may have
-- been received
abbrev pub BreaksOff : List (List ℕ) → Link → Link → Type 0
BreaksOff words old new = (new ≡ old) ⊎ (Fails old new (command_bytes words) ⊎ ((a : Answer) × Exchanges old new words a))

-- `rows` is exactly the entry `e`
abbrev pub AreJust : List Row → Entry → Type 0
AreJust rows e = rows ≡ Some (e.0, words_of e.1) ∷ []

-- XCLAIM returned exactly the entry `e`, with fields. The letter of `e` is queued after the earlier letters
pub record PostedOne (dead : List ℕ) (w : Waiting) (rows : List Row) (e : Entry) (desk desk' : Desk) : Type 0 where
  pub just : AreJust rows e
  pub claimed : e.0 ≡ string_bytes w.id
  pub fields : e.1 ≢ []
  pub waits : desk' ≡ record desk { waiting = desk.waiting ++ (e.0, letter_for dead e w.deliveries w.reason.items) ∷ [] }

-- `rows` is not exactly one entry with fields, and the queue did not change
pub record PostedNone (rows : List Row) (desk desk' : Desk) : Type 0 where
  pub none : (e : Entry) → AreJust rows e → e.1 ≡ []
  pub waits : desk' ≡ desk

-- `texts` is names and values by turns, and a letter with these fields was queued. If `texts` is empty, the
-- queue did not change
abbrev pub PostedFields : List ℕ → Waiting → List (List ℕ) → Desk → Desk → Type 0
PostedFields dead w texts desk desk' = ((fields : Fields) × (texts ≡ words_of fields) × (fields ≢ [])
    × (desk' ≡ record desk {
      waiting = desk.waiting ++ (string_bytes w.id, letter_for dead (string_bytes w.id, fields) w.deliveries w.reason.items) ∷ [];
    })) ⊎ ((texts ≡ []) × (desk' ≡ desk))

-- XCLAIM returned `rows`. A letter was queued if `rows` is exactly one entry with fields
abbrev pub Posted : List ℕ → Waiting → List Row → Desk → Desk → Type 0
Posted dead w rows desk desk' = ((e : Entry) × PostedOne dead w rows e desk desk') ⊎ PostedNone rows desk desk'

-- the entries were claimed one after the other. `es` are the returned entries whose letters were queued, in
-- order
abbrev pub PostsAll : Claimer → List ℕ → List Waiting → List Entry → Link → Desk → Link → Desk → Type 0
PostsAll c dead [] es old desk new desk' = (es ≡ []) × (new ≡ old) × (desk' ≡ desk)
PostsAll c dead (w ∷ ws) es old desk new desk' = (m : Link) × (d : Desk) × (rows : List Row)
    × Asks old m (claim_words c (string_bytes w.id)) rows_reading rows
    × (((e : Entry) × (more : List Entry) × (es ≡ e ∷ more) × PostedOne dead w rows e desk d
    × PostsAll c dead ws more m d new desk')
    ⊎ (PostedNone rows desk d × PostsAll c dead ws es m d new desk'))

-- the first entries were claimed. The claim of the next entry failed, or the letter of the returned entry was
-- not queued
pub record PostsSome (c : Claimer) (dead : List ℕ) (ws : List Waiting) (old : Link) (desk : Desk) (new : Link)
    (desk' : Desk) : Type 0 where
  pub before : List Waiting
  pub next : Waiting
  pub rest : List Waiting
  pub front : ws ≡ before ++ next ∷ rest
  pub es : List Entry
  pub between : Link
  pub posts : PostsAll c dead before es old desk between desk'
  pub breaks : BreaksOff (claim_words c (string_bytes next.id)) between new

module _ (names : Names) where
  -- the next command for a letter was sent whole. Then the reply `a` was received, and push messages before it
  -- were skipped
  pub record Hears (desk : Desk) (old new : Link) (a : Answer) : Type 0 where
    pub between : Link
    pub sends : Sends old between (letter_bytes names desk)
    pub receives : ReceivesAnswer between new a

  -- this number of commands for letters were sent, and each got a valid reply
  abbrev pub Goes : ℕ → Link → Desk → Link → Desk → Type 0
  Goes zero old desk new desk' = (new ≡ old) × (desk' ≡ desk)
  Goes (suc n) old desk new desk' = (m : Link) × (d : Desk) × (a : Answer) × Goes n old desk m d
      × Hears d m new a × (serves (letter_asks d) a ≡ true) × (desk' ≡ after_letter (letter_asks d) d)

  -- the next command for a letter failed. Nothing or only a prefix was sent, no reply was received, or the
  -- reply is refused
  abbrev pub Breaks : Desk → Link → Link → Type 0
  Breaks desk old new = (new ≡ old) ⊎ Fails old new (letter_bytes names desk)
      ⊎ ((a : Answer) × Hears desk old new a × (serves (letter_asks desk) a ≡ false))

  -- commands for letters were sent until the queue was empty
  abbrev pub Delivers : Link → Desk → Link → Desk → Type 0
  Delivers old desk new desk' = ((n : ℕ) × Goes n old desk new desk') × (desk'.waiting ≡ [])

  -- some commands for letters got valid replies, and the next one failed
  abbrev pub DeliversSome : Link → Desk → Link → Desk → Type 0
  DeliversSome old desk new desk' = (n : ℕ) × (m : Link) × Goes n old desk m desk' × Breaks desk' m new

-- an empty queue
abbrev pub none_waits : Desk
none_waits = record { waiting = []; added = false }

-- the entries `ws` were claimed. The letters of the returned entries were added, and then these entries were
-- acknowledged
pub record GivesUp (c : Claimer) (names : Names) (ws : List Waiting) (old new : Link) : Type 0 where
  pub es : List Entry
  pub between : Link
  pub desk : Desk
  pub left : Desk
  pub posts : PostsAll c names.2 ws es old none_waits between desk
  pub delivers : Delivers names between desk new left

-- giving up the entries `ws` failed: nothing was sent, not all were claimed, or only the first letters were
-- sent
abbrev pub GivesUpSome : Claimer → Names → List Waiting → Link → Link → Type 0
GivesUpSome c names ws old new = (new ≡ old) ⊎ (((d : Desk) × PostsSome c names.2 ws old none_waits new d)
    ⊎ ((es : List Entry) × (m : Link) × (d : Desk) × (d' : Desk) × PostsAll c names.2 ws es old none_waits m d
    × DeliversSome names m d new d'))

-- the settings of a search: the arguments of XCLAIM, the names, the delivery count, and the number of reads
-- between searches
pub record Searcher : Type 0 where
  pub claimer : Claimer
  pub names : Names
  pub deliveries : ℕ
  pub every : ℕ

-- the settings of the search `d`
abbrev pub searcher_of : DeadLetterSearch → Searcher
searcher_of d = record {
  claimer = claimer_of d d.min_idle;
  names = letter_names d;
  deliveries = d.deliveries;
  every = d.every;
}

-- `XPENDING key group start + 100 consumer` for own entries, and for those of all consumers
-- `XPENDING key group IDLE min-idle start + 100`
abbrev pub page_words : Claimer → Bool → List ℕ → List (List ℕ)
page_words c true start =
    codes "XPENDING" ∷ c.key ∷ c.group ∷ start ∷ codes "+" ∷ decimal 100 ∷ c.consumer ∷ []
page_words c false start =
    codes "XPENDING" ∷ c.key ∷ c.group ∷ codes "IDLE" ∷ decimal c.min_idle ∷ start ∷ codes "+" ∷ decimal 100 ∷ []

-- one page of pending entries was read. Its entries that were delivered too often were claimed and given up.
-- Entries of other consumers must be idle for the idle time. `next` is the start of the next page, if there is
-- one
pub record GivesUpPage (s : Searcher) (own : Bool) (start : List ℕ) (next : Option (List ℕ)) (old new : Link)
    : Type 0 where
  pub page : List Waiting
  pub between : Link
  pub reads : ReadsPage old between (page_words s.claimer own start) (map waiting_of page)
  pub gives_up : GivesUp (record s.claimer { min_idle = if own then 0 else s.claimer.min_idle }) s.names
      (filter (λ w. nat_le s.deliveries w.deliveries) page) between new
  pub is_next : IsNext page next

-- this number of full pages were searched in order, and the next page begins at `next`
abbrev pub SearchesFull : Searcher → Bool → ℕ → List ℕ → Link → Link → Type 0
SearchesFull s own zero next old new = (next ≡ codes "-") × (new ≡ old)
SearchesFull s own (suc n) next old new = (start : List ℕ) × (m : Link) × SearchesFull s own n start old m
    × GivesUpPage s own start (Some next) m new

-- all pages were searched, or the first 1,000 of them
abbrev pub Searches : Searcher → Bool → Link → Link → Type 0
Searches s own old new = ((n : ℕ) × (start : List ℕ) × (m : Link) × SearchesFull s own n start old m
    × GivesUpPage s own start None m new) ⊎ ((next : List ℕ) × SearchesFull s own 1000 next old new)

-- the consumer's own pending entries were searched, and then the idle entries of all consumers
abbrev pub SearchesBoth : Searcher → Link → Link → Type 0
SearchesBoth s old new = (m : Link) × Searches s true old m × Searches s false m new

-- `reads` is the number of reads since the last search, after the command `asked`. A read of new entries adds
-- one, up to the largest `u64`
pub record IsCounted (before : ℕ) (asked : Asked) (reads : ℕ) : Type 0 where
  pub read : asked ≡ New → reads ≡ min (before + 1) (2 ^ 64 - 1)
  pub other : asked ≢ New → reads ≡ before

-- the search of one turn. The first turn searches own and idle entries. Later turns search the idle entries of
-- all consumers, if `every` reads were made since the last search
pub record IsSearched (s : Searcher) (begun : Bool) (reads : ℕ) (old new : Link) : Type 0 where
  pub first : begun ≡ false → SearchesBoth s old new
  pub due : begun ≡ true → s.every ≤ reads → Searches s false old new
  pub later : begun ≡ true → reads < s.every → new ≡ old

-- the number of reads that count after a turn that may search. It is 0 if a search was due
abbrev pub counted_after : Bool → ℕ → ℕ → ℕ
counted_after false every reads = reads
counted_after true every reads = if nat_le every reads then 0 else reads

-- the search after a turn that may not search: the command is counted, and the next turn may search
abbrev pub OnlyCounts : Asked → DeadLetterSearch → DeadLetterSearch → Type 0
OnlyCounts asked old new =
    (reads : ℕ) × IsCounted old.reads asked reads × (new ≡ record old { reads = reads; waits = false })

-- the search after a turn that may search, whether the search succeeded or failed. The command is counted. The
-- count of reads is reset if a search was due
abbrev pub CountsOn : Asked → DeadLetterSearch → DeadLetterSearch → Type 0
CountsOn asked old new = (reads : ℕ) × IsCounted old.reads asked reads × (new ≡ record old {
  reads = counted_after old.begun old.every reads;
  waits = false;
  begun = true;
  letters = new.letters;
})
