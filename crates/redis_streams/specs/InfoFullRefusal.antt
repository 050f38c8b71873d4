-- The errors with which a value may be refused as a reply of XINFO STREAM FULL.
use Rattle.std.specs.Prelude.{◌⊎◌, Some, codes}
use Rattle.redis_resp.specs.Tree.{Tree}
use Rattle.redis_resp.specs.Number.{unsigned_reading}
use Rattle.redis_resp.specs.Refusal.{Refuses, RefusesText, RefusesNumber, RefusesValue, RefusesList, RefusesPairs}
use Rattle.redis_resp.specs.Refusal.{RefusesTwo, RefusesThree, RefusesFour, RefusesField}
use Rattle.redis_resp.specs.Table.{pairs_reading}
use Rattle.redis_resp.specs.declared.value.error.ParsingError.{ParsingError}
use Rattle.redis_streams.specs.Info.{NamedFields}
use Rattle.redis_streams.specs.InfoFull.{full_entry_reading, full_pending_reading, own_pending_reading}
use Rattle.redis_streams.specs.InfoFull.{full_consumer_reading, full_group_reading}
use Rattle.redis_streams.specs.InfoRefusal.{RefusesNamed}
use Rattle.stream_entries.specs.Refusal.{RefusesTextIn}

-- a number of 64 bits
abbrev pub RefusesNumberIn : Tree → ParsingError → Type 0
RefusesNumberIn = Refuses (unsigned_reading 64) RefusesNumber

-- the fields of an entry: pairs of a text and a value that is kept as it is
abbrev pub RefusesFullFields : Tree → ParsingError → Type 0
RefusesFullFields = Refuses (pairs_reading (λ u. Some u)) (RefusesPairs (Refuses (λ u. Some u) RefusesValue))

-- an entry: two, the id as a text and the fields as pairs
abbrev pub RefusesFullEntry : Tree → ParsingError → Type 0
RefusesFullEntry = RefusesTwo RefusesTextIn RefusesFullFields

-- a pending entry of a group: four, two texts and two numbers
abbrev pub RefusesFullPending : Tree → ParsingError → Type 0
RefusesFullPending = RefusesFour RefusesTextIn RefusesTextIn RefusesNumberIn RefusesNumberIn

-- a pending entry of a consumer: three, a text and two numbers
abbrev pub RefusesOwnPending : Tree → ParsingError → Type 0
RefusesOwnPending = RefusesThree RefusesTextIn RefusesNumberIn RefusesNumberIn

-- one of a consumer's fields
abbrev pub RefusesFullConsumerField : NamedFields → ParsingError → Type 0
RefusesFullConsumerField fields error =
    RefusesField RefusesText (fields (codes "name")) error
    ⊎ (RefusesField RefusesNumber (fields (codes "seen-time")) error
    ⊎ (RefusesField RefusesNumber (fields (codes "active-time")) error
    ⊎ (RefusesField RefusesNumber (fields (codes "pel-count")) error
    ⊎ RefusesField (RefusesList (Refuses own_pending_reading RefusesOwnPending)) (fields (codes "pending")) error)))

-- a consumer
abbrev pub RefusesFullConsumer : Tree → ParsingError → Type 0
RefusesFullConsumer = RefusesNamed RefusesFullConsumerField

-- one of a group's fields
abbrev pub RefusesFullGroupField : NamedFields → ParsingError → Type 0
RefusesFullGroupField fields error =
    RefusesField RefusesText (fields (codes "name")) error
    ⊎ (RefusesField RefusesText (fields (codes "last-delivered-id")) error
    ⊎ (RefusesField RefusesNumber (fields (codes "entries-read")) error
    ⊎ (RefusesField RefusesNumber (fields (codes "lag")) error
    ⊎ (RefusesField RefusesNumber (fields (codes "pel-count")) error
    ⊎ (RefusesField (RefusesList (Refuses full_pending_reading RefusesFullPending)) (fields (codes "pending")) error
    ⊎ RefusesField (RefusesList (Refuses full_consumer_reading RefusesFullConsumer))
    (fields (codes "consumers")) error)))))

-- a group
abbrev pub RefusesFullGroup : Tree → ParsingError → Type 0
RefusesFullGroup = RefusesNamed RefusesFullGroupField

-- one of a stream's fields
abbrev pub RefusesFullField : NamedFields → ParsingError → Type 0
RefusesFullField fields error =
    RefusesField RefusesNumber (fields (codes "length")) error
    ⊎ (RefusesField RefusesNumber (fields (codes "radix-tree-keys")) error
    ⊎ (RefusesField RefusesNumber (fields (codes "radix-tree-nodes")) error
    ⊎ (RefusesField RefusesText (fields (codes "last-generated-id")) error
    ⊎ (RefusesField RefusesText (fields (codes "max-deleted-entry-id")) error
    ⊎ (RefusesField RefusesNumber (fields (codes "entries-added")) error
    ⊎ (RefusesField RefusesText (fields (codes "recorded-first-entry-id")) error
    ⊎ (RefusesField (RefusesList (Refuses full_entry_reading RefusesFullEntry)) (fields (codes "entries")) error
    ⊎ RefusesField (RefusesList (Refuses full_group_reading RefusesFullGroup)) (fields (codes "groups")) error)))))))

-- a stream with its entries, its groups and their consumers
abbrev pub RefusesFull : Tree → ParsingError → Type 0
RefusesFull = RefusesNamed RefusesFullField
