-- The laws of the two forms of a read reply, as statements.
use Rattle.std.specs.Prelude.{◌≡◌, ◌≢◌, ◌↔◌, [], Some}
use Rattle.std.specs.Option.{IsSome}
use Rattle.std.specs.List.{AllByRecursion}
use Rattle.redis_resp.specs.Tree.{Tree}
use Rattle.stream_entries.specs.Read.{standard_reading, claim_reading}
use Rattle.stream_entries.specs.Overlap.{Skeleton, Overlaps, overlap_entry, entries_in, kept_entries, in_standard}
use Rattle.stream_entries.specs.Overlap.{in_claim, streams_given}

-- a value has both records exactly if it has a skeleton and each entry has the overlap shape
abbrev pub BothRecordsAreShape : Type 0
BothRecordsAreShape = (t : Tree) → (IsSome (standard_reading t) × IsSome (claim_reading t)) ↔
    ((rows : Skeleton) × Overlaps t rows)

-- each entry then holds an id, fields, a number and its text
abbrev pub EachEntryIsRead : Type 0
EachEntryIsRead = (t : Tree) (rows : Skeleton) → Overlaps t rows
    → AllByRecursion (λ e. IsSome (overlap_entry e)) (entries_in rows)

-- and the two records are the entries of these in each form
abbrev pub StandardIsGiven : Type 0
StandardIsGiven = (t : Tree) (rows : Skeleton) → Overlaps t rows
    → standard_reading t ≡ Some (streams_given in_standard rows)

-- the same of the claim form
abbrev pub ClaimIsGiven : Type 0
ClaimIsGiven = (t : Tree) (rows : Skeleton) → Overlaps t rows → claim_reading t ≡ Some (streams_given in_claim rows)

-- they differ exactly if a kept list has an entry
abbrev pub RecordsDiffer : Type 0
RecordsDiffer = (t : Tree) (rows : Skeleton) → Overlaps t rows
    → (standard_reading t ≢ claim_reading t) ↔ (kept_entries rows ≢ [])
