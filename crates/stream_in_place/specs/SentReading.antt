-- The values that read as entries with their fields in order, also repeated ones. Names and values are any bytes.
use Rattle.std.specs.Prelude.{ℕ, List, [], ◌∷◌, map, Option, Some, None, option_map, option_and_then}
use Rattle.std.specs.Option.{option_or}
use Rattle.redis_resp.specs.Bytes.{bytes_reading}
use Rattle.redis_resp.specs.Number.{unsigned_reading}
use Rattle.redis_resp.specs.Reading.{traverse, list_reading, option_reading, two_of, two_in, two_reading, three_reading}
use Rattle.redis_resp.specs.Reading.{four_of, four_in}
use Rattle.redis_resp.specs.Table.{pairs_reading}
use Rattle.redis_resp.specs.Text.{text_reading}
use Rattle.redis_resp.specs.Tree.{Tree, pairs_in}
use Rattle.stream_entries.specs.Rows.{joined}
use Rattle.stream_in_place.specs.Sent.{Pairs, SentEntry, SentStream, SentAutoClaim}

-- the bytes of any bulk string, and else the text that the value reads as
abbrev pub octets_reading : Tree → Option (List ℕ)
octets_reading t = option_or (bytes_reading t) (text_reading t)

-- names and values in order: the pairs of a map, or of an array of even length
abbrev pub octet_pairs_reading : Tree → Option Pairs
octet_pairs_reading t = option_and_then (traverse (two_of octets_reading octets_reading)) (pairs_in t)

-- the same, and None for nil, which servers send if the entry was deleted
abbrev pub sent_fields_reading : Tree → Option (Option Pairs)
sent_fields_reading t = option_reading octet_pairs_reading t

-- the entry of an id and its fields
abbrev pub standard_entry : List ℕ × Option Pairs → SentEntry
standard_entry p = record { id = p.0; fields = p.1; delivery = None }

-- the entry of an id, its fields, the milliseconds since its last delivery, and its delivery count
abbrev pub claimed_entry : List ℕ × Option Pairs × ℕ × ℕ → SentEntry
claimed_entry q = record { id = q.0; fields = q.1; delivery = Some (q.2, q.3) }

-- a row of four has a delivery, and one of two has none
abbrev pub row_by : Option (Tree × Tree × Tree × Tree) → Tree → Option SentEntry
row_by (Some q) t =
    option_map claimed_entry (four_of text_reading sent_fields_reading (unsigned_reading 64) (unsigned_reading 64) q)
row_by None t = option_map standard_entry (two_reading text_reading sent_fields_reading t)

-- a row: an array of an id and fields, optionally followed by a time and a count
abbrev pub sent_row_reading : Tree → Option SentEntry
sent_row_reading t = row_by (four_in t) t

-- the stream of a name and rows
abbrev pub sent_stream : List ℕ × List SentEntry → SentStream
sent_stream p = record { name = p.0; entries = p.1 }

-- the reply of XREAD and XREADGROUP: a list of pairs of a name and rows, in order, or a map of them, or nil
unfoldable pub sent_streams_reading : Tree → Option (List SentStream)
sent_streams_reading t =
    option_map (λ ls. map sent_stream (joined ls)) (list_reading (pairs_reading (list_reading sent_row_reading)) t)

-- the entries that are not nil: servers up to 6.2 send nil in place of a claimed entry that was deleted
abbrev pub there : {A : Type 0} → List (Option A) → List A
there [] = []
there (None ∷ os) = there os
there (Some x ∷ os) = x ∷ there os

-- the rows of a claim
abbrev pub claimed_rows_reading : Tree → Option (List (Option SentEntry))
claimed_rows_reading t = list_reading (option_reading sent_row_reading) t

-- the claim of a next id and rows
abbrev pub claim_of_two : List ℕ × List (Option SentEntry) → SentAutoClaim
claim_of_two p = record { next = p.0; claimed = there p.1; deleted = [] }

-- the claim of a next id, rows and the ids that were deleted
abbrev pub claim_of_three : List ℕ × List (Option SentEntry) × List (List ℕ) → SentAutoClaim
claim_of_three q = record { next = q.0; claimed = there q.1; deleted = q.2 }

-- an array of two is a claim without deleted ids, and one of three a claim with them
abbrev pub claim_by : Option (Tree × Tree) → Tree → Option SentAutoClaim
claim_by (Some q) t = option_map claim_of_two (two_of text_reading claimed_rows_reading q)
claim_by None t =
    option_map claim_of_three (three_reading text_reading claimed_rows_reading (list_reading text_reading) t)

-- the reply of XAUTOCLAIM
unfoldable pub sent_autoclaim_reading : Tree → Option SentAutoClaim
sent_autoclaim_reading t = claim_by (two_in t) t
