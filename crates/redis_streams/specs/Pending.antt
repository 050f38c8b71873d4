-- The meaning of the replies of XPENDING, and of each value.
use Rattle.std.specs.Prelude.{ℕ, ◌-◌, ◌^◌, ℤ, pos, negsuc, suc, List, [], Option, Some, None, option_map}
use Rattle.std.specs.Prelude.{option_and_then, unwrap_or, option_to_list, flat_map, if◌then◌else◌, nat_eq, Bool, true}
use Rattle.std.specs.Prelude.{false, ◌&&◌}
use Rattle.redis_resp.specs.Then.{◌>>=◌}
use Rattle.redis_resp.specs.Tree.{Tree, int, bulk, array_of_plain, exactly_four}
use Rattle.redis_resp.specs.Text.{text_reading}
use Rattle.redis_resp.specs.Number.{unsigned_of, within, unsigned_reading}
use Rattle.redis_resp.specs.Reading.{option_reading, list_reading, traverse, both_read, two_reading, four_reading}
use Rattle.redis_streams.specs.Info.{Consumer}

-- the pending entries of a group: their number, the smallest and the greatest id, and the consumers
pub record PendingSummary : Type 0 where
  pub count : ℕ
  pub start_id : List ℕ
  pub end_id : List ℕ
  pub consumers : List Consumer

-- nothing pending, as a summary
abbrev pub empty_summary : PendingSummary
empty_summary = record { count = 0; start_id = []; end_id = []; consumers = [] }

-- the four parts of a summary as the server sends them
abbrev pub SummaryParts : Type 0
SummaryParts = ℕ × Option (List ℕ) × Option (List ℕ) × List (Option (List ℕ × List ℕ))

-- a count, the first and the last id if there are any, and a list of names with the texts of their counts
abbrev pub summary_parts : Tree → Option SummaryParts
summary_parts = four_reading (unsigned_reading 64) (option_reading text_reading) (option_reading text_reading)
    (list_reading (option_reading (two_reading text_reading text_reading)))

-- the number that a text parses as, or 0 if it is no number
abbrev pub number_in : List ℕ → ℕ
number_in text = unwrap_or (option_and_then (within 64) (unsigned_of text)) 0

-- a consumer by its name and the text of its count
abbrev pub consumer_of : List ℕ × List ℕ → Consumer
consumer_of p = record { name = p.0; pending = number_in p.1; idle = 0 }

-- the consumers of the rows that are not nil, in order
abbrev pub consumers_of : List (Option (List ℕ × List ℕ)) → List Consumer
consumers_of rows = flat_map (λ row. option_to_list (option_map consumer_of row)) rows

-- a summary of pending entries, which needs both ids
abbrev pub filled_summary : SummaryParts → Option PendingSummary
filled_summary parts =
    parts.1 >>= λ start.
    parts.2 >>= λ end.
    Some (record { count = parts.0; start_id = start; end_id = end; consumers = consumers_of parts.3 })

-- nothing is pending if the count is 0, whatever the other parts are
abbrev pub summary_of : SummaryParts → Option (Option PendingSummary)
summary_of parts = if nat_eq parts.0 0 then Some None else option_map Some (filled_summary parts)

-- a value read as the reply of XPENDING without a range: None if nothing is pending
abbrev pub pending_reading : Tree → Option (Option PendingSummary)
pending_reading t = summary_parts t >>= summary_of

-- a pending entry: its id, its consumer, the time since its last delivery, and its number of deliveries
pub record PendingEntry : Type 0 where
  pub id : List ℕ
  pub consumer : List ℕ
  pub last_delivered_ms : ℕ
  pub times_delivered : ℕ

-- the empty pending entry
abbrev pub empty_pending_entry : PendingEntry
empty_pending_entry = record { id = []; consumer = []; last_delivered_ms = 0; times_delivered = 0 }

-- a whole number as one of 64 bits without a sign: a negative one is itself plus 2 ^ 64
abbrev pub without_sign : ℤ → ℕ
without_sign (pos n) = n
without_sign (negsuc n) = 2 ^ 64 - suc n

-- a whole number, with no attribute around it
abbrev pub literal_number : Tree → Option ℕ
literal_number (int z) = Some (without_sign z)
literal_number _ = None

-- it is a bulk string, with no attribute around it
abbrev pub is_bulk : Tree → Bool
is_bulk (bulk bytes) = true
is_bulk _ = false

-- the four members of a row
abbrev pub Members : Type 0
Members = Tree × Tree × Tree × Tree

-- the two numbers of a row of two bulk strings and two whole numbers
abbrev pub row_numbers : Members → Option (ℕ × ℕ)
row_numbers q = if is_bulk q.0 && is_bulk q.1 then both_read (literal_number q.2) (literal_number q.3) else None

-- a pending entry by its four members
abbrev pub entry_of_members : Members → Option PendingEntry
entry_of_members q =
    row_numbers q >>= λ numbers.
    text_reading q.0 >>= λ id.
    text_reading q.1 >>= λ consumer.
    Some (record { id = id; consumer = consumer; last_delivered_ms = numbers.0; times_delivered = numbers.1 })

-- the same of a list of exactly four
abbrev pub entry_of_four : List Tree → Option PendingEntry
entry_of_four ts = exactly_four ts >>= entry_of_members

-- exactly an id, a name and two numbers, in an array with no attribute around it
abbrev pub pending_row : Tree → Option PendingEntry
pending_row t = array_of_plain t >>= entry_of_four

-- a value read as the reply of XPENDING with a range: a row for each entry, in an array with no attribute around
-- it
abbrev pub pending_count_reading : Tree → Option (List PendingEntry)
pending_count_reading t = array_of_plain t >>= traverse pending_row
