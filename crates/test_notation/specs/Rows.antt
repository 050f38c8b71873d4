-- How the replies that hold entries are printed in a line.
use Rattle.std.specs.Prelude.{ℕ, List, ◌++◌, codes, string_bytes, if◌then◌else◌}
use Rattle.std.specs.List.{join_by}
use Rattle.stream_entries.specs.declared.autoclaim.StreamAutoClaimReply.{StreamAutoClaimReply}
use Rattle.stream_entries.specs.declared.claim.StreamClaimReply.{StreamClaimReply}
use Rattle.stream_entries.specs.declared.range.StreamRangeReply.{StreamRangeReply}
use Rattle.stream_entries.specs.declared.stream_key.StreamKey.{StreamKey}
use Rattle.stream_entries.specs.declared.read.StreamReadReply.{StreamReadReply}
use Rattle.test_notation.specs.Entry.{entry_form}
use Rattle.test_notation.specs.Form.{listed}

-- the entries of a range
abbrev pub range_form : StreamRangeReply → List ℕ
range_form r = listed entry_form (codes " ") r.ids.items

-- the entries of a claim
abbrev pub claim_form : StreamClaimReply → List ℕ
claim_form r = listed entry_form (codes " ") r.ids.items

-- a key, and its entries in brackets
abbrev pub key_form : StreamKey → List ℕ
key_form k = string_bytes k.key ++ codes "[" ++ join_by entry_form (codes " ") k.ids.items ++ codes "]"

-- the keys of a read
abbrev pub read_form : StreamReadReply → List ℕ
read_form r = listed key_form (codes " ") r.keys.items

-- the next id, the entries, the deleted ids, and whether there were invalid entries
abbrev pub autoclaim_form : StreamAutoClaimReply → List ℕ
autoclaim_form r =
    codes "next=" ++ string_bytes r.next_stream_id ++ codes " claimed=["
    ++ join_by entry_form (codes " ") r.claimed.items ++ codes "] deleted=["
    ++ join_by string_bytes (codes " ") r.deleted_ids.items ++ codes "] invalid="
    ++ (if r.invalid_entries then codes "true" else codes "false")
