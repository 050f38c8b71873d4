-- What the reply of an automatic claim with `JUSTID` means.
use Rattle.std.specs.Prelude.{string_bytes}
use Rattle.stream_entries.specs.AutoClaimMeaning.{text_bytes_of}
use Rattle.stream_entries.specs.JustId.{JustId}
use Rattle.stream_entries.specs.declared.justid.StreamAutoClaimJustIdReply.{StreamAutoClaimJustIdReply}

-- the ids that a `StreamAutoClaimJustIdReply` holds
abbrev pub justid_meaning : StreamAutoClaimJustIdReply → JustId
justid_meaning r =
    record {
      next = string_bytes r.next_stream_id;
      claimed = text_bytes_of r.claimed;
      deleted = text_bytes_of r.deleted_ids;
    }
