-- What decoded entries mean.
use Rattle.std.specs.Prelude.{ℕ, List, ◌++◌, map, option_map, string_bytes, Vec}
use Rattle.std.specs.declared.alloc.Global.{Global}
use Rattle.stream_in_place.specs.Sent.{Pairs, SentEntry, SentAutoClaim}
use Rattle.stream_in_place.specs.declared.sent.Octets.{Octets}
use Rattle.stream_in_place.specs.declared.sent.OctetPairs.{OctetPairs}
use Rattle.stream_in_place.specs.declared.sent.SentRow.{SentRow}
use Rattle.stream_in_place.specs.declared.sent.SentClaim.{SentClaim}

-- a name and its value
abbrev pub octet_pair : Octets × Octets → List ℕ × List ℕ
octet_pair p = (p.0.0.items, p.1.0.items)

-- a name and its value, concatenated
abbrev pub joined_pair : List ℕ × List ℕ → List ℕ
joined_pair p = p.0 ++ p.1

-- names and values, in order
abbrev pub octet_pairs : OctetPairs → Pairs
octet_pairs ps = map octet_pair ps.0.items

-- the entry that a row means
abbrev pub sent_of : SentRow → SentEntry
sent_of r = record {
  id = string_bytes r.id;
  fields = option_map octet_pairs r.fields;
  delivery = option_map (λ d. (d.elapsed, d.count)) r.delivery;
}

-- the entries that rows mean, in order
abbrev pub sent_all : Vec SentRow Global → List SentEntry
sent_all rows = map sent_of rows.items

-- the reply that a claim means
abbrev pub claim_of : SentClaim → SentAutoClaim
claim_of c = record {
  next = string_bytes c.next;
  claimed = sent_all c.claimed;
  deleted = map string_bytes c.deleted.items;
}
