-- What the reply of an automatic claim means.
use Rattle.std.specs.Prelude.{ℕ, List, map, Option, option_map, Vec, String, string_bytes}
use Rattle.std.specs.declared.alloc.Global.{Global}
use Rattle.redis_resp.specs.Tree.{Tree}
use Rattle.stream_entries.specs.AutoClaim.{AutoClaim, Parts, ClaimedKind, nils, ids, rows}
use Rattle.stream_entries.specs.EntryMeaning.{entries_of}
use Rattle.stream_entries.specs.declared.autoclaim.StreamAutoClaimReply.{StreamAutoClaimReply}
use Rattle.stream_entries.specs.declared.claimed.ClaimedKind.{ClaimedKind as KindInCode}
use Rattle.stream_entries.specs.declared.claimed.ClaimedKind.TheVariants.{Nils, Ids, Rows}

-- ids as texts, in order
abbrev pub text_bytes_of : Vec (String Global) Global → List (List ℕ)
text_bytes_of texts = map string_bytes texts.items

-- the reply that a `StreamAutoClaimReply` holds
abbrev pub autoclaim_meaning : StreamAutoClaimReply → AutoClaim
autoclaim_meaning r = record {
  next = string_bytes r.next_stream_id;
  claimed = entries_of r.claimed;
  deleted = text_bytes_of r.deleted_ids;
  invalid = r.invalid_entries;
}

-- the kind that a `ClaimedKind` of the code means
abbrev pub kind_meaning : KindInCode → ClaimedKind
kind_meaning Nils = nils
kind_meaning Ids = ids
kind_meaning Rows = rows

-- a kind with a number of items
abbrev pub shape_meaning : KindInCode × ℕ → ClaimedKind × ℕ
shape_meaning shape = (kind_meaning shape.0, shape.1)

-- the parts of a reply as trees
abbrev pub trees_of_parts : {S : Type 0} → (S → Tree) → S × S × Option S → Parts
trees_of_parts seen parts = (seen parts.0, seen parts.1, option_map seen parts.2)
