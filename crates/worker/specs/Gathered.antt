-- What a handler that keeps entries has handled.
use Rattle.std.specs.Prelude.{List, [], ◌∷◌, ◌++◌, map, Vec}
use Rattle.std.specs.declared.alloc.Global.{Global}
use Rattle.model_server.specs.Group.Worker.{Entry, Verdict, done, left_pending, stop}
use Rattle.stream_in_place.specs.Sent.{Pairs}
use Rattle.stream_in_place.specs.SentMeaning.{sent_all}
use Rattle.stream_in_place.specs.declared.sent.SentRow.{SentRow}
use Rattle.worker.specs.Handling.{pair_of}

-- the entries that a handler has done: those that are not committed yet, and those that are committed
pub record Doings : Type 0 where
  pub loose : List (Entry Pairs)
  pub committed : List (Entry Pairs)

-- the entries after one more verdict: `e` is added if it was done
abbrev pub done_too : Doings → Entry Pairs → Verdict → Doings
done_too d e done = record d { loose = d.loose ++ e ∷ [] }
done_too d e left_pending = d
done_too d e stop = d

-- the entries after a commit: everything done is committed
abbrev pub committed_too : Doings → Doings
committed_too d = record { loose = []; committed = d.committed ++ d.loose }

-- the id and the fields of each entry, in order
abbrev pub pairs_of : Vec SentRow Global → List (Entry Pairs)
pairs_of es = map pair_of (sent_all es)
