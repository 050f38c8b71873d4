-- A line tells its entry, in JSON too.
use Rattle.std.proofs.Common.{◌≡◌, ap₂, true, false, [], ◌∷◌, ◌++◌}
use Rattle.json.specs.Token.{end_object}
use Rattle.json.specs.Print.{print}
use Rattle.worker_journal.specs.EntryLine.{Entry}
use Rattle.worker_journal.specs.EntryLine as tabs
use Rattle.worker.specs.EntryJson.{fields_tokens}
use Rattle.worker.proofs.EntryJsonLemmas.SameLemmas as fields
use Rattle.stream_drain.specs.Line.{entry_tokens}
use Rattle.stream_drain.specs.Tell.{IsOfBytes, LinesTellEntries}
use Rattle.stream_drain.proofs.JsonLemmas.{entry_texts}

same_tokens : (a b : Entry) → print (entry_tokens a) ≡ print (entry_tokens b) → entry_tokens a ≡ entry_tokens b
same_tokens a b same = fields.same_tokens (entry_tokens a) (entry_tokens b) (entry_texts a) (entry_texts b) same

entry_once : (a b : Entry) → IsOfBytes a → IsOfBytes b → entry_tokens a ≡ entry_tokens b → a ≡ b
entry_once a b are-a are-b same =
    let id : a.0 ≡ b.0 = cc same in
    let rest : fields_tokens a.1 ++ end_object ∷ [] ≡ fields_tokens b.1 ++ end_object ∷ [] = cc same in
    ap₂ (λ x y. (x, y)) id (fields.fields_once a.1 b.1 (end_object ∷ []) (end_object ∷ []) are-a are-b rest).0

-- the ids alone
pub same_id : (a b : Entry) → print (entry_tokens a) ≡ print (entry_tokens b) → a.0 ≡ b.0
same_id a b same = let tokens_are = same_tokens a b same in cc tokens_are

-- ---- the law

pub tell : tabs.LinesTellEntries → LinesTellEntries
tell text true a b are-a are-b same = entry_once a b are-a are-b (same_tokens a b same)
tell text false a b are-a are-b same = text a b same
