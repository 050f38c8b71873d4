-- A line tells its entry.
use Rattle.std.proofs.Common.{◌≡◌, ap₂, refl, ℕ, List, ◌++◌, true, false}
use Rattle.worker.specs.EntryJson.{AreOfBytes, are_texts, fields_tokens}
use Rattle.worker.proofs.EntryJsonLemmas.SameLemmas.{fields_once, same_tokens}
use Rattle.worker.proofs.EntryJsonLemmas.TokensLemmas.{both_texts, fields_texts, no_end}
use Rattle.model_server.specs.Group.Worker.{Entry}
use Rattle.stream_in_place.specs.Sent.{Pairs}
use Rattle.worker_jobs.specs.LineOf.{line_of, line_tokens, stream_tokens}
use Rattle.worker_jobs.specs.Lines.{HasNoEnd}
use Rattle.worker_jobs.specs.Tell.{LinesTellEntries}

texts : (s : List ℕ) (e : Entry Pairs) → are_texts (line_tokens s e) ≡ true
texts s e = both_texts (fields_tokens e.1) (stream_tokens s) (fields_texts e.1) refl

-- no line ends within a line
pub no_line_end : (s : List ℕ) (e : Entry Pairs) → HasNoEnd (line_of s e)
no_line_end s e = no_end false (line_tokens s e) (texts s e)

entry_once : (s t : List ℕ) (a b : Entry Pairs) → AreOfBytes a.1 → AreOfBytes b.1 → line_of s a ≡ line_of t b
    → (s ≡ t) × (a ≡ b)
entry_once s t a b are-a are-b same =
    let tokens = same_tokens (line_tokens s a) (line_tokens t b) (texts s a) (texts t b) same in
    let id : a.0 ≡ b.0 = cc tokens in
    let rest : fields_tokens a.1 ++ stream_tokens s ≡ fields_tokens b.1 ++ stream_tokens t = cc tokens in
    let once = fields_once a.1 b.1 (stream_tokens s) (stream_tokens t) are-a are-b rest in
    (cc once.1, ap₂ (λ x y. (x, y)) id once.0)

pub tell : LinesTellEntries
tell = record { entry = entry_once; one_line = no_line_end }
