use Rattle.worker_journal.proofs.EntryLineLemmas.{line_tells}
use Rattle.stream_drain.proofs.SameLineLemmas.{tell}
use Rattle.stream_drain.proofs.laws.lines_tell_entries.Goals as goal

pub returns : goal.returns
returns c = tell line_tells
