use Rattle.worker_journal.proofs.EntryLineLemmas.{line_tells, line_whole}
use Rattle.worker_journal.proofs.laws.lines_tell_entries.Goals as goal

pub returns-clause-whole : goal.returns-clause-whole
returns-clause-whole c = line_whole

pub returns-clause-tell : goal.returns-clause-tell
returns-clause-tell c = line_tells
