use Rattle.worker_journal.proofs.EscapeLemmas.{text_back, text_plain}
use Rattle.worker_journal.proofs.laws.texts_come_back.Goals as goal

pub returns-clause-back : goal.returns-clause-back
returns-clause-back c = text_back

pub returns-clause-plain : goal.returns-clause-plain
returns-clause-plain c = text_plain
