use Rattle.std.proofs.Common.{rules, ◌≡◌, ◌==◌, length}
use Rattle.worker_table.proofs.SendLemmas.{entry_in}
use Rattle.worker_table.proofs.sending.has_entry.Goals as goal

pub returns-in-Array : goal.returns-in-Array
returns-in-Array c =
    let len : c.is_empty.result ≡ (length c.in-Array.entries.items == 0) = search rules in
    entry_in c.args.value c.in-Array.entries c.is_empty.result c.in-Array.is len
