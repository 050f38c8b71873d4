use Rattle.std.proofs.Common.{◌+◌, length, refl, sym, ◌∙◌, arith}
use Rattle.std.proofs.lemmas.List.{take_all}
use Rattle.worker_journal.proofs.Kept.{elapses_to}
use Rattle.worker_journal.proofs.memory.MemoryFileLogFile.cut.Goals as goal

pub returns-in_err-next-clause-crash : goal.returns-in_err-next-clause-crash
returns-in_err-next-clause-crash c file is =
    let bytes = c.args.self.now.bytes.items in (
      bytes,
      refl,
      (c.args.len + length bytes, omega arith, is ∙ sym (take_all (c.args.len + length bytes) bytes (omega arith))),
    )

pub returns-clause-time : goal.returns-clause-time
returns-clause-time c =
    let past = c.in_ok-replace.ensures.past in
    elapses_to c.args.self.now.past.items c.replace.new.past.items past.0 c.args.self.now.bytes.items
    c.replace.new.bytes.items past.1 past.2
