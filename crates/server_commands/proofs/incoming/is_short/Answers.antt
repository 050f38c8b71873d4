use Rattle.std.proofs.Common.{◌≡◌, drop, refl, rules}
use Rattle.server_commands.proofs.ScanLemmas.{on_so, short_so}
use Rattle.server_commands.proofs.incoming.is_short.Goals as goal

pub words-preserved : goal.words-preserved
words-preserved c =
    let rest : c.split_at.result.1.now ≡ drop c.words.scan.at c.args.bytes.now = search rules in
    on_so c.words.scan _ c.args.bytes.now _ c.in-Ok.behind.now c.words-test.true (rw rest at c.in-Ok.ensures.gives) refl refl
    c.words.invariant

pub returns-in-Err-Short-clause-short : goal.returns-in-Err-Short-clause-short
returns-in-Err-Short-clause-short c =
    let rest : c.split_at.result.1.now ≡ drop c.words.scan.at c.args.bytes.now = search rules in
    short_so c.words.scan c.args.bytes.now c.words.invariant c.words-test.true
    (rw (rest, c.in-Err-Short.field-0-is) at c.in-Err-Short.ensures.gives)
