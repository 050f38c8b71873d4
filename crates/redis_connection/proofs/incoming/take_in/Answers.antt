use Rattle.std.proofs.Common.{rules}
use Rattle.std.proofs.lemmas.Result.{err_from_is_err_and}
use Rattle.redis_connection.proofs.ReaderLemmas.{of_read}
use Rattle.redis_connection.proofs.incoming.take_in.Goals as goal

pub returns-in_err-unfed-clause-of_reader : goal.returns-in_err-unfed-clause-of_reader
returns-in_err-unfed-clause-of_reader g c =
    let p = err_from_is_err_and c.from_residual.result c.from_residual.ensures.1 in
    rw (p.1, p.2)
    (of_read (g.S.Source.may_read c.read_once.new.reader) (g.S.Source.failed_with c.read_once.new.reader)
    c.read_once.result c.in_err-unfed.field-0.0 (search rules) c.read_once.ensures.failed)
