use Rattle.std.proofs.Common.{IfErr, List, ℕ, subst}
use Rattle.stream_fill.specs.Base.{IsUnkept}
use Rattle.stream_fill.proofs.KeepLemmas.{whole_failed}
use Rattle.stream_fill.proofs.kept_base.read_base.Goals as goal

pub returns-clause-err : goal.returns-clause-err
returns-clause-err g c =
    whole_failed (g.D.LogFile.seen c.args.file.now) c.in_ok-len.len c.in_ok-bytes.bytes.items c.args.key.now
    c.parse_base.result c.in_ok-len.ensures c.in_ok-bytes.ensures.bytes
    (subst (λ (l : List ℕ). IfErr c.parse_base.result (IsUnkept c.args.key.now l)) c.deref.ensures.value c.parse_base.ensures.err)
