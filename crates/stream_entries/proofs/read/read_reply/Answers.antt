use Rattle.std.proofs.Common.{◌<◌, ◌∙◌, length, rules, sym}
use Rattle.std.proofs.lemmas.Result.{IfOk-weaker, IfErr-weaker}
use Rattle.stream_entries.specs.InFormsMeaning.{streams_held}
use Rattle.stream_entries.specs.ItemsLeft.{trees_left}
use Rattle.stream_entries.proofs.StreamsLemmas.{reply_read, reply_refused, walk_refused}
use Rattle.stream_entries.proofs.read.read_reply.Goals as goal

pub returns-in-Ok-clause-ok : goal.returns-in-Ok-clause-ok
returns-in-Ok-clause-ok g c =
    let t = g.S.Source.seen c.args.v in
    let ts = trees_left g.S.Source.values_left g.S.Source.pairs_left c.in-Some.rows in
    IfOk-weaker c.make_reply.result _ _ (λ r h. reply_read t ts (streams_held c.in-Ok.streams)
    (sym c.in-Some.ensures) c.in-Ok.ensures.ok ∙ h) c.make_reply.ensures.ok

pub returns-in-Ok-clause-err : goal.returns-in-Ok-clause-err
returns-in-Ok-clause-err g c =
    let t = g.S.Source.seen c.args.v in
    let ts = trees_left g.S.Source.values_left g.S.Source.pairs_left c.in-Some.rows in
    let some : 0 < length ts = search rules in
    IfErr-weaker c.make_reply.result _ _ (λ e r. reply_refused t ts (streams_held c.in-Ok.streams) e
    (sym c.in-Some.ensures) some c.in-Ok.ensures.ok r) c.make_reply.ensures.err

pub returns-in-Err : goal.returns-in-Err
returns-in-Err g c =
    let t = g.S.Source.seen c.args.v in
    let ts = trees_left g.S.Source.values_left g.S.Source.pairs_left c.in-Some.rows in
    let some : 0 < length ts = search rules in
    record {
      ok = tt;
      err = walk_refused t ts c.in-Err.error c.convert_error.result
          (sym c.in-Some.ensures) some c.in-Err.ensures.err c.convert_error.ensures;
    }
