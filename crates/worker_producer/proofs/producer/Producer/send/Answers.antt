use Rattle.std.proofs.lemmas.Result.{err_from_is_err_and}
use Rattle.std.proofs.Common.{◌≡◌, ◌∙◌, List, ap, sym, subst, map, take, drop, length}
use Rattle.std.specs.Prelude.{IfOk}
use Rattle.model_server.specs.Once.Feed.{Numbered, knows}
use Rattle.worker_producer.specs.Machine.{Sent, standing_of}
use Rattle.worker_producer.specs.Records.{Fields, fields_of}
use Rattle.worker_producer.proofs.RequestLemmas.{all_read, next_is, next_count, not_read, sends_ok, sends_err, sent_err}
use Rattle.worker_producer.proofs.producer.Producer.send.Goals as goal

pub returns-clause-ok : goal.returns-clause-ok
returns-clause-ok g c =
    let s = c.args.self.now.settings in
    let xs = c.deref.result.now in
    let r = all_read s.batch c.args.known (g.S.Source.records c.args.source.now) fields_of c.in_ok-records.records.items
    c.in_ok-records.ensures.ok c.in_ok-records.ensures.most in
    let is : map fields_of xs ≡ take s.batch (drop c.args.known r.0)
    = ap (map fields_of) c.deref.ensures.value ∙ r.2 in
    let P : List (Numbered Fields) → Type 0 = λ b. IfOk c.send_read.result (Sent s b c.args.out.now.items
    c.send_read.new.out.items (knows c.args.known) (standing_of c.send_read.new.self)) in
    sends_ok c.send_read.result s (g.S.Source.records c.args.source.now) r.0 (knows c.args.known) c.args.out.now.items
    c.send_read.new.out.items (standing_of c.send_read.new.self) r.1
    (subst P (sym (next_is s.base c.args.known s.batch r.0 fields_of xs is)) c.send_read.ensures.ok)

pub returns-clause-err : goal.returns-clause-err
returns-clause-err g c =
    let s = c.args.self.now.settings in
    let xs = c.deref.result.now in
    let r = all_read s.batch c.args.known (g.S.Source.records c.args.source.now) fields_of c.in_ok-records.records.items
    c.in_ok-records.ensures.ok c.in_ok-records.ensures.most in
    let is : map fields_of xs ≡ take s.batch (drop c.args.known r.0)
    = ap (map fields_of) c.deref.ensures.value ∙ r.2 in
    sends_err c.send_read.result s (g.S.Source.records c.args.source.now) r.0 c.args.known r.1
    (sent_err c.send_read.result s r.0 c.args.known (length xs)
    (next_count s.base c.args.known s.batch r.0 fields_of xs is) c.send_read.ensures.err)

pub returns-in_err-records-clause-err : goal.returns-in_err-records-clause-err
returns-in_err-records-clause-err g c =
    let p = err_from_is_err_and c.from_residual.result c.from_residual.ensures.1 in
    rw (p.1, p.2)
    (not_read c.args.self.now.settings (g.S.Source.records c.args.source.now) c.args.known)
