use Rattle.std.proofs.Common.{map, take, string_bytes, length, ◌≤◌, arith, ap, sym, subst, ◌≡◌, List}
use Rattle.std.proofs.lemmas.List.{take_all}
use Rattle.model_server.specs.Group.Worker.{Delivered, Ending, went_through}
use Rattle.stream_in_place.specs.Sent.{Pairs}
use Rattle.stream_in_place.specs.SentMeaning.{sent_of}
use Rattle.worker.specs.Taking.{Took, all_delivered}
use Rattle.worker.proofs.TakingLemmas.{loop_step, loop_stops, loop_cut, ends, said_error}
use Rattle.worker.proofs.entries.take_entries.Goals as goal

pub loop-entry-preserved : goal.loop-entry-preserved
loop-entry-preserved g c =
    let o = rw c.in-GoesOn.is at c.in_ok-take_row.ensures in
    loop_step g.H.Handler.with_verdict sent_of c.args.entries.now c.loop-entry.entry-index c.entry-item.result _ _
    _ _ _ _ c.loop-entry-test.true c.entry-item.is c.loop-entry.invariant o

pub returns-in-Stopped : goal.returns-in-Stopped
returns-in-Stopped g c =
    let o = rw c.in-Stopped.is at c.in_ok-take_row.ensures in
    loop_stops g.H.Handler.with_verdict sent_of c.args.entries.now c.loop-entry.entry-index c.entry-item.result _
    _ _ _ _ _ c.loop-entry-test.true c.entry-item.is c.loop-entry.invariant o

pub returns-in_err-take_row : goal.returns-in_err-take_row
returns-in_err-take_row g c =
    let o = c.in_err-take_row.ensures in
    let P : Ending → Type 0 = λ b. Took g.H.Handler.with_verdict (all_delivered (map sent_of c.args.entries.now))
    (map string_bytes c.args.ids.now.items) (map string_bytes c.take_row.new.ids.items)
    (g.H.Handler.history c.args.handler.now) (g.H.Handler.history c.take_row.new.handler) b in
    subst P (sym (said_error c.from_residual.result c.from_residual.ensures.0))
    (loop_cut g.H.Handler.with_verdict sent_of c.args.entries.now c.loop-entry.entry-index c.entry-item.result _ _
    _ _ _ _ c.loop-entry-test.true c.entry-item.is c.loop-entry.invariant o.0 o.1)

pub returns : goal.returns
returns g c =
    let past : length c.args.entries.now ≤ c.loop-entry.entry-index = omega arith in
    let e = take_all c.loop-entry.entry-index c.args.entries.now past in
    let all : all_delivered (map sent_of (take c.loop-entry.entry-index c.args.entries.now))
    ≡ all_delivered (map sent_of c.args.entries.now)
    = ap (λ es. all_delivered (map sent_of es)) e in
    let P : List (Delivered Pairs) → Type 0 =
    λ es. Took g.H.Handler.with_verdict es (map string_bytes c.args.ids.now.items)
    (map string_bytes c.loop-entry.ids.items) (g.H.Handler.history c.args.handler.now)
    (g.H.Handler.history c.loop-entry.handler) went_through in
    subst P all (ends g.H.Handler.with_verdict _ _ _ _ _ c.loop-entry.invariant)
