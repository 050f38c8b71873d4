use Rattle.std.proofs.Common.{◌∙◌, ap, sym, refl, Some, string_bytes}
use Rattle.worker.specs.Handed.{entries_sent}
use Rattle.worker.specs.Machine.{machine_of}
use Rattle.worker.proofs.InPlaceLemmas.{news_say, streams_say, memory_taken}
use Rattle.worker.proofs.ReadLemmas.{there_all}
use Rattle.worker.proofs.WorkerLemmas.{news_nil, news_went, news_cut}
use Rattle.worker.proofs.worker.Worker.take_found_new.Goals as goal

pub returns-in_ok-from_str-in-Some-new_nil_id-clause-taken : goal.returns-in_ok-from_str-in-Some-new_nil_id-clause-taken
returns-in_ok-from_str-in-Some-new_nil_id-clause-taken g c t reads =
    let is = rw c.deref.ensures at c.in-Some.ensures in
    let said = streams_say (string_bytes c.args.self.now.settings.key) t c.args.streams
    (Some (entries_sent c.in-Some.entries)) reads is in
    let some = rw c.in-Some-new_nil_id.is at c.new_nil_id.ensures in
    let first = sym some ∙ ap Some (sym c.in_ok-from_str-in-Some-new_nil_id.ensures.ok) in
    rw c.replace-phase.ensures.after
    (news_nil g.H.Handler.with_verdict c.args.self.now.settings t (machine_of c.args.self.now) _ _ _
    c.in_ok-from_str-in-Some-new_nil_id.field-0 (entries_sent c.in-Some.entries, said, first) refl refl)

pub returns-in_err-take_in_place-in-None-clause-taken : goal.returns-in_err-take_in_place-in-None-clause-taken
returns-in_err-take_in_place-in-None-clause-taken g c t reads =
    let is = rw c.deref.ensures at c.in-Some.ensures in
    let said = streams_say (string_bytes c.args.self.now.settings.key) t c.args.streams
    (Some (entries_sent c.in-Some.entries)) reads is in
    let none = rw c.in-None.is at c.new_nil_id.ensures in
    let there = there_all (entries_sent c.in-Some.entries) (sym none) in
    let read = news_say (string_bytes c.args.self.now.settings.key) t (entries_sent c.in-Some.entries) said there in
    let next = rw c.replace-phase.ensures.value at c.next_round-next.ensures in
    let moved = rw c.replace-phase.ensures.after at c.in_err-take_in_place-in-None.ensures.moved in
    memory_taken g.H.Handler.with_verdict c.args.self.now.settings _ t _ _ _ _
    c.from_residual-in_err-take_in_place-in-None.result c.from_residual-in_err-take_in_place-in-None.ensures.1
    (news_cut g.H.Handler.with_verdict c.args.self.now.settings t (machine_of c.args.self.now) _ _ _ _ _ read next moved)

pub returns-in_ok-take_in_place-in-None-clause-taken : goal.returns-in_ok-take_in_place-in-None-clause-taken
returns-in_ok-take_in_place-in-None-clause-taken g c t reads =
    let is = rw c.deref.ensures at c.in-Some.ensures in
    let said = streams_say (string_bytes c.args.self.now.settings.key) t c.args.streams
    (Some (entries_sent c.in-Some.entries)) reads is in
    let none = rw c.in-None.is at c.new_nil_id.ensures in
    let there = there_all (entries_sent c.in-Some.entries) (sym none) in
    let read = news_say (string_bytes c.args.self.now.settings.key) t (entries_sent c.in-Some.entries) said there in
    let next = rw c.replace-phase.ensures.value at c.next_round-next.ensures in
    let moved = rw c.replace-phase.ensures.after at c.in_ok-take_in_place-in-None.ensures.moved in
    news_went g.H.Handler.with_verdict c.args.self.now.settings t (machine_of c.args.self.now) _ _ _ _ _
    c.in_ok-take_in_place-in-None.field-0 read next moved
