use Rattle.std.proofs.Common.{rules, map, string_bytes, append_assoc, append-nil, ◌∙◌, ap, sym, subst, ◌≡◌, ◌++◌, ◌∷◌, [], List}
use Rattle.model_server.specs.Group.Worker.{Ending, went_through}
use Rattle.stream_in_place.specs.Sent.{SentEntry}
use Rattle.worker.specs.Taking.{Took, all_delivered}
use Rattle.worker.proofs.TakingLemmas.{next_step, next_stops, next_cut, ends, said_error}
use Rattle.worker.proofs.entries.take_in_place.Goals as goal

pub loop-entry-preserved : goal.loop-entry-preserved
loop-entry-preserved g c =
    let next : c.loop-entry.entry-iterator ≡ c.in-Some.entry ∷ c.next.new.self = search rules in
    let o = rw c.in-GoesOn.is at c.in_ok-take_entry.ensures in
    record {
      whole = append_assoc c.loop-entry.yielded (c.in-Some.entry ∷ []) c.next.new.self
          ∙ ap (λ t. c.loop-entry.yielded ++ t) (sym next) ∙ c.loop-entry.invariant.whole;
      going = next_step g.H.Handler.with_verdict c.loop-entry.yielded c.in-Some.entry _ _ _ _ _ _
          c.loop-entry.invariant.going o;
    }

pub returns-in-Stopped : goal.returns-in-Stopped
returns-in-Stopped g c =
    let next : c.loop-entry.entry-iterator ≡ c.in-Some.entry ∷ c.next.new.self = search rules in
    let o = rw c.in-Stopped.is at c.in_ok-take_entry.ensures in
    next_stops g.H.Handler.with_verdict c.args.entries c.loop-entry.yielded c.next.new.self c.in-Some.entry
    _ _ _ _ _ _ (sym c.loop-entry.invariant.whole ∙ ap (λ t. c.loop-entry.yielded ++ t) next)
    c.loop-entry.invariant.going o

pub returns-in_err-take_entry : goal.returns-in_err-take_entry
returns-in_err-take_entry g c =
    let next : c.loop-entry.entry-iterator ≡ c.in-Some.entry ∷ c.next.new.self = search rules in
    let o = c.in_err-take_entry.ensures in
    let P : Ending → Type 0 = λ b. Took g.H.Handler.with_verdict (all_delivered c.args.entries)
    (map string_bytes c.args.ids.now.items) (map string_bytes c.take_entry.new.ids.items)
    (g.H.Handler.history c.args.handler.now) (g.H.Handler.history c.take_entry.new.handler) b in
    subst P (sym (said_error c.from_residual.result c.from_residual.ensures.0))
    (next_cut g.H.Handler.with_verdict c.args.entries c.loop-entry.yielded c.next.new.self c.in-Some.entry
    _ _ _ _ _ _ (sym c.loop-entry.invariant.whole ∙ ap (λ t. c.loop-entry.yielded ++ t) next)
    c.loop-entry.invariant.going o.0 o.1)

pub returns : goal.returns
returns g c =
    let none : c.loop-entry.entry-iterator ≡ [] = search rules in
    let all : c.loop-entry.yielded ≡ c.args.entries =
    sym (append-nil c.loop-entry.yielded) ∙ ap (λ t. c.loop-entry.yielded ++ t) (sym none)
    ∙ c.loop-entry.invariant.whole in
    let P : List SentEntry → Type 0 =
    λ es. Took g.H.Handler.with_verdict (all_delivered es) (map string_bytes c.args.ids.now.items)
    (map string_bytes c.loop-entry.ids.items) (g.H.Handler.history c.args.handler.now)
    (g.H.Handler.history c.loop-entry.handler) went_through in
    subst P all (ends g.H.Handler.with_verdict _ _ _ _ _ c.loop-entry.invariant.going)
