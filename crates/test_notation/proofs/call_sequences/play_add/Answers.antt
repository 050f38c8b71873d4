use Rattle.std.proofs.Common.{rules, ◌≡◌, ◌∙◌, sym, ap, append_assoc, ◌∷◌, ◌++◌, []}
use Rattle.std.specs.Vec.Iter.{into_iter_items}
use Rattle.stream_options.specs.Add.{default_add}
use Rattle.stream_options.specs.AddCalls.{after_add}
use Rattle.test_notation.specs.CallsMeaning.{add_call_of}
use Rattle.test_notation.proofs.PlayLemmas.{add_final_push}
use Rattle.test_notation.proofs.call_sequences.play_add.Goals as goal

pub loop-call-preserved : goal.loop-call-preserved
loop-call-preserved c =
    let next : into_iter_items c.loop-call.call-iterator ≡ c.in-Some.call ∷ into_iter_items c.next.new.self =
    search rules in
    record {
      so_far = c.play_add_call-options.ensures
          ∙ ap (λ o. after_add o (add_call_of c.in-Some.call)) c.loop-call.invariant.so_far
          ∙ sym (add_final_push default_add add_call_of c.loop-call.yielded c.in-Some.call);
      whole = append_assoc c.loop-call.yielded (c.in-Some.call ∷ []) (into_iter_items c.next.new.self)
          ∙ ap (λ t. c.loop-call.yielded ++ t) (sym next) ∙ c.loop-call.invariant.whole;
      count = search rules;
    }
