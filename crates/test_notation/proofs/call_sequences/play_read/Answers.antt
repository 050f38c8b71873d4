use Rattle.std.proofs.Common.{rules, ◌≡◌, ◌∙◌, sym, ap, append_assoc, ◌∷◌, ◌++◌, []}
use Rattle.std.specs.Vec.Iter.{into_iter_items}
use Rattle.stream_options.specs.Read.{default_read}
use Rattle.stream_options.specs.ReadCalls.{after_read}
use Rattle.test_notation.specs.CallsMeaning.{read_call_of}
use Rattle.test_notation.proofs.PlayLemmas.{read_final_push}
use Rattle.test_notation.proofs.call_sequences.play_read.Goals as goal

pub loop-call-preserved : goal.loop-call-preserved
loop-call-preserved c =
    let next : into_iter_items c.loop-call.call-iterator ≡ c.in-Some.call ∷ into_iter_items c.next.new.self =
    search rules in
    record {
      so_far = c.in_ok-options.ensures ∙ ap
          (λ o. after_read o (read_call_of c.in-Some.call)) c.loop-call.invariant.so_far
          ∙ sym (read_final_push default_read read_call_of c.loop-call.yielded c.in-Some.call);
      whole = append_assoc c.loop-call.yielded (c.in-Some.call ∷ []) (into_iter_items c.next.new.self)
          ∙ ap (λ t. c.loop-call.yielded ++ t) (sym next) ∙ c.loop-call.invariant.whole;
      count = search rules;
    }
