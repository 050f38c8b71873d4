use Rattle.std.proofs.Common.{◌∙◌, ◌++◌, ◌∷◌, ◌-◌, [], ap, drop, flat_map, length, option_map, sym, take}
use Rattle.json.specs.Value.{members_view, value_view}
use Rattle.worker_jobs.specs.Added.{fields_in}
use Rattle.worker_jobs.proofs.AddedLemmas.{fields_step, first_and_more, first_more, flat_more, words_more}
use Rattle.worker_jobs.proofs.added.collect_fields.Goals as goal

pub loop-rest-preserved : goal.loop-rest-preserved
loop-rest-preserved c =
    let so_far = c.loop-rest.invariant.collected in
    let name = c.member-item.result.0 in
    let text = c.in-Some.text in
    record {
      collected = (
        so_far.0 ++ (name.now, text.now) ∷ [],
        ap (λ ws. flat_map (λ word. word.now ∷ []) ws)
            (c.in_ok-push-2.ensures.items ∙ ap (λ ws. ws ++ text ∷ []) c.in_ok-push.ensures.items)
            ∙ flat_more (λ word. word.now) c.loop-rest.words.items name text
            ∙ ap (λ ws. ws ++ name.now ∷ text.now ∷ []) so_far.1 ∙ sym (words_more so_far.0 name.now text.now),
        first_more so_far.0 (name.now, text.now) _ _ (so_far.2
            ∙ ap (λ ms. option_map (λ fs. so_far.0 ++ fs) (fields_in (members_view ms)))
            (first_and_more c.loop-rest.rest.now c.member-item.result c.in-len1-up.len_at_least c.member-item.is)
            ∙ ap (λ o. option_map (λ fs. so_far.0 ++ fs) o)
            (fields_step name.now (value_view c.member-item.result.1)
            (members_view (take (length c.loop-rest.rest.now - 1) (drop 1 c.loop-rest.rest.now))) text.now
            (sym c.as_str.ensures ∙ ap (λ o. option_map (λ s. s.now) o) c.in-Some.is))),
      );
    }
