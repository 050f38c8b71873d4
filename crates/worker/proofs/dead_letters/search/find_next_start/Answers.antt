use Rattle.std.proofs.Common.{◌∙◌, ◌++◌, ap, arith, codes}
use Rattle.worker.proofs.DeadLettersLemmas.DeadLemmas.{last_split}
use Rattle.worker.proofs.dead_letters.search.find_next_start.Goals as goal

pub returns-in_ok-push_str-in-len1-up : goal.returns-in_ok-push_str-in-len1-up
returns-in_ok-push_str-in-len1-up c =
    let split = last_split c.args.page.now c.last-item.result (omega arith) c.last-item.is in (
      c.if-page-lt-PAGE.false,
      record {
        before = split.0;
        last = c.last-item.result;
        page_is = split.1;
        start_is = c.in_ok-push_str-in-len1-up.ensures.bytes
            ∙ ap (λ xs. xs ++ c.deref.result.now) c.in_ok-start-in-len1-up.ensures.ok ∙ ap (λ xs. codes "(" ++ xs) c.deref.ensures;
      },
    )
