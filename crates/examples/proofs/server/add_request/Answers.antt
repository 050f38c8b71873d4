use Rattle.std.proofs.lemmas.Result.{err_from_is_err_and}
use Rattle.examples.proofs.ServerLemmas.{split_asked, asked_once, asked_nothing, unasked, arguments_first, arguments_none}
use Rattle.examples.proofs.server.add_request.Goals as goal

pub returns-in_err-options-clause-err : goal.returns-in_err-options-clause-err
returns-in_err-options-clause-err c =
    let p = err_from_is_err_and c.from_residual.result c.from_residual.ensures.1 in
    rw (p.1, p.2) (λ m add id fields a. unasked _ add id fields (c.in_err-options.ensures.none m) a)

pub returns-in-empty-clause-err : goal.returns-in-empty-clause-err
returns-in-empty-clause-err c = λ _ add id fields a.
    asked_nothing _ _ add _ id fields c.in_ok-options.ensures.split
    (arguments_none c.args.args.now c.in_ok-options.len c.in-empty.len_below) a

pub returns-in-len1-up-clause-ok : goal.returns-in-len1-up-clause-ok
returns-in-len1-up-clause-ok c =
    rw c.deref.ensures.value (split_asked _ _ _ _ _ c.in_ok-options.ensures.split
    (arguments_first c.args.args.now c.in_ok-options.len c.id-item.result c.in-len1-up.len_at_least c.id-item.is))

pub returns-in-len1-up-clause-only : goal.returns-in-len1-up-clause-only
returns-in-len1-up-clause-only c = λ add id fields a.
    rw c.deref.ensures.value (asked_once _ _ add _ _ id _ fields c.in_ok-options.ensures.split
    (arguments_first c.args.args.now c.in_ok-options.len c.id-item.result c.in-len1-up.len_at_least c.id-item.is) a)
