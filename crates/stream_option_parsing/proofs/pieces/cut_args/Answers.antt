use Rattle.std.proofs.Common.{[], ◌∷◌}
use Rattle.std.proofs.lemmas.Result.{err_from_is_err_and}
use Rattle.stream_option_parsing.proofs.LineLemmas.{args_more, some_left}
use Rattle.stream_option_parsing.proofs.pieces.cut_args.Goals as goal

pub parts-preserved : goal.parts-preserved
parts-preserved c =
    args_more c.parts.args.items c.push.new.self.items c.in_ok-from_slice.field-0 c.cut_at.result.0.now c.in-Some.rest
    c.parts.left c.cut_at.result.1 _
    c.parts.invariant c.in-Some.is
    (c.cut_at.ensures.cut ([] ∷ [])) c.in_ok-from_slice.ensures.items c.in_ok-push.ensures.items

pub returns-in_err-from_slice-clause-some : goal.returns-in_err-from_slice-clause-some
returns-in_err-from_slice-clause-some c =
    let p = err_from_is_err_and c.from_residual.result c.from_residual.ensures.1 in
    rw p.1 (some_left c.parts.args.items c.cut_at.result.0.now c.in-Some.rest c.parts.left c.cut_at.result.1 _
    c.parts.invariant c.in-Some.is (c.cut_at.ensures.cut ([] ∷ [])))

pub returns-in_err-push-clause-some : goal.returns-in_err-push-clause-some
returns-in_err-push-clause-some c =
    let p = err_from_is_err_and c.from_residual-in_err-push.result c.from_residual-in_err-push.ensures.1 in
    rw p.1 (some_left c.parts.args.items c.cut_at.result.0.now c.in-Some.rest c.parts.left c.cut_at.result.1 _
    c.parts.invariant c.in-Some.is (c.cut_at.ensures.cut ([] ∷ [])))
