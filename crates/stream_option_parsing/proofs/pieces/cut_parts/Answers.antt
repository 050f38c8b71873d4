use Rattle.std.proofs.Common.{[], ◌∷◌, sym, ◌∙◌, ap}
use Rattle.stream_option_parsing.proofs.LineLemmas.{parts_are}
use Rattle.stream_option_parsing.proofs.pieces.cut_parts.Goals as goal

pub returns-clause-parts : goal.returns-clause-parts
returns-clause-parts c =
    parts_are c.args.line.now c.cut_at.result.0.now c.cut_at.result.1 (c.cut_at.ensures.cut ([] ∷ []))
    ∙ ap (λ t. c.cut_at.result.0.now ∷ t) (sym c.in_ok-args.ensures.args)
