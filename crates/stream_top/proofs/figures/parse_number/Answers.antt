use Rattle.std.proofs.Common.{◌∙◌}
use Rattle.redis_resp.proofs.NumberLemmas.{unsigned_told}
use Rattle.stream_top.proofs.figures.parse_number.Goals as goal

pub returns : goal.returns
returns c = c.ok.ensures.value ∙ unsigned_told 64 c.args.text.now c.parse.result c.parse.ensures.value.0
