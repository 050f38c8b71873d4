use Rattle.std.proofs.Common.{arith}
use Rattle.stream_in_place.proofs.TextLemmas.{ascii_of_mask}
use Rattle.stream_in_place.proofs.rows.are_sixteen_ascii.Goals as goal

pub returns : goal.returns
returns c = ascii_of_mask 16 (omega arith) c.args.bytes.now c.args.at c.requires
