use Rattle.redis_wire.proofs.LineLemmas.{prefix_len_le}
use Rattle.stream_in_place.specs.IdParts.{is_of_part}
use Rattle.stream_in_place.proofs.id_parts.StreamIdParts.parse.Goals as goal

pub split_at-requires : goal.split_at-requires
split_at-requires c = rw c.part_len.ensures (prefix_len_le is_of_part c.args.text.now)
