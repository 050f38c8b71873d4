use Rattle.std.proofs.Common.{rules, ◌≡◌, List, ℕ, Some}
use Rattle.stream_option_parsing.specs.Parts.{read_of}
use Rattle.stream_option_parsing.specs.Split.{arguments}
use Rattle.redis_c.specs.Placed.{texts_at}
use Rattle.redis_c.proofs.ServerLemmas.{means_read}
use Rattle.redis_c.proofs.server.parse_read.Goals as goal

pub returns-clause-is : goal.returns-clause-is
returns-clause-is c =
    let found = c.in-Ok-read_read_parts.found in
    let read = c.in-Ok-read_read_parts.ensures in
    let args : List (List ℕ) = arguments c.deref.result.now in
    let texts : texts_at c.args.bytes.now c.args.places.now ≡ Some args = search rules in (
      args,
      texts,
      read_of found.0,
      means_read c.args.bytes.now c.args.places.now args found.0 found.1 c.build_read_settings.result c.build_group_place.result
          texts read.split c.build_read_settings.ensures.is read.noack read.claim c.build_group_place.ensures.named
          c.build_group_place.ensures.is,
      read.split,
    )
