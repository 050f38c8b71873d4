use Rattle.std.proofs.Common.{rules, ◌≡◌, List, ℕ, Some}
use Rattle.stream_option_parsing.specs.Parts.{add_of}
use Rattle.stream_option_parsing.specs.Split.{arguments}
use Rattle.redis_c.specs.Placed.{texts_at}
use Rattle.redis_c.proofs.ServerLemmas.{means_add}
use Rattle.redis_c.proofs.server.parse_add.Goals as goal

pub returns-clause-is : goal.returns-clause-is
returns-clause-is c =
    let found = c.in-Ok-read_add_parts.found in
    let read = c.in-Ok-read_add_parts.ensures in
    let args : List (List ℕ) = arguments c.deref.result.now in
    let texts : texts_at c.args.bytes.now c.args.places.now ≡ Some args = search rules in (
      args,
      texts,
      add_of found.0,
      means_add c.args.bytes.now c.args.places.now args (add_of found.0) found.1 c.build_add_settings.result texts read.split
          c.build_add_settings.ensures.is,
      read.split,
    )
