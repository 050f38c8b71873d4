-- One stream among the others.
use Rattle.std.proofs.Common.{◌≡◌, ℕ, ◌∙◌, ap, get_or}
use Rattle.std.proofs.Math.Seq.{map-set_same}
use Rattle.std.specs.Prelude.{Result, OnErr}
use Rattle.std.specs.Global.{Vec}
use Rattle.std.specs.Vec.{with_item}
use Rattle.std.proofs.lemmas.Result.{on_err_weaker}
use Rattle.server_store.specs.declared.stream.Stream.{Stream}
use Rattle.server_store.specs.Stream.{seen_stream}
use Rattle.server_commands.specs.Streams.{seen_streams}

-- where one of them shows what it did, all of them do
pub seen_streams-with_item : {T E : Type 0} (r : Result T E) (streams : Vec Stream) (index : ℕ) (old new : Stream)
    → old ≡ get_or streams.items index old → OnErr r (seen_stream new ≡ seen_stream old)
    → OnErr r (seen_streams (with_item streams index new) ≡ seen_streams streams)
seen_streams-with_item r streams index old new at same =
    on_err_weaker r (λ is. map-set_same seen_stream streams.items index new old (is ∙ ap seen_stream at)) same
