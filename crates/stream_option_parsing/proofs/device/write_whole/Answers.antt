use Rattle.stream_option_parsing.proofs.Devices.{up_to_more}
use Rattle.stream_option_parsing.proofs.device.write_whole.Goals as goal

pub pieces-preserved : goal.pieces-preserved
pieces-preserved g c = up_to_more c.args.bytes.now c.pieces.rest.now _ (g.W.Write.contents c.pieces.output)
    (g.W.Write.contents c.write.new.self) c.in-Ok.n c.pieces.invariant c.in-Ok.ensures.bytes
