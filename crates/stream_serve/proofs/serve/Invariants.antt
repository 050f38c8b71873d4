use Rattle.std.proofs.Common.{◌≡◌, [], false}
use Rattle.stream_serve.specs.Served.{Served, beginning}
use Rattle.stream_serve.proofs.serve.Given as goal

-- all that was read so far had its replies, and the connection has not ended
abbrev pub invariant-loop-turn : goal.invariant-loop-turn
invariant-loop-turn g l = record {
  none_left : l.replies.items ≡ [];
  is_open : l.client.has_ended ≡ false;
  served :
      Served g.R.Read.remaining g.W.Write.contents g.W.Output.is_flushed (beginning l.fn.input l.fn.output)
      (record { input = l.input; output = l.output; server = l.server; client = l.client });
}
