use Rattle.std.proofs.Common.{◌≡◌, ◌-◌, ℕ, length, take, drop, sym, subst, arith, rules}
use Rattle.std.proofs.KnownBytes.{Appends-kept}
use Rattle.std.proofs.lemmas.List.{length-drop, take_all}
use Rattle.std.specs.Io.KnownBytes.{Appends}
use Rattle.redis_connection.proofs.WayLemmas.{front_more}
use Rattle.redis_connection.proofs.outgoing.write_whole.Goals.{in-Ok, in-Err+else-ne}
use Rattle.redis_connection.proofs.outgoing.write_whole.Goals as goal

pub loop-turn-preserved : goal.loop-turn-preserved
loop-turn-preserved g c =
    let bytes = c.args.bytes.now in
    let at = c.loop-turn.at in
    let rest : take (length bytes - at) (drop at bytes) ≡ drop at bytes =
    take_all (length bytes - at) (drop at bytes) (omega (arith, length-drop at bytes)) in
    let went : ℕ → Type 0 = λ k. Appends (g.S.Sink.contents c.args.writer.now) (g.S.Sink.contents c.write_some.new.self)
    (take k bytes) in
    elim c.match-write_some.branch [
      | in-Ok w ↦ record {
        within =
            omega (
              arith,
              w.at-is,
              length-drop at bytes,
              rw rest at w.in-Ok.ensures.bound,
              c.loop-turn.invariant.within,
            );
        went =
            subst went (sym w.at-is)
            (front_more _ _ _ bytes
            (take (length bytes - at) (drop at bytes)) at _ rest c.loop-turn.invariant.went w.in-Ok.ensures.bytes);
        usable = w.in-Ok.ensures.again;
      }
      | in-Err+else-ne w ↦ record {
        within = omega (arith, w.at-is, c.loop-turn.invariant.within);
        went = subst went (sym w.at-is) (Appends-kept _ _ _ _ c.loop-turn.invariant.went w.in-Err.ensures.bytes);
        usable = w.in-Err.ensures.again (search rules);
      }
    ]
