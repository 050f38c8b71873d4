use Rattle.std.proofs.Common.{◌≡◌, ◌-◌, ℕ, arith, drop, length, subst, sym, take}
use Rattle.std.proofs.KnownBytes.{Appends-kept}
use Rattle.std.proofs.lemmas.List.{length-drop, take_all}
use Rattle.std.specs.Io.KnownBytes.{Appends}
use Rattle.stream_serve.proofs.OutputLemmas.{front_more}
use Rattle.stream_serve.proofs.output.write_whole.Goals.{in-Ok, in-Err+else-ne}
use Rattle.stream_serve.proofs.output.write_whole.Goals as goal

pub loop-preserved : goal.loop-preserved
loop-preserved g c =
    let bytes = c.args.bytes.now in
    let at = c.loop.at in
    let rest : take (length bytes - at) (drop at bytes) ≡ drop at bytes =
    take_all (length bytes - at) (drop at bytes) (omega (arith, length-drop at bytes)) in
    let went : ℕ → Type 0 = λ k. Appends (g.W.Write.contents c.args.output.now) (g.W.Write.contents c.write.new.self)
    (take k bytes) in
    elim c.match-write.branch [
      | in-Ok w ↦ record {
        within =
            omega (
              arith,
              w.at-is,
              length-drop at bytes,
              rw rest at w.in-Ok.ensures.bound,
              c.loop.invariant.within,
            );
        went =
            subst went (sym w.at-is)
            (front_more _ _ _ bytes
            (take (length bytes - at) (drop at bytes)) at _ rest c.loop.invariant.went w.in-Ok.ensures.bytes);
      }
      | in-Err+else-ne w ↦ record {
        within = omega (arith, w.at-is, c.loop.invariant.within);
        went = subst went (sym w.at-is) (Appends-kept _ _ _ _ c.loop.invariant.went w.in-Err.ensures.bytes);
      }
    ]
