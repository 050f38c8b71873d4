use Rattle.std.proofs.Common.{◌≡◌, length, map}
use Rattle.std.specs.List.{list_all}
use Rattle.redis_resp.specs.Source.{all_left}
use Rattle.redis_resp.specs.Value.{tree, tree_of_pair}
use Rattle.stream_entries.specs.Readable.{pair_readable}
use Rattle.stream_entries.proofs.read_forms.TableOfReadable.reads.Given as goal

abbrev pub invariant-loop-key : goal.invariant-loop-key
invariant-loop-key g l = list_all (pair_readable g.T.Readable.readable)
    (all_left (λ vs. map tree vs.now) (λ ps. map tree_of_pair ps.now) l.pairs)
    ≡ list_all (pair_readable g.T.Readable.readable)
    (all_left (λ vs. map tree vs.now) (λ ps. map tree_of_pair ps.now) l.initial.pairs)

abbrev pub decreases-loop-key : goal.decreases-loop-key
decreases-loop-key g l = length (all_left (λ vs. map tree vs.now) (λ ps. map tree_of_pair ps.now) l.pairs)
