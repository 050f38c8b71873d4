use Rattle.std.proofs.Common.{◌≡◌, ◌∙◌, map, rules, sym, true}
use Rattle.std.specs.Option.{is_some}
use Rattle.redis_resp.specs.Source.{all_left}
use Rattle.redis_resp.specs.Text.{text_reading}
use Rattle.redis_resp.specs.Value.{tree, tree_of_pair}
use Rattle.stream_entries.proofs.ReadableLemmas.{pairs_go_on}
use Rattle.stream_entries.proofs.read_forms.TableOfReadable.reads.Goals as goal

pub loop-key-preserved : goal.loop-key-preserved
loop-key-preserved g c =
    let text : is_some (text_reading (tree c.in-Some-next_left.key.now)) ≡ true = search rules in
    let value : g.T.Readable.readable (tree c.in-Some-next_left.value.now) ≡ true = search rules in
    sym
    (pairs_go_on g.T.Readable.readable (all_left (λ vs. map tree vs.now)
    (λ ps. map tree_of_pair ps.now) c.loop-key.pairs) _ (
      tree c.in-Some-next_left.key.now,
      tree c.in-Some-next_left.value.now,
    ) c.in-Some-next_left.ensures text value) ∙ c.loop-key.invariant
