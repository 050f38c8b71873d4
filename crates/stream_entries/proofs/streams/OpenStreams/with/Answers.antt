use Rattle.std.proofs.Common.{◌≡◌, Some, ◌∙◌, ap, sym}
use Rattle.std.proofs.lemmas.Result.{IfOk-weaker, IfErr-weaker}
use Rattle.redis_resp.specs.Tree.{Tree}
use Rattle.stream_entries.specs.InForms.{InForms, behind_in_forms}
use Rattle.stream_entries.specs.InFormsMeaning.{streams_held}
use Rattle.stream_entries.specs.ItemsLeft.{item_tree, pair_in}
use Rattle.stream_entries.specs.Read.{Streams}
use Rattle.stream_entries.proofs.StreamsLemmas.{one_of_row}
use Rattle.stream_entries.proofs.streams.OpenStreams.with.Goals as goal

pub returns-in-Ok-clause-ok : goal.returns-in-Ok-clause-ok
returns-in-Ok-clause-ok g c =
    let t = item_tree g.S.Source.seen c.args.row in
    let p : Tree × Tree = (g.S.Source.seen c.in-Ok.key, g.S.Source.seen c.in-Ok.list) in
    let one : pair_in t ≡ Some p =
    ap (λ i. pair_in (item_tree g.S.Source.seen i)) c.in-Whole.is ∙ c.in-Ok.ensures.pair in
    IfOk-weaker c.with_one-in-Ok.result _ _ (λ r h. h
    ∙ ap (λ (m : InForms Streams). behind_in_forms (streams_held c.args.self) m) (sym (one_of_row t p one)))
    c.with_one-in-Ok.ensures.ok

pub returns-in-Ok-clause-err : goal.returns-in-Ok-clause-err
returns-in-Ok-clause-err g c =
    let t = item_tree g.S.Source.seen c.args.row in
    let p : Tree × Tree = (g.S.Source.seen c.in-Ok.key, g.S.Source.seen c.in-Ok.list) in
    let one : pair_in t ≡ Some p =
    ap (λ i. pair_in (item_tree g.S.Source.seen i)) c.in-Whole.is ∙ c.in-Ok.ensures.pair in
    IfErr-weaker c.with_one-in-Ok.result _ _ (λ e r n. one_of_row t p one ∙ r n) c.with_one-in-Ok.ensures.err
