use Rattle.std.proofs.Common.{◌≡◌, [], ◌∷◌, Some}
use Rattle.std.proofs.lemmas.Result.{on_ok_weaker, IfErr-weaker}
use Rattle.redis_resp.specs.Tree.{Tree, pairs_in}
use Rattle.stream_entries.specs.EntryMeaning.{entries_of}
use Rattle.stream_entries.proofs.ItemFormLemmas.{only_pair, one_pair, one_refused}
use Rattle.stream_entries.proofs.item_form.RowsItemForm.push.Goals as goal

pub returns-in-Ok-clause-ok : goal.returns-in-Ok-clause-ok
returns-in-Ok-clause-ok g c =
    let t = g.S.Source.seen c.args.item in
    let p : Tree × Tree = (g.S.Source.seen c.in-Ok.key, g.S.Source.seen c.in-Ok.value) in
    let one : pairs_in t ≡ Some (p ∷ []) = only_pair t p c.in-Ok.ensures.pair in
    on_ok_weaker c.push_entry.result (one_pair t p one (entries_of c.args.ids.now)
    (entries_of c.push_entry.new.ids)) c.push_entry.ensures.ok

pub returns-in-Ok-clause-err : goal.returns-in-Ok-clause-err
returns-in-Ok-clause-err g c =
    let t = g.S.Source.seen c.args.item in
    let p : Tree × Tree = (g.S.Source.seen c.in-Ok.key, g.S.Source.seen c.in-Ok.value) in
    let one : pairs_in t ≡ Some (p ∷ []) = only_pair t p c.in-Ok.ensures.pair in
    IfErr-weaker c.push_entry.result _ _ (λ e. one_refused t p one e) c.push_entry.ensures.err
