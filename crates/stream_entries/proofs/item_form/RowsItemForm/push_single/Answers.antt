use Rattle.std.proofs.Common.{refl}
use Rattle.std.proofs.lemmas.Result.{on_ok_weaker}
use Rattle.redis_resp.specs.Tree.{Tree, single}
use Rattle.stream_entries.specs.EntryMeaning.{entries_of}
use Rattle.stream_entries.proofs.ItemFormLemmas.{one_pair}
use Rattle.stream_entries.proofs.item_form.RowsItemForm.push_single.Goals as goal

pub returns-clause-ok : goal.returns-clause-ok
returns-clause-ok g c =
    let p : Tree × Tree = (g.S.Source.seen c.args.key, g.S.Source.seen c.args.value) in
    on_ok_weaker c.push_entry.result (one_pair (single p) p refl (entries_of c.args.ids.now)
    (entries_of c.push_entry.new.ids)) c.push_entry.ensures.ok
