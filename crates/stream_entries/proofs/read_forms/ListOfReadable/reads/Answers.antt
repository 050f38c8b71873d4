use Rattle.std.proofs.Common.{◌∙◌, sym}
use Rattle.redis_resp.specs.Value.{tree}
use Rattle.stream_entries.proofs.ReadableLemmas.{list_of_values, list_of_pairs}
use Rattle.stream_entries.proofs.read_forms.ListOfReadable.reads.Goals as goal

pub returns-in-Array : goal.returns-in-Array
returns-in-Array g c = c.are_items_readable.ensures
    ∙ sym
    (list_of_values g.T.Readable.readable (tree c.args.v.now) c.in-Array.values.now (sym c.in-Array.ensures.items))

pub returns-in-Set : goal.returns-in-Set
returns-in-Set g c = c.are_items_readable-in-Set.ensures
    ∙ sym (list_of_values g.T.Readable.readable (tree c.args.v.now) c.in-Set.values.now (sym c.in-Set.ensures.items))

pub returns-in-Map : goal.returns-in-Map
returns-in-Map g c = c.are_singles_readable.ensures
    ∙ sym (list_of_pairs g.T.Readable.readable (tree c.args.v.now) c.in-Map.entries.now (sym c.in-Map.ensures.items))
