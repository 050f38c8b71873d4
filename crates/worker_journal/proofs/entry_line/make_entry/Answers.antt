use Rattle.std.proofs.Common.{◌≡◌, ◌++◌, [], ◌∷◌, rules, arith, length, map, ap}
use Rattle.std.proofs.lemmas.Grind.{common_steps}
use Rattle.std.specs.Vec.Iter.{into_iter_items}
use Rattle.worker_journal.specs.EntryLineMeaning.{field_of}
use Rattle.worker_journal.proofs.LineTextsLemmas.{pairs_step}
use Rattle.worker_journal.proofs.entry_line.make_entry.Goals as goal

pub loop-name-preserved : goal.loop-name-preserved
loop-name-preserved c =
    let first : into_iter_items c.loop-name.rest ≡ c.in-Some-next.name ∷ into_iter_items c.next-in-loop-name.new.self =
    search rules in
    let second : into_iter_items c.next-in-loop-name.new.self
    ≡ c.in-Some-next-2.value ∷ into_iter_items c.next-in-Some-next.new.self = search rules in
    let pushed : map field_of c.push.new.self.items ≡ map field_of c.loop-name.fields.items
    ++ (c.in-Some-next.name.items, c.in-Some-next-2.value.items) ∷ [] = grind (arith, common_steps) in
    record {
      so_far = pairs_step _ _ _ _ _ _ _ _ first second pushed c.loop-name.invariant.so_far;
      count = grind (arith, common_steps, ap length first, ap length second);
    }
