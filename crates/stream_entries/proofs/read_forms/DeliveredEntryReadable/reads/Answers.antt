use Rattle.std.proofs.Common.{◌≡◌, true, false, rules, refl, sym}
use Rattle.redis_resp.specs.Tree.{Tree}
use Rattle.redis_resp.specs.Value.{tree}
use Rattle.stream_entries.proofs.ReadableLemmas.{delivery_told}
use Rattle.stream_entries.proofs.read_forms.DeliveredEntryReadable.reads.Goals as goal

pub returns-then-not-is_fields : goal.returns-then-not-is_fields
returns-then-not-is_fields c =
    let q : Tree × Tree × Tree × Tree = (
      tree c.in-Some.id.now,
      tree c.in-Some.fields.now,
      tree c.in-Some.elapsed.now,
      tree c.in-Some.delivered.now,
    ) in
    let id : c.is_text.result ≡ true = search rules in
    let fields : c.is_fields.result ≡ false = search rules in
    rw (id, fields) at (delivery_told (tree c.args.v.now) q c.is_text.result c.is_fields.result _ _
    (sym c.in-Some.ensures) c.is_text.ensures c.is_fields.ensures refl refl)

pub returns-then-not-is_number_or_nil : goal.returns-then-not-is_number_or_nil
returns-then-not-is_number_or_nil c =
    let q : Tree × Tree × Tree × Tree = (
      tree c.in-Some.id.now,
      tree c.in-Some.fields.now,
      tree c.in-Some.elapsed.now,
      tree c.in-Some.delivered.now,
    ) in
    let id : c.is_text.result ≡ true = search rules in
    let fields : c.is_fields.result ≡ true = search rules in
    let elapsed : c.is_number_or_nil.result ≡ false = search rules in
    rw (id, fields, elapsed) at
    (delivery_told (tree c.args.v.now) q c.is_text.result c.is_fields.result c.is_number_or_nil.result _
    (sym c.in-Some.ensures) c.is_text.ensures c.is_fields.ensures c.is_number_or_nil.ensures refl)

pub returns : goal.returns
returns c =
    let q : Tree × Tree × Tree × Tree = (
      tree c.in-Some.id.now,
      tree c.in-Some.fields.now,
      tree c.in-Some.elapsed.now,
      tree c.in-Some.delivered.now,
    ) in
    let id : c.is_text.result ≡ true = search rules in
    let fields : c.is_fields.result ≡ true = search rules in
    let elapsed : c.is_number_or_nil.result ≡ true = search rules in
    rw (id, fields, elapsed) at
    (delivery_told
    (tree c.args.v.now) q c.is_text.result c.is_fields.result c.is_number_or_nil.result c.is_number_or_nil-2.result
    (sym c.in-Some.ensures) c.is_text.ensures c.is_fields.ensures c.is_number_or_nil.ensures
    c.is_number_or_nil-2.ensures)
