use Rattle.std.proofs.Common.{◌≡◌, ◌∙◌, ◌++◌, ◌+◌, ◌*◌, ap, sym, ℕ, List, length, map, rules}
use Rattle.std.specs.List.{flat_map}
use Rattle.redis_wire.specs.Packed.{bulk_bytes, head_bytes}
use Rattle.worker_producer.specs.Records.{arguments_of, field_of, fields_of}
use Rattle.worker_producer.specs.Sentences.{own_id}
use Rattle.worker_producer.proofs.RequestLemmas.{arguments_counted, four_parts}
use Rattle.worker_producer.proofs.batch.append_record.Goals as goal

pub returns : goal.returns
returns c =
    let out = c.args.out.now.items in
    let args = arguments_of (fields_of c.args.fields.now) in
    let counted : 2 * length c.as_slice-fields.result.now ≡ length args =
    ap (λ xs. 2 * length xs) c.as_slice-fields.ensures.value
    ∙ sym (arguments_counted c.args.fields.now.items) in
    let before = c.args.front.now.count in
    let head : c.append_head.new.out.items ≡ out ++ head_bytes (before + 1 + length args) =
    c.in_ok-append_head.ensures ∙ ap (λ (n : ℕ). out ++ head_bytes (before + 1 + n)) counted in
    let front : c.extend_from_slice.new.self.items ≡ c.append_head.new.out.items ++ c.args.front.now.bytes.items =
    search rules in
    let id : c.push_bulk.new.out.items ≡ c.extend_from_slice.new.self.items ++ bulk_bytes (own_id c.args.number) =
    c.in_ok-push_bulk.ensures.ok
    ∙ ap (λ (bytes : List ℕ). c.extend_from_slice.new.self.items ++ bulk_bytes bytes)
    (c.deref-2.ensures.value ∙ c.in_ok-write_id.ensures) in
    let fields : c.append_fields.new.out.items ≡ c.push_bulk.new.out.items ++ flat_map bulk_bytes args =
    c.in_ok-append_fields.ensures
    ∙ ap (λ xs. c.push_bulk.new.out.items ++ flat_map bulk_bytes (arguments_of (map field_of xs))) c.as_slice-fields.ensures.value in
    four_parts out c.append_head.new.out.items c.extend_from_slice.new.self.items c.push_bulk.new.out.items
    c.append_fields.new.out.items (head_bytes (before + 1 + length args)) c.args.front.now.bytes.items (bulk_bytes (own_id c.args.number))
    (flat_map bulk_bytes args) head front id fields
