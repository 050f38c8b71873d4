use Rattle.std.proofs.Common.{◌≡◌, ◌++◌, List, ℕ, length, map, ap, ◌∙◌, rules, Vec, Global}
use Rattle.redis_wire.specs.Packed.{bulk_bytes}
use Rattle.redis_wire.specs.Written.{count_bytes, map_head}
use Rattle.redis_wire.proofs.WrittenLemmas.{written_more, two_more, on_two}
use Rattle.server_commands.specs.Sent.{Sent, item_list, row_list, sent, sent_row, rows_head, row_head, sent_bytes}
use Rattle.server_commands.specs.Sent.{items_bytes, rows_bytes, turns_bytes}
use Rattle.server_commands.proofs.SentLemmas.{items_push, rows_push, turns_push, array_is, rows_is, map_is}
use Rattle.server_commands.proofs.writing.+answers.Goals as goal

pub push_answers-loop-answer-preserved : goal.push_answers-loop-answer-preserved
push_answers-loop-answer-preserved t c =
    written_more sent (λ (xs : List Sent). items_bytes c.args.protocol (item_list xs)) (sent_bytes c.args.protocol)
    (items_push c.args.protocol) c.deref-answer-items.result.now c.args.out.now.items c.loop-answer.out.items
    c.push_answer.new.out.items c.answer-item.result c.loop-answer.answer-index c.loop-answer-test.true
    c.answer-item.is c.loop-answer.invariant c.in_ok-push_answer.ensures

pub push_rows-loop-name-preserved : goal.push_rows-loop-name-preserved
push_rows-loop-name-preserved t c =
    let name : c.deref.result.now ≡ c.loop-name-item.result.0.items = search rules in
    written_more sent_row (λ (rs : List (Vec ℕ Global × Sent)). rows_bytes c.args.protocol (row_list rs))
    (λ (r : Vec ℕ Global × Sent). row_head c.args.protocol ++ (bulk_bytes r.0.items ++ sent_bytes c.args.protocol r.1))
    (rows_push c.args.protocol) c.deref-name-items.result.now c.args.out.now.items c.loop-name.out.items
    c.push_answer.new.out.items c.loop-name-item.result c.loop-name.name-index c.loop-name-test.true
    c.loop-name-item.is c.loop-name.invariant
    (two_more c.loop-name.out.items c.push_row_head.new.out.items c.push_answer.new.out.items
    (row_head c.args.protocol)
    (bulk_bytes c.loop-name-item.result.0.items ++ sent_bytes c.args.protocol (sent c.loop-name-item.result.1))
    c.in_ok-push_row_head.ensures
    (two_more c.push_row_head.new.out.items c.push_bulk.new.out.items c.push_answer.new.out.items
    (bulk_bytes c.loop-name-item.result.0.items) (sent_bytes c.args.protocol (sent c.loop-name-item.result.1))
    (c.in_ok-push_bulk.ensures.ok ∙ ap (λ (z : List ℕ). c.push_row_head.new.out.items ++ bulk_bytes z) name)
    c.in_ok-push_answer.ensures))

pub push_in_turn-loop-name-preserved : goal.push_in_turn-loop-name-preserved
push_in_turn-loop-name-preserved t c =
    let name : c.deref.result.now ≡ c.loop-name-item.result.0.items = search rules in
    written_more sent_row (λ (rs : List (Vec ℕ Global × Sent)). turns_bytes c.args.protocol (row_list rs))
    (λ (r : Vec ℕ Global × Sent). bulk_bytes r.0.items ++ sent_bytes c.args.protocol r.1)
    (turns_push c.args.protocol) c.deref-name-items.result.now c.args.out.now.items c.loop-name.out.items
    c.push_answer.new.out.items c.loop-name-item.result c.loop-name.name-index c.loop-name-test.true
    c.loop-name-item.is c.loop-name.invariant
    (two_more c.loop-name.out.items c.push_bulk.new.out.items c.push_answer.new.out.items
    (bulk_bytes c.loop-name-item.result.0.items) (sent_bytes c.args.protocol (sent c.loop-name-item.result.1))
    (c.in_ok-push_bulk.ensures.ok ∙ ap (λ (z : List ℕ). c.loop-name.out.items ++ bulk_bytes z) name)
    c.in_ok-push_answer.ensures)

pub push_answer-returns-in_ok-push_count-in-Array : goal.push_answer-returns-in_ok-push_count-in-Array
push_answer-returns-in_ok-push_count-in-Array t c =
    let len : c.len.result ≡ length c.in-Array.answers.items = search rules in
    on_two c.push_answers.result c.args.out.now.items c.push_count.new.out.items c.push_answers.new.out.items
    (count_bytes 42 c.len.result) (items_bytes c.args.protocol (item_list (map sent c.in-Array.answers.items)))
    (sent_bytes c.args.protocol (sent c.args.answer.now)) c.in_ok-push_count-in-Array.ensures c.push_answers.ensures
    (array_is c.args.protocol c.args.answer.now c.len.result c.in-Array.answers c.in-Array.is len)

pub push_answer-returns-in_ok-push_rows_head-in-Rows : goal.push_answer-returns-in_ok-push_rows_head-in-Rows
push_answer-returns-in_ok-push_rows_head-in-Rows t c =
    let len : c.len-in-Rows.result ≡ length c.in-Rows.rows.items = search rules in
    on_two c.push_rows.result c.args.out.now.items c.push_rows_head.new.out.items c.push_rows.new.out.items
    (rows_head c.args.protocol c.len-in-Rows.result)
    (rows_bytes c.args.protocol (row_list (map sent_row c.in-Rows.rows.items)))
    (sent_bytes c.args.protocol (sent c.args.answer.now)) c.in_ok-push_rows_head-in-Rows.ensures c.push_rows.ensures
    (rows_is c.args.protocol c.args.answer.now c.len-in-Rows.result c.in-Rows.rows c.in-Rows.is len)

pub push_answer-returns-in_ok-push_map_head-in-Map : goal.push_answer-returns-in_ok-push_map_head-in-Map
push_answer-returns-in_ok-push_map_head-in-Map t c =
    let len : c.len-in-Map.result ≡ length c.in-Map.rows.items = search rules in
    on_two c.push_in_turn.result c.args.out.now.items c.push_map_head.new.out.items c.push_in_turn.new.out.items
    (map_head c.args.protocol c.len-in-Map.result)
    (turns_bytes c.args.protocol (row_list (map sent_row c.in-Map.rows.items)))
    (sent_bytes c.args.protocol (sent c.args.answer.now)) c.in_ok-push_map_head-in-Map.ensures c.push_in_turn.ensures
    (map_is c.args.protocol c.args.answer.now c.len-in-Map.result c.in-Map.rows c.in-Map.is len)
