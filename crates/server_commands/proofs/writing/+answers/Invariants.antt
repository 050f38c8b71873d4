use Rattle.std.proofs.Common.{◌≡◌, ◌++◌, take, map}
use Rattle.server_commands.specs.Sent.{item_list, row_list, sent, sent_row, items_bytes, rows_bytes, turns_bytes}
use Rattle.server_commands.proofs.writing.+answers.Given as goal

abbrev pub invariant-push_answers-loop-answer : goal.invariant-push_answers-loop-answer
invariant-push_answers-loop-answer l = l.out.items ≡ l.initial.out.items
    ++ items_bytes l.protocol (item_list (map sent (take l.answer-index l.answer-items)))

abbrev pub invariant-push_rows-loop-name : goal.invariant-push_rows-loop-name
invariant-push_rows-loop-name l = l.out.items ≡ l.initial.out.items
    ++ rows_bytes l.protocol (row_list (map sent_row (take l.name-index l.name-items)))

abbrev pub invariant-push_in_turn-loop-name : goal.invariant-push_in_turn-loop-name
invariant-push_in_turn-loop-name l = l.out.items ≡ l.initial.out.items
    ++ turns_bytes l.protocol (row_list (map sent_row (take l.name-index l.name-items)))
