use Rattle.std.proofs.Common.{arith, ◌∙◌}
use Rattle.server_commands.proofs.IdWordLemmas.{id_whole, number_whole, parts_of, part_of, id_short, number_short}
use Rattle.server_commands.proofs.commands.id_words.parts_in.Goals as goal

pub returns-then-text-gt127-clause-id : goal.returns-then-text-gt127-clause-id
returns-then-text-gt127-clause-id c = λ id fit is. absurd (omega (arith, c.if-text-gt127.true, id_short id c.args.text.now fit is))

pub returns-then-text-gt127-clause-alone : goal.returns-then-text-gt127-clause-alone
returns-then-text-gt127-clause-alone c = λ n small is. absurd (omega (arith, c.if-text-gt127.true, number_short n c.args.text.now small is))

pub returns-in_err-milliseconds-clause-id : goal.returns-in_err-milliseconds-clause-id
returns-in_err-milliseconds-clause-id c = λ id fit is.
    let text = c.before_nul.ensures ∙ id_whole id c.args.text.now fit is in
    let read = c.parse_number.ensures id.milliseconds fit.0 (c.split_at_dash.ensures.front ∙ (parts_of id c.before_nul.result.now fit (text ∙ is)).0) in
    absurd (grind (arith, read, c.in_err-milliseconds.was))

pub returns-in_err-milliseconds-clause-alone : goal.returns-in_err-milliseconds-clause-alone
returns-in_err-milliseconds-clause-alone c = λ n small is.
    let text = c.before_nul.ensures ∙ number_whole n c.args.text.now small is in
    let read = c.parse_number.ensures n small (c.split_at_dash.ensures.front ∙ (part_of n c.before_nul.result.now small (text ∙ is)).0) in
    absurd (grind (arith, read, c.in_err-milliseconds.was))

pub returns-in_err-parse_sequence-clause-id : goal.returns-in_err-parse_sequence-clause-id
returns-in_err-parse_sequence-clause-id c = λ id fit is.
    let text = c.before_nul.ensures ∙ id_whole id c.args.text.now fit is in
    let read = c.parse_sequence.ensures.given id.sequence fit.1 (c.split_at_dash.ensures.behind ∙ (parts_of id c.before_nul.result.now fit (text ∙ is)).1) in
    absurd (grind (arith, read, c.in_err-parse_sequence.was))

pub returns-in_err-parse_sequence-clause-alone : goal.returns-in_err-parse_sequence-clause-alone
returns-in_err-parse_sequence-clause-alone c = λ n small is.
    let text = c.before_nul.ensures ∙ number_whole n c.args.text.now small is in
    let read = c.parse_sequence.ensures.missing (c.split_at_dash.ensures.behind ∙ (part_of n c.before_nul.result.now small (text ∙ is)).1) in
    absurd (grind (arith, read, c.in_err-parse_sequence.was))

pub returns-clause-id : goal.returns-clause-id
returns-clause-id c = λ id fit is.
    let text = c.before_nul.ensures ∙ id_whole id c.args.text.now fit is in
    let parts = parts_of id c.before_nul.result.now fit (text ∙ is) in
    let first = c.parse_number.ensures id.milliseconds fit.0 (c.split_at_dash.ensures.front ∙ parts.0) in
    let second = c.parse_sequence.ensures.given id.sequence fit.1 (c.split_at_dash.ensures.behind ∙ parts.1) in
    grind (arith, first, second, c.in_ok-milliseconds.was, c.in_ok-parse_sequence.was)

pub returns-clause-alone : goal.returns-clause-alone
returns-clause-alone c = λ n small is.
    let text = c.before_nul.ensures ∙ number_whole n c.args.text.now small is in
    let parts = part_of n c.before_nul.result.now small (text ∙ is) in
    let first = c.parse_number.ensures n small (c.split_at_dash.ensures.front ∙ parts.0) in
    let second = c.parse_sequence.ensures.missing (c.split_at_dash.ensures.behind ∙ parts.1) in
    grind (arith, first, second, c.in_ok-milliseconds.was, c.in_ok-parse_sequence.was)
