use Rattle.std.proofs.Common.{◌≡◌, map, Ok, subst}
use Rattle.std.proofs.lemmas.Result.{err_from_is_err_and}
use Rattle.server_commands.specs.Incoming.{Fails, balanced}
use Rattle.server_commands.specs.Quoted.{split_words}
use Rattle.server_commands.proofs.CommandLemmas.{led_on, led_nowhere, line_ends}
use Rattle.server_commands.proofs.quoted.split_words.Goals as goal

pub returns-in_err-place : goal.returns-in_err-place
returns-in_err-place c =
    let p = err_from_is_err_and c.from_residual.result c.from_residual.ensures.1 in
    rw (p.1, p.2) (led_nowhere (map (λ w. w.items) c.loop-rest.words.items) (split_words c.args.line.now)
    c.loop-rest.place c.loop-rest.word.items c.loop-rest.rest.now c.in_err-place.field-0.0 c.in-len1-up.len_at_least
    c.in_err-place.ensures.err c.loop-rest.invariant)

pub loop-rest-preserved : goal.loop-rest-preserved
loop-rest-preserved c = led_on (map (λ w. w.items) c.loop-rest.words.items) (split_words c.args.line.now)
    c.loop-rest.place c.loop-rest.word.items c.loop-rest.rest.now (map (λ w. w.items) c.take_byte.new.words.items)
    c.in_ok-place.place c.take_byte.new.word.items c.in-len1-up.len_at_least c.in_ok-place.ensures.ok c.loop-rest.invariant

pub returns-in_err-end_line : goal.returns-in_err-end_line
returns-in_err-end_line c =
    let p = err_from_is_err_and c.from_residual-in_err-end_line.result c.from_residual-in_err-end_line.ensures.1 in
    rw (p.1, p.2) (subst (λ t. Fails c.in_err-end_line.field-0.0 (balanced t))
    (line_ends (map (λ w. w.items) c.loop-rest.words.items) (split_words c.args.line.now) c.loop-rest.place
    c.loop-rest.word.items c.loop-rest.rest.now c.in_default.len_below c.loop-rest.invariant) c.in_err-end_line.ensures)

pub returns : goal.returns
returns c = subst (λ t. balanced t ≡ Ok (map (λ w. w.items) c.end_line.new.words.items))
    (line_ends (map (λ w. w.items) c.loop-rest.words.items) (split_words c.args.line.now) c.loop-rest.place
    c.loop-rest.word.items c.loop-rest.rest.now c.in_default.len_below c.loop-rest.invariant) c.in_ok-end_line.ensures
