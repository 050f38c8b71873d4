use Rattle.std.proofs.Common.{rules, ◌≡◌, ◌≤◌, ◌+◌, ◌-◌, ℕ, List, length, take, drop, slice_index, sym, arith}
use Rattle.std.specs.List.{prefix_len}
use Rattle.redis_wire.specs.Reading.{is_inner}
use Rattle.redis_wire.proofs.LineLemmas.{prefix_len_le, prefix_len_from, first_and_rest, rest_is}
use Rattle.redis_wire.proofs.ItemLemmas.{cut_short}
use Rattle.redis_wire.proofs.scanning.cut_line.Goals as goal

counted : (seen len : ℕ) (left from : List ℕ) → seen ≤ prefix_len is_inner (drop 1 left)
    → from ≡ drop seen (take (length left - 1) (drop 1 left)) → len ≡ prefix_len is_inner from
    → seen + len ≡ prefix_len is_inner (drop 1 left)
counted seen len left from known is e = rw (e, is, rest_is left) (prefix_len_from is_inner seen (drop 1 left) known)

pub overflow_add-len : goal.overflow_add-len
overflow_add-len c =
    let e =
    counted c.args.seen c.line_len.result c.args.left.now c.bytes_behind.result.now c.requires
    c.bytes_behind.ensures c.line_len.ensures in
    let within : c.args.seen + c.line_len.result ≤ length (drop 1 c.args.left.now) =
    omega (arith, e, prefix_len_le is_inner (drop 1 c.args.left.now)) in
    search (rules, within)

pub returns-else-limits-len-clause-in_line : goal.returns-else-limits-len-clause-in_line
returns-else-limits-len-clause-in_line c =
    let e =
    counted c.args.seen c.line_len.result c.args.left.now c.bytes_behind.result.now c.requires
    c.bytes_behind.ensures c.line_len.ensures in
    omega (arith, e)

pub returns-else-limits-len-clause-short : goal.returns-else-limits-len-clause-short
returns-else-limits-len-clause-short c =
    let e =
    counted c.args.seen c.line_len.result c.args.left.now c.bytes_behind.result.now c.requires
    c.bytes_behind.ensures c.line_len.ensures in
    let split = first_and_rest c.args.left.now c.in-len1-up.len_at_least in
    rw split (cut_short c.args.limits (slice_index c.args.left.now 0)
    (c.args.seen + c.line_len.result) c.in-Some._kind _ (sym c.in-Some.ensures)
    (rw (rest_is c.args.left.now) e) c.if-not-may_go_on.ensures c.if-limits-len.false)
