use Rattle.std.proofs.Common.{rules, ◌≡◌, ◌++◌, true, false, decimal, drop, arith}
use Rattle.stream_in_place.proofs.FillLemmas.{no_delivery, delivery_is}
use Rattle.redis_wire.specs.Written.{line_bytes}
use Rattle.stream_in_place.proofs.BeginLemmas.{int_begins, no_delivery_left, delivery_split}
use Rattle.stream_in_place.specs.Forms.{is_claim}
use Rattle.stream_in_place.proofs.rows.read_delivery.Goals as goal

pub returns-then-not-tells_delivery-clause-is : goal.returns-then-not-tells_delivery-clause-is
returns-then-not-tells_delivery-clause-is c =
    let is : is_claim c.args.form ≡ false = search rules in
    rw is (no_delivery c.args.limits c.args.bytes.now c.args.at c.requires)

pub returns-clause-is : goal.returns-clause-is
returns-clause-is c =
    let is : is_claim c.args.form ≡ true = search rules in
    rw is
    (delivery_is c.args.limits c.args.bytes.now c.args.at c.in_ok-elapsed.elapsed c.in_ok-count.count
    c.in_ok-elapsed.behind c.in_ok-count.after (omega arith) (omega arith) c.in_ok-elapsed.ensures.is
    c.in_ok-count.ensures.is)

pub returns-then-not-tells_delivery-clause-found : goal.returns-then-not-tells_delivery-clause-found
returns-then-not-tells_delivery-clause-found c = λ delivery rest a form at.
    let is : is_claim c.args.form ≡ false = search rules in
    no_delivery_left delivery rest (drop c.args.at c.args.bytes.now) (rw is at form) at

pub returns-in_err-elapsed-clause-found : goal.returns-in_err-elapsed-clause-found
returns-in_err-elapsed-clause-found c = λ delivery rest a form at.
    let is : is_claim c.args.form ≡ true = search rules in
    let left = drop c.args.at c.args.bytes.now in
    let two = delivery_split delivery rest left (rw is at form) at in
    absurd (c.in_err-elapsed.ensures.found two.elapsed (line_bytes 58 (decimal two.count) ++ rest)
    (int_begins c.args.limits a left two.elapsed (line_bytes 58 (decimal two.count) ++ rest) two.short two.is))

pub returns-in_err-count-clause-found : goal.returns-in_err-count-clause-found
returns-in_err-count-clause-found c = λ delivery rest a form at.
    let is : is_claim c.args.form ≡ true = search rules in
    let left = drop c.args.at c.args.bytes.now in
    let two = delivery_split delivery rest left (rw is at form) at in
    let first = c.in_ok-elapsed.ensures.found two.elapsed (line_bytes 58 (decimal two.count) ++ rest)
    (int_begins c.args.limits a left two.elapsed (line_bytes 58 (decimal two.count) ++ rest) two.short two.is) in
    absurd (c.in_err-count.ensures.found two.count rest
    (int_begins c.args.limits a (drop c.in_ok-elapsed.behind c.args.bytes.now) two.count rest two.few first.1))

pub returns-clause-found : goal.returns-clause-found
returns-clause-found c = λ delivery rest a form at.
    let is : is_claim c.args.form ≡ true = search rules in
    let left = drop c.args.at c.args.bytes.now in
    let two = delivery_split delivery rest left (rw is at form) at in
    let first = c.in_ok-elapsed.ensures.found two.elapsed (line_bytes 58 (decimal two.count) ++ rest)
    (int_begins c.args.limits a left two.elapsed (line_bytes 58 (decimal two.count) ++ rest) two.short two.is) in
    (c.in_ok-count.ensures.found two.count rest
    (int_begins c.args.limits a (drop c.in_ok-elapsed.behind c.args.bytes.now) two.count rest two.few first.1)).1
