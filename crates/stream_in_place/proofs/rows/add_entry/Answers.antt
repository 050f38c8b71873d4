use Rattle.std.proofs.Common.{rules, ◌≡◌, ◌++◌, length, drop, arith}
use Rattle.redis_wire.specs.Place.{IsArrayAt}
use Rattle.stream_in_place.specs.Added.{row_count, OwnAdded}
use Rattle.stream_in_place.specs.Shapes.{fields_bytes, delivery_bytes}
use Rattle.stream_in_place.proofs.FillLemmas.{entry_added}
use Rattle.stream_in_place.proofs.BeginLemmas.{text_begins, behind_head, row_begins}
use Rattle.stream_in_place.specs.Forms.{is_claim}
use Rattle.stream_in_place.proofs.rows.add_entry.Goals as goal

pub returns-clause-is : goal.returns-clause-is
returns-clause-is g c =
    let bytes = c.args.bytes.now in
    let old = g.P.Places.held c.args.places.now in
    let new = g.P.Places.held c.add_own_fields.new.places in
    let from : c.count_fields-from.result ≡ length old.fields = search rules in
    let to : c.count_fields.result ≡ length new.fields = search rules in
    let members : c.in-Some.members ≡ row_count (is_claim c.args.form) = search rules in
    let row : IsArrayAt c.args.limits bytes c.args.at (row_count (is_claim c.args.form)) c.in-Some.behind =
    rw members at c.in-Some.ensures.is in
    let own : OwnAdded c.args.limits bytes c.in-Some-name_at.behind c.in-Some-2.deleted c.in-Some-2.behind old new =
    rw c.in-Some-2.is at c.in_ok-deleted.ensures.is in
    rw c.tells_delivery.ensures (entry_added c.args.limits bytes c.args.at c.in-Some.behind c.in-Some-name_at.behind c.in-Some-2.behind
    c.in-Some-read_delivery.after (is_claim c.args.form) c.in-Some-name_at.id old new c.in-Some-2.deleted
    c.in-Some-read_delivery.elapsed c.in-Some-read_delivery.count
    c.count_fields-from.result c.count_fields.result from to row c.in-Some-name_at.ensures.is
    c.in-Some-name_at.ensures.text own c.in-Some-read_delivery.ensures.is)

pub returns-in_default-clause-found : goal.returns-in_default-clause-found
returns-in_default-clause-found g c = λ form e rest a h is.
    c.in_default.ensures.found (row_count (is_claim c.args.form)) (behind_head form e rest)
    (row_begins c.args.limits (is_claim c.args.form) (drop c.args.at c.args.bytes.now) form e rest a h is)

pub returns-then-members-count_values-clause-found : goal.returns-then-members-count_values-clause-found
returns-then-members-count_values-clause-found g c = λ form e rest a h is.
    let left = drop c.args.at c.args.bytes.now in
    let head = c.in-Some.ensures.found (row_count (is_claim c.args.form)) (behind_head form e rest)
    (row_begins c.args.limits (is_claim c.args.form) left form e rest a h is) in
    absurd (omega (arith, head.0, c.count_values.ensures))

pub returns-in_default-name_at-clause-found : goal.returns-in_default-name_at-clause-found
returns-in_default-name_at-clause-found g c = λ form e rest a h is.
    let left = drop c.args.at c.args.bytes.now in
    let head = c.in-Some.ensures.found (row_count (is_claim c.args.form)) (behind_head form e rest)
    (row_begins c.args.limits (is_claim c.args.form) left form e rest a h is) in
    let behind = fields_bytes form e.fields ++ (delivery_bytes e.delivery ++ rest) in
    let id = text_begins c.args.limits a (drop c.in-Some.behind c.args.bytes.now) e.id behind h.id.within head.1 in
    c.in_default-name_at.ensures.found e.id behind id h.id.is_text

pub returns-in_default-2-clause-found : goal.returns-in_default-2-clause-found
returns-in_default-2-clause-found g c = λ form e rest a h is.
    let left = drop c.args.at c.args.bytes.now in
    let head = c.in-Some.ensures.found (row_count (is_claim c.args.form)) (behind_head form e rest)
    (row_begins c.args.limits (is_claim c.args.form) left form e rest a h is) in
    let behind = fields_bytes form e.fields ++ (delivery_bytes e.delivery ++ rest) in
    let id = text_begins c.args.limits a (drop c.in-Some.behind c.args.bytes.now) e.id behind h.id.within head.1 in
    let name = c.in-Some-name_at.ensures.found e.id behind id h.id.is_text in
    let own = c.in_ok-deleted.ensures.found form e.fields (delivery_bytes e.delivery ++ rest) a h.pairs name.1 in
    rw c.in_default-2.is at own

pub returns-in_default-read_delivery-clause-found : goal.returns-in_default-read_delivery-clause-found
returns-in_default-read_delivery-clause-found g c = λ form e rest a h is.
    let left = drop c.args.at c.args.bytes.now in
    let head = c.in-Some.ensures.found (row_count (is_claim c.args.form)) (behind_head form e rest)
    (row_begins c.args.limits (is_claim c.args.form) left form e rest a h is) in
    let behind = fields_bytes form e.fields ++ (delivery_bytes e.delivery ++ rest) in
    let id = text_begins c.args.limits a (drop c.in-Some.behind c.args.bytes.now) e.id behind h.id.within head.1 in
    let name = c.in-Some-name_at.ensures.found e.id behind id h.id.is_text in
    let own = c.in_ok-deleted.ensures.found form e.fields (delivery_bytes e.delivery ++ rest) a h.pairs name.1 in
    c.in_default-read_delivery.ensures.found e.delivery rest a h.form (rw c.in-Some-2.is at own)

pub returns-clause-found : goal.returns-clause-found
returns-clause-found g c = λ form e rest a h is.
    let left = drop c.args.at c.args.bytes.now in
    let head = c.in-Some.ensures.found (row_count (is_claim c.args.form)) (behind_head form e rest)
    (row_begins c.args.limits (is_claim c.args.form) left form e rest a h is) in
    let behind = fields_bytes form e.fields ++ (delivery_bytes e.delivery ++ rest) in
    let id = text_begins c.args.limits a (drop c.in-Some.behind c.args.bytes.now) e.id behind h.id.within head.1 in
    let name = c.in-Some-name_at.ensures.found e.id behind id h.id.is_text in
    let own = c.in_ok-deleted.ensures.found form e.fields (delivery_bytes e.delivery ++ rest) a h.pairs name.1 in
    c.in-Some-read_delivery.ensures.found e.delivery rest a h.form (rw c.in-Some-2.is at own)

pub returns-clause-counts : goal.returns-clause-counts
returns-clause-counts g c = λ form e rest a h is.
    let left = drop c.args.at c.args.bytes.now in
    let head = c.in-Some.ensures.found (row_count (is_claim c.args.form)) (behind_head form e rest)
    (row_begins c.args.limits (is_claim c.args.form) left form e rest a h is) in
    let behind = fields_bytes form e.fields ++ (delivery_bytes e.delivery ++ rest) in
    let id = text_begins c.args.limits a (drop c.in-Some.behind c.args.bytes.now) e.id behind h.id.within head.1 in
    let name = c.in-Some-name_at.ensures.found e.id behind id h.id.is_text in
    let own = c.in_ok-deleted.ensures.counts form e.fields (delivery_bytes e.delivery ++ rest) a h.pairs name.1 in
    rw c.in-Some-2.is at own

pub returns-in_err-deleted-clause-fits : goal.returns-in_err-deleted-clause-fits
returns-in_err-deleted-clause-fits g c = λ form e rest a h is fit.
    let left = drop c.args.at c.args.bytes.now in
    let head = c.in-Some.ensures.found (row_count (is_claim c.args.form)) (behind_head form e rest)
    (row_begins c.args.limits (is_claim c.args.form) left form e rest a h is) in
    let behind = fields_bytes form e.fields ++ (delivery_bytes e.delivery ++ rest) in
    let id = text_begins c.args.limits a (drop c.in-Some.behind c.args.bytes.now) e.id behind h.id.within head.1 in
    let name = c.in-Some-name_at.ensures.found e.id behind id h.id.is_text in
    absurd
    (cc (c.in_err-deleted.ensures.fits form e.fields (delivery_bytes e.delivery ++ rest) a h.pairs name.1 fit))
