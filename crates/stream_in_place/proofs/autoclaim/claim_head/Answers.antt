use Rattle.std.proofs.Common.{◌++◌, suc, drop}
use Rattle.redis_wire.specs.Packed.{bulk_bytes}
use Rattle.redis_wire.specs.Written.{count_bytes}
use Rattle.stream_in_place.specs.AddedIds.{deleted_count}
use Rattle.stream_in_place.proofs.BeginLemmas.{head_begins, text_begins}
use Rattle.stream_in_place.proofs.ShapeClaimLemmas.{start_begins}
use Rattle.stream_in_place.proofs.autoclaim.claim_head.Goals as goal

pub returns-clause-is : goal.returns-clause-is
returns-clause-is c = record {
  behind = c.in_ok-members.behind;
  middle = c.in_ok-next.middle;
  outer = rw c.in_ok-told.ensures.is at c.in_ok-members.ensures.is;
  name = c.in_ok-next.ensures.is;
  is_text = c.in_ok-next.ensures.text;
  inner = c.in_ok-count.ensures.is;
}

pub returns-in_err-members-clause-found : goal.returns-in_err-members-clause-found
returns-in_err-members-clause-found c = λ told next count rest a h le is.
    let bytes = c.args.bytes.now in
    let behind = count_bytes 42 count ++ rest in
    let top = start_begins c.args.limits told next behind bytes a is in
    absurd (c.in_err-members.ensures.found (suc (suc (deleted_count told))) (bulk_bytes next ++ behind) top)

pub returns-in_err-told-clause-found : goal.returns-in_err-told-clause-found
returns-in_err-told-clause-found c = λ told next count rest a h le is.
    let bytes = c.args.bytes.now in
    let behind = count_bytes 42 count ++ rest in
    let top = start_begins c.args.limits told next behind bytes a is in
    let outer = c.in_ok-members.ensures.found (suc (suc (deleted_count told))) (bulk_bytes next ++ behind) top in
    absurd (cc (c.in_err-told.ensures.found told outer.0))

pub returns-in_err-next-clause-found : goal.returns-in_err-next-clause-found
returns-in_err-next-clause-found c = λ told next count rest a h le is.
    let bytes = c.args.bytes.now in
    let behind = count_bytes 42 count ++ rest in
    let top = start_begins c.args.limits told next behind bytes a is in
    let outer = c.in_ok-members.ensures.found (suc (suc (deleted_count told))) (bulk_bytes next ++ behind) top in
    let name = text_begins c.args.limits a (drop c.in_ok-members.behind bytes) next behind h.within outer.1 in
    absurd (c.in_err-next.ensures.found next behind name h.is_text)

pub returns-in_err-count-clause-found : goal.returns-in_err-count-clause-found
returns-in_err-count-clause-found c = λ told next count rest a h le is.
    let bytes = c.args.bytes.now in
    let behind = count_bytes 42 count ++ rest in
    let top = start_begins c.args.limits told next behind bytes a is in
    let outer = c.in_ok-members.ensures.found (suc (suc (deleted_count told))) (bulk_bytes next ++ behind) top in
    let name = text_begins c.args.limits a (drop c.in_ok-members.behind bytes) next behind h.within outer.1 in
    let found = c.in_ok-next.ensures.found next behind name h.is_text in
    let inner = head_begins c.args.limits a (drop c.in_ok-next.middle bytes) 42 count rest le found.1 in
    absurd (c.in_err-count.ensures.found count rest inner)

pub returns-clause-found : goal.returns-clause-found
returns-clause-found c = λ told next count rest a h le is.
    let bytes = c.args.bytes.now in
    let behind = count_bytes 42 count ++ rest in
    let top = start_begins c.args.limits told next behind bytes a is in
    let outer = c.in_ok-members.ensures.found (suc (suc (deleted_count told))) (bulk_bytes next ++ behind) top in
    let name = text_begins c.args.limits a (drop c.in_ok-members.behind bytes) next behind h.within outer.1 in
    let found = c.in_ok-next.ensures.found next behind name h.is_text in
    let inner = head_begins c.args.limits a (drop c.in_ok-next.middle bytes) 42 count rest le found.1 in
    let last = c.in_ok-count.ensures.found count rest inner in
    let same = c.in_ok-told.ensures.found told outer.0 in
    (cc (same), last.0, last.1)
