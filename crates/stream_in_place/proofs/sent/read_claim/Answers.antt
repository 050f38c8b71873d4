use Rattle.std.proofs.Common.{rules, ◌≡◌, true, false, map, option_map, string_bytes}
use Rattle.std.specs.Option.{is_some}
use Rattle.redis_resp.specs.Reading.{two_in}
use Rattle.redis_resp.specs.Refusal.{Refuses}
use Rattle.stream_in_place.specs.SentMeaning.{sent_of, sent_all}
use Rattle.stream_in_place.specs.SentReading.{sent_autoclaim_reading}
use Rattle.stream_in_place.specs.SentRefusal.{RefusesSentAutoClaim}
use Rattle.stream_in_place.proofs.SentReadLemmas.{claim_of_rows, claim_of_ids, claim_refused_two, claim_refused_three}
use Rattle.stream_in_place.proofs.SentReadLemmas.{err_is}
use Rattle.stream_in_place.proofs.sent.read_claim.Goals as goal

pub returns-in_err-next-clause-err : goal.returns-in_err-next-clause-err
returns-in_err-next-clause-err g c =
    let t = g.S.Source.seen c.args.v in
    let two : is_some (two_in t) ≡ true = search rules in
    let stop : Refuses sent_autoclaim_reading RefusesSentAutoClaim t c.in_err-next.field-0.0 =
    claim_refused_two t c.in_err-next.field-0.0 two c.in_err-next.ensures.err in
    search rules

pub returns-then-has_two-clause-ok : goal.returns-then-has_two-clause-ok
returns-then-has_two-clause-ok g c =
    let t = g.S.Source.seen c.args.v in
    let two : is_some (two_in t) ≡ true = search rules in
    rw c.new.ensures.items
    (claim_of_rows t (string_bytes c.in_ok-next.next) (map (option_map sent_of) c.in_ok-next.rows.items)
    (sent_all c.in_ok-count_rows_there.field-0) two c.in_ok-next.ensures.ok c.in_ok-count_rows_there.ensures.ok)

pub returns-in_err-next-2-clause-err : goal.returns-in_err-next-2-clause-err
returns-in_err-next-2-clause-err g c =
    let t = g.S.Source.seen c.args.v in
    err_is _ c.in_err-next-2.field-0.0 (Refuses sent_autoclaim_reading RefusesSentAutoClaim t)
    c.from_residual-in_err-next-2.ensures.1
    (claim_refused_three t c.in_err-next-2.field-0.0 (search rules) c.in_err-next-2.ensures.err)

pub returns-clause-ok : goal.returns-clause-ok
returns-clause-ok g c =
    let t = g.S.Source.seen c.args.v in
    let three : is_some (two_in t) ≡ false = search rules in
    claim_of_ids t (string_bytes c.in_ok-next-2.next) (map (option_map sent_of) c.in_ok-next-2.rows.items)
    (sent_all c.in_ok-count_rows_there-2.field-0) (map string_bytes c.in_ok-next-2.deleted.items) three
    c.in_ok-next-2.ensures.ok c.in_ok-count_rows_there-2.ensures.ok
