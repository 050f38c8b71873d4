use Rattle.std.proofs.Common.{◌≡◌, ◌+◌, ◌++◌, length, true, false, ap, arith, rules}
use Rattle.std.specs.Io.KnownBytes.{Appends}
use Rattle.worker_journal.specs.Lines.{StartsWith}
use Rattle.worker_journal.proofs.HoldLemmas.{begins_at_start, committed_is, committed_stays, held_is, holds_failed, holds_more}
use Rattle.worker_journal.proofs.HoldLemmas.{leaves_both, on_err}
use Rattle.worker_journal.proofs.log.LineLog.commit.Goals as goal

pub returns-in_default-clause-any_moment : goal.returns-in_default-clause-any_moment
returns-in_default-clause-any_moment g c intact disk =
    begins_at_start g.D.LogFile.seen g.D.LogFile.may_leave g.D.LogFile.moment g.D.LogFile.left_since
    g.met.D.LogFile.only_now c.args.self.now.file c.cut_back.new.self.file c.args.self.now.batch.items
    (c.cut_back.ensures.intact intact) disk

pub returns-in_err-write_through-clause-held : goal.returns-in_err-write_through-clause-held
returns-in_err-write_through-clause-held g c = on_err c.from_residual-in_err-write_through.result
    (holds_failed g.D.LogFile.seen g.D.LogFile.may_leave g.D.LogFile.is_sound c.args.self.now.file
    c.cut_back.new.self.file c.write_through.new.file c.args.self.now.len c.cut_back.new.self.len
    c.args.self.now.is_broken c.cut_back.new.self.is_broken c.cut_back.ensures.held
    c.write_through.ensures.known c.write_through.ensures.left)

pub returns-in_err-write_through-clause-still_held : goal.returns-in_err-write_through-clause-still_held
returns-in_err-write_through-clause-still_held g c =
    held_is g.D.LogFile.seen g.D.LogFile.may_leave g.D.LogFile.is_sound g.met.D.LogFile.seen_is_left
    (λ lines. lines) c.args.self.now.file c.write_through.new.file c.args.self.now.len c.cut_back.new.self.len
    c.args.self.now.is_broken true (λ none. c.write_through.ensures.unknown (c.cut_back.ensures.unknown none))
    (holds_failed g.D.LogFile.seen g.D.LogFile.may_leave g.D.LogFile.is_sound c.args.self.now.file
    c.cut_back.new.self.file c.write_through.new.file c.args.self.now.len c.cut_back.new.self.len
    c.args.self.now.is_broken c.cut_back.new.self.is_broken c.cut_back.ensures.held
    c.write_through.ensures.known c.write_through.ensures.left)

pub returns-in_err-write_through-clause-no_more : goal.returns-in_err-write_through-clause-no_more
returns-in_err-write_through-clause-no_more g c = on_err c.from_residual-in_err-write_through.result
    (committed_stays g.D.LogFile.seen g.D.LogFile.may_leave g.D.LogFile.is_sound g.met.D.LogFile.seen_is_left
    c.args.self.now.file c.write_through.new.file c.args.self.now.len c.cut_back.new.self.len
    c.args.self.now.is_broken true (λ none. c.write_through.ensures.unknown (c.cut_back.ensures.unknown none))
    (holds_failed g.D.LogFile.seen g.D.LogFile.may_leave g.D.LogFile.is_sound c.args.self.now.file
    c.cut_back.new.self.file c.write_through.new.file c.args.self.now.len c.cut_back.new.self.len
    c.args.self.now.is_broken c.cut_back.new.self.is_broken c.cut_back.ensures.held
    c.write_through.ensures.known c.write_through.ensures.left))

pub returns-in_err-write_through-clause-keeps : goal.returns-in_err-write_through-clause-keeps
returns-in_err-write_through-clause-keeps g c front each within =
    leaves_both g.D.LogFile.moment g.D.LogFile.left_since c.args.self.now.file c.cut_back.new.self.file
    c.write_through.new.file (StartsWith front)
    (c.cut_back.ensures.keeps front each within)
    (c.write_through.ensures.keeps front (c.cut_back.ensures.left front each within))

pub returns-clause-keeps : goal.returns-clause-keeps
returns-clause-keeps g c front each within =
    leaves_both g.D.LogFile.moment g.D.LogFile.left_since c.args.self.now.file c.cut_back.new.self.file
    c.write_through.new.file (StartsWith front)
    (c.cut_back.ensures.keeps front each within)
    (c.write_through.ensures.keeps front (c.cut_back.ensures.left front each within))

pub returns-clause-holds : goal.returns-clause-holds
returns-clause-holds g c lines holds =
    let ready = c.in_ok-cut_back.ensures.ready lines holds in
    let sum : c.in-Some.len ≡ c.cut_back.new.self.len + length c.cut_back.new.self.batch.items = search rules in
    let batch : c.cut_back.new.self.batch.items ≡ c.args.self.now.batch.items = search rules in
    let written : Appends (g.D.LogFile.seen c.cut_back.new.self.file) (g.D.LogFile.seen c.write_through.new.file)
    c.args.self.now.batch.items = search rules in
    holds_more g.D.LogFile.seen g.D.LogFile.may_leave g.D.LogFile.is_sound lines c.args.self.now.batch.items
    c.cut_back.new.self.file c.write_through.new.file c.in-Some.len
    (omega (arith, sum, c.cut_back.ensures.rest.1, holds.committed, ap length batch))
    ready.0 ready.1 written
    c.in_ok-write_through.ensures.on_disk c.in_ok-write_through.ensures.sound

pub returns-in_err-cut_back-clause-no_more : goal.returns-in_err-cut_back-clause-no_more
returns-in_err-cut_back-clause-no_more g c = on_err c.from_residual.result
    (committed_stays g.D.LogFile.seen g.D.LogFile.may_leave g.D.LogFile.is_sound g.met.D.LogFile.seen_is_left
    c.args.self.now.file c.cut_back.new.self.file c.args.self.now.len c.cut_back.new.self.len
    c.args.self.now.is_broken c.cut_back.new.self.is_broken c.cut_back.ensures.unknown c.cut_back.ensures.held)

pub returns-clause-still_held : goal.returns-clause-still_held
returns-clause-still_held g c =
    held_is g.D.LogFile.seen g.D.LogFile.may_leave g.D.LogFile.is_sound g.met.D.LogFile.seen_is_left
    (λ lines. lines ++ c.args.self.now.batch.items) c.args.self.now.file c.write_through.new.file
    c.args.self.now.len c.in-Some.len c.args.self.now.is_broken false
    (λ none. c.write_through.ensures.unknown (c.cut_back.ensures.unknown none)) (returns-clause-holds g c)

pub returns-clause-more : goal.returns-clause-more
returns-clause-more g c =
    committed_is g.D.LogFile.seen g.D.LogFile.may_leave g.D.LogFile.is_sound g.met.D.LogFile.seen_is_left
    (λ lines. lines ++ c.args.self.now.batch.items) c.args.self.now.file c.write_through.new.file
    c.args.self.now.len c.in-Some.len c.args.self.now.is_broken false
    (λ none. c.write_through.ensures.unknown (c.cut_back.ensures.unknown none)) (returns-clause-holds g c)
