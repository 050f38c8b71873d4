use Rattle.std.proofs.Common.{Ok, Err, get_or, ◌≡◌, ◌∙◌, rules}
use Rattle.std.proofs.lemmas.List.{get_or_default}
use Rattle.worker_journal.specs.KnownIds.Known.{no_id}
use Rattle.worker_journal.proofs.KnownIdsLemmas.KnownLemmas.{found_is, place_is}
use Rattle.worker_journal.proofs.known_ids.known.KnownIds.place_of.Goals as goal

pub returns-in-Ok-clause-some : goal.returns-in-Ok-clause-some
returns-in-Ok-clause-some c = found_is c.args.self.now.ids.items c.args.number (Ok c.in-Ok.at) c.in-Ok.ensures

pub returns-in-Ok-clause-place : goal.returns-in-Ok-clause-place
returns-in-Ok-clause-place c =
    let ids = c.args.self.now.ids.items in
    let read : get_or ids c.in-Ok.at c.index.result.now ≡ c.index.result.now = search rules in
    let there = get_or_default ids c.in-Ok.at no_id c.index.result.now c.in-Ok.ensures.0 ∙ read in
    place_is c.args.self.now.ids.items c.in-Ok.at c.args.number c.index.result.now c.in-Ok.ensures.0 c.in-Ok.ensures.1 there

pub returns-in-Err-clause-some : goal.returns-in-Err-clause-some
returns-in-Err-clause-some c =
    found_is c.args.self.now.ids.items c.args.number (Err c.in-Err.field-0) c.in-Err.ensures
