use Rattle.std.proofs.Common.{rules, arith, ◌≡◌, ◌+◌, ◌++◌, true, false, drop, flat_map, length}
use Rattle.stream_in_place.proofs.IdLemmas.{deleted_untold, deleted_told}
use Rattle.redis_wire.specs.Packed.{bulk_bytes}
use Rattle.stream_in_place.specs.Shapes.{AreIdsOf}
use Rattle.stream_in_place.specs.AddedIds.{IdsAdded, DeletedAdded}
use Rattle.stream_in_place.proofs.FoundLemmas.{found_then}
use Rattle.stream_in_place.proofs.BeginLemmas.{head_begins}
use Rattle.stream_in_place.proofs.ShapeClaimLemmas.{told_split, untold_split}
use Rattle.stream_in_place.proofs.CountLemmas.{fewer_entries}
use Rattle.stream_in_place.proofs.autoclaim.add_deleted.Goals as goal

pub returns-then-not-told-clause-is : goal.returns-then-not-told-clause-is
returns-then-not-told-clause-is g c =
    let is : c.args.told ≡ false = search rules in
    rw is (deleted_untold c.args.limits c.args.bytes.now c.args.at (g.P.Places.held c.args.places.now) c.requires)

pub returns-clause-is : goal.returns-clause-is
returns-clause-is g c =
    let is : c.args.told ≡ true = search rules in
    let limits = c.args.limits in
    let bytes = c.args.bytes.now in
    let old = g.P.Places.held c.args.places.now in
    let new = g.P.Places.held c.add_ids.new.places in
    rw is
    (found_then (λ after. IdsAdded limits bytes c.in-Some.behind c.in-Some.count after old new)
    (λ after. DeletedAdded limits bytes c.args.at true after old new) c.add_ids.result
    (λ after. deleted_told limits bytes c.args.at old c.in-Some.count c.in-Some.behind after new c.in-Some.ensures.is)
    c.add_ids.ensures.is)

pub returns-then-not-told-clause-found : goal.returns-then-not-told-clause-found
returns-then-not-told-clause-found g c = λ ids rest a h at.
    let is : c.args.told ≡ false = search rules in
    untold_split ids rest (drop c.args.at c.args.bytes.now) (rw is at at)

pub returns-in_default-clause-found : goal.returns-in_default-clause-found
returns-in_default-clause-found g c = λ ids rest a h at.
    let is : c.args.told ≡ true = search rules in
    let ids_are : AreIdsOf c.args.limits ids = rw is at h in
    let left = drop c.args.at c.args.bytes.now in
    let members = flat_map bulk_bytes ids ++ rest in
    let top = head_begins c.args.limits a left 42 (length ids) members ids_are.few
    (told_split ids rest left (rw is at at)) in
    c.in_default.ensures.found (length ids) members top

pub returns-clause-found : goal.returns-clause-found
returns-clause-found g c = λ ids rest a h at.
    let is : c.args.told ≡ true = search rules in
    let ids_are : AreIdsOf c.args.limits ids = rw is at h in
    let left = drop c.args.at c.args.bytes.now in
    let members = flat_map bulk_bytes ids ++ rest in
    let top = head_begins c.args.limits a left 42 (length ids) members ids_are.few
    (told_split ids rest left (rw is at at)) in
    let head = c.in-Some.ensures.found (length ids) members top in
    c.add_ids.ensures.found ids rest a ids_are.each head.1 head.0

pub returns-clause-fits : goal.returns-clause-fits
returns-clause-fits g c = λ ids rest a h at fit.
    let is : c.args.told ≡ true = search rules in
    let ids_are : AreIdsOf c.args.limits ids = rw is at h in
    let lent = g.P.Places.lent c.args.places.now in
    let old = length (g.P.Places.held c.args.places.now).entries in
    let left = drop c.args.at c.args.bytes.now in
    let members = flat_map bulk_bytes ids ++ rest in
    let top = head_begins c.args.limits a left 42 (length ids) members ids_are.few
    (told_split ids rest left (rw is at at)) in
    let head = c.in-Some.ensures.found (length ids) members top in
    c.add_ids.ensures.fits
    (fewer_entries lent (old + c.in-Some.count) (old + length ids) (omega (arith, head.0)) fit)
