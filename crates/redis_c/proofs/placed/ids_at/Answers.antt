use Rattle.std.proofs.Common.{◌≡◌, ◌≤◌, ◌++◌, ◌∷◌, ◌∙◌, [], ap, sym, map, length, option_map, arith, rules}
use Rattle.std.proofs.lemmas.Grind.{common_steps}
use Rattle.redis_resp.proofs.ReadLemmas.{read_start}
use Rattle.redis_c.specs.Placed.{text_at}
use Rattle.redis_c.specs.declared.argument.Argument.{Argument}
use Rattle.stream_in_place.specs.declared.places.EntryPlace.{EntryPlace}
use Rattle.redis_c.proofs.PlacedLemmas.{any_entry, place_read, place_outside, places_read}
use Rattle.redis_c.proofs.placed.ids_at.Goals as goal

pub loop-entry-init : goal.loop-entry-init
loop-entry-init c =
    read_start (λ (entry : EntryPlace). text_at c.args.bytes.now entry.id) c.args.entries.now _
    (ap (map (λ (id : Argument). id.0.now)) c.in-Ok.ensures.items)

pub returns-in_default-text_at-clause-err : goal.returns-in_default-text_at-clause-err
returns-in_default-text_at-clause-err c =
    λ e. place_outside (λ (entry : EntryPlace). text_at c.args.bytes.now entry.id) c.args.entries.now
    c.loop-entry.entry-index any_entry _ c.loop-entry-test.true
    (sym c.text_at.ensures ∙ ap (option_map (λ (text : Argument). text.0.now)) c.in_default-text_at.is)
    c.loop-entry.invariant

pub loop-entry-preserved : goal.loop-entry-preserved
loop-entry-preserved c =
    let pushed : map (λ (id : Argument). id.0.now) c.push.new.self.items
    ≡ map (λ (id : Argument). id.0.now) c.loop-entry.ids.items ++ c.in-Some.id.0.now ∷ [] =
    grind (arith, common_steps) in
    place_read (λ (entry : EntryPlace). text_at c.args.bytes.now entry.id) c.args.entries.now
    c.loop-entry.entry-index any_entry _ _ c.in-Some.id.0.now c.loop-entry-test.true
    (sym c.text_at.ensures ∙ ap (option_map (λ (text : Argument). text.0.now)) c.in-Some.is) pushed
    c.loop-entry.invariant

pub returns-clause-ok : goal.returns-clause-ok
returns-clause-ok c =
    let end : length c.args.entries.now ≤ c.loop-entry.entry-index = search rules in
    places_read (λ (entry : EntryPlace). text_at c.args.bytes.now entry.id) c.args.entries.now
    c.loop-entry.entry-index any_entry _ end c.loop-entry.invariant
