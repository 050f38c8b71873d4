use Rattle.std.proofs.Common.{◌≡◌, ◌≢◌, ◌∙◌, ◌+◌, List, ap, sym, refl, map, length}
use Rattle.std.proofs.lemmas.Bool.{eqb-true, eqb-false}
use Rattle.model_server.specs.Once.Feed.{Numbered, knows, numbered}
use Rattle.worker_producer.specs.Machine.{stage_of, standing_of}
use Rattle.worker_producer.specs.Records.{Fields, fields_of}
use Rattle.worker_producer.proofs.RequestLemmas.{map_length, numbered_length, none_sent, sent_ok}
use Rattle.worker_producer.proofs.producer.Producer.send_read.Goals as goal

pub returns-then-is_empty-clause-ok : goal.returns-then-is_empty-clause-ok
returns-then-is_empty-clause-ok c =
    let s = c.args.self.now.settings in
    let xs = c.args.records.now in
    let b : List (Numbered Fields) = numbered (s.base + c.args.known) (map fields_of xs) in
    let none : length c.args.records.now ≡ 0
    = eqb-true (length c.args.records.now) 0 (sym c.is_empty.ensures ∙ c.if-is_empty.true) in
    let count : length b ≡ 0
    = numbered_length (s.base + c.args.known) (map fields_of xs) ∙ (map_length fields_of xs ∙ none) in
    let stage = ap stage_of c.requires.stage in
    let stands : standing_of c.args.self.now ≡ record { stage = knows c.args.known; coming = 0 } =
    cc (stage, c.requires.coming) in
    none_sent s c.args.known b c.args.out.now.items (standing_of c.args.self.now) count stands

pub returns-clause-ok : goal.returns-clause-ok
returns-clause-ok c =
    let s = c.args.self.now.settings in
    let xs = c.args.records.now in
    let b : List (Numbered Fields) = numbered (s.base + c.args.known) (map fields_of xs) in
    let some : length c.args.records.now ≢ 0
    = eqb-false (length c.args.records.now) 0 (sym c.is_empty.ensures ∙ c.if-is_empty.false) in
    let count : length b ≡ length xs
    = numbered_length (s.base + c.args.known) (map fields_of xs) ∙ map_length fields_of xs in
    sent_ok c.send_records.result s c.args.known (length xs) b b c.args.out.now.items c.send_records.new.out.items
    (standing_of c.send_records.new.self) refl count some c.send_records.ensures.bytes c.send_records.ensures.standing
    c.send_records.ensures.asked c.send_records.ensures.fits
