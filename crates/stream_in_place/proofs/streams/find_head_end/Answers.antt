use Rattle.std.proofs.Common.{rules, ◌≡◌, true, false, drop}
use Rattle.stream_in_place.proofs.StreamLemmas.{head_in_map, head_in_array}
use Rattle.stream_in_place.proofs.ShapeStreamLemmas.{no_head_in_map, two_in_array}
use Rattle.stream_in_place.specs.Forms.{is_map}
use Rattle.stream_in_place.proofs.streams.find_head_end.Goals as goal

pub returns-in-2-default-clause-is : goal.returns-in-2-default-clause-is
returns-in-2-default-clause-is c =
    let is : is_map c.args.spelling ≡ false = search rules in
    let two : c.in_ok-behind-in-Array.field-0.0 ≡ 2 = search rules in
    rw is
    (head_in_array c.args.limits c.args.bytes.now c.args.at c.in_ok-behind-in-Array.field-0.1
    (rw two at c.in_ok-behind-in-Array.ensures.is))

pub returns-in-Map-clause-is : goal.returns-in-Map-clause-is
returns-in-Map-clause-is c =
    let is : is_map c.args.spelling ≡ true = search rules in
    rw is (head_in_map c.args.limits c.args.bytes.now c.args.at c.requires)

pub returns-in-Map-clause-found : goal.returns-in-Map-clause-found
returns-in-Map-clause-found c = λ rest a at.
    let is : is_map c.args.spelling ≡ true = search rules in
    no_head_in_map rest (drop c.args.at c.args.bytes.now) (rw is at at)

pub returns-in_err-behind-in-Array-clause-found : goal.returns-in_err-behind-in-Array-clause-found
returns-in_err-behind-in-Array-clause-found c = λ rest a at.
    let is : is_map c.args.spelling ≡ false = search rules in
    absurd (c.in_err-behind-in-Array.ensures.found 2 rest
    (two_in_array c.args.limits rest (drop c.args.at c.args.bytes.now) a (rw is at at)))

pub returns-in-2-default-clause-found : goal.returns-in-2-default-clause-found
returns-in-2-default-clause-found c = λ rest a at.
    let is : is_map c.args.spelling ≡ false = search rules in
    (c.in_ok-behind-in-Array.ensures.found 2 rest
    (two_in_array c.args.limits rest (drop c.args.at c.args.bytes.now) a (rw is at at))).1

pub returns-in_default-clause-found : goal.returns-in_default-clause-found
returns-in_default-clause-found c = λ rest a at.
    let is : is_map c.args.spelling ≡ false = search rules in
    let two : c.in_ok-behind-in-Array.field-0.0 ≡ 2 = (c.in_ok-behind-in-Array.ensures.found 2 rest
    (two_in_array c.args.limits rest (drop c.args.at c.args.bytes.now) a (rw is at at))).0 in
    absurd (search (rules, two))
