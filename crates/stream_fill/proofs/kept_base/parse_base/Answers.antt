use Rattle.std.proofs.Common.{rules, ◌≡◌, ◌++◌, List, ℕ, drop, length, false, true, sym, ◌∙◌}
use Rattle.std.proofs.lemmas.Slice.Eq.{slice_eq-Decides, starts_is}
use Rattle.std.proofs.lemmas.Bool.Decides.{Decides-eqb}
use Rattle.stream_fill.proofs.BaseLemmas.{numberless, other, part}
use Rattle.stream_fill.proofs.kept_base.parse_base.Goals as goal

pub returns-in_default-clause-err : goal.returns-in_default-clause-err
returns-in_default-clause-err c =
    numberless c.args.key.now c.args.bytes.now c.parse_front_number.result (search rules) c.parse_front_number.ensures

pub returns-then-starts_with-clause-ok : goal.returns-then-starts_with-clause-ok
returns-then-starts_with-clause-ok c =
    let line = c.in_ok-line.line.items in
    let same : c.deref.result.now ≡ line = c.deref.ensures.value in
    let differs : c.args.bytes.now ≡ line → ⊥ = λ e.
    let t : true ≡ false = sym ((slice_eq-Decides Decides-eqb _ _ _ c.eq.ensures).1 (e ∙ sym c.as_slice.ensures.value))
    ∙ c.if-eq.false in absurd cc in
    let begins : c.deref.result.now ≡ c.args.bytes.now ++ drop (length c.args.bytes.now) c.deref.result.now =
    (starts_is Decides-eqb _ _ _ c.starts_with.ensures.value).0 c.if-starts_with.true in
    part c.args.key.now c.args.bytes.now line c.in-Some.base (search rules) c.in_ok-line.ensures differs (rw (sym same) begins)

pub returns-clause-err : goal.returns-clause-err
returns-clause-err c =
    let line = c.in_ok-line.line.items in
    let same : c.deref.result.now ≡ line = c.deref.ensures.value in
    let never : (rest : List ℕ) → line ≡ c.args.bytes.now ++ rest → ⊥ = λ rest e.
    let t : true ≡ false = sym ((starts_is Decides-eqb _ _ _ c.starts_with.ensures.value).1 rest (same ∙ e))
    ∙ c.if-starts_with.false in absurd cc in
    other c.args.key.now c.args.bytes.now line c.parse_front_number.result c.in-Some.base (search rules)
    c.parse_front_number.ensures c.in_ok-line.ensures never
