use Rattle.std.proofs.Common.{rules, ◌≡◌, ◌<◌, ◌^◌, ℕ, true, false, decimal, Err, sym, ◌∙◌, ap, subst, arith}
use Rattle.std.proofs.lemmas.Fmt.{parse-decimal, IsAscii-decimal}
use Rattle.std.proofs.lemmas.Str.{IsUtf8-from_ascii}
use Rattle.std.proofs.lemmas.Slice.Eq.{slice_eq-Decides}
use Rattle.std.proofs.lemmas.Bool.Decides.{Decides-eqb}
use Rattle.std.specs.Str.{IsUtf8}
use Rattle.redis_client.proofs.cluster.bytes.number_in.Goals as goal

fits : (n : ℕ) → n < 2 ^ 16 → n < 2 ^ 64
fits n small = omega arith

pub returns-in_default : goal.returns-in_default
returns-in_default c = λ n small e.
    c.in_default.ensures.cases.0 (subst IsUtf8 e (IsUtf8-from_ascii (decimal n) (IsAscii-decimal n (fits n small))))

pub returns-in_default-parse : goal.returns-in_default-parse
returns-in_default-parse c = λ n small e.
    let f = parse-decimal 16 n c.in-Ok.text.now (Err c.in_default-parse.field-0) small (fits n small)
    (c.in-Ok.ensures.cases.0 ∙ sym e) c.in_default-parse.ensures.value.0 in absurd cc

pub returns-else-eq : goal.returns-else-eq
returns-else-eq c = λ n small e.
    let text : decimal c.in-Ok-parse.number ≡ c.as_bytes.result.now = search rules in
    let f = parse-decimal 16 n c.in-Ok.text.now c.parse.result small (fits n small)
    (c.in-Ok.ensures.cases.0 ∙ sym e) c.parse.ensures.value.0 in
    let g : c.in-Ok-parse.number ≡ n = grind (arith, c.in-Ok-parse.is, f) in
    let t : true ≡ false = sym ((slice_eq-Decides Decides-eqb _ _ _ c.eq.ensures).1 (sym text ∙ ap decimal g ∙ e))
    ∙ c.if-eq.false in absurd cc
