use Rattle.std.proofs.Common.{◌≡◌, rules, true, false, subst}
use Rattle.std.specs.Str.{is_utf8, IsUtf8}
use Rattle.std.proofs.lemmas.Str.{is_utf8-from_IsUtf8}
use Rattle.redis_resp.proofs.TextLemmas.{is_utf8_false}
use Rattle.test_notation.proofs.options.VecU8PrintedForm.print.Goals as goal

pub returns-in-Ok : goal.returns-in-Ok
returns-in-Ok c =
    let same : c.deref.result.now ≡ c.args.self.now.items = search rules in
    let text : is_utf8 c.args.self.now.items ≡ true =
    is_utf8-from_IsUtf8 c.args.self.now.items (subst IsUtf8 same c.in-Ok.ensures.cases.1) in
    rw text (search rules)

pub returns-in-Err : goal.returns-in-Err
returns-in-Err c =
    let same : c.deref.result.now ≡ c.args.self.now.items = search rules in
    let none : is_utf8 c.args.self.now.items ≡ false =
    is_utf8_false c.args.self.now.items (λ utf8. c.in-Err.ensures.cases.0 (rw same utf8)) in
    rw none (search rules)
