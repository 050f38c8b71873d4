use Rattle.std.proofs.Common.{◌≡◌, ◌∙◌, ◌++◌, ◌∷◌, [], ap, sym, subst, List, ℕ}
use Rattle.std.specs.Prelude.{OnOk}
use Rattle.std.proofs.lemmas.Str.{is_utf8-from_IsUtf8}
use Rattle.json.specs.Token.{Token, string}
use Rattle.worker.specs.EntryJson.{bytes_tokens}
use Rattle.worker.proofs.EntryJsonLemmas.TokensLemmas.{other_tokens, text_tokens}
use Rattle.worker.proofs.entry_json.push_text.Goals as goal

pub returns-in-Ok-clause-tokens : goal.returns-in-Ok-clause-tokens
returns-in-Ok-clause-tokens c =
    let utf8 = is_utf8-from_IsUtf8 c.args.bytes.now c.in-Ok.ensures.cases.1 in
    let is : string c.in-Ok.text.now ∷ [] ≡ bytes_tokens c.args.bytes.now =
    ap (λ (t : List ℕ). string t ∷ []) c.in-Ok.ensures.cases.0 ∙ sym (text_tokens c.args.bytes.now utf8) in
    subst (λ (ts : List Token). OnOk c.string.result (c.string.new.self.tokens ≡ c.args.out.now.tokens ++ ts)) is
    c.string.ensures.ok

pub returns-in-Err-clause-tokens : goal.returns-in-Err-clause-tokens
returns-in-Err-clause-tokens c =
    subst (λ (ts : List Token). OnOk c.push_base64.result (c.push_base64.new.out.tokens ≡ c.args.out.now.tokens ++ ts))
    (sym (other_tokens c.args.bytes.now c.in-Err.ensures.cases.0)) c.push_base64.ensures.tokens
