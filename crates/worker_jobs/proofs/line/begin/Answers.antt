use Rattle.std.proofs.Common.{◌≡◌, ◌∙◌, ◌++◌, ◌∷◌, [], List, ap, append_assoc, codes, subst}
use Rattle.std.specs.Prelude.{OnOk}
use Rattle.json.specs.Token.{Token, begin_object, key, string}
use Rattle.worker_jobs.specs.LineOf.{head_tokens}
use Rattle.worker_jobs.proofs.line.begin.Goals as goal

pub returns-clause-tokens : goal.returns-clause-tokens
returns-clause-tokens c =
    let is : c.begin_id.new.out.tokens ++ key (codes "fields") ∷ [] ≡ c.args.out.now.tokens ++ head_tokens c.args.id.now =
    ap (λ (ts : List Token). ts ++ key (codes "fields") ∷ []) c.in_ok-begin_id.ensures.tokens
    ∙ append_assoc c.args.out.now.tokens (begin_object ∷ key (codes "id") ∷ string c.args.id.now ∷ [])
    (key (codes "fields") ∷ []) in
    subst (λ (ts : List Token). OnOk c.key.result (c.key.new.self.tokens ≡ ts)) is c.key.ensures.ok
