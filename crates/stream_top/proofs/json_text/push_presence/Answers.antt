use Rattle.std.proofs.Common.{◌≡◌, ◌++◌, ◌∙◌, ap, append_assoc, subst, List}
use Rattle.std.specs.Prelude.{OnOk, codes}
use Rattle.json.specs.Token.{Token}
use Rattle.stream_top.specs.Json.{count_member, presence_tokens}
use Rattle.stream_top.proofs.json_text.push_presence.Goals as goal

pub returns-clause-tokens : goal.returns-clause-tokens
unfolding presence_tokens
returns-clause-tokens c =
    let idle = count_member (codes "idle_milliseconds") c.args.consumer.now.idle in
    subst (λ (ts : List Token). OnOk c.push_count-2.result (c.push_count-2.new.out.tokens ≡ ts))
    (ap (λ (ts : List Token). ts ++ idle) c.in_ok-push_count.ensures.tokens ∙ append_assoc _ _ idle)
    c.push_count-2.ensures.tokens
