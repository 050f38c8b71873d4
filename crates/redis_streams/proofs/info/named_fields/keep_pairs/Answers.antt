use Rattle.std.proofs.Common.{◌≡◌, ℕ, List, ◌++◌, [], ◌∷◌, Some, arith, ap, inl, inr, refl, string_bytes}
use Rattle.std.proofs.lemmas.Grind.{common_steps}
use Rattle.redis_resp.specs.Tree.{Tree}
use Rattle.redis_resp.specs.Reading.{traverse}
use Rattle.redis_resp.specs.Refusal.{Refuses, OneRefused, RefusesEntry, RefusesValue}
use Rattle.redis_resp.specs.Source.{all_left}
use Rattle.redis_resp.specs.Table.{entries_meaning, entry_reading}
use Rattle.redis_resp.proofs.ReadLemmas.{read_start, read_next, read_refused}
use Rattle.redis_streams.proofs.InfoLemmas.{passed_on}
use Rattle.redis_streams.proofs.info.named_fields.keep_pairs.Goals as goal

pub loop-key-init : goal.loop-key-init
loop-key-init g c = read_start (entry_reading (λ u. Some u))
    (all_left g.S.Source.values_left g.S.Source.pairs_left c.args.left) _
    (ap (entries_meaning g.S.Source.seen) c.in_ok-pairs.ensures.items)

pub returns-in_err-key-clause-err : goal.returns-in_err-key-clause-err
returns-in_err-key-clause-err g c =
    let f = entry_reading (λ u. Some u) in
    let refuses = RefusesEntry (Refuses (λ u. Some u) RefusesValue) in
    let all = all_left g.S.Source.values_left g.S.Source.pairs_left c.args.left in
    let pair : Tree × Tree = (g.S.Source.seen c.in-Some.key, g.S.Source.seen c.in-Some.value) in
    let why = c.in_err-key.ensures.err in
    let stop : Refuses (traverse f) (OneRefused refuses) all c.in_err-key.field-0.0 =
    read_refused f all refuses _ _ _ pair _ c.in-Some.ensures
    (inr (inl why), λ h. rw (why.1 h) refl) c.loop-key.invariant in
    passed_on _ _ c.from_residual-in_err-key.result c.from_residual-in_err-key.ensures.1 stop

pub loop-key-preserved : goal.loop-key-preserved
loop-key-preserved g c =
    let meaning = entries_meaning g.S.Source.seen in
    let f = entry_reading (λ u. Some u) in
    let pair : Tree × Tree = (g.S.Source.seen c.in-Some.key, g.S.Source.seen c.in-Some.value) in
    let m : List ℕ × Tree = (string_bytes c.in_ok-key.key, g.S.Source.seen c.in-Some.value) in
    let read : f pair ≡ Some m = rw c.in_ok-key.ensures.ok refl in
    let pushed : meaning c.push.new.self.items ≡ meaning c.loop-key.pairs.items ++ m ∷ [] =
    grind (arith, common_steps) in
    read_next f
    (all_left g.S.Source.values_left g.S.Source.pairs_left c.args.left) _ _ pair m _ _ c.in-Some.ensures read pushed
    c.loop-key.invariant
