use Rattle.std.proofs.Common.{rules, ◌≡◌, ◌+◌, ◌∙◌, ◌∷◌, ℕ, suc, length, map, drop, refl, sym, ap, add-one}
use Rattle.std.proofs.Math.Seq.{drop-cons}
use Rattle.stream_in_place.specs.SentMeaning.{octet_pair}
use Rattle.stream_in_place.proofs.LaidLemmas.{laid_more}
use Rattle.stream_in_place.proofs.laid.EntryRoom.place.Goals as goal

pub loop-name-preserved : goal.loop-name-preserved
loop-name-preserved c =
    let pairs = c.args.pairs.now in
    let i = c.loop-name.name-index in
    let p = c.loop-name-item.result in
    let name : c.len.result ≡ length p.0.0.items = search rules in
    let val : c.len-in-loop-name.result ≡ length p.1.0.items = search rules in
    let name_again : c.len-in-loop-name-2.result ≡ length p.0.0.items = search rules in
    let val_again : c.len-in-loop-name-3.result ≡ length p.1.0.items = search rules in
    let next : drop i pairs ≡ p ∷ drop (i + 1) pairs =
    drop-cons pairs i p c.loop-name-test.true ∙ ap (λ x. x ∷ drop (suc i) pairs) (sym c.loop-name-item.is)
    ∙ ap (λ (n : ℕ). p ∷ drop n pairs) (sym (add-one i)) in
    record {
      bytes = search rules;
      laid = laid_more c.args.self.now.bytes.items (map octet_pair pairs) (drop i pairs) (drop (i + 1) pairs) p next
          c.loop-name.self.fields.items c.loop-name.at c.loop-name.invariant.laid (c.loop-name.at + c.len.result)
          (c.loop-name.at + c.len.result + c.len-in-loop-name.result) _ _ _ c.push.new.self.items
          (ap (λ n. c.loop-name.at + n) name) (ap (λ n. c.loop-name.at + c.len.result + n) val) name_again val_again refl
          c.in_ok-push.ensures.items;
    }
