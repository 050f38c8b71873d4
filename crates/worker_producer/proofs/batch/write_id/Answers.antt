use Rattle.std.proofs.Common.{◌≡◌, ◌∷◌, [], ◌++◌, rules, decimal, ap, sym, ◌∙◌, List, ℕ, arith}
use Rattle.std.proofs.lemmas.Fmt.{decimal_digit}
use Rattle.worker_producer.proofs.batch.write_id.Goals as goal

pub returns : goal.returns
returns c =
    let digits : c.extend_from_slice.new.self.items ≡ decimal c.args.number = search rules in
    let both : c.extend_from_slice-2.new.self.items ≡ c.extend_from_slice.new.self.items ++ (45 ∷ 48 ∷ []) = search rules in
    let zero_is : decimal 0 ≡ 48 ∷ [] = decimal_digit 0 (omega arith) in
    both ∙ (ap (λ (bytes : List ℕ). bytes ++ (45 ∷ 48 ∷ [])) digits
    ∙ ap (λ (bytes : List ℕ). decimal c.args.number ++ (45 ∷ bytes)) (sym zero_is))
