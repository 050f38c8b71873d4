use Rattle.std.proofs.Common.{◌≡◌, ◌≤◌, ◌-◌, ◌∷◌, [], List, arith, drop, get_or, length, map, rules, string_bytes, take}
use Rattle.std.specs.Borrow.{Bor}
use Rattle.std.proofs.lemmas.List.{take_all}
use Rattle.command_lines.specs.Words.{Text}
use Rattle.command_lines.proofs.said.names_after.Goals as goal

-- the first three names, and the others
three : (xs : List (Bor Text)) (d : Bor Text) (a b c : Text) → 3 ≤ length xs → (get_or xs 0 d).now ≡ a
    → (get_or xs 1 d).now ≡ b → (get_or xs 2 d).now ≡ c
    → map (λ (x : Bor Text). x.now) xs ≡ a ∷ b ∷ c ∷ map (λ (x : Bor Text). x.now) (take (length xs - 3) (drop 3 xs))
three [] d a b c many p q r = absurd (omega arith)
three (x ∷ []) d a b c many p q r = absurd (omega arith)
three (x ∷ y ∷ []) d a b c many p q r = absurd (omega arith)
three (x ∷ y ∷ z ∷ zs) d a b c many p q r =
    let rest : take (length (x ∷ y ∷ z ∷ zs) - 3) zs ≡ zs = take_all (length (x ∷ y ∷ z ∷ zs) - 3) zs (omega arith) in
    let first : x.now ≡ a = p in
    let second : y.now ≡ b = q in
    let third : z.now ≡ c = r in
    rw (first, second, third, rest)

pub returns : goal.returns
returns c =
    let names = c.args.names.now in
    let settings = c.args.settings.now in
    let none : Bor Text = record { ref_ptr = (0, 0); now = [] } in
    let key : (get_or names 0 none).now ≡ string_bytes settings.key = search rules in
    let group : (get_or names 1 none).now ≡ string_bytes settings.group = search rules in
    let consumer : (get_or names 2 none).now ≡ string_bytes settings.consumer = search rules in
    three names none (string_bytes settings.key) (string_bytes settings.group) (string_bytes settings.consumer)
    c.in-len3-up.len_at_least key group consumer
