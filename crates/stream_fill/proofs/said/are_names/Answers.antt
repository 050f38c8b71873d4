use Rattle.std.proofs.Common.{◌≡◌, ◌≤◌, ◌∷◌, [], List, arith, get_or, length, map, rules, string_bytes}
use Rattle.std.specs.Borrow.{Bor}
use Rattle.command_lines.specs.Words.{Text}
use Rattle.stream_fill.proofs.said.are_names.Goals as goal

-- the two names
two : (xs : List (Bor Text)) (d : Bor Text) (a b : Text) → 2 ≤ length xs → length xs ≤ 2 → (get_or xs 0 d).now ≡ a
    → (get_or xs 1 d).now ≡ b → map (λ (x : Bor Text). x.now) xs ≡ a ∷ b ∷ []
two [] d a b many few p q = absurd (omega arith)
two (x ∷ []) d a b many few p q = absurd (omega arith)
two (x ∷ y ∷ []) d a b many few p q =
    let first : x.now ≡ a = p in
    let second : y.now ≡ b = q in
    rw (first, second)
two (x ∷ y ∷ z ∷ zs) d a b many few p q = absurd (omega arith)

pub returns-then-eq : goal.returns-then-eq
returns-then-eq c = λ is.
    let names = c.args.names.now in
    let options = c.args.options.now in
    let none : Bor Text = record { ref_ptr = (0, 0); now = [] } in
    let few : length names ≤ 2 = omega arith in
    let key : (get_or names 0 none).now ≡ string_bytes options.settings.key = search rules in
    let path : (get_or names 1 none).now ≡ string_bytes options.path = search rules in
    two names none (string_bytes options.settings.key) (string_bytes options.path) c.in-len2.len_at_least few key path
