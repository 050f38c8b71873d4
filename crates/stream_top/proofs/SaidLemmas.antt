-- Names and keys, one by one.
use Rattle.std.proofs.Common.{◌≡◌, ◌<◌, ◌≤◌, ◌-◌, ◌+◌, ◌∙◌, ◌∷◌, [], ℕ, List, ap, arith, drop, get_or, length, map, subst, sym, take}
use Rattle.std.specs.Borrow.{Bor}
use Rattle.std.specs.List.{AllZip}
use Rattle.std.proofs.lemmas.List.{drop_more, take_rest}
use Rattle.command_lines.specs.Words.{Text}
use Rattle.stream_top.specs.Options.{IsKey}
use Rattle.stream_top.specs.declared.options.Key.{Key}
use Rattle.stream_top.specs.declared.options.Word.{Word}

-- the first item and the others
pub first_and_more : {X : Type 0} (xs : List X) (x : X) → 1 ≤ length xs → x ≡ get_or xs 0 x
    → xs ≡ x ∷ take (length xs - 1) (drop 1 xs)
first_and_more [] x some is = absurd (omega arith)
first_and_more (y ∷ ys) x some is = ap (λ z. z ∷ ys) (sym is) ∙ ap (λ zs. x ∷ zs) (sym (take_rest (y ∷ ys) 1))

-- two names
pub two_names : (xs : List (Bor Text)) (d : Bor Text) (a : Text) → 2 ≤ length xs → length xs < 3 → (get_or xs 0 d).now ≡ a
    → map (λ (x : Bor Text). x.now) xs ≡ a ∷ (get_or xs 1 d).now ∷ []
two_names [] d a some few is = absurd (omega arith)
two_names (x ∷ []) d a some few is = absurd (omega arith)
two_names (x ∷ y ∷ []) d a some few is = ap (λ (t : Text). t ∷ y.now ∷ []) is
two_names (x ∷ y ∷ z ∷ xs) d a some few is = absurd (omega arith)

-- one more name, and one more key
pub zip_more : (words : List Word) (names : List (Bor Text)) (i : ℕ) (d : Bor Text) (key : Key) (left more : List Key)
    → i < length names → left ≡ key ∷ more → IsKey words (get_or names i d).now key
    → AllZip (IsKey words) (map (λ (x : Bor Text). x.now) (drop (i + 1) names)) more
    → AllZip (IsKey words) (map (λ (x : Bor Text). x.now) (drop i names)) left
zip_more words names i d key left more within is one later =
    subst (λ (keys : List Key). AllZip (IsKey words) (map (λ (x : Bor Text). x.now) (drop i names)) keys) (sym is)
    (subst (λ (xs : List (Bor Text)). AllZip (IsKey words) (map (λ (x : Bor Text). x.now) xs) (key ∷ more))
    (sym (drop_more names i d within)) (one, later))
