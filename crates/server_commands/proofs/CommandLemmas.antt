-- Words that a loop reads one after the other.
use Rattle.std.proofs.Common.{◌≡◌, ◌≤◌, ◌<◌, ◌-◌, ℕ, suc, List, [], ◌∷◌, ◌++◌, length, take, drop, slice_index, map, Vec, Global}
use Rattle.std.proofs.Common.{Result, Ok, Err, Option, Some, None, refl, sym, ap, subst, ◌∙◌, append_assoc, append-nil}
use Rattle.std.proofs.Common.{option_map, arith}
use Rattle.std.proofs.lemmas.List.{take_all, nil_from_length, map-append}
use Rattle.server_commands.specs.declared.incoming.Stop.{Stop}
use Rattle.server_commands.specs.declared.incoming.Stop.TheVariants as stops
use Rattle.server_commands.specs.declared.incoming.ProtocolError.TheVariants.{UnbalancedQuotes}
use Rattle.server_commands.specs.declared.quoted.Place.{Place}
use Rattle.server_commands.specs.declared.quoted.Place.TheVariants.{Between}
use Rattle.server_commands.specs.Incoming.{Read, ◌>>=◌, short, bad, Fails, word_at, words_at, balanced, FailsAt}
use Rattle.server_commands.specs.Quoted.{Turn, goes, ends, fails, turn, behind_turn, at_end, words_from, prefixed, GoesOn}

-- words that were read, before those that are read
abbrev pub in_front : List (List ℕ) → Read (List (List ℕ)) → Read (List (List ℕ))
in_front ws read = read >>= λ y. Ok (ws ++ y.0, y.1)

nothing_before : (read : Read (List (List ℕ))) → in_front [] read ≡ read
nothing_before (Ok (ws, rest)) = refl
nothing_before (Err e) = refl

pub starts : (n : ℕ) (bytes : List ℕ) → in_front [] (words_at n bytes) ≡ words_at n bytes
starts n bytes = nothing_before (words_at n bytes)

regroup : (ws : List (List ℕ)) (w : List ℕ) (read : Read (List (List ℕ)))
    → in_front ws (read >>= λ y. Ok (w ∷ y.0, y.1)) ≡ in_front (ws ++ w ∷ []) read
regroup ws w (Ok y) = ap (λ (xs : List (List ℕ)). Ok (xs, y.1)) (sym (append_assoc ws (w ∷ []) y.0))
regroup ws w (Err e) = refl

-- one less than a number that is not 0
suc_of : (P : ℕ → Type 0) (n : ℕ) → 0 < n → P n → P (suc (n - 1))
suc_of P n some p = let e : n ≡ suc (n - 1) = omega arith in subst P e p

module _ (ws : List (List ℕ)) (bytes : List ℕ) (total : Read (List (List ℕ))) where
  more : (w : List ℕ) (n : ℕ) (behind : List ℕ) → word_at bytes ≡ Ok (w, behind)
      → in_front ws (words_at (suc n) bytes) ≡ total → in_front (ws ++ w ∷ []) (words_at n behind) ≡ total
  unfolding words_at
  more w n behind h so_far =
      let step : in_front ws (words_at (suc n) bytes) ≡ in_front (ws ++ w ∷ []) (words_at n behind) =
      rw h (regroup ws w (words_at n behind)) in
      sym step ∙ so_far

  stops_so : (e : Stop) (n : ℕ) → Fails e (word_at bytes) → in_front ws (words_at (suc n) bytes) ≡ total
      → Fails e total
  unfolding words_at
  stops_so stops.Memory n h so_far = tt
  stops_so stops.Short n h so_far =
      let step : in_front ws (words_at (suc n) bytes) ≡ Err short = rw h refl in
      sym so_far ∙ step
  stops_so (stops.Fault f) n h so_far =
      let step : in_front ws (words_at (suc n) bytes) ≡ Err (bad f) = rw h refl in
      sym so_far ∙ step

  -- one word more
  pub one_more : (w : List ℕ) (left : ℕ) (behind : List ℕ) → 0 < left → word_at bytes ≡ Ok (w, behind)
      → in_front ws (words_at left bytes) ≡ total → in_front (ws ++ w ∷ []) (words_at (left - 1) behind) ≡ total
  one_more w left behind some h so_far =
      more w (left - 1) behind h (suc_of (λ (k : ℕ). in_front ws (words_at k bytes) ≡ total) left some so_far)

  -- a word that is none
  pub no_more : (e : Stop) (left : ℕ) → 0 < left → Fails e (word_at bytes) → in_front ws (words_at left bytes) ≡ total
      → Fails e total
  no_more e left some h so_far =
      stops_so e (left - 1) h (suc_of (λ (k : ℕ). in_front ws (words_at k bytes) ≡ total) left some so_far)

  -- no word is left
  pub is_done : (left : ℕ) → left ≤ 0 → in_front ws (words_at left bytes) ≡ total → total ≡ Ok (ws, bytes)
  unfolding words_at
  is_done left none so_far =
      let e : left ≡ 0 = omega arith in
      let last : in_front ws (words_at 0 bytes) ≡ total =
      subst (λ (k : ℕ). in_front ws (words_at k bytes) ≡ total) e so_far in
      let step : in_front ws (words_at 0 bytes) ≡ Ok (ws, bytes) =
      ap (λ (xs : List (List ℕ)). Ok (xs, bytes)) (append-nil ws) in
      sym last ∙ step

-- a word more, as a vector of vectors has it
pub word_pushed : (ws vs : List (Vec ℕ Global)) (v : Vec ℕ Global) (w : List ℕ) → vs ≡ ws ++ v ∷ [] → v.items ≡ w
    → map (λ x. x.items) vs ≡ map (λ x. x.items) ws ++ w ∷ []
word_pushed ws vs v w is same = ap (map (λ (x : Vec ℕ Global). x.items)) is
    ∙ map-append (λ (x : Vec ℕ Global). x.items) ws (v ∷ [])
    ∙ ap (λ (t : List ℕ). map (λ (x : Vec ℕ Global). x.items) ws ++ t ∷ []) same

-- ---- the words of a line

pub nothing_prefixed : (read : Option (List (List ℕ))) → prefixed [] read ≡ read
nothing_prefixed None = refl
nothing_prefixed (Some ws) = refl

prefixed_more : (old : List (List ℕ)) (w : List ℕ) (read : Option (List (List ℕ)))
    → prefixed (old ++ w ∷ []) read ≡ prefixed old (option_map (λ ws. w ∷ ws) read)
prefixed_more old w None = refl
prefixed_more old w (Some ws) = ap Some (append_assoc old (w ∷ []) ws)

first_and_rest : (xs : List ℕ) → 1 ≤ length xs → xs ≡ slice_index xs 0 ∷ take (length xs - 1) (drop 1 xs)
first_and_rest [] h = absurd (omega arith)
first_and_rest (x ∷ xs) h =
    let e : take (length (x ∷ xs) - 1) xs ≡ xs = take_all (length (x ∷ xs) - 1) xs (omega arith) in
    rw e refl

module _ (old : List (List ℕ)) (total : Option (List (List ℕ))) (place : Place) (w : List ℕ) where
  by_turn : (t : Turn) (behind : List ℕ) (new : List (List ℕ)) (p : Place) (v : List ℕ) → GoesOn t old new p v
      → prefixed old (behind_turn (words_from behind) t) ≡ total → prefixed new (words_from behind p v) ≡ total
  unfolding behind_turn
  by_turn (goes q u) behind new p v (is_place, is_word, same) so_far = rw (is_place, is_word, same) so_far
  by_turn (ends u) behind new p v (is_place, is_word, more) so_far =
      rw (is_place, is_word, more) (prefixed_more old u (words_from behind Between []) ∙ so_far)
  by_turn fails behind new p v h so_far = absurd h

  led : (b : ℕ) (behind : List ℕ) (new : List (List ℕ)) (p : Place) (v : List ℕ) → GoesOn (turn place w b) old new p v
      → prefixed old (words_from (b ∷ behind) place w) ≡ total → prefixed new (words_from behind p v) ≡ total
  unfolding words_from
  led b behind new p v h so_far = by_turn (turn place w b) behind new p v h so_far

  unled : (e : Stop) (b : ℕ) (behind : List ℕ) → FailsAt (turn place w b) e
      → prefixed old (words_from (b ∷ behind) place w) ≡ total → Fails e (balanced total)
  unfolding words_from behind_turn
  unled stops.Memory b behind h so_far = tt
  unled stops.Short b behind h so_far = absurd h
  unled (stops.Fault e) b behind (is_turn, is_error) so_far =
      let none : prefixed old (words_from (b ∷ behind) place w) ≡ None = rw is_turn refl in
      let is : total ≡ None = sym so_far ∙ none in
      rw (is, is_error) refl

  module _ (rest : List ℕ) where
    apart : 1 ≤ length rest → prefixed old (words_from rest place w) ≡ total
        → prefixed old (words_from (slice_index rest 0 ∷ take (length rest - 1) (drop 1 rest)) place w) ≡ total
    apart some so_far = subst (λ (r : List ℕ). prefixed old (words_from r place w) ≡ total) (first_and_rest rest some) so_far

    -- a byte led on
    pub led_on : (new : List (List ℕ)) (p : Place) (v : List ℕ) → 1 ≤ length rest
        → GoesOn (turn place w (slice_index rest 0)) old new p v → prefixed old (words_from rest place w) ≡ total
        → prefixed new (words_from (take (length rest - 1) (drop 1 rest)) p v) ≡ total
    led_on new p v some h so_far =
        led (slice_index rest 0) (take (length rest - 1) (drop 1 rest)) new p v h (apart some so_far)

    -- a byte led nowhere
    pub led_nowhere : (e : Stop) → 1 ≤ length rest → FailsAt (turn place w (slice_index rest 0)) e
        → prefixed old (words_from rest place w) ≡ total → Fails e (balanced total)
    led_nowhere e some h so_far = unled e (slice_index rest 0) (take (length rest - 1) (drop 1 rest)) h (apart some so_far)

    -- the line ends
    pub line_ends : length rest < 1 → prefixed old (words_from rest place w) ≡ total
        → prefixed old (at_end place w) ≡ total
    unfolding words_from
    line_ends none so_far =
        let e : rest ≡ [] = nil_from_length rest (omega arith) in
        subst (λ (r : List ℕ). prefixed old (words_from r place w) ≡ total) e so_far
