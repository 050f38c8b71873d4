-- Consecutive values.
use Rattle.std.proofs.Common.{◌≡◌, ◌+◌, ◌∙◌, ℕ, zero, suc, List, [], ◌∷◌, ◌++◌, Ok, refl, ap, arith}
use Rattle.redis_resp.specs.Tree.{Tree}
use Rattle.redis_wire.specs.Reading.{Read, ◌>>=◌}
use Rattle.redis_wire.specs.Reply.{Answer, value, refused, group, pushed, Answers, values, mixed, join, one}
use Rattle.redis_wire.specs.Group.{many}
use Rattle.redis_wire.proofs.FitsLemmas.{bind_ok}

joined : (a : Answer) (ms : Answers) (ts : List Tree) → join (one a) ms ≡ values ts
    → (t : Tree) × (us : List Tree) × (a ≡ value t) × (ms ≡ values us) × (t ∷ us ≡ ts)
joined (value t) (values us) ts e = (t, us, refl, refl, cc)
joined (value t) (mixed xs) ts e = absurd cc
joined (refused x) ms ts e = absurd cc
joined (group k xs) ms ts e = absurd cc
joined (pushed k xs) ms ts e = absurd cc

same_read : (r : Read Answers) (a c : Answers) (b d : List ℕ) → r ≡ Ok (a, b) → r ≡ Ok (c, d) → (a ≡ c) × (b ≡ d)
same_read r a c b d p q =
    let e : (a, b) ≡ (c, d) = cc in
    (ap (λ (z : Answers × List ℕ). z.0) e, ap (λ (z : Answers × List ℕ). z.1) e)

module _ (inner : List ℕ → Read Answer) where
  pub no_more : (bytes : List ℕ) → many inner 0 bytes ≡ Ok (values [], bytes)
  unfolding many
  no_more bytes = refl

  -- a value, and `n` after it
  pub many_first : (n : ℕ) (bytes : List ℕ) (t : Tree) (middle : List ℕ) (ts : List Tree) (after : List ℕ)
      → inner bytes ≡ Ok (value t, middle) → many inner n middle ≡ Ok (values ts, after)
      → many inner (suc n) bytes ≡ Ok (values (t ∷ ts), after)
  unfolding many
  many_first n bytes t middle ts after h k = rw (h, k) refl

  -- the value that the first of several is, and those after it
  pub first_of_many : (n : ℕ) (bytes : List ℕ) (ts : List Tree) (after : List ℕ)
      → many inner (suc n) bytes ≡ Ok (values ts, after)
      → (t : Tree) × (us : List Tree) × (middle : List ℕ) × (inner bytes ≡ Ok (value t, middle))
      × (many inner n middle ≡ Ok (values us, after)) × (t ∷ us ≡ ts)
  unfolding many
  first_of_many n bytes ts after h =
      let b = bind_ok (inner bytes) (λ x. many inner n x.1 >>= λ y. Ok (join (one x.0) y.0, y.1))
      (values ts, after) h in
      let m = bind_ok (many inner n b.0.1) (λ y. Ok (join (one b.0.0) y.0, y.1)) (values ts, after) b.2 in
      let p = same_read (Ok (join (one b.0.0) m.0.0, m.0.1)) (join (one b.0.0) m.0.0)
      (values ts) m.0.1 after refl m.2 in
      let j = joined b.0.0 m.0.0 ts p.0 in (
        j.0,
        j.1,
        b.0.1,
        b.1 ∙ ap (λ (a : Answer). Ok (a, b.0.1)) j.2,
        m.1 ∙ ap (λ (ms : Answers). Ok (ms, m.0.1)) j.3
            ∙ ap (λ (r : List ℕ). Ok (values j.1, r)) p.1,
        j.4,
      )

  -- `n` values, and `m` more after them
  pub many_append : (n m : ℕ) (bytes : List ℕ) (ts : List Tree) (rest : List ℕ) (us : List Tree) (after : List ℕ)
      → many inner n bytes ≡ Ok (values ts, rest) → many inner m rest ≡ Ok (values us, after)
      → many inner (n + m) bytes ≡ Ok (values (ts ++ us), after)
  many_append zero m bytes ts rest us after h k =
      let p = same_read (many inner 0 bytes) (values []) (values ts) bytes rest (no_more bytes) h in
      let empty : values [] ≡ values ts = p.0 in
      let none : [] ≡ ts = cc in
      let s : 0 + m ≡ m = omega arith in
      ap (λ (i : ℕ). many inner i bytes) s ∙ ap (many inner m) p.1 ∙ k
      ∙ ap (λ (xs : List Tree). Ok (values (xs ++ us), after)) none
  many_append (suc n) m bytes ts rest us after h k =
      let f = first_of_many n bytes ts rest h in
      let again = many_append n m f.2 f.1 rest us after f.4 k in
      let s : suc n + m ≡ suc (n + m) = omega arith in
      ap (λ (i : ℕ). many inner i bytes) s ∙ many_first (n + m) bytes f.0 f.2 (f.1 ++ us) after f.3 again
      ∙ ap (λ (xs : List Tree). Ok (values (xs ++ us), after)) f.5
