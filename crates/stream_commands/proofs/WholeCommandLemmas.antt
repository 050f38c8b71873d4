-- What the arguments of whole commands determine.
use Rattle.std.proofs.Common.{◌≡◌, ℕ, ◌+◌, suc, Bool, true, false, List, [], ◌∷◌, ◌++◌, length, map, codes, refl, sym}
use Rattle.std.proofs.Common.{◌∙◌, ap, arith, ◌⊎◌, inl, inr}
use Rattle.std.proofs.lemmas.List.{length-append}
use Rattle.std.proofs.lemmas.Fmt.{decimal_injective}
use Rattle.stream_commands.specs.WholeCommands.{IsDetermined, IsApart, AreApart, add_list, AddPartsFit, SameAdd}
use Rattle.stream_commands.specs.WholeCommands.{trim_list, TrimPartsFit, SameTrim, read_list, ReadPartsFit, SameRead}
use Rattle.stream_commands.specs.WholeCommands.{claim_list, ClaimPartsFit, SameClaim, autoclaim_list, AutoClaimPartsFit}
use Rattle.stream_commands.specs.WholeCommands.{SameAutoClaim}
use Rattle.stream_options.proofs.UniqueDecoding.{add_determined, trim_exact, read_determined, claim_reads, claim_exact}
use Rattle.stream_options.proofs.UniqueDecoding.{autoclaim_exact}
use Rattle.stream_options.specs.Claim.{claim_sentence, claim_words}
use Rattle.stream_options.specs.Words.{among, begins}

-- the first argument, and those after it
abbrev head : List (List ℕ) → List ℕ
head [] = []
head (x ∷ xs) = x

abbrev tail : {A : Type 0} → List A → List A
tail [] = []
tail (x ∷ xs) = xs

pub add_law : IsDetermined AddPartsFit add_list SameAdd
add_law a b fa fb e =
    let rest = add_determined a.options b.options (a.id ∷ a.fields) (b.id ∷ b.fields) fa.options fb.options fa.id fb.id
    (ap (λ xs. tail (tail xs)) e) in
    record {
      key = ap (λ xs. head (tail xs)) e;
      options = rest.0;
      id = ap head rest.1;
      fields = ap tail rest.1;
    }

pub trim_law : IsDetermined TrimPartsFit trim_list SameTrim
trim_law a b fa fb e = record {
  key = ap (λ xs. head (tail xs)) e;
  options = (trim_exact a.options b.options fa fb).1 (ap (λ xs. tail (tail xs)) e);
}

pub autoclaim_law : IsDetermined AutoClaimPartsFit autoclaim_list SameAutoClaim
autoclaim_law a b fa fb e = record {
  key = ap (λ xs. head (tail xs)) e;
  group = ap (λ xs. head (tail (tail xs))) e;
  consumer = ap (λ xs. head (tail (tail (tail xs)))) e;
  min_idle = decimal_injective a.min_idle b.min_idle fa.min_idle fb.min_idle
      (ap (λ xs. head (tail (tail (tail (tail xs))))) e);
  start = ap (λ xs. head (tail (tail (tail (tail (tail xs)))))) e;
  options = (autoclaim_exact a.options b.options fa.options fb.options).1
      (ap (λ xs. tail (tail (tail (tail (tail (tail xs)))))) e);
}

-- ---- ids before options

-- no argument, or a first one that is one of the words
abbrev Opens : List (List ℕ) → List (List ℕ) → Type 0
Opens words args = (args ≡ []) ⊎ (begins words args ≡ true)

not_both : {A : Type 0} (x : Bool) → x ≡ false → x ≡ true → A
not_both true f t = absurd cc
not_both false f t = absurd cc

-- options do not begin with an id
no_opening : {A : Type 0} (words : List (List ℕ)) (id : List ℕ) (ids args : List (List ℕ)) → IsApart words id
    → Opens words args → args ≡ id ∷ ids → A
no_opening words id ids args p (inl none) e = absurd cc
no_opening words id ids args p (inr one) e = not_both (among words id) p (sym (ap (begins words) e) ∙ one)

-- ids, and then options
before_options : (words ids others s t : List (List ℕ)) → AreApart words ids → AreApart words others → Opens words s
    → Opens words t
    → ids ++ s ≡ others ++ t → (ids ≡ others) × (s ≡ t)
before_options words [] [] s t p q os ot e = (refl, e)
before_options words [] (y ∷ ys) s t p q os ot e = no_opening words y (ys ++ t) s q.0 os e
before_options words (x ∷ xs) [] s t p q os ot e = no_opening words x (xs ++ s) t p.0 ot (sym e)
before_options words (x ∷ xs) (y ∷ ys) s t p q os ot e =
    let rest = before_options words xs ys s t p.1 q.1 os ot (ap tail e) in
    let same : x ≡ y = ap head e in
    (ap (λ z. z ∷ xs) same ∙ ap (λ zs. y ∷ zs) rest.0, rest.1)

pub claim_law : IsDetermined ClaimPartsFit claim_list SameClaim
claim_law a b fa fb e =
    let rest = before_options claim_words a.ids b.ids (claim_sentence a.options)
    (claim_sentence b.options) fa.ids fb.ids
    (claim_reads.opens a.options) (claim_reads.opens b.options) (ap (λ xs. tail (tail (tail (tail (tail xs))))) e) in
    record {
      key = ap (λ xs. head (tail xs)) e;
      group = ap (λ xs. head (tail (tail xs))) e;
      consumer = ap (λ xs. head (tail (tail (tail xs)))) e;
      min_idle = decimal_injective a.min_idle b.min_idle fa.min_idle fb.min_idle
          (ap (λ xs. head (tail (tail (tail (tail xs))))) e);
      ids = rest.0;
      options = (claim_exact a.options b.options fa.options fb.options).1 rest.1;
    }

-- ---- keys, and as many ids

abbrev Pair : Type 0
Pair = List ℕ × List ℕ

abbrev keys : List Pair → List (List ℕ)
keys = map (λ s. s.0)

abbrev ids : List Pair → List (List ℕ)
ids = map (λ s. s.1)

len : (f : Pair → List ℕ) (ps : List Pair) → length (map f ps) ≡ length ps
len f [] = refl
len f (p ∷ ps) = ap suc (len f ps)

-- this number of keys and ids
columns_len : (ps : List Pair) → length (keys ps ++ ids ps) ≡ length ps + length ps
columns_len ps = length-append (keys ps) (ids ps)
    ∙ (ap (λ n. n + length (ids ps)) (len (λ s. s.0) ps) ∙ ap (λ n. length ps + n) (len (λ s. s.1) ps))

-- lists of one length, each before a rest
split : (ps qs : List Pair) (r s : List (List ℕ)) → length ps ≡ length qs → keys ps ++ r ≡ keys qs ++ s
    → (keys ps ≡ keys qs) × (r ≡ s)
split [] [] r s l e = (refl, e)
split [] (q ∷ qs) r s l e = absurd (omega arith)
split (p ∷ ps) [] r s l e = absurd (omega arith)
split (p ∷ ps) (q ∷ qs) r s l e =
    let rest = split ps qs r s (omega arith) (ap tail e) in
    let same : p.0 ≡ q.0 = ap head e in
    (ap (λ z. z ∷ keys ps) same ∙ ap (λ zs. q.0 ∷ zs) rest.0, rest.1)

paired : (ps qs : List Pair) → length ps ≡ length qs → keys ps ≡ keys qs → ids ps ≡ ids qs → ps ≡ qs
paired [] [] l k i = refl
paired [] (q ∷ qs) l k i = absurd (omega arith)
paired (p ∷ ps) [] l k i = absurd (omega arith)
paired (p ∷ ps) (q ∷ qs) l k i =
    let rest = paired ps qs (omega arith) (ap tail k) (ap tail i) in
    let key : p.0 ≡ q.0 = ap head k in
    let id : p.1 ≡ q.1 = ap head i in
    ap (λ z. (z, p.1) ∷ ps) key ∙ (ap (λ z. (q.0, z) ∷ ps) id ∙ ap (λ zs. q ∷ zs) rest)

same_streams : (ps qs : List Pair) → keys ps ++ ids ps ≡ keys qs ++ ids qs → ps ≡ qs
same_streams ps qs e =
    let doubled : length ps + length ps ≡ length qs + length qs = sym (columns_len ps) ∙ ap length e ∙ columns_len qs in
    let l : length ps ≡ length qs = omega arith in
    let parts = split ps qs (ids ps) (ids qs) l e in
    paired ps qs l parts.0 parts.1

pub read_law : IsDetermined ReadPartsFit read_list SameRead
read_law a b fa fb e =
    let rest = read_determined a.options b.options
    (codes "STREAMS" ∷ (keys a.streams ++ ids a.streams))
    (codes "STREAMS" ∷ (keys b.streams ++ ids b.streams)) fa fb refl refl (ap tail e) in
    record {
      options = rest.0;
      streams = same_streams a.streams b.streams (ap tail rest.1);
    }
