-- Entries that are looked up, of which no id gets two lines.
use Rattle.std.proofs.Common.{◌≡◌, ◌∙◌, inl, inr, refl, sym, ap, subst, Bool, true, false, List, [], ◌∷◌, ◌++◌, Some}
use Rattle.std.proofs.Common.{append-nil, if◌then◌else◌}
use Rattle.std.specs.Prelude.{◌||◌}
use Rattle.std.specs.Str.{bytes_eq}
use Rattle.std.proofs.Math.Path.{fun_ext}
use Rattle.std.proofs.lemmas.Bool.{true≢false}
use Rattle.worker_journal.specs.EntryLine.{Entry}
use Rattle.model_server.specs.Failover.Lookup.{unwritten}
use Rattle.model_server.specs.Group.Group.{listed}
use Rattle.model_server.specs.Group.Law.{Among}
use Rattle.model_server.specs.Group.Worker.{Id}
use Rattle.model_server.specs.Once.Law.{Once}
use Rattle.model_server.proofs.OnceLemmas.Apart.{among_listed, once_both, once_left}
use Rattle.stream_drain.specs.Known.{Known, known_after, known_too, lines_for}
use Rattle.stream_drain.specs.Resumed.{ids_in}

-- ---- as the model looks up

pub too_listed : (ids : List Id) (id : Id) → known_too (Some (listed ids)) id ≡ Some (listed (id ∷ ids))
too_listed ids id = ap (λ (k : Id → Bool). Some k) (fun_ext (λ other. by (bytes_eq id other) (listed ids other)))
  where
    by : (a b : Bool) → (a || b) ≡ (if a then true else b)
    by true b = refl
    by false b = refl

-- the entries that get a line are those of the model
pub as_unwritten : (ids : List Id) (es : List Entry) → lines_for (Some (listed ids)) es ≡ unwritten ids es
as_unwritten ids [] = refl
as_unwritten ids (e ∷ es) = elim (listed ids e.0)
    as (λ b. (if b then lines_for (Some (listed ids)) es else e ∷ lines_for (known_too (Some (listed ids)) e.0) es)
    ≡ (if b then unwritten ids es else e ∷ unwritten (e.0 ∷ ids) es)) [
      | true ↦ as_unwritten ids es
      | false ↦ ap (λ (k : Known). e ∷ lines_for k es) (too_listed ids e.0)
          ∙ ap (λ (xs : List Entry). e ∷ xs) (as_unwritten (e.0 ∷ ids) es)
    ]

-- ---- the ids of several lists

pub listed_both : (xs ys : List Id) (id : Id) → listed (xs ++ ys) id ≡ (listed xs id || listed ys id)
listed_both [] ys id = refl
listed_both (x ∷ xs) ys id = elim (bytes_eq x id)
    as (λ b. (if b then true else listed (xs ++ ys) id) ≡ ((if b then true else listed xs id) || listed ys id)) [
      | true ↦ refl
      | false ↦ listed_both xs ys id
    ]

-- one of the second list may stand before the first
moved : (xs ys : List Id) (x : Id) → listed ((x ∷ xs) ++ ys) ≡ listed (xs ++ x ∷ ys)
moved xs ys x = fun_ext (λ id. listed_both (x ∷ xs) ys id
    ∙ (by (bytes_eq x id) (listed xs id) (listed ys id) ∙ sym (listed_both xs (x ∷ ys) id)))
  where
    by : (a b c : Bool) → ((if a then true else b) || c) ≡ (b || (if a then true else c))
    by true true c = refl
    by true false c = refl
    by false b c = refl

-- what is known after entries: the ids before, and those of the lines
pub known_then : (ids : List Id) (es : List Entry)
    → known_after (Some (listed ids)) es ≡ Some (listed (ids ++ ids_in (lines_for (Some (listed ids)) es)))
known_then ids [] = ap (λ (xs : List Id). Some (listed xs)) (sym (append-nil ids))
known_then ids (e ∷ es) =
    let next : known_after (known_too (Some (listed ids)) e.0) es
    ≡ Some (listed (ids ++ e.0 ∷ ids_in (lines_for (known_too (Some (listed ids)) e.0) es))) =
    subst (λ (k : Known). known_after k es ≡ Some (listed (ids ++ e.0 ∷ ids_in (lines_for k es)))) (sym (too_listed ids e.0))
    (known_then (e.0 ∷ ids) es
    ∙ ap (λ (k : Id → Bool). Some k) (moved ids (ids_in (lines_for (Some (listed (e.0 ∷ ids))) es)) e.0)) in
    elim (listed ids e.0)
    as (λ b. (if b then known_after (Some (listed ids)) es else known_after (known_too (Some (listed ids)) e.0) es)
    ≡ Some (listed (ids ++ ids_in (if b then lines_for (Some (listed ids)) es
    else e ∷ lines_for (known_too (Some (listed ids)) e.0) es)))) [
      | true ↦ known_then ids es
      | false ↦ next
    ]

-- ---- none twice

-- none of those that get a line has one of the ids
apart : (ids : List Id) (es : List Entry) (id : Id) → Among id ids → Among id (ids_in (unwritten ids es)) → ⊥
apart ids [] id first second = second
apart ids (e ∷ es) id first second =
    let case : (b : Bool) → listed ids e.0 ≡ b
    → Among id (ids_in (if b then unwritten ids es else e ∷ unwritten (e.0 ∷ ids) es)) → ⊥
    = λ b. elim b as (λ b. listed ids e.0 ≡ b
    → Among id (ids_in (if b then unwritten ids es else e ∷ unwritten (e.0 ∷ ids) es)) → ⊥) [
      | true ↦ λ is among. apart ids es id first among
      | false ↦ λ is among. elim among [
        | inl same ↦
            true≢false (sym (among_listed ids e.0 (subst (λ (i : Id). Among i ids) (sym same) first)) ∙ is)
        | inr later ↦ apart (e.0 ∷ ids) es id (inr first) later
      ]
    ] in
    case (listed ids e.0) refl second

once_new : (ids : List Id) (es : List Entry) → Once (ids_in (unwritten ids es))
once_new ids [] = tt
once_new ids (e ∷ es) = elim (listed ids e.0)
    as (λ b. Once (ids_in (if b then unwritten ids es else e ∷ unwritten (e.0 ∷ ids) es))) [
      | true ↦ once_new ids es
      | false ↦ (λ among. apart (e.0 ∷ ids) es e.0 (inl refl) among, once_new (e.0 ∷ ids) es)
    ]

-- with the lines of more entries no id is there twice, if none was
pub still_once : (ids : List Id) (es : List Entry) → Once ids → Once (ids ++ ids_in (lines_for (Some (listed ids)) es))
still_once ids es once = subst (λ (xs : List Entry). Once (ids ++ ids_in xs)) (sym (as_unwritten ids es))
    (once_both ids (ids_in (unwritten ids es)) once (once_new ids es) (λ id a b. apart ids es id a b))

-- and so it is with a front of them
pub once_front : (xs ys : List Id) → Once (xs ++ ys) → Once xs
once_front xs ys once = once_left xs ys once
