-- The entries of the log that are pending are no more than those that the group has as pending.
use Rattle.std.proofs.Common.{◌≡◌, refl, sym, ap, ◌∙◌, ℕ, suc, ◌+◌, ◌≤◌, arith, Bool, true, false, List, [], ◌∷◌, length}
use Rattle.std.proofs.Common.{if◌then◌else◌}
use Rattle.std.proofs.lemmas.Slice.Eq.{bytes_eq-Decides}
use Rattle.std.specs.Str.{bytes_eq}
use Rattle.model_server.specs.Group.Worker.{Id, Entry}
use Rattle.model_server.specs.Group.Group.{Pending, listed, ids_of, own, pending_ids}
use Rattle.model_server.specs.Group.World.{World, run, empty_world}
use Rattle.model_server.specs.Rounds.Page.{how_many}
use Rattle.model_server.specs.Rounds.Law.{CountsWhatIsPending}
use Rattle.model_server.proofs.RoundsLemmas.Lists.{AreDistinct, clash, none_counted}
use Rattle.model_server.proofs.RoundsLemmas.Good.{always_good}
use Rattle.model_server.proofs.RoundsLemmas.Parts.{distinct_left}

module _ {F : Type 0} where
  either_of : (p q : Id → Bool) (es : List (Entry F))
      → how_many (λ x. if p x then true else q x) es ≤ how_many p es + how_many q es
  either_of p q [] = omega arith
  either_of p q (e ∷ es) =
      let all : ℕ = how_many (λ x. if p x then true else q x) es in
      let case : (a b : Bool) → (if (if a then true else b) then 1 + all else all)
      ≤ (if a then 1 + how_many p es else how_many p es) + (if b then 1 + how_many q es else how_many q es)
      = λ a b. elim a as (λ v. (if (if v then true else b) then 1 + all else all)
      ≤ (if v then 1 + how_many p es else how_many p es) + (if b then 1 + how_many q es else how_many q es)) [
        | true ↦ elim b as (λ w. 1 + all ≤ 1 + how_many p es + (if w then 1 + how_many q es else how_many q es))
            [ true ↦ omega (arith, either_of p q es) | false ↦ omega (arith, either_of p q es) ]
        | false ↦ elim b as (λ w. (if w then 1 + all else all)
            ≤ how_many p es + (if w then 1 + how_many q es else how_many q es))
            [ true ↦ omega (arith, either_of p q es) | false ↦ omega (arith, either_of p q es) ]
      ] in
      case (p e.0) (q e.0)

  one_of : (id : Id) (es : List (Entry F)) → AreDistinct es → how_many (bytes_eq id) es ≤ 1
  one_of id [] d = omega arith
  one_of id (e ∷ es) d =
      let no_other : bytes_eq id e.0 ≡ true → (x : Id) → listed (ids_of es) x ≡ true → (b : Bool) → bytes_eq id x ≡ b
      → b ≡ false
      = λ q x h b. elim b as (λ v. bytes_eq id x ≡ v → v ≡ false) [
        | true ↦ λ r. absurd (clash (listed (ids_of es) e.0)
            (ap (listed (ids_of es)) (sym ((bytes_eq-Decides id e.0).0 q) ∙ (bytes_eq-Decides id x).0 r) ∙ h) d.0)
        | false ↦ λ r. refl
      ] in
      let case : (b : Bool) → bytes_eq id e.0 ≡ b
      → (if b then 1 + how_many (bytes_eq id) es else how_many (bytes_eq id) es) ≤ 1
      = λ b. elim b as (λ v. bytes_eq id e.0 ≡ v
      → (if v then 1 + how_many (bytes_eq id) es else how_many (bytes_eq id) es) ≤ 1) [
        | true ↦ λ q. omega (arith, none_counted (bytes_eq id) es (λ x h. no_other q x h (bytes_eq id x) refl))
        | false ↦ λ q. one_of id es d.1
      ] in
      case (bytes_eq id e.0) refl

  count_listed : (ids : List Id) (es : List (Entry F)) → AreDistinct es → how_many (listed ids) es ≤ length ids
  count_listed [] es d = omega (arith, none_counted (listed []) es (λ x h. refl))
  count_listed (i ∷ ids) es d =
      omega (arith, either_of (bytes_eq i) (listed ids) es, one_of i es d, count_listed ids es d)

as_many : (ps : List Pending) → length (pending_ids ps) ≡ length ps
as_many [] = refl
as_many (p ∷ ps) = ap suc (as_many ps)

pub counts_what_is_pending : {F : Type 0} → CountsWhatIsPending F
counts_what_is_pending {F} events name =
    let w : World F = run events empty_world in
    let d : AreDistinct w.seen = distinct_left w.seen w.fresh (always_good events).distinct in (
      omega (arith, count_listed (pending_ids w.pending) w.seen d, as_many w.pending),
      count_listed (own name w.pending) w.seen d,
    )
