-- Giving up entries over a connection is a list of moves of a queue of dead letters.
use Rattle.std.proofs.Common.{◌≡◌, inl, inr, refl, sym, ap, subst, ◌∙◌, ℕ, zero, suc, Bool, true, false, List, [], ◌∷◌}
use Rattle.std.proofs.Common.{◌++◌}
use Rattle.redis_connection.specs.Link.{Link}
use Rattle.worker.specs.Letters.{Entry}
use Rattle.model_server.specs.Group.Group.{Name}
use Rattle.model_workers.specs.Files.Files.{Form}
use Rattle.model_workers.specs.System.System.{System, Move, Posts, Adds_letter, Sends_ack, Settles, new_desk, moves, run}
use Rattle.model_workers.specs.System.System as system
use Rattle.worker.specs.Letters.{Names, letter_for}
use Rattle.model_workers.specs.System.Desks.{IsDesk, AreLetters, AreOfDesk, moves_after}
use Rattle.model_workers.proofs.SystemLemmas.DeskLemmas.{letters_are_moves, posts_are_moves}
use Rattle.worker.specs.Letters.{Desk, after_letter, letter_asks, asks_of_first}
use Rattle.worker.specs.declared.letters.LetterAsked.{LetterAsked}
use Rattle.worker.specs.declared.letters.LetterAsked.TheVariants as asked
use Rattle.worker.specs.DeadLetters.Dead.{Claimer, Goes, PostedOne, PostsAll, none_waits}
use Rattle.model_workers.specs.Letters.{posting, desk_after, delivering, ClaimsAreMoves, DeliveriesAreMoves}
use Rattle.model_workers.specs.Letters.{GiveUpsAreMoves}
use Rattle.worker.specs.declared.dead_letters.search.Waiting.{Waiting}

run_both : (form : Form) (ms more : List Move) (s : System) → run form (ms ++ more) s ≡ run form more (run form ms s)
run_both form [] more s = refl
run_both form (m ∷ ms) more s = run_both form ms more (moves form s m)

of_both : (name : Name) (ms more : List Move) → AreOfDesk name ms → AreOfDesk name more → AreOfDesk name (ms ++ more)
of_both name [] more h k = k
of_both name (m ∷ ms) more h k = (h.0, of_both name ms more h.1 k)

-- ---- posts

post_are_its : (name : Name) (which : ℕ → ℕ) (k : ℕ) (es : List Entry) → AreOfDesk name (posting name which k es)
post_are_its name which k [] = tt
post_are_its name which k (e ∷ es) = (refl, post_are_its name which (suc k) es)

module _ (c : Claimer) (dead : List ℕ) (form : Form) (name : Name) (which : ℕ → ℕ) where
  posted : (ws : List Waiting) (es : List Entry) (old new : Link) (desk desk' : Desk)
      → PostsAll c dead ws es old desk new desk' → (s : System) (k : ℕ) → IsDesk dead desk (s.desks name)
      → IsDesk dead desk' ((run form (posting name which k es) s).desks name)
  posted [] es old new desk desk' p s k is =
      let P : List Entry → Desk → Type 0 = λ xs d. IsDesk dead d ((run form (posting name which k xs) s).desks name) in
      subst (λ d. P es d) (sym p.2) (subst (λ xs. P xs desk) (sym p.0) is)
  posted (w ∷ ws) es old new desk desk' p s k is =
      let m : Link = p.0 in
      let d : Desk = p.1 in
      elim p.4 [
        | inl q ↦
            (let e : Entry = q.0 in
            let one : PostedOne dead w p.2 e desk d = q.3 in
            let t : System = moves form s (Posts name (which k) e) in
            let now : IsDesk dead d (t.desks name) =
            subst (λ x. IsDesk dead x (t.desks name)) (sym one.waits)
            (posts_are_moves form s name (which k) dead desk e w.deliveries w.reason.items is) in
            subst (λ xs. IsDesk dead desk' ((run form (posting name which k xs) s).desks name)) (sym q.2)
            (posted ws q.1 m new d desk' q.4 t (suc k) now))
        | inr q ↦ posted ws es m new d desk' q.1 s k (subst (λ x. IsDesk dead x (s.desks name)) (sym q.0.waits) is)
      ]

pub claims_are_moves : ClaimsAreMoves
claims_are_moves c dead ws es old new desk desk' p form s name which k is =
    (post_are_its name which k es, posted c dead form name which ws es old new desk desk' p s k is)

-- ---- letters

after_are_its : (name : Name) (k : ℕ) (a : LetterAsked) → AreOfDesk name (moves_after name k a)
after_are_its name k asked.Nothing = tt
after_are_its name k asked.Add = (refl, tt)
after_are_its name k asked.Acknowledge = (refl, (refl, tt))

deliver_are_its : (name : Name) (which : ℕ → ℕ) (n : ℕ) (d : Desk) → AreOfDesk name (delivering name which n d)
deliver_are_its name which zero d = tt
deliver_are_its name which (suc n) d =
    of_both name (delivering name which n d) (moves_after name (which n) (letter_asks (desk_after n d)))
    (deliver_are_its name which n d) (after_are_its name (which n) (letter_asks (desk_after n d)))

module _ (names : Names) where
  where_it_is : (n : ℕ) (old new : Link) (desk desk' : Desk) → Goes names n old desk new desk' → desk' ≡ desk_after n desk
  where_it_is zero old new desk desk' g = g.1
  where_it_is (suc n) old new desk desk' g =
      g.6 ∙ ap (λ d. after_letter (letter_asks d) d) (where_it_is n old g.0 desk g.1 g.3)

  module _ (form : Form) (name : Name) (which : ℕ → ℕ) where
    delivered : (n : ℕ) (old new : Link) (desk desk' : Desk) → Goes names n old desk new desk' → (s : System)
        → IsDesk names.2 desk (s.desks name)
        → IsDesk names.2 desk' ((run form (delivering name which n desk) s).desks name)
    delivered zero old new desk desk' g s is = subst (λ d. IsDesk names.2 d (s.desks name)) (sym g.1) is
    delivered (suc n) old new desk desk' g s is =
        let d : Desk = g.1 in
        let t : System = run form (delivering name which n desk) s in
        let so_far : IsDesk names.2 d (t.desks name) = delivered n old g.0 desk d g.3 s is in
        let now : IsDesk names.2 (after_letter (letter_asks d) d)
        ((run form (moves_after name (which n) (letter_asks d)) t).desks name) =
        letters_are_moves form t name (which n) names.2 d so_far in
        let P : Desk → Type 0 = λ x. IsDesk names.2 desk'
        ((run form (moves_after name (which n) (letter_asks x)) t).desks name) in
        let here : P (desk_after n desk) =
        subst P (where_it_is n old g.0 desk d g.3)
        (subst (λ x. IsDesk names.2 x ((run form (moves_after name (which n) (letter_asks d)) t).desks name)) (sym g.6) now) in
        subst (λ (u : System). IsDesk names.2 desk' (u.desks name))
        (sym (run_both form (delivering name which n desk) (moves_after name (which n) (letter_asks (desk_after n desk))) s))
        here

pub deliveries_are_moves : DeliveriesAreMoves
deliveries_are_moves names n old new desk desk' g form s name which is =
    (deliver_are_its name which n desk, delivered names form name which n old new desk desk' g s is)

-- ---- nothing is added where nothing waits

abbrev NoneAdded : Desk → Type 0
NoneAdded d = d.waiting ≡ [] → d.added ≡ false

still_none : (ls : List (List ℕ × List ℕ)) (added : Bool) → ([] ≡ ls → added ≡ false)
    → NoneAdded (after_letter (asks_of_first ls added) (record { waiting = ls; added = added }))
still_none [] added h q = h refl
still_none (l ∷ ls) false h q = absurd (let z : l ∷ ls ≡ [] = q in cc)
still_none (l ∷ ls) true h q = refl

none_after : (n : ℕ) (d : Desk) → NoneAdded d → NoneAdded (desk_after n d)
none_after zero d h = h
none_after (suc n) d h =
    let e : Desk = desk_after n d in
    still_none e.waiting e.added (λ q. none_after n d h (sym q))

not_none : (xs : List (List ℕ × List ℕ)) (x : List ℕ × List ℕ) → xs ++ x ∷ [] ≡ [] → ⊥
not_none [] x q = absurd (let z : x ∷ [] ≡ [] = q in cc)
not_none (y ∷ xs) x q = absurd (let z : y ∷ (xs ++ x ∷ []) ≡ [] = q in cc)

none_posted : (c : Claimer) (dead : List ℕ) (ws : List Waiting) (es : List Entry) (old new : Link) (desk desk' : Desk)
    → PostsAll c dead ws es old desk new desk' → NoneAdded desk → NoneAdded desk'
none_posted c dead [] es old new desk desk' p h = subst NoneAdded (sym p.2) h
none_posted c dead (w ∷ ws) es old new desk desk' p h =
    elim p.4 [
      | inl q ↦
          (let one : PostedOne dead w p.2 q.0 desk p.1 = q.3 in
          none_posted c dead ws q.1 p.0 new p.1 desk' q.4 (subst NoneAdded (sym one.waits)
          (λ none. absurd (not_none desk.waiting (q.0.0, letter_for dead q.0 w.deliveries w.reason.items) none))))
      | inr q ↦ none_posted c dead ws es p.0 new p.1 desk' q.1 (subst NoneAdded (sym q.0.waits) h)
    ]

no_entry : (dead : List ℕ) (ls : List (List ℕ × List ℕ)) (es : List Entry) → AreLetters dead ls es → ls ≡ [] → es ≡ []
no_entry dead [] [] are q = refl
no_entry dead [] (e ∷ es) are q = absurd are
no_entry dead (l ∷ ls) es are q = absurd (let z : l ∷ ls ≡ [] = q in cc)

new_again : (t : system.Desk) → t.waiting ≡ [] → t.added ≡ false → t ≡ new_desk
new_again t p q =
    ap (λ es. let d : system.Desk = record { waiting = es; added = t.added } in d) p
    ∙ ap (λ b. let d : system.Desk = record { waiting = []; added = b } in d) q

pub give_ups_are_moves : GiveUpsAreMoves
give_ups_are_moves c names ws old new g form s name claimed answered is =
    let n : ℕ = g.delivers.0.0 in
    let t : System = run form (posting name claimed zero g.es) s in
    let u : System = run form (delivering name answered n g.desk) t in
    let first : IsDesk names.2 none_waits (s.desks name) =
    subst (λ d. IsDesk names.2 none_waits d) (sym is) (record { waiting = tt; added = refl }) in
    let then : IsDesk names.2 g.desk (t.desks name) =
    posted c names.2 form name claimed ws g.es old g.between none_waits g.desk g.posts s zero first in
    let last : IsDesk names.2 g.left (u.desks name) =
    delivered names form name answered n g.between new g.desk g.left g.delivers.0.1 t then in
    let no_more : NoneAdded g.left =
    subst NoneAdded (sym (where_it_is names n g.between new g.desk g.left g.delivers.0.1))
    (none_after n g.desk (none_posted c names.2 ws g.es old g.between none_waits g.desk g.posts (λ q. refl))) in
    ap (λ (v : System). v.desks name) (run_both form (posting name claimed zero g.es) (delivering name answered n g.desk) s)
    ∙ new_again (u.desks name) (no_entry names.2 g.left.waiting (u.desks name).waiting last.waiting g.delivers.1)
    (sym last.added ∙ no_more g.delivers.1)
