-- The operations of a queue of dead letters in the code, as moves.
use Rattle.std.proofs.Common.{◌≡◌, ◌≢◌, inl, inr, refl, sym, ap, subst, ◌∙◌, ℕ, Bool, true, false, List, [], ◌∷◌, ◌++◌}
use Rattle.std.proofs.Common.{if◌then◌else◌}
use Rattle.std.proofs.lemmas.Slice.Eq.{bytes_eq-Decides}
use Rattle.std.specs.Str.{bytes_eq}
use Rattle.worker_journal.specs.EntryLine.{Entry}
use Rattle.model_server.specs.Group.Worker.{Id}
use Rattle.model_server.specs.Group.Group.{Name}
use Rattle.model_server.specs.Group.World.{with_one}
use Rattle.model_workers.specs.Files.Files.{Form}
use Rattle.model_workers.proofs.FilesLemmas.Step.{at_one}
use Rattle.worker.specs.Letters.{after_letter, letter_asks, asks_of_first}
use Rattle.worker.specs.Letters as letters
use Rattle.model_workers.specs.System.System.{System, Desk, Move, Serves, Commits, Sends, Hears, Breaks, Posts, Adds_letter}
use Rattle.model_workers.specs.System.System.{Sends_ack, Settles, Restarts, with_letter, without_first, new_desk, moves, run}
use Rattle.worker.specs.Letters.{Names}
use Rattle.model_workers.specs.System.Desks.{IsDesk, AreLetters, AsksFor, AsksAsItDoes, LettersAreMoves, PostsAreMoves}
use Rattle.model_workers.specs.System.Desks.{StartsWithANewDesk, IsOfDesk, AreOfDesk, IsElsewhere, IsMixed, OthersLeaveTheDesk}
use Rattle.worker.specs.Letters.{letter_for}
use Rattle.model_workers.specs.System.Desks.{moves_after}

-- ---- what a queue sends

asks_of : (names : Names) (ls : List (Id × List ℕ)) (es : List Entry) (added now : Bool) → AreLetters names.2 ls es
    → added ≡ now
    → AsksFor names (record { waiting = ls; added = added }) (record { waiting = es; added = now }) (asks_of_first ls added)
asks_of names [] [] added now are q = (refl, refl)
asks_of names [] (e ∷ es) added now are q = absurd are
asks_of names (l ∷ ls) [] added now are q = absurd are
asks_of names (l ∷ ls) (e ∷ es) false true are q = absurd (let z : false ≡ true = q in cc)
asks_of names (l ∷ ls) (e ∷ es) true false are q = absurd (let z : true ≡ false = q in cc)
asks_of names (l ∷ ls) (e ∷ es) false false are q = (e, are.0.1.0, are.0.1.1, refl, are.0.1.2)
asks_of names (l ∷ ls) (e ∷ es) true true are q =
    (e.0, refl, ap (λ id. letters.of_first names (id, l.1) true) are.0.0)

pub asks_as_it_does : AsksAsItDoes
asks_as_it_does names d t is = asks_of names d.waiting t.waiting d.added t.added is.waiting is.added

-- ---- a reply that serves

abbrev after_first : (Id × List ℕ) → List (Id × List ℕ) → Bool → letters.Desk
after_first l ls added = after_letter (asks_of_first (l ∷ ls) added) (record { waiting = l ∷ ls; added = added })

module _ (form : Form) (name : Name) (which : ℕ) (dead : List ℕ) where
  abbrev desk_after : System → List Move → Desk
  desk_after s ms = (run form ms s).desks name

  lettered : (s : System) → desk_after s (Adds_letter name ∷ []) ≡ with_letter (s.desks name)
  lettered s = at_one s.desks name (with_letter (s.desks name))

  settled : (s : System) → desk_after s (Sends_ack name ∷ Settles name which ∷ []) ≡ without_first (s.desks name)
  settled s = at_one s.desks name (without_first (s.desks name))

  -- by what waits
  served : (s : System) (ls : List (Id × List ℕ)) (es : List Entry) (added now : Bool) → AreLetters dead ls es
      → added ≡ now → s.desks name ≡ record { waiting = es; added = now }
      → IsDesk dead (after_letter (asks_of_first ls added) (record { waiting = ls; added = added }))
      (desk_after s (moves_after name which (asks_of_first ls added)))
  served s [] [] added now are q is =
      subst (λ t. IsDesk dead (record { waiting = []; added = added }) t) (sym is) (record { waiting = tt; added = q })
  served s [] (e ∷ es) added now are q is = absurd are
  served s (l ∷ ls) [] added now are q is = absurd are
  served s (l ∷ ls) (e ∷ es) false now are q is =
      subst (λ t. IsDesk dead (record { waiting = l ∷ ls; added = true }) t)
      (sym (lettered s ∙ ap with_letter is)) (record { waiting = are; added = refl })
  served s (l ∷ ls) (e ∷ es) true now are q is =
      subst (λ t. IsDesk dead (record { waiting = ls; added = false }) t)
      (sym (settled s ∙ ap without_first is)) (record { waiting = are.1; added = refl })

pub letters_are_moves : LettersAreMoves
letters_are_moves form s name which dead d is =
    served form name which dead s d.waiting (s.desks name).waiting d.added (s.desks name).added is.waiting is.added refl

-- ---- an entry is posted

one_more : (dead : List ℕ) (ls : List (Id × List ℕ)) (es : List Entry) (e : Entry) (deliveries : ℕ) (reason : List ℕ)
    → AreLetters dead ls es → AreLetters dead (ls ++ (e.0, letter_for dead e deliveries reason) ∷ []) (es ++ e ∷ [])
one_more dead [] [] e deliveries reason are = ((refl, (deliveries, reason, refl)), tt)
one_more dead [] (x ∷ es) e deliveries reason are = absurd are
one_more dead (l ∷ ls) [] e deliveries reason are = absurd are
one_more dead (l ∷ ls) (x ∷ es) e deliveries reason are = (are.0, one_more dead ls es e deliveries reason are.1)

pub posts_are_moves : PostsAreMoves
posts_are_moves form s name which dead d e deliveries reason is =
    let t : Desk = s.desks name in
    let now : Desk = record t { waiting = t.waiting ++ e ∷ [] } in
    let more : letters.Desk = record d { waiting = d.waiting ++ (e.0, letter_for dead e deliveries reason) ∷ [] } in
    subst (λ x. IsDesk dead more x) (sym (at_one s.desks name now)) (record {
      waiting = one_more dead d.waiting t.waiting e deliveries reason is.waiting;
      added = is.added;
    })

pub starts_with_a_new_desk : StartsWithANewDesk
starts_with_a_new_desk form s name settings torn ids before = at_one s.desks name new_desk

-- ---- moves from elsewhere

other_desk : (ds : Name → Desk) (other : Name) (d : Desk) (name : Name) → other ≢ name
    → with_one ds other d name ≡ ds name
other_desk ds other d name apart =
    let case : (t : Bool) → bytes_eq other name ≡ t → (if t then d else ds name) ≡ ds name
    = λ t. elim t as (λ t. bytes_eq other name ≡ t → (if t then d else ds name) ≡ ds name) [
      | true ↦ λ q. absurd (apart ((bytes_eq-Decides other name).0 q))
      | false ↦ λ q. refl
    ] in
    case (bytes_eq other name) refl

module _ (form : Form) (name : Name) where
  elsewhere : (s : System) (m : Move) → IsElsewhere name m → (moves form s m).desks name ≡ s.desks name
  elsewhere s (Serves e) h = refl
  elsewhere s (Commits other) h = refl
  elsewhere s (Sends other settings) h = refl
  elsewhere s (Hears other settings which reply vs) h = refl
  elsewhere s (Breaks other state question) h = refl
  elsewhere s (Posts other which e) h = other_desk s.desks other _ name h
  elsewhere s (Adds_letter other) h = other_desk s.desks other _ name h
  elsewhere s (Sends_ack other) h = refl
  elsewhere s (Settles other which) h = other_desk s.desks other _ name h
  elsewhere s (Restarts other settings torn ids before) h = other_desk s.desks other _ name h

  -- the same of two systems with the same queue
  at_its : (s t : System) (other : Name) (change : Desk → Desk) → other ≡ name → s.desks name ≡ t.desks name
      → with_one s.desks other (change (s.desks other)) name ≡ with_one t.desks other (change (t.desks other)) name
  at_its s t other change is same =
      let P : Name → Type 0 =
      λ n. with_one s.desks n (change (s.desks n)) name ≡ with_one t.desks n (change (t.desks n)) name in
      subst P (sym is) (at_one s.desks name (change (s.desks name)) ∙ ap change same
      ∙ sym (at_one t.desks name (change (t.desks name))))

  same_desk : (s t : System) (m : Move) → IsOfDesk name m → s.desks name ≡ t.desks name
      → (moves form s m).desks name ≡ (moves form t m).desks name
  same_desk s t (Serves e) h same = absurd h
  same_desk s t (Commits other) h same = absurd h
  same_desk s t (Sends other settings) h same = absurd h
  same_desk s t (Hears other settings which reply vs) h same = absurd h
  same_desk s t (Breaks other state question) h same = absurd h
  same_desk s t (Posts other which e) h same =
      at_its s t other (λ (d : Desk). record d { waiting = d.waiting ++ e ∷ [] }) h same
  same_desk s t (Adds_letter other) h same = at_its s t other with_letter h same
  same_desk s t (Sends_ack other) h same = same
  same_desk s t (Settles other which) h same = at_its s t other without_first h same
  same_desk s t (Restarts other settings torn ids before) h same = absurd h

  pub same_desks : (own ms : List Move) (s t : System) → AreOfDesk name own → IsMixed name own ms
      → s.desks name ≡ t.desks name → (run form ms s).desks name ≡ (run form own t).desks name
  same_desks [] [] s t of_it mixed same = same
  same_desks (o ∷ own) [] s t of_it mixed same = absurd mixed
  same_desks [] (m ∷ ms) s t of_it mixed same =
      same_desks [] ms (moves form s m) t of_it mixed.1 (elsewhere s m mixed.0 ∙ same)
  same_desks (o ∷ own) (m ∷ ms) s t of_it (inl h) same =
      same_desks own ms (moves form s m) (moves form t o) of_it.1 h.1
      (ap (λ x. (moves form s x).desks name) h.0 ∙ same_desk s t o of_it.0 same)
  same_desks (o ∷ own) (m ∷ ms) s t of_it (inr h) same =
      same_desks (o ∷ own) ms (moves form s m) t of_it h.1 (elsewhere s m h.0 ∙ same)

pub others_leave_the_desk : OthersLeaveTheDesk
others_leave_the_desk form name own ms s of_it mixed = same_desks form name own ms s s of_it mixed refl
