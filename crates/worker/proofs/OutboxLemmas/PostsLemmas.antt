-- Lemmas on a handler whose entries leave commands in an outbox.
use Rattle.std.proofs.Common.{◌≡◌, ◌∙◌, refl, sym, ap, ℕ, Bool, true, false, List, [], ◌∷◌, ◌++◌, if◌then◌else◌}
use Rattle.std.proofs.Common.{Option, Some, None}
use Rattle.model_server.specs.Group.Worker.{Verdict, entries_in, told_in}
use Rattle.stream_in_place.specs.Sent.{Pairs}
use Rattle.worker.specs.Answers.{Heard, told, no_group, group_made, group_after, hears}
use Rattle.worker.specs.Handling.{with_all}
use Rattle.worker.specs.Machine.{commits}
use Rattle.worker.specs.Session.{Standing, asking, having_heard}
use Rattle.worker.specs.declared.state.GroupState.{GroupState}
use Rattle.worker.specs.Outbox.Posts.{NothingIsEarly, Posts, committed_after, posted_too, posts_by}

none_behind : (xs ys : List (List ℕ)) → xs ++ ys ≡ [] → ys ≡ []
none_behind [] ys q = q
none_behind (x ∷ xs) ys q = absurd (let z : x ∷ (xs ++ ys) ≡ [] = q in cc)

module _ {H : Type 0} (vH : H → List ℕ × Pairs → Verdict → H) (cH : H → H)
    (posts : H → List ℕ × Pairs → Verdict → List (List ℕ)) where
  -- entries make nothing early
  early_stays : (r : Posts H) (ts : List ((List ℕ × Pairs) × Verdict))
      → (with_all (posted_too vH posts) r ts).early ≡ r.early
  early_stays r [] = refl
  early_stays r (t ∷ ts) = early_stays (posted_too vH posts r t.0 t.1) ts

  heard_early : (w : Standing (Posts H)) (g : GroupState) (o : Option Heard) (vs : List Verdict)
      → (having_heard (posted_too vH posts) w g o vs).history.early ≡ w.history.early
  heard_early w g None vs = refl
  heard_early w g (Some (told answer)) vs = early_stays w.history (told_in (entries_in answer) vs)
  heard_early w g (Some no_group) vs = refl
  heard_early w g (Some group_made) vs = refl

  -- a commit makes early what is unsent
  commit_early : (r : Posts H) (b : Bool) → b ≡ true → (if b then committed_after cH r else r).early ≡ [] → r.unsent ≡ []
  commit_early r true q none = none_behind r.early r.unsent none
  commit_early r false q none = absurd (let z : false ≡ true = q in cc)

  pub nothing_is_early : NothingIsEarly vH cH posts
  nothing_is_early settings old new w x asked p turned none does =
      let a : Standing (Posts H) = asking (committed_after cH) settings w in
      commit_early w.history (commits w.machine) does
      (sym (heard_early a (group_after settings a.group a.asked turned.turn.answer)
      (hears settings a.asked turned.turn.answer) turned.turn.verdicts)
      ∙ (ap (λ (s : Standing (Posts H)). s.history.early) (sym turned.stands) ∙ none))

-- what there is of an outbox, by its two parts
pub posts_are : {H : Type 0} (a b : H) (xs ys : List (List ℕ)) → a ≡ b → xs ≡ ys → posts_by a xs ≡ posts_by b ys
posts_are a b xs ys p q = ap (λ h. posts_by h xs) p ∙ ap (posts_by b) q

-- after a commit, of an outbox that was empty
pub committed_is : {H : Type 0} (cH : H → H) (a b : H) (xs ys : List (List ℕ)) → a ≡ cH b → xs ≡ ys → ys ≡ []
    → posts_by a xs ≡ committed_after cH (posts_by b ys)
committed_is cH a b xs ys p q none =
    posts_are a (cH b) xs ys p q
    ∙ ap (λ (zs : List (List ℕ)). record { work = cH b; unsent = ys; early = zs }) (sym none)
