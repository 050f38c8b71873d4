-- Pending entries are given to another consumer, one after the other.
use Rattle.std.specs.Global.{Vec}
use Rattle.std.proofs.Common.{◌≡◌, ◌<◌, ◌+◌, ◌++◌, ℕ, zero, suc, Bool, true, false, List, [], ◌∷◌, map, take, length, get_or, set, subst, refl, sym, ap, ◌∙◌, inl, inr, arith}
use Rattle.std.proofs.Common.{Result, Ok, Err, OnOk, OnErr}
use mathlib.Core.Bool.{true≢false}
use Rattle.std.proofs.lemmas.Bool.{cases_Bool, cases_lt}
use Rattle.std.proofs.lemmas.List.{get_or-map, get_or_default, length-map, map-append, take_more}
use Rattle.std.specs.Prelude.{◌==◌, ◌⊎◌, if◌then◌else◌}
use Rattle.std.specs.List.{AllByRecursion, Contains}
use Rattle.std.specs.Ordering.{is_eq}
use Rattle.std.specs.declared.cmp.Ordering.TheVariants.{Less, Greater}
use Rattle.server_store.specs.Consumers.{IsSeen}
use Rattle.server_store.specs.Laws.{IsInOrder}
use Rattle.server_store.specs.Order.{IsAscending, IsGapFor, IsNowhere, id_order}
use Rattle.server_store.specs.Pending.{IsGiven, with_less, with_more}
use Rattle.server_store.specs.declared.entry_id.EntryId.{EntryId}
use Rattle.server_store.specs.declared.group.Consumer.{Consumer}
use Rattle.server_store.specs.declared.group.Group.{Group}
use Rattle.server_store.specs.declared.group.Pending.{Pending}
use Rattle.server_commands.specs.Acknowledging.{names_of}
use Rattle.server_commands.specs.Claiming.{IsTakenOver, TakesOver, after_claim, ids_of, is_among, taken_over}
use Rattle.server_commands.proofs.ClaimLemmas.{Rises, all_at, apart_down, apart_up, equal, rises_of}
use Rattle.server_commands.proofs.ClaimEventLemmas.{after_id, ascends_after}

-- ---- names

abbrev named_as : Consumer → ℕ × List ℕ
named_as c = (c.number, c.name.items)

named_more : (number : ℕ) (c : Consumer) → named_as (with_more number c) ≡ named_as c
named_more number c = elim (cases_Bool (c.number == number)) [ inl t ↦ rw t refl | inr f ↦ rw f refl ]

named_less : (number : ℕ) (c : Consumer) → named_as (with_less number c) ≡ named_as c
named_less number c = elim (cases_Bool (c.number == number)) [ inl t ↦ rw t refl | inr f ↦ rw f refl ]

names_same : (f : Consumer → Consumer) → ((c : Consumer) → named_as (f c) ≡ named_as c)
    → (cs : List Consumer) → names_of (map f cs) ≡ names_of cs
names_same f same [] = refl
names_same f same (c ∷ cs) =
    ap (λ (n : ℕ × List ℕ). n ∷ names_of (map f cs)) (same c)
    ∙ ap (λ (ns : List (ℕ × List ℕ)). named_as c ∷ ns) (names_same f same cs)

given_names : (q : Pending) (old new : Group) → IsGiven q old new → names_of new.consumers.items ≡ names_of old.consumers.items
given_names q old new (inl again) =
    ap names_of again.counts
    ∙ names_same (with_more q.consumer) (named_more q.consumer) (map (with_less again.was.consumer) old.consumers.items)
    ∙ names_same (with_less again.was.consumer) (named_less again.was.consumer) old.consumers.items
given_names q old new (inr more) = ap names_of more.counts ∙ names_same (with_more q.consumer) (named_more q.consumer) old.consumers.items

pub names_stay : {E : Type 0} (r : Result Unit E) (q : Pending) (old new : Group) → OnOk r (IsGiven q old new)
    → OnErr r (new.consumers ≡ old.consumers) → names_of new.consumers.items ≡ names_of old.consumers.items
names_stay (Ok u) q old new given same = given_names q old new given
names_stay (Err e) q old new given same = ap (λ (cs : Vec Consumer). names_of cs.items) same

-- -- one more is given

module _ (number now : ℕ) (only_ids : Bool) where
  abbrev After : List EntryId → Pending → Pending
  After ids = after_claim number now only_ids ids

  among_more : (ids : List EntryId) (x id : EntryId) → is_among (ids ++ x ∷ []) id ≡ (if is_eq (id_order id x) then true else is_among ids id)
  among_more [] x id = refl
  among_more (y ∷ ids) x id = elim (cases_Bool (is_eq (id_order id y))) [
    | inl t ↦ rw t (or_else (is_eq (id_order id x)))
    | inr f ↦ rw f (among_more ids x id)
  ]
    where
      or_else : (b : Bool) → true ≡ (if b then true else true)
      or_else true = refl
      or_else false = refl

  after_same : (ids : List EntryId) (p : Pending) → After (ids ++ p.id ∷ []) p ≡ taken_over number now only_ids p
  after_same ids p =
      let yes : is_among (ids ++ p.id ∷ []) p.id ≡ true = among_more ids p.id p.id ∙ rw (equal p.id p.id refl) refl in
      rw yes refl

  after_other : (ids : List EntryId) (x : EntryId) (p : Pending) → is_eq (id_order p.id x) ≡ false → After (ids ++ x ∷ []) p ≡ After ids p
  after_other ids x p differ =
      let same : is_among (ids ++ x ∷ []) p.id ≡ is_among ids p.id = among_more ids x p.id ∙ rw differ refl in
      rw same refl

  others_above : (ids : List EntryId) (x : EntryId) (ps : List Pending) → AllByRecursion (λ q. id_order x q.id ≡ Less) ps
      → map (After (ids ++ x ∷ [])) ps ≡ map (After ids) ps
  others_above ids x [] above = refl
  others_above ids x (p ∷ ps) above =
      rw (after_other ids x p (apart_down x p.id above.0)) (ap (λ (qs : List Pending). After ids p ∷ qs) (others_above ids x ps above.1))

  set_after : (ids : List EntryId) (p : Pending) (ps : List Pending) (k : ℕ) (d : Pending) → Rises ps → k < length ps → get_or ps k d ≡ p
      → set (map (After ids) ps) k (taken_over number now only_ids p) ≡ map (After (ids ++ p.id ∷ [])) ps
  set_after ids p [] k d up lt at = absurd (omega (arith, lt))
  set_after ids p (x ∷ ps) zero d up lt at =
      let above : AllByRecursion (λ q. id_order p.id q.id ≡ Less) ps = rw at at up.0 in
      rw (at, after_same ids p) (ap (λ (qs : List Pending). taken_over number now only_ids p ∷ qs) (sym (others_above ids p.id ps above)))
  set_after ids p (x ∷ ps) (suc k) d up lt at =
      let less : id_order x.id p.id ≡ Less =
      subst (λ (q : Pending). id_order x.id q.id ≡ Less) at (all_at (λ q. id_order x.id q.id ≡ Less) ps up.0 k d (omega (arith, lt))) in
      rw (after_other ids p.id x (apart_up x.id p.id less))
      (ap (λ (qs : List Pending). After ids x ∷ qs) (set_after ids p ps k d up.1 (omega (arith, lt)) at))

  -- two pending entries with the same id are at one index
  pub one_index : (ps : List Pending) (i j : ℕ) (d : Pending) → IsAscending (λ p. p.id) ps → i < length ps → j < length ps
      → (get_or ps i d).id ≡ (get_or ps j d).id → i ≡ j
  one_index ps i j d up in_i in_j same = elim (cases_lt i j) [
    | inl lt ↦ absurd (not_itself (get_or ps j d).id (subst (λ (id : EntryId). id_order id (get_or ps j d).id ≡ Less) same (up i j d lt in_j)))
    | inr ge ↦ elim (cases_lt j i) [
      | inl lt ↦ absurd (not_itself (get_or ps i d).id (subst (λ (id : EntryId). id_order id (get_or ps i d).id ≡ Less) (sym same) (up j i d lt in_i)))
      | inr le ↦ omega arith
    ]
  ]
    where
      not_itself : (a : EntryId) → id_order a a ≡ Less → ⊥
      not_itself a less = absurd (true≢false (sym (equal a a refl) ∙ apart_up a a less))

  module _ (ps : List Pending) (ids : List EntryId) (p : Pending) (between new : Group) (up : IsAscending (λ q. q.id) ps)
      (there : Contains ps p) (is : between.pending.items ≡ map (After ids) ps) where
    abbrev Given : Pending
    Given = taken_over number now only_ids p

    ascends : IsInOrder between
    ascends = rw is (ascends_after (After ids) (after_id number now only_ids ids) ps up)

    inside : there.0 < length between.pending.items
    inside = rw is (omega (arith, there.1, length-map ps (After ids)))

    stands : (get_or between.pending.items there.0 p).id ≡ p.id
    stands = ap (λ (qs : List Pending). (get_or qs there.0 p).id) is
        ∙ ap (λ (q : Pending). q.id) (get_or-map (After ids) ps there.0 p p there.1)
        ∙ after_id number now only_ids ids (get_or ps there.0 p) ∙ ap (λ (q : Pending). q.id) there.2

    regiven : IsGiven Given between new → new.pending.items ≡ map (After (ids ++ p.id ∷ [])) ps
    regiven (inl again) =
        let at : (get_or between.pending.items again.index p).id ≡ p.id =
        ap (λ (q : Pending). q.id) (get_or_default between.pending.items again.index p again.was again.within ∙ again.stood) ∙ again.named in
        let here : again.index ≡ there.0 =
        one_index between.pending.items again.index there.0 p ascends again.within inside (at ∙ sym stands) in
        again.is
        ∙ ap (λ (qs : List Pending). set qs again.index Given) is
        ∙ ap (λ (k : ℕ). set (map (After ids) ps) k Given) here
        ∙ set_after ids p ps there.0 p (rises_of ps up) there.1 there.2
    regiven (inr more) =
        let gap : IsGapFor (λ q. q.id) p.id between.pending.items more.index = more.place ascends in
        absurd (elim (cases_lt there.0 more.index) [
          | inl low ↦ apart (get_or between.pending.items there.0 p).id p.id stands (inl (gap.0 there.0 p (omega (arith, low)) low))
          | inr high ↦ apart (get_or between.pending.items there.0 p).id p.id stands (inr (gap.1 there.0 p high inside))
        ])
      where
        apart : (a b : EntryId) → a ≡ b → ((id_order a b ≡ Less) ⊎ (id_order a b ≡ Greater)) → ⊥
        apart a b is (inl less) = true≢false (sym (equal a b is) ∙ ap is_eq less)
        apart a b is (inr more) = true≢false (sym (equal a b is) ∙ ap is_eq more)

    pub given_more : {E : Type 0} (r : Result Unit E) → OnOk r (IsGiven Given between new)
        → OnErr r (IsAscending (λ q. q.id) between.pending.items → IsNowhere (λ q. q.id) p.id between.pending.items)
        → new.pending.items ≡ map (After (ids ++ p.id ∷ [])) ps
    given_more (Ok u) given none = regiven given
    given_more (Err e) given none = absurd (none ascends there.0 p inside stands)

  ids_more : (cs : List Pending) (i : ℕ) (p : Pending) → i < length cs → ids_of (take (i + 1) cs) ≡ ids_of (take i cs) ++ (get_or cs i p).id ∷ []
  ids_more cs i p lt = ap ids_of (take_more cs i p lt) ∙ map-append (λ (q : Pending). q.id) (take i cs) (get_or cs i p ∷ [])

  -- the next one of those that are claimed
  pub given_next : {E : Type 0} (r : Result Unit E) (cs : List Pending) (i : ℕ) (p : Pending) (ps : List Pending) (between new : Group)
      → i < length cs → IsAscending (λ q. q.id) ps → AllByRecursion (Contains ps) cs
      → between.pending.items ≡ map (After (ids_of (take i cs))) ps
      → OnOk r (IsGiven (taken_over number now only_ids (get_or cs i p)) between new)
      → OnErr r (IsAscending (λ q. q.id) between.pending.items → IsNowhere (λ q. q.id) (get_or cs i p).id between.pending.items)
      → new.pending.items ≡ map (After (ids_of (take (i + 1) cs))) ps
  given_next r cs i p ps between new lt up there is given none =
      given_more ps (ids_of (take i cs)) (get_or cs i p) between new up (all_at (Contains ps) cs there i p lt) is r given none
      ∙ ap (λ (ids : List EntryId). map (After ids) ps) (sym (ids_more cs i p lt))

  pub none_given : (ps : List Pending) → ps ≡ map (After []) ps
  none_given [] = refl
  none_given (p ∷ ps) = ap (λ (qs : List Pending). p ∷ qs) (none_given ps)

-- the consumer is seen and what is claimed is given to it
pub taken_so : (name : List ℕ) (now number : ℕ) (only_ids : Bool) (ids : List EntryId) (old seen new : Group)
    → IsSeen name now number old seen → seen.pending.items ≡ old.pending.items
    → seen ≡ record old { pending = seen.pending; consumers = seen.consumers; next_number = seen.next_number }
    → new.pending.items ≡ map (after_claim number now only_ids ids) seen.pending.items
    → names_of new.consumers.items ≡ names_of seen.consumers.items
    → new ≡ record seen { pending = new.pending; consumers = new.consumers }
    → TakesOver name now only_ids ids old new
taken_so name now number only_ids ids old seen new how same others pending names rest = record {
  number = number;
  seen = seen;
  how = how;
  pending = pending ∙ ap (map (after_claim number now only_ids ids)) same;
  names = names;
  next = ap (λ (g : Group). g.next_number) rest;
  others = rest ∙ ap (λ (g : Group). record g { pending = new.pending; consumers = new.consumers; next_number = seen.next_number }) others
      ∙ ap (λ (n : ℕ). record old { pending = new.pending; consumers = new.consumers; next_number = n }) (sym (ap (λ (g : Group). g.next_number) rest));
}

-- what is claimed is taken over, if there is anything
pub taken_some : (name : List ℕ) (now : ℕ) (only_ids : Bool) (ps : List Pending) (old new : Group) → 0 < length ps
    → TakesOver name now only_ids (ids_of ps) old new → IsTakenOver name now only_ids (ids_of ps) old new
taken_some name now only_ids [] old new some takes = absurd (omega (arith, some))
taken_some name now only_ids (p ∷ ps) old new some takes = takes

pub taken_none : (name : List ℕ) (now : ℕ) (only_ids : Bool) (ps : List Pending) (old new : Group) → length ps ≡ 0
    → new ≡ old → IsTakenOver name now only_ids (ids_of ps) old new
taken_none name now only_ids [] old new none is = is
taken_none name now only_ids (p ∷ ps) old new none is = absurd (omega (arith, none))
