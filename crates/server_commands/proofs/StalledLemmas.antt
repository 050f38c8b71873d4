-- What a claim of stalled entries finds.
use Rattle.std.proofs.Common.{◌≡◌, ◌≢◌, ℕ, zero, suc, ◌-◌, ◌<◌, Bool, true, false, List, [], ◌∷◌, ◌++◌, length, get_or, refl, sym, ap, ◌∙◌, append_assoc, append-nil, arith, Bor}
use Rattle.std.proofs.Common.{Option, Some, None}
use mathlib.Core.Bool.{true≢false}
use Rattle.std.proofs.lemmas.Bool.Decides.{nat_tests}
use Rattle.std.specs.Prelude.{◌==◌, ◌||◌, nat_le, IfNone, IfSome, is_none}
use Rattle.std.specs.List.{Contains}
use Rattle.std.specs.Ordering.{is_eq}
use Rattle.std.specs.declared.cmp.Ordering.{Ordering}
use Rattle.std.specs.declared.cmp.Ordering.TheVariants.{Less, Equal, Greater}
use Rattle.server_store.specs.Laws.{AreInOrder}
use Rattle.server_store.specs.Order.{id_order, IsNowhere}
use Rattle.server_store.specs.declared.entry_id.EntryId.{EntryId}
use Rattle.server_store.specs.declared.group.Pending.{Pending}
use Rattle.server_store.specs.declared.stream.Entry.{Entry}
use Rattle.server_commands.specs.Stalled.{Found, found_in, has_entry, nothing_until, with_claimed, with_gone}

-- ---- whether an entry is there

same : (a b : EntryId) → id_order a b ≡ Equal → a ≡ b
same a b equal = grind (arith, nat_tests)

not_equal : (o : Ordering) → (o ≡ Equal → ⊥) → is_eq o ≡ false
not_equal Less f = refl
not_equal Equal f = absurd (f refl)
not_equal Greater f = refl

other : (a b : EntryId) → a ≢ b → is_eq (id_order a b) ≡ false
other a b differ = not_equal (id_order a b) (λ e. differ (same a b e))

equal : (a b : EntryId) → a ≡ b → is_eq (id_order a b) ≡ true
equal a b is = grind (arith, nat_tests, is)

or_true : (b : Bool) → (b || true) ≡ true
or_true true = refl
or_true false = refl

pub has_none : (id : EntryId) (es : List Entry) → IsNowhere (λ e. e.id) id es → has_entry id es ≡ false
has_none id [] nowhere = refl
has_none id (e ∷ es) nowhere =
    rw (other e.id id (nowhere 0 e (omega arith)), has_none id es (λ k d lt. nowhere (suc k) d (omega (arith, lt)))) refl

pub has_at : (id : EntryId) (es : List Entry) (k : ℕ) (e : Entry) → k < length es → get_or es k e ≡ e → e.id ≡ id
    → has_entry id es ≡ true
has_at id [] k e lt at is = absurd (omega (arith, lt))
has_at id (x ∷ es) zero e lt at is = rw (equal x.id id (ap (λ (y : Entry). y.id) at ∙ is)) refl
has_at id (x ∷ es) (suc k) e lt at is = rw (has_at id es k e (omega (arith, lt)) at is) (or_true (is_eq (id_order x.id id)))

pub absent : (es : List Entry) (id : EntryId) (r : Option (Bor Entry)) → is_none r ≡ true
    → IfNone r (AreInOrder es → IsNowhere (λ e. e.id) id es) → AreInOrder es → has_entry id es ≡ false
absent es id None e h up = has_none id es (h up)
absent es id (Some x) e h up = absurd (true≢false (sym e))

pub present : (es : List Entry) (id : EntryId) (r : Option (Bor Entry)) → is_none r ≡ false
    → IfSome r (λ e. e.now.id ≡ id) → IfSome r (λ e. Contains es e.now) → has_entry id es ≡ true
present es id None e named there = absurd (true≢false e)
present es id (Some x) e named there = has_at id es there.0 x.now there.1 there.2 named

-- ---- what is found

-- what was found before, ahead of what is found
abbrev pub ahead : List Pending → List EntryId → Found → Found
ahead claimed gone found = record found { claimed = claimed ++ found.claimed; gone = gone ++ found.gone }

abbrev with_ids : Found → List EntryId → Found
with_ids found ids = record found { gone = ids }

abbrev with_taken : Found → List Pending → Found
with_taken found taken = record found { claimed = taken }

module _ (entries : List Entry) (now idle attempts left : ℕ) where
  module _ (p : Pending) (pending rest : List Pending) (claimed : List Pending) (gone : List EntryId) (total : Found)
      (some : (attempts == 0) ≡ false) (room : (left == 0) ≡ false) (is : rest ≡ p ∷ pending)
      (so_far : ahead claimed gone (found_in entries now idle attempts left rest) ≡ total) where
    before : ahead claimed gone (found_in entries now idle attempts left (p ∷ pending)) ≡ total
    before = ap (λ (ps : List Pending). ahead claimed gone (found_in entries now idle attempts left ps)) (sym is) ∙ so_far

    -- one that is gone
    pub goes_gone : (new : List EntryId) → has_entry p.id entries ≡ false → new ≡ gone ++ p.id ∷ []
        → ahead claimed new (found_in entries now idle (attempts - 1) (left - 1) pending) ≡ total
    goes_gone new none grown =
        let found = found_in entries now idle (attempts - 1) (left - 1) pending in
        let step : found_in entries now idle attempts left (p ∷ pending) ≡ with_gone p.id found = rw (some, room, none) refl in
        ap (λ (ids : List EntryId). ahead claimed ids found) grown
        ∙ ap (with_ids (ahead claimed [] found)) (append_assoc gone (p.id ∷ []) found.gone)
        ∙ ap (ahead claimed gone) (sym step)
        ∙ before

    -- one that is taken over
    pub goes_claimed : (new : List Pending) → has_entry p.id entries ≡ true → nat_le idle (now - p.given_at) ≡ true
        → new ≡ claimed ++ p ∷ []
        → ahead new gone (found_in entries now idle (attempts - 1) (left - 1) pending) ≡ total
    goes_claimed new there long grown =
        let found = found_in entries now idle (attempts - 1) (left - 1) pending in
        let step : found_in entries now idle attempts left (p ∷ pending) ≡ with_claimed p found = rw (some, room, there, long) refl in
        ap (λ (ps : List Pending). ahead ps gone found) grown
        ∙ ap (with_taken (ahead [] gone found)) (append_assoc claimed (p ∷ []) found.claimed)
        ∙ ap (ahead claimed gone) (sym step)
        ∙ before

    -- one that stays
    pub goes_past : has_entry p.id entries ≡ true → nat_le idle (now - p.given_at) ≡ false
        → ahead claimed gone (found_in entries now idle (attempts - 1) left pending) ≡ total
    goes_past there short =
        let step : found_in entries now idle attempts left (p ∷ pending) ≡ found_in entries now idle (attempts - 1) left pending =
        rw (some, room, there, short) refl in
        ap (ahead claimed gone) (sym step) ∙ before

  -- no more is pending
  pub ends_empty : (rest : List Pending) → length rest ≡ 0
      → found_in entries now idle attempts left rest ≡ nothing_until (record { milliseconds = 0; sequence = 0 })
  ends_empty [] none = refl
  ends_empty (p ∷ rest) none = absurd (omega (arith, none))

  -- no more is looked at, or taken
  pub ends_at : (p : Pending) (pending rest : List Pending) → rest ≡ p ∷ pending → ((attempts == 0) || (left == 0)) ≡ true
      → found_in entries now idle attempts left rest ≡ nothing_until p.id
  ends_at p pending rest is none = rw (is, none) refl

-- what was found is all
pub told : (claimed : List Pending) (gone : List EntryId) (next : EntryId) (found total : Found) → found ≡ nothing_until next
    → ahead claimed gone found ≡ total → record { claimed = claimed; gone = gone; next = next } ≡ total
told claimed gone next found total ends so_far =
    ap (with_taken (with_ids (nothing_until next) gone)) (sym (append-nil claimed))
    ∙ ap (with_ids (with_taken (nothing_until next) (claimed ++ []))) (sym (append-nil gone))
    ∙ ap (ahead claimed gone) (sym ends)
    ∙ so_far
