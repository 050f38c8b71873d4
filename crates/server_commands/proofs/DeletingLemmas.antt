-- One entry after the other is deleted.
use Rattle.std.proofs.Common.{◌≡◌, ◌≢◌, ℕ, zero, suc, ◌+◌, ◌-◌, ◌<◌, ◌≤◌, List, [], ◌∷◌, ◌++◌, Bool, true, false, length, get_or, set, drop, take, inl, refl, sym, ap, subst, ◌∙◌, arith}
use Rattle.std.proofs.lemmas.Bool.Decides.{nat_tests}
use Rattle.std.proofs.lemmas.List.{take_more}
use Rattle.std.proofs.lemmas.List.Edits.{length-remove}
use Rattle.std.specs.Prelude.{not}
use Rattle.std.specs.Bool.{OnTrue, OnFalse}
use Rattle.std.specs.Global.{Vec}
use Rattle.std.specs.List.{HoldsAt, remove}
use Rattle.std.specs.Ordering.{is_eq}
use Rattle.std.specs.declared.cmp.Ordering.{Ordering}
use Rattle.std.specs.declared.cmp.Ordering.TheVariants.{Less, Equal, Greater}
use Rattle.server_store.specs.Laws.{AreInOrder as EntriesAscend}
use Rattle.server_store.specs.Order.{id_order, IsNowhere}
use Rattle.server_store.specs.Stream.{IsWithoutOne}
use Rattle.server_store.specs.declared.entry_id.EntryId.{EntryId}
use Rattle.server_store.specs.declared.stream.Entry.{Entry}
use Rattle.server_store.specs.declared.stream.Stream.{Stream}
use Rattle.server_commands.specs.Acknowledging.{count_answer}
use Rattle.server_commands.specs.IdWords.{AreRead}
use Rattle.server_commands.specs.Deleting.{AreDeleted, DeletesIn, entries_without, entries_without_all}
use Rattle.server_commands.proofs.DeleteLemmas.{ascend_filter}

same : (a b : EntryId) → id_order a b ≡ Equal → a ≡ b
same a b equal = grind (arith, nat_tests)

not_itself : (a : EntryId) → id_order a a ≡ Less → ⊥
not_itself a less = grind (arith, nat_tests)

not_equal : (o : Ordering) → (o ≡ Equal → ⊥) → is_eq o ≡ false
not_equal Less f = refl
not_equal Equal f = absurd (f refl)
not_equal Greater f = refl

other : (a b : EntryId) → a ≢ b → is_eq (id_order a b) ≡ false
other a b differ = not_equal (id_order a b) (λ e. differ (same a b e))

equal : (a b : EntryId) → a ≡ b → is_eq (id_order a b) ≡ true
equal a b is = grind (arith, nat_tests, is)

module _ (id : EntryId) where
  -- none has the id
  without_none : (xs : List Entry) → IsNowhere (λ e. e.id) id xs → entries_without id xs ≡ xs
  without_none [] nowhere = refl
  without_none (x ∷ xs) nowhere =
      rw (other x.id id (nowhere 0 x (omega arith)), without_none xs (λ k d lt. nowhere (suc k) d (omega (arith, lt)))) refl

  -- one has it
  without_one : (xs : List Entry) (i : ℕ) → i < length xs → ((d : Entry) → (get_or xs i d).id ≡ id) → EntriesAscend xs
      → remove xs i ≡ entries_without id xs
  without_one [] i lt named up = absurd (omega (arith, lt))
  without_one (x ∷ xs) zero lt named up =
      let after : IsNowhere (λ e. e.id) id xs =
      λ k d bound is. not_itself id (rw (named x, is) at (up 0 (suc k) d (omega arith) (omega (arith, bound)))) in
      rw (equal x.id id (named x)) (sym (without_none xs after))
  without_one (x ∷ xs) (suc i) lt named up =
      let below : id_order x.id id ≡ Less = rw (named x) at (up 0 (suc i) x (omega arith) lt) in
      let differs : is_eq (id_order x.id id) ≡ false = rw below refl in
      let rest = without_one xs i (omega (arith, lt)) (λ d. named d)
      (λ a b d less bound. up (suc a) (suc b) d (omega (arith, less)) (omega (arith, bound))) in
      rw differs (ap (λ (ys : List Entry). x ∷ ys) rest)

without_more : (ids : List EntryId) (id : EntryId) (es : List Entry)
    → entries_without_all (ids ++ id ∷ []) es ≡ entries_without id (entries_without_all ids es)
without_more [] id es = refl
without_more (x ∷ ids) id es = without_more ids id (entries_without x es)

module _ (id : EntryId) (old new : Stream) where
  removed : (r : Bool) → OnTrue r (IsWithoutOne id old.entries.items new.entries.items) → OnFalse r (new ≡ old)
      → OnFalse r (EntriesAscend old.entries.items → IsNowhere (λ e. e.id) id old.entries.items)
      → EntriesAscend old.entries.items → new.entries.items ≡ entries_without id old.entries.items
  removed true gone is none up = gone.others ∙ without_one id old.entries.items gone.index gone.within gone.named up
  removed false gone is none up =
      ap (λ (s : Stream). s.entries.items) is ∙ sym (without_none id old.entries.items (none up))

  fewer : (r : Bool) → OnTrue r (IsWithoutOne id old.entries.items new.entries.items) → OnFalse r (new ≡ old)
      → length new.entries.items ≤ length old.entries.items
  fewer true gone is =
      let shorter = length-remove old.entries.items gone.index gone.within in
      rw gone.others (omega (arith, shorter))
  fewer false gone is = rw is (omega arith)

-- one id more
pub deleted_more : (ids : List EntryId) (i count : ℕ) (old between new : Stream) (id : EntryId) (r : Bool)
    → i < length ids → AreDeleted (take i ids) count old between
    → OnTrue r (IsWithoutOne (get_or ids i id) between.entries.items new.entries.items) → OnFalse r (new ≡ between)
    → OnFalse r (EntriesAscend between.entries.items → IsNowhere (λ e. e.id) (get_or ids i id) between.entries.items)
    → new ≡ record between { entries = new.entries; nodes = new.nodes; gone = new.gone; max_deleted_id = new.max_deleted_id }
    → AreDeleted (take (i + 1) ids) (length old.entries.items - length new.entries.items) old new
deleted_more ids i count old between new id r lt so_far gone is none others =
    let grown = take_more ids i id lt in
    let less = fewer (get_or ids i id) between new r gone is in
    let step = removed (get_or ids i id) between new r gone is none in
    record {
      entries = λ up.
          step (so_far.order up)
          ∙ ap (entries_without (get_or ids i id)) (so_far.entries up)
          ∙ sym (without_more (take i ids) (get_or ids i id) old.entries.items)
          ∙ ap (λ xs. entries_without_all xs old.entries.items) (sym grown);
      order = λ up.
          subst EntriesAscend (sym (step (so_far.order up)))
          (ascend_filter (λ e. not (is_eq (id_order e.id (get_or ids i id)))) between.entries.items (so_far.order up));
      counted = omega (arith, less, so_far.counted);
      others = others ∙ ap (λ (s : Stream). record s { entries = new.entries; nodes = new.nodes; gone = new.gone; max_deleted_id = new.max_deleted_id }) so_far.others;
    }

-- the stream among the others
pub deleted_in : (arguments : List (Vec ℕ)) (key : List ℕ) (ids : List EntryId) (count : ℕ) (streams : List Stream)
    (index : ℕ) (was is : Stream) → HoldsAt (λ word. word.items ≡ key) arguments 0 → AreRead (drop 1 arguments) ids
    → index < length streams → HoldsAt (λ s. s.key.items ≡ key) streams index → was ≡ get_or streams index was
    → AreDeleted ids count was is → DeletesIn arguments (count_answer count) streams (set streams index is)
deleted_in arguments key ids count streams index was is keyed read within at stands how = inl (record {
  key = key;
  ids = ids;
  count = count;
  keyed = keyed;
  read = read;
  how = record {
    index = index;
    was = was;
    is = is;
    within = within;
    stood = sym stands;
    named = ap (λ (s : Stream). s.key.items) stands ∙ at was;
    how = how;
    changed = refl;
  };
  answered = refl;
})
