-- Fields and entries that are found one after the other.
use Rattle.std.proofs.Common.{◌≡◌, ◌≤◌, ◌<◌, ◌^◌, ◌+◌, ◌-◌, ◌*◌, ◌/◌, ◌%◌, ◌∙◌, ℕ, suc, List, [], ◌∷◌, ◌++◌, map}
use Rattle.std.proofs.Common.{length, take, drop, Bool, true, false, Some, Ok, refl, sym, ap, arith, append_assoc, append-nil}
use Rattle.std.specs.List.{AllByRecursion}
use Rattle.std.specs.Str.{is_utf8}
use Rattle.std.proofs.lemmas.List.{drop-append-le, take-append-le, length-append, length-drop, take_all}
use Rattle.std.proofs.Math.Seq.{drop-append_seam}
use Rattle.redis_resp.specs.Tree.{Tree, bulk, array, trees}
use Rattle.redis_wire.specs.declared.limits.Limits.{Limits}
use Rattle.redis_wire.specs.declared.kind.GroupKind.TheVariants.{Array}
use Rattle.redis_wire.specs.declared.place.Span.{Span}
use Rattle.redis_wire.specs.Reading.{Read}
use Rattle.redis_wire.specs.Reply.{Answer, value, values}
use Rattle.redis_wire.specs.Group.{many, group_tree}
use Rattle.redis_wire.specs.Level.{group_body_at, value_at}
use Rattle.redis_wire.specs.Place.{text_in, IsTextAt, IsArrayAt, IsNilAt, IsIntAt}
use Rattle.stream_entries.proofs.SkeletonLemmas.{all_append, all_more}
use Rattle.stream_in_place.specs.declared.places.FieldPlace.{FieldPlace}
use Rattle.stream_in_place.specs.declared.places.EntryPlace.{EntryPlace}
use Rattle.stream_in_place.specs.Held.{Held}
use Rattle.stream_in_place.specs.Sent.{Pairs, SentEntry, members_of, row_tree}
use Rattle.stream_in_place.specs.Placed.{field_in, fields_if, delivery_if, own_fields, entry_in, IsField, IsEntry}
use Rattle.stream_in_place.specs.Added.{FieldsAdded, OwnAdded, delivery_count, row_count, IsDeliveryAt, EntryAdded}
use Rattle.stream_in_place.specs.Added.{IsForm, EntriesAdded, IsFieldAt}
use Rattle.stream_in_place.proofs.ManyLemmas.{no_more, many_first, many_append}

-- the elements of an array
pub array_of : (inner : List ℕ → Read Answer) (n : ℕ) (bytes : List ℕ) (ts : List Tree) (after : List ℕ)
    → many inner n bytes ≡ Ok (values ts, after)
    → group_body_at inner Array (Some n) bytes ≡ Ok (value (array (trees ts)), after)
unfolding group_body_at group_tree
array_of inner n bytes ts after h = rw h refl

-- ---- fields

members_more : (ps : Pairs) (p : List ℕ × List ℕ)
    → members_of (ps ++ p ∷ []) ≡ members_of ps ++ bulk p.0 ∷ bulk p.1 ∷ []
members_more [] p = refl
members_more (q ∷ ps) p = ap (λ (ts : List Tree). bulk q.0 ∷ bulk q.1 ∷ ts) (members_more ps p)

pub map_more : {A B : Type 0} (f : A → B) (xs : List A) (x : A) → map f (xs ++ x ∷ []) ≡ map f xs ++ f x ∷ []
map_more f [] x = refl
map_more f (y ∷ xs) x = ap (λ ys. f y ∷ ys) (map_more f xs x)

abbrev pub with_fields : Held → List FieldPlace → Held
with_fields h fs = record { streams = h.streams; entries = h.entries; fields = fs }

module _ (limits : Limits) (bytes : List ℕ) (at : ℕ) (old : Held) where
  pub fields_start : at ≤ length bytes → FieldsAdded limits bytes at 0 at old old
  fields_start within = record {
    grown = record { more = []; is = ap (with_fields old) (sym (append-nil old.fields)); each = tt };
    end = within;
    reads = λ d. no_more (value_at limits (suc d)) (drop at bytes);
  }

  pub fields_more : (i behind after : ℕ) (f : FieldPlace) (fields new : Held)
      → FieldsAdded limits bytes at i behind old fields → IsFieldAt limits bytes behind f after
      → new ≡ with_fields fields (fields.fields ++ f ∷ []) → FieldsAdded limits bytes at (i + 1) after old new
  fields_more i behind after f fields new h field pushed =
      let middle = field.middle in
      let name = field.name in
      let val = field.value in
      let g = h.grown in
      record {
        grown = record {
          more = g.more ++ f ∷ [];
          is = pushed ∙ ap (λ (x : Held). with_fields x (x.fields ++ f ∷ [])) g.is
              ∙ ap (with_fields old) (append_assoc old.fields g.more (f ∷ []));
          each = all_append (IsField bytes) g.more (f ∷ []) g.each
              (record { name = name.within; value = val.within }, tt);
        };
        end = val.end;
        reads = λ d.
            let inner = value_at limits (suc d) in
            let last = many_first inner 0 (drop middle bytes) (bulk (text_in bytes f.value)) (drop after bytes) []
            (drop after bytes) (val.reads d) (no_more inner (drop after bytes)) in
            let two = many_first inner 1 (drop behind bytes) (bulk (text_in bytes f.name)) (drop middle bytes)
            (bulk (text_in bytes f.value) ∷ []) (drop after bytes) (name.reads d) last in
            let all = many_append inner (2 * i) 2 (drop at bytes) (members_of (map (field_in bytes) g.more))
            (drop behind bytes) (bulk (text_in bytes f.name) ∷ bulk (text_in bytes f.value) ∷ []) (drop after bytes)
            (h.reads d) two in
            let n : 2 * (i + 1) ≡ 2 * i + 2 = omega arith in
            let same = ap members_of (map_more (field_in bytes) g.more f)
            ∙ members_more (map (field_in bytes) g.more) (field_in bytes f) in
            rw (n, same) all;
      }

-- ---- the fields of an entry, or nil

module _ (limits : Limits) (bytes : List ℕ) (at : ℕ) (old : Held) where
  pub own_nil : (after : ℕ) → IsNilAt limits bytes at after → OwnAdded limits bytes at true after old old
  own_nil after h = record {
    grown = record { more = []; is = ap (with_fields old) (sym (append-nil old.fields)); each = tt };
    end = h.end;
    reads = λ d. h.reads (suc d);
  }

  pub own_array : (members head after : ℕ) (new : Held) → IsArrayAt limits bytes at members head → members % 2 ≡ 0
      → FieldsAdded limits bytes head (members / 2) after old new → OwnAdded limits bytes at false after old new
  own_array members head after new h even added = record {
    grown = added.grown;
    end = added.end;
    reads = λ d.
        let n : 2 * (members / 2) ≡ members = omega (arith, even) in
        h.reads (suc d) ∙ array_of (value_at limits (suc d)) members (drop head bytes) _ (drop after bytes)
        (rw n at (added.reads d));
  }

-- ---- when it was last delivered, and how many times

module _ (limits : Limits) (bytes : List ℕ) (at : ℕ) where
  pub no_delivery : at ≤ length bytes → IsDeliveryAt limits bytes at false 0 0 at
  no_delivery within = record {
    elapsed_fits = omega arith;
    count_fits = omega arith;
    end = within;
    reads = λ d. no_more (value_at limits (suc d)) (drop at bytes);
  }

  pub delivery_is : (elapsed count behind after : ℕ) → elapsed < 2 ^ 64 → count < 2 ^ 64
      → IsIntAt limits bytes at elapsed behind
      → IsIntAt limits bytes behind count after → IsDeliveryAt limits bytes at true elapsed count after
  delivery_is elapsed count behind after short few first second = record {
    elapsed_fits = short;
    count_fits = few;
    end = second.end;
    reads = λ d.
        let inner = value_at limits (suc d) in
        many_first inner 1 (drop at bytes) _ (drop behind bytes) _ (drop after bytes) (first.reads d)
        (many_first inner 0 (drop behind bytes) _ (drop after bytes) [] (drop after bytes) (second.reads d)
        (no_more inner (drop after bytes)));
  }

-- ---- an entry

own_new : (old more new : List FieldPlace) → new ≡ old ++ more
    → take (length new - length old) (drop (length old) new) ≡ more
own_new old more new is =
    let n : length new - length old ≡ length more = omega (arith, ap length is, length-append old more) in
    rw (n, is, drop-append_seam old more) (take_all (length more) more (omega arith))

module _ (limits : Limits) (bytes : List ℕ) (at behind middle third after : ℕ) (claim : Bool) (id : Span)
    (old new : Held) (deleted : Bool) (elapsed count : ℕ)
    (from to : ℕ) (from_is : from ≡ length old.fields) (to_is : to ≡ length new.fields)
    (row : IsArrayAt limits bytes at (row_count claim) behind) (name : IsTextAt limits bytes behind id middle)
    (text : is_utf8 (text_in bytes id) ≡ true)
    (own : OwnAdded limits bytes middle deleted third old new)
    (delivery : IsDeliveryAt limits bytes third claim elapsed count after) where
  row_reads : (d : ℕ) → value_at limits (suc (suc (suc d))) (drop at bytes)
      ≡ Ok (
        value
            (row_tree
            (record {
              id = text_in bytes id;
              fields = fields_if deleted (map (field_in bytes) own.grown.more);
              delivery = delivery_if claim elapsed count;
            })),
        drop after bytes,
      )
  row_reads d =
      let inner = value_at limits (suc (suc d)) in
      let two = many_first inner (delivery_count claim) (drop middle bytes) _ (drop third bytes) _ (drop after bytes)
      (own.reads d) (delivery.reads (suc d)) in
      row.reads (suc (suc d)) ∙ array_of inner (row_count claim) (drop behind bytes) _ (drop after bytes)
      (many_first inner (suc (delivery_count claim)) (drop behind bytes) _ (drop middle bytes) _ (drop after bytes)
      (name.reads (suc d)) two)

  pub entry_added : EntryAdded limits bytes at claim after
      (record {
        id = id;
        from = from;
        to = to;
        deleted = deleted;
        delivered = claim;
        elapsed = elapsed;
        count = count;
      }) old new
  entry_added =
      let is = ap (λ (h : Held). h.fields) own.grown.is in
      record {
        grown = own.grown;
        entry =
            record {
              id = name.within;
              is_text = text;
              order = omega (arith, from_is, to_is, ap length is, length-append old.fields own.grown.more);
              within = omega arith;
            };
        form = record { delivered = refl; elapsed = delivery.elapsed_fits; count = delivery.count_fits };
        end = delivery.end;
        reads = λ d. rw (from_is, to_is, own_new old.fields own.grown.more new.fields is) (row_reads d);
      }

-- ---- entries

-- more fields after them change no entry
pub own_kept : (fields more : List FieldPlace) (e : EntryPlace) → e.from ≤ e.to → e.to ≤ length fields
    → own_fields (fields ++ more) e ≡ own_fields fields e
own_kept fields more e order within =
    let n : e.to - e.from ≤ length (drop e.from fields) = omega (arith, length-drop e.from fields) in
    rw (drop-append-le e.from fields more (omega arith)) (take-append-le (e.to - e.from) (drop e.from fields) more n)

pub entry_kept : (bytes : List ℕ) (fields more : List FieldPlace) (e : EntryPlace) → IsEntry bytes (length fields) e
    → entry_in bytes (fields ++ more) e ≡ entry_in bytes fields e
entry_kept bytes fields more e h = ap
    (λ (fs : List FieldPlace). record {
      id = text_in bytes e.id;
      fields = fields_if e.deleted (map (field_in bytes) fs);
      delivery = delivery_if e.delivered e.elapsed e.count;
    }) (own_kept fields more e h.order h.within)

module _ (bytes : List ℕ) (fields more : List FieldPlace) where
  rows_kept : (es : List EntryPlace) → AllByRecursion (IsEntry bytes (length fields)) es
      → map (λ e. row_tree (entry_in bytes (fields ++ more) e)) es ≡ map (λ e. row_tree (entry_in bytes fields e)) es
  rows_kept [] h = refl
  rows_kept (e ∷ es) h =
      ap (λ (x : SentEntry). row_tree x ∷ map (λ e. row_tree (entry_in bytes (fields ++ more) e)) es)
      (entry_kept bytes fields more e h.0)
      ∙ ap (λ (ts : List Tree). row_tree (entry_in bytes fields e) ∷ ts) (rows_kept es h.1)

pub more_within : (bytes : List ℕ) (m n : ℕ) → m ≤ n → (e : EntryPlace) → IsEntry bytes m e → IsEntry bytes n e
more_within bytes m n le e h =
    record { id = h.id; is_text = h.is_text; order = h.order; within = omega (arith, h.within, le) }

abbrev pub with_entries : Held → List EntryPlace → List FieldPlace → Held
with_entries h es fs = record { streams = h.streams; entries = es; fields = fs }

module _ (limits : Limits) (bytes : List ℕ) (at : ℕ) (claim : Bool) (old : Held) where
  pub entries_start : at ≤ length bytes → EntriesAdded limits bytes at claim 0 at old old
  entries_start within = record {
    grown =
        record {
          more = [];
          more_fields = [];
          is = ap (λ (es : List EntryPlace). with_entries old es old.fields)
              (sym (append-nil old.entries)) ∙ ap (with_entries old (old.entries ++ [])) (sym (append-nil old.fields));
          entries = tt;
          forms = tt;
          fields = tt;
        };
    end = within;
    reads = λ d. no_more (value_at limits (suc (suc (suc d)))) (drop at bytes);
  }

  pub entries_more : (i behind after : ℕ) (e : EntryPlace) (before found new : Held)
      → EntriesAdded limits bytes at claim i behind old before
      → EntryAdded limits bytes behind claim after e before found → new
      ≡ with_entries found (found.entries ++ e ∷ []) found.fields
      → EntriesAdded limits bytes at claim (i + 1) after old new
  entries_more i behind after e before found new h x pushed =
      let g = h.grown in
      let fs = x.grown.more in
      let found_fields : found.fields ≡ before.fields ++ fs = ap (λ (y : Held). y.fields) x.grown.is in
      let new_fields : new.fields ≡ before.fields ++ fs = ap (λ (y : Held). y.fields) pushed ∙ found_fields in
      let all_fields : before.fields ++ fs ≡ old.fields ++ (g.more_fields ++ fs) =
      ap (λ (y : Held). y.fields ++ fs) g.is ∙ append_assoc old.fields g.more_fields fs in
      let all_entries : before.entries ++ e ∷ [] ≡ old.entries ++ (g.more ++ e ∷ []) =
      ap (λ (y : Held). y.entries ++ e ∷ []) g.is ∙ append_assoc old.entries g.more (e ∷ []) in
      let made : new ≡ with_entries before (before.entries ++ e ∷ []) (before.fields ++ fs) =
      pushed ∙ ap (λ (y : Held). with_entries y (y.entries ++ e ∷ []) y.fields) x.grown.is in
      let old_streams : with_entries before (before.entries ++ e ∷ []) (before.fields ++ fs)
      ≡ with_entries old (before.entries ++ e ∷ []) (before.fields ++ fs) =
      ap (λ (y : Held). with_entries y (before.entries ++ e ∷ []) (before.fields ++ fs)) g.is in
      let grows : length before.fields ≤ length new.fields =
      omega (arith, ap length new_fields, length-append before.fields fs) in
      let same : length found.fields ≡ length new.fields = ap length (found_fields ∙ sym new_fields) in
      record {
        grown = record {
          more = g.more ++ e ∷ [];
          more_fields = g.more_fields ++ fs;
          is = made ∙ old_streams ∙ ap (λ (es : List EntryPlace). with_entries old es (before.fields ++ fs)) all_entries
              ∙ ap (with_entries old (old.entries ++ (g.more ++ e ∷ []))) all_fields;
          entries = all_append (IsEntry bytes (length new.fields)) g.more (e ∷ [])
              (all_more (IsEntry bytes (length before.fields)) (IsEntry bytes (length new.fields))
              (more_within bytes (length before.fields) (length new.fields) grows) g.more g.entries)
              (more_within bytes (length found.fields) (length new.fields) (omega (arith, same)) e x.entry, tt);
          forms = all_append (IsForm claim) g.more (e ∷ []) g.forms (x.form, tt);
          fields = all_append (IsField bytes) g.more_fields fs g.fields x.grown.each;
        };
        end = x.end;
        reads = λ d.
            let row : List FieldPlace → EntryPlace → Tree = λ ps r. row_tree (entry_in bytes ps r) in
            let inner = value_at limits (suc (suc (suc d))) in
            let one = many_first inner 0 (drop behind bytes) (row found.fields e) (drop after bytes) []
            (drop after bytes) (x.reads d) (no_more inner (drop after bytes)) in
            let b = many_append inner i 1 (drop at bytes) (map (row before.fields) g.more) (drop behind bytes)
            (row found.fields e ∷ []) (drop after bytes) (h.reads d) one in
            let kept : map (row new.fields) g.more ≡ map (row before.fields) g.more =
            ap (λ (ps : List FieldPlace). map (row ps) g.more) new_fields
            ∙ rows_kept bytes before.fields fs g.more g.entries in
            let last : row new.fields e ≡ row found.fields e =
            ap (λ (ps : List FieldPlace). row ps e) (new_fields ∙ sym found_fields) in
            let all : map (row new.fields) (g.more ++ e ∷ []) ≡ map (row before.fields) g.more ++ row found.fields e
            ∷ [] = map_more (row new.fields) g.more e ∙ ap (λ (ts : List Tree). ts ++ row new.fields e ∷ []) kept
            ∙ ap (λ (t : Tree). map (row before.fields) g.more ++ t ∷ []) last in
            rw all b;
      }
