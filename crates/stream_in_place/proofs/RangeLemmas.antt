-- Entries that are found are those of a reply.
use Rattle.std.proofs.Common.{◌≡◌, ◌≤◌, ◌<◌, ◌^◌, ◌-◌, ◌∙◌, ℕ, zero, suc, List, [], ◌∷◌, map, length, take, drop, Bool, true}
use Rattle.std.proofs.Common.{false, cond, ◌==◌, None, Ok, refl, sym, ap, arith}
use Rattle.std.specs.List.{AllByRecursion}
use Rattle.std.proofs.lemmas.Bool.{eqb-true}
use Rattle.std.proofs.lemmas.List.{length-drop}
use Rattle.redis_resp.specs.Tree.{Tree}
use Rattle.redis_wire.specs.declared.limits.Limits.{Limits}
use Rattle.redis_wire.specs.Reply.{Answer, value}
use Rattle.redis_wire.specs.Kind.{kind_of}
use Rattle.redis_wire.specs.Level.{by_kind, level, value_at}
use Rattle.redis_wire.specs.Push.{push_at, reply_at}
use Rattle.redis_wire.specs.Grammar.{IsAnyReply}
use Rattle.redis_wire.specs.Place.{IsArrayAt}
use Rattle.redis_wire.proofs.DecodeLemmas.{any_sound}
use Rattle.stream_in_place.specs.declared.places.FieldPlace.{FieldPlace}
use Rattle.stream_in_place.specs.declared.places.EntryPlace.{EntryPlace}
use Rattle.stream_in_place.specs.Held.{Held, none_held}
use Rattle.stream_in_place.specs.Sent.{SentEntry, row_tree, rows_tree, IsStandard, IsClaimed}
use Rattle.stream_in_place.specs.Placed.{delivery_if, entry_in, IsField, IsEntry}
use Rattle.stream_in_place.specs.Added.{IsForm, EntriesAdded}
use Rattle.stream_in_place.specs.Range.{IsRange}
use Rattle.stream_in_place.proofs.FillLemmas.{array_of}
use Rattle.stream_in_place.proofs.RowLemmas.{range_read}
use Rattle.stream_in_place.proofs.SentLemmas.{Fits, IsSent, named_entries, sent_rows_read}

pub all_taken : {A : Type 0} (P : A → Type 0) (n : ℕ) (xs : List A) → AllByRecursion P xs → AllByRecursion P (take n xs)
all_taken P zero xs h = tt
all_taken P (suc n) [] h = tt
all_taken P (suc n) (x ∷ xs) h = (h.0, all_taken P n xs h.1)

pub all_dropped : {A : Type 0} (P : A → Type 0) (n : ℕ) (xs : List A) → AllByRecursion P xs
    → AllByRecursion P (drop n xs)
all_dropped P zero xs h = h
all_dropped P (suc n) [] h = tt
all_dropped P (suc n) (x ∷ xs) h = all_dropped P n xs h.1

delivery_fits : (claim : Bool) (elapsed count : ℕ) → elapsed < 2 ^ 64 → count < 2 ^ 64
    → Fits (delivery_if claim elapsed count)
delivery_fits true elapsed count short few = (short, few)
delivery_fits false elapsed count short few = tt

module _ (bytes : List ℕ) (fields : List FieldPlace) (each : AllByRecursion (IsField bytes) fields) where
  pub sent_told : (claim : Bool) (es : List EntryPlace) → AllByRecursion (IsEntry bytes (length fields)) es
      → AllByRecursion (IsForm claim) es → AllByRecursion IsSent (map (entry_in bytes fields) es)
  sent_told claim [] h f = tt
  sent_told claim (e ∷ es) h f = (
    record { id = h.0.is_text; delivery = delivery_fits e.delivered e.elapsed e.count f.0.elapsed f.0.count },
    sent_told claim es h.1 f.1,
  )

  pub standard_told : (es : List EntryPlace) → AllByRecursion (IsForm false) es
      → AllByRecursion IsStandard (map (entry_in bytes fields) es)
  standard_told [] h = tt
  standard_told (e ∷ es) h = (ap (λ (b : Bool). delivery_if b e.elapsed e.count) h.0.delivered, standard_told es h.1)

  pub claimed_told : (es : List EntryPlace) → AllByRecursion (IsForm true) es
      → AllByRecursion IsClaimed (map (entry_in bytes fields) es)
  claimed_told [] h = tt
  claimed_told (e ∷ es) h = (rw h.0.delivered (h.0.elapsed, h.0.count), claimed_told es h.1)

pub rows_of : (bytes : List ℕ) (fields : List FieldPlace) (es : List EntryPlace)
    → map (λ e. row_tree (entry_in bytes fields e)) es ≡ map row_tree (map (entry_in bytes fields) es)
rows_of bytes fields [] = refl
rows_of bytes fields (e ∷ es) = ap (λ (ts : List Tree). row_tree (entry_in bytes fields e) ∷ ts)
    (rows_of bytes fields es)

-- a value is a whole reply: no value begins with the first byte of a push message
pub reads_reply : (limits : Limits) (d : ℕ) (bytes : List ℕ) (x : Answer × List ℕ) → d ≡ limits.depth
    → value_at limits d bytes ≡ Ok x → reply_at limits bytes ≡ Ok x
unfolding value_at level by_kind reply_at
reads_reply limits zero bytes x is e = absurd cc
reads_reply limits (suc d) bytes x is e = told bytes e
  where
    by : (b : ℕ) (bytes : List ℕ) (c : Bool) → (b == 62) ≡ c → level limits (value_at limits d) (b ∷ bytes) ≡ Ok x
        → cond c (push_at limits bytes) (value_at limits limits.depth (b ∷ bytes)) ≡ Ok x
    by b bytes true is_push e = let at : b ≡ 62 = eqb-true b 62 is_push in let none : kind_of b ≡ None =
        ap kind_of at in absurd cc
    by b bytes false is_none e = ap (λ (n : ℕ). value_at limits n (b ∷ bytes)) (sym is) ∙ e

    told : (bytes : List ℕ) → level limits (value_at limits d) bytes ≡ Ok x → reply_at limits bytes ≡ Ok x
    told [] e = absurd cc
    told (b ∷ bytes) e = by b bytes (b == 62) refl e

-- a value that is read in place is a reply
pub reply_is : (limits : Limits) (d : ℕ) (bytes : List ℕ) (t : Tree) (len : ℕ) → d ≡ limits.depth → len ≤ length bytes
    → value_at limits d bytes ≡ Ok (value t, drop len bytes) → IsAnyReply limits (take len bytes) (value t)
reply_is limits d bytes t len is within read =
    let s =
    any_sound limits bytes (value t) (drop len bytes)
    (reads_reply limits d bytes (value t, drop len bytes) is read) in
    let n : length bytes - length (drop len bytes) ≡ len = omega (arith, length-drop len bytes) in
    rw n at s

pub range_is : (limits : Limits) (bytes : List ℕ) (at count len : ℕ) (held : Held) (es : List SentEntry)
    → 4 ≤ limits.depth
    → IsArrayAt limits bytes 0 count at → EntriesAdded limits bytes at false count len none_held held
    → es ≡ map (entry_in bytes held.fields) held.entries → IsRange limits bytes es len
range_is limits bytes at count len held es deep head h is =
    let fields_are : held.fields ≡ h.grown.more_fields = ap (λ (x : Held). x.fields) h.grown.is in
    let entries_are : held.entries ≡ h.grown.more = ap (λ (x : Held). x.entries) h.grown.is in
    let all_fields : AllByRecursion (IsField bytes) held.fields = rw fields_are h.grown.fields in
    let es_are : es ≡ map (entry_in bytes held.fields) h.grown.more =
    is ∙ ap (map (entry_in bytes held.fields)) entries_are in
    let es_sent : AllByRecursion IsSent es =
    rw es_are (sent_told bytes held.fields all_fields false h.grown.more h.grown.entries h.grown.forms) in
    let forms : AllByRecursion IsStandard es =
    rw es_are (standard_told bytes held.fields all_fields h.grown.more h.grown.forms) in
    let d : suc (suc (suc (suc (limits.depth - 4)))) ≡ limits.depth = omega arith in
    let rows : map (λ e. row_tree (entry_in bytes held.fields e)) h.grown.more ≡ map row_tree es =
    rows_of bytes held.fields h.grown.more ∙ ap (map row_tree) (sym es_are) in
    let read : value_at limits (suc (suc (suc (suc (limits.depth - 4))))) bytes
    ≡ Ok (value (rows_tree es), drop len bytes) =
    head.reads (suc (suc (suc (limits.depth - 4))))
    ∙ array_of (value_at limits (suc (suc (suc (limits.depth - 4))))) count (drop at bytes) (map row_tree es)
    (drop len bytes) (rw rows at (h.reads (limits.depth - 4))) in
    record {
      within = h.end;
      reply = reply_is limits (suc (suc (suc (suc (limits.depth - 4))))) bytes (rows_tree es) len d h.end read;
      sent = sent_rows_read es es_sent;
      reading = λ named. range_read es (named_entries es es_sent named) forms;
    }
