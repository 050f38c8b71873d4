-- The reply with entries.
use Rattle.std.proofs.Common.{◌≡◌, ◌+◌, ◌-◌, ◌<◌, ◌≤◌, ℕ, zero, suc, List, [], ◌∷◌, ◌++◌, map, length, get_or, take, drop, refl, sym, ap, ◌∙◌, append_assoc, append-nil, rules, arith}
use Rattle.std.proofs.lemmas.List.{drop_all, take_all, length-drop, map-append, map_more}
use Rattle.std.specs.Prelude.{Result, Ok, Err, IfOk, Some, None}
use Rattle.std.specs.declared.alloc.AllocError.{AllocError}
use Rattle.std.specs.Global.{Vec}
use Rattle.redis_resp.specs.Tree.{bulk}
use Rattle.server_store.specs.EntryId.{id_text}
use Rattle.server_store.specs.Laws.{AreInOrder}
use Rattle.server_store.specs.declared.entry_id.EntryId.{EntryId}
use Rattle.server_store.specs.declared.stream.Entry.{Entry}
use Rattle.server_commands.specs.Delivering.{entries_behind}
use Rattle.server_commands.specs.Reading.{AreFound}
use Rattle.server_commands.specs.Claiming.{sent_entry, sent_fields}
use Rattle.server_commands.specs.Sent.{Sent, array_of, item_list, plain, sent}
use Rattle.server_commands.specs.declared.answer.Answer.{Answer, the_lemmas}
use Rattle.server_commands.specs.declared.answer.Answer.TheVariants as a

pub sent-Array : (v : Vec Answer) → sent (a.Array v) ≡ array_of (item_list (map sent v.items))
sent-Array v = search (rules, the_lemmas)

pub sent-Id : (id : EntryId) → sent (a.Id id) ≡ plain (bulk (id_text id))
sent-Id id = search (rules, the_lemmas)

-- the replies as one array
pub array_sent : (v : Vec Answer) (xs : List Answer) → v.items ≡ xs → sent (a.Array v) ≡ array_of (item_list (map sent xs))
array_sent v xs is = sent-Array v ∙ ap (λ (ys : List Answer). array_of (item_list (map sent ys))) is

-- an id and fields as one array
pub entry_sent : (e : Entry) (fields x : Answer) → sent fields ≡ sent_fields e.fields.items
    → sent x ≡ array_of (item_list (map sent (a.Id e.id ∷ fields ∷ []))) → sent x ≡ sent_entry e
entry_sent e fields x is so = so ∙ rw (is, sent-Id e.id) refl

pub entry_answered : (r : Result Answer AllocError) (e : Entry) (fields : Answer) → sent fields ≡ sent_fields e.fields.items
    → IfOk r (λ x. sent x ≡ array_of (item_list (map sent (a.Id e.id ∷ fields ∷ [])))) → IfOk r (λ x. sent x ≡ sent_entry e)
entry_answered (Ok x) e fields is so = entry_sent e fields x is so
entry_answered (Err f) e fields is so = tt

-- one field more
pub field_more : (fields : List (Vec ℕ)) (i : ℕ) (field : Vec ℕ) (old new : List Answer) (x : Answer) → i < length fields
    → field ≡ get_or fields i field → new ≡ old ++ x ∷ [] → sent x ≡ plain (bulk field.items)
    → map sent old ≡ map (λ f. plain (bulk f.items)) (take i fields)
    → map sent new ≡ map (λ f. plain (bulk f.items)) (take (i + 1) fields)
field_more fields i field old new x within at grown is so =
    ap (map sent) grown ∙ map-append sent old (x ∷ [])
    ∙ ap (λ (ys : List Sent). ys ++ sent x ∷ []) so
    ∙ ap (λ (y : Sent). map (λ f. plain (bulk f.items)) (take i fields) ++ y ∷ [])
    (is ∙ ap (λ (f : Vec ℕ). plain (bulk f.items)) at)
    ∙ sym (map_more (λ (f : Vec ℕ). plain (bulk f.items)) fields i field within)

-- all fields
pub fields_sent : (v : Vec Answer) (fields : List (Vec ℕ)) (i : ℕ) → length fields ≤ i
    → map sent v.items ≡ map (λ f. plain (bulk f.items)) (take i fields) → sent (a.Array v) ≡ sent_fields fields
fields_sent v fields i end so =
    sent-Array v ∙ ap (λ (ys : List Sent). array_of (item_list ys)) (so ∙ ap (map (λ (f : Vec ℕ). plain (bulk f.items))) (take_all i fields end))

one_more : (n : ℕ) → (n ≡ 0 → ⊥) → n ≡ suc (n - 1)
one_more zero some = absurd (some refl)
one_more (suc n) some = omega arith

-- one entry more
pub found_more : (old new : List Answer) (x : Answer) (e : Entry) (left : ℕ) (es rest : List Entry) (total : List Sent)
    → (left ≡ 0 → ⊥) → rest ≡ e ∷ es → new ≡ old ++ x ∷ [] → sent x ≡ sent_entry e
    → map sent old ++ map sent_entry (take left rest) ≡ total
    → map sent new ++ map sent_entry (take (left - 1) es) ≡ total
found_more old new x e left es rest total some stands grown is so =
    let step : map sent_entry (take left rest) ≡ sent_entry e ∷ map sent_entry (take (left - 1) es) =
    ap (λ (n : ℕ). map sent_entry (take n rest)) (one_more left some)
    ∙ ap (λ (xs : List Entry). map sent_entry (take (suc (left - 1)) xs)) stands in
    let shown : map sent new ≡ map sent old ++ sent_entry e ∷ [] =
    ap (map sent) grown ∙ map-append sent old (x ∷ []) ∙ ap (λ (y : Sent). map sent old ++ y ∷ []) is in
    ap (λ (ys : List Sent). ys ++ map sent_entry (take (left - 1) es)) shown
    ∙ append_assoc (map sent old) (sent_entry e ∷ []) (map sent_entry (take (left - 1) es))
    ∙ ap (λ (ys : List Sent). map sent old ++ ys) (sym step) ∙ so

pub nothing_found : (answers : List Answer) (total : List Sent) → answers ≡ [] → map sent answers ++ total ≡ total
nothing_found answers total none = rw none refl

-- if nothing is left, all is found
pub found_all : (id : EntryId) (most left start : ℕ) (entries all rest : List Entry) (answers : Vec Answer)
    → start ≤ length entries → (start ≡ length entries → ⊥) → all ≡ drop start entries
    → (AreInOrder entries → drop start entries ≡ entries_behind id entries)
    → map sent answers.items ++ map sent_entry (take left rest) ≡ map sent_entry (take most all)
    → take left rest ≡ [] → AreInOrder entries → AreFound most (entries_behind id entries) (Some answers)
found_all id most left start entries all rest answers within some are behind so none up = (
  λ empty. some (omega (arith, within, length-drop start entries, ap length (behind up ∙ empty))),
  sym (append-nil (map sent answers.items))
      ∙ ap (λ (es : List Entry). map sent answers.items ++ map sent_entry es) (sym none)
      ∙ so ∙ ap (λ (es : List Entry). map sent_entry (take most es)) (are ∙ behind up),
)

-- and if none is there, none is found
pub none_found : (id : EntryId) (most start : ℕ) (entries : List Entry) → start ≡ length entries
    → (AreInOrder entries → drop start entries ≡ entries_behind id entries)
    → AreInOrder entries → AreFound most (entries_behind id entries) None
none_found id most start entries end behind up = sym (behind up) ∙ drop_all start entries (omega (arith, end))
