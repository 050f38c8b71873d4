-- Replies as servers write them are read as the trees of their entries, and these trees determine the entries.
use Rattle.std.proofs.Common.{◌≡◌, ◌≤◌, ◌<◌, ◌^◌, ◌-◌, ◌*◌, ◌∙◌, ℕ, suc, pos, List, [], ◌∷◌, ◌++◌, map, flat_map}
use Rattle.std.proofs.Common.{length, take, drop, decimal, Bool, false, Option, Some, None, Ok, refl, sym, ap, arith}
use Rattle.std.proofs.Common.{append_assoc}
use Rattle.std.specs.List.{AllByRecursion}
use Rattle.std.proofs.lemmas.List.{length-append, length-drop, take-append-drop}
use Rattle.redis_resp.specs.Tree.{Tree, int, bulk, array, trees, list_of_trees}
use Rattle.redis_resp.proofs.TreeLemmas.{listed_trees}
use Rattle.redis_wire.specs.declared.limits.Limits.{Limits}
use Rattle.redis_wire.specs.declared.kind.GroupKind.TheVariants.{Array}
use Rattle.redis_wire.specs.Reply.{Answer, value, values}
use Rattle.redis_wire.specs.Scalar.{line_answer}
use Rattle.redis_wire.specs.Group.{many}
use Rattle.redis_wire.specs.Level.{value_at, level, by_kind, line_value_at, group_value_at, group_body_at}
use Rattle.redis_wire.specs.Packed.{bulk_bytes}
use Rattle.redis_wire.specs.Written.{line_bytes, count_bytes}
use Rattle.redis_wire.specs.Push.{reply_at}
use Rattle.redis_wire.specs.Grammar.{IsAnyReply}
use Rattle.redis_wire.specs.Place.{BeginsWithArray, BeginsWithInt}
use Rattle.redis_wire.proofs.FitsLemmas.{reply_fits}
use Rattle.redis_wire.proofs.LevelLemmas.{bulk_is, one_level}
use Rattle.redis_wire.proofs.PlaceLemmas.{nil_reads}
use Rattle.stream_in_place.specs.Sent.{Pairs, SentEntry, members_of, fields_tree, delivery_trees, row_tree, rows_tree}
use Rattle.stream_in_place.specs.Range.{IsRange}
use Rattle.stream_in_place.specs.Shapes.{NilForm, pair_bytes, fields_bytes, delivery_bytes, row_len, entry_bytes}
use Rattle.stream_in_place.specs.Shapes.{rows_bytes, AllowsRows, IsPair, ArePairs, IsOfForm, IsEntryOf, AreEntriesOf}
use Rattle.stream_in_place.specs.Shapes.{BeginsWithRange}
use Rattle.stream_in_place.proofs.ManyLemmas.{no_more, many_first}
use Rattle.stream_in_place.proofs.FillLemmas.{array_of}
use Rattle.stream_in_place.proofs.RangeLemmas.{reads_reply}
use Rattle.stream_in_place.proofs.BeginLemmas.{head_begins, text_begins, int_begins, nil_begins, pair_split, array_split}
use Rattle.stream_in_place.proofs.BeginLemmas.{nil_split, row_split, behind_head, form_small, rows_split}

-- ---- how they are read

module _ (limits : Limits) (allows : AllowsRows limits) where
  pub text_reads : (d : ℕ) (text rest left : List ℕ) → length text ≤ limits.length → left ≡ bulk_bytes text ++ rest
      → value_at limits (suc d) left ≡ Ok (value (bulk text), rest)
  text_reads d text rest left le is =
      let b = text_begins limits allows left text rest le is in
      bulk_is limits (suc d) left b.head.behind b.body text rest b.len (omega arith) b.head.is b.head.len b.reads

  array_head : (d n : ℕ) (rest left : List ℕ) → BeginsWithArray limits left n rest
      → value_at limits (suc d) left ≡ group_body_at (value_at limits d) Array (Some n) rest
  unfolding level by_kind group_value_at
  array_head d n rest left h =
      let e : suc d - 1 ≡ d = omega arith in rw (h.is, one_level limits (suc d) (omega arith), e, h.len) refl

  -- an array of these elements
  pub array_reads : (d n : ℕ) (members rest left : List ℕ) (ts : List Tree) → n ≤ limits.length
      → left ≡ count_bytes 42 n ++ members → many (value_at limits d) n members ≡ Ok (values ts, rest)
      → value_at limits (suc d) left ≡ Ok (value (array (trees ts)), rest)
  array_reads d n members rest left ts le is h =
      array_head d n members left (head_begins limits allows left 42 n members le is)
      ∙ array_of (value_at limits d) n members ts rest h

  int_of : (d n : ℕ) (rest left : List ℕ) → BeginsWithInt limits left n rest
      → value_at limits (suc d) left ≡ Ok (value (int (pos n)), rest)
  unfolding level by_kind line_value_at line_answer
  int_of d n rest left h =
      rw (h.at.is, one_level limits (suc d) (omega arith), h.at.reads, h.says) refl

  int_reads : (d n : ℕ) (rest left : List ℕ) → n < 2 ^ 63 → left ≡ line_bytes 58 (decimal n) ++ rest
      → value_at limits (suc d) left ≡ Ok (value (int (pos n)), rest)
  int_reads d n rest left small is = int_of d n rest left (int_begins limits allows left n rest small is)

  pairs_read : (d : ℕ) (ps : Pairs) (rest : List ℕ) → AllByRecursion (IsPair limits) ps
      → many (value_at limits (suc d)) (2 * length ps) (flat_map pair_bytes ps ++ rest)
      ≡ Ok (values (members_of ps), rest)
  pairs_read d [] rest h = no_more (value_at limits (suc d)) rest
  pairs_read d (p ∷ ps) rest h =
      let inner = value_at limits (suc d) in
      let behind = flat_map pair_bytes ps ++ rest in
      let whole = (pair_bytes p ++ flat_map pair_bytes ps) ++ rest in
      let n : 2 * suc (length ps) ≡ suc (suc (2 * length ps)) = omega arith in
      let split = pair_split p behind whole (append_assoc (pair_bytes p) (flat_map pair_bytes ps) rest) in
      let last = many_first inner (2 * length ps) (bulk_bytes p.1 ++ behind) (bulk p.1) behind (members_of ps) rest
      (text_reads d p.1 behind (bulk_bytes p.1 ++ behind) h.0.value refl) (pairs_read d ps rest h.1) in
      ap (λ (k : ℕ). many inner k whole) n
      ∙ many_first inner (suc (2 * length ps)) whole (bulk p.0) (bulk_bytes p.1 ++ behind) (bulk p.1 ∷ members_of ps)
      rest (text_reads d p.0 (bulk_bytes p.1 ++ behind) whole h.0.name split) last

  fields_read : (d : ℕ) (form : NilForm) (fs : Option Pairs) (rest : List ℕ) → ArePairs limits fs
      → value_at limits (suc (suc d)) (fields_bytes form fs ++ rest) ≡ Ok (value (fields_tree fs), rest)
  fields_read d form None rest h =
      let left = fields_bytes form None ++ rest in
      nil_reads limits (suc d) left rest (nil_begins limits allows left form rest (nil_split form rest left refl))
  fields_read d form (Some ps) rest h =
      let left = fields_bytes form (Some ps) ++ rest in
      array_reads (suc d) (2 * length ps) (flat_map pair_bytes ps ++ rest) rest left (members_of ps) h.0
      (array_split form ps rest left refl) (pairs_read d ps rest h.1)

  -- the time and the count, after two other values
  delivery_read : (d : ℕ) (claim : Bool) (dl : Option (ℕ × ℕ)) (bytes middle third rest : List ℕ) (t u : Tree)
      → IsOfForm claim dl → third ≡ delivery_bytes dl ++ rest
      → value_at limits (suc d) bytes ≡ Ok (value t, middle) → value_at limits (suc d) middle ≡ Ok (value u, third)
      → many (value_at limits (suc d)) (row_len dl) bytes ≡ Ok (values (t ∷ u ∷ delivery_trees dl), rest)
  unfolding delivery_bytes
  delivery_read d claim None bytes middle third rest t u h is one two =
      let inner = value_at limits (suc d) in
      many_first inner 1 bytes t middle (u ∷ []) rest one (many_first inner 0 middle u third [] rest two
      (no_more inner third ∙ ap (λ (z : List ℕ). Ok (values [], z)) is))
  delivery_read d claim (Some x) bytes middle third rest t u h is one two =
      let inner = value_at limits (suc d) in
      let small = form_small claim x h in
      let last = line_bytes 58 (decimal x.1) ++ rest in
      let split = is ∙ append_assoc (line_bytes 58 (decimal x.0)) (line_bytes 58 (decimal x.1)) rest in
      many_first inner 3 bytes t middle _ rest one (many_first inner 2 middle u third _ rest two
      (many_first inner 1 third (int (pos x.0)) last _ rest (int_reads d x.0 last third small.0 split)
      (many_first inner 0 last (int (pos x.1)) rest [] rest (int_reads d x.1 rest last small.1 refl)
      (no_more inner rest))))

  entry_read : (d : ℕ) (claim : Bool) (form : NilForm) (e : SentEntry) (rest left : List ℕ)
      → IsEntryOf limits claim e → left ≡ entry_bytes form e ++ rest
      → value_at limits (suc (suc (suc d))) left ≡ Ok (value (row_tree e), rest)
  entry_read d claim form e rest left h is =
      let third = delivery_bytes e.delivery ++ rest in
      let second = fields_bytes form e.fields ++ third in
      array_reads (suc (suc d)) (row_len e.delivery) (behind_head form e rest) rest left _
      (row_len_le claim e.delivery h.form) (row_split form e rest left is)
      (delivery_read (suc d) claim e.delivery (behind_head form e rest) second third rest (bulk e.id)
      (fields_tree e.fields) h.form refl
      (text_reads (suc d) e.id second (behind_head form e rest) h.id.within refl)
      (fields_read d form e.fields third h.pairs))
    where
      row_len_le : (claim : Bool) (dl : Option (ℕ × ℕ)) → IsOfForm claim dl → row_len dl ≤ limits.length
      row_len_le claim None h = omega (arith, allows.row)
      row_len_le claim (Some x) h = allows.row

  entries_read : (d : ℕ) (claim : Bool) (form : NilForm) (es : List SentEntry) (rest : List ℕ)
      → AllByRecursion (IsEntryOf limits claim) es
      → many (value_at limits (suc (suc (suc d)))) (length es) (flat_map (entry_bytes form) es ++ rest)
      ≡ Ok (values (map row_tree es), rest)
  entries_read d claim form [] rest h = no_more (value_at limits (suc (suc (suc d)))) rest
  entries_read d claim form (e ∷ es) rest h =
      let inner = value_at limits (suc (suc (suc d))) in
      let behind = flat_map (entry_bytes form) es ++ rest in
      let whole = (entry_bytes form e ++ flat_map (entry_bytes form) es) ++ rest in
      many_first inner (length es) whole (row_tree e) behind (map row_tree es) rest
      (entry_read d claim form e behind whole h.0
      (append_assoc (entry_bytes form e) (flat_map (entry_bytes form) es) rest))
      (entries_read d claim form es rest h.1)

  pub rows_read : (d : ℕ) (claim : Bool) (form : NilForm) (es : List SentEntry) (rest left : List ℕ)
      → AreEntriesOf limits claim es → left ≡ rows_bytes form es ++ rest
      → value_at limits (suc (suc (suc (suc d)))) left ≡ Ok (value (rows_tree es), rest)
  rows_read d claim form es rest left h is =
      array_reads (suc (suc (suc d))) (length es) (flat_map (entry_bytes form) es ++ rest) rest left (map row_tree es)
      h.few (rows_split form es rest left is) (entries_read d claim form es rest h.each)

-- ---- the entries of the trees

pub same_trees : (ts us : List Tree) → trees ts ≡ trees us → ts ≡ us
same_trees ts us e = sym (listed_trees ts) ∙ ap list_of_trees e ∙ listed_trees us

same_members : (ps qs : Pairs) → members_of ps ≡ members_of qs → ps ≡ qs
same_members [] [] e = refl
same_members [] (q ∷ qs) e = absurd cc
same_members (p ∷ ps) [] e = absurd cc
same_members (p ∷ ps) (q ∷ qs) e =
    let rest : members_of ps ≡ members_of qs = cc in
    let name : p.0 ≡ q.0 = cc in
    let val : p.1 ≡ q.1 = cc in
    ap (λ (x : List ℕ). (x, p.1) ∷ ps) name ∙ ap (λ (x : List ℕ). (q.0, x) ∷ ps) val
    ∙ ap (λ (z : Pairs). q ∷ z) (same_members ps qs rest)

same_fields : (fs gs : Option Pairs) → fields_tree fs ≡ fields_tree gs → fs ≡ gs
same_fields None None e = refl
same_fields None (Some qs) e = absurd cc
same_fields (Some ps) None e = absurd cc
same_fields (Some ps) (Some qs) e =
    let inner : trees (members_of ps) ≡ trees (members_of qs) = cc in
    ap (λ (z : Pairs). Some z) (same_members ps qs (same_trees (members_of ps) (members_of qs) inner))

same_delivery : (c d : Option (ℕ × ℕ)) → delivery_trees c ≡ delivery_trees d → c ≡ d
same_delivery None None e = refl
same_delivery None (Some y) e = absurd cc
same_delivery (Some x) None e = absurd cc
same_delivery (Some x) (Some y) e =
    let first : x.0 ≡ y.0 = cc in
    let second : x.1 ≡ y.1 = cc in
    ap (λ (n : ℕ). Some (n, x.1)) first ∙ ap (λ (n : ℕ). Some (y.0, n)) second

same_row : (e f : SentEntry) → row_tree e ≡ row_tree f → e ≡ f
same_row e f is =
    let inner : trees (bulk e.id ∷ fields_tree e.fields ∷ delivery_trees e.delivery)
    ≡ trees (bulk f.id ∷ fields_tree f.fields ∷ delivery_trees f.delivery) = cc in
    let all = same_trees (bulk e.id ∷ fields_tree e.fields ∷ delivery_trees e.delivery)
    (bulk f.id ∷ fields_tree f.fields ∷ delivery_trees f.delivery) inner in
    let id : e.id ≡ f.id = cc in
    let fields : fields_tree e.fields ≡ fields_tree f.fields = cc in
    let last : delivery_trees e.delivery ≡ delivery_trees f.delivery = cc in
    ap (λ (x : List ℕ). record { id = x; fields = e.fields; delivery = e.delivery }) id
    ∙ ap (λ (x : Option Pairs). record { id = f.id; fields = x; delivery = e.delivery })
    (same_fields e.fields f.fields fields)
    ∙ ap (λ (x : Option (ℕ × ℕ)). record { id = f.id; fields = f.fields; delivery = x })
    (same_delivery e.delivery f.delivery last)

same_rows : (es fs : List SentEntry) → map row_tree es ≡ map row_tree fs → es ≡ fs
same_rows [] [] e = refl
same_rows [] (f ∷ fs) e = absurd cc
same_rows (e ∷ es) [] is = absurd cc
same_rows (e ∷ es) (f ∷ fs) is =
    let first : row_tree e ≡ row_tree f = cc in
    let rest : map row_tree es ≡ map row_tree fs = cc in
    ap (λ (x : SentEntry). x ∷ es) (same_row e f first) ∙ ap (λ (z : List SentEntry). f ∷ z) (same_rows es fs rest)

pub same_rows_tree : (es fs : List SentEntry) → rows_tree es ≡ rows_tree fs → es ≡ fs
same_rows_tree es fs e =
    let inner : trees (map row_tree es) ≡ trees (map row_tree fs) = cc in
    same_rows es fs (same_trees (map row_tree es) (map row_tree fs) inner)

-- ---- whole replies

-- what is read at the start of the bytes is the one reply there
pub one_reply : (limits : Limits) (d : ℕ) (bytes rest : List ℕ) (a b : Answer) (len : ℕ) → d ≡ limits.depth
    → len ≤ length bytes → value_at limits d bytes ≡ Ok (a, rest) → IsAnyReply limits (take len bytes) b
    → (b ≡ a) × (drop len bytes ≡ rest)
one_reply limits d bytes rest a b len depth within read reply =
    let first = reads_reply limits d bytes (a, rest) depth read in
    let again = (reply_fits limits).again (take len bytes) (drop len bytes) b reply in
    let e : Ok (b, drop len bytes) ≡ Ok (a, rest) =
    sym again ∙ ap (reply_at limits) (take-append-drop len bytes) ∙ first in
    let p : (b, drop len bytes) ≡ (a, rest) = cc in
    (ap (λ (x : Answer × List ℕ). x.0) p, ap (λ (x : Answer × List ℕ). x.1) p)

pub len_same : (bytes text rest : List ℕ) (n len : ℕ) → n ≤ length bytes → bytes ≡ text ++ rest → drop n bytes ≡ rest
    → len ≡ length text → n ≡ len
len_same bytes text rest n len within is behind said =
    omega (arith, said, ap length is, length-append text rest, ap length behind, length-drop n bytes)

-- the entries of a range are those that were written
pub range_same : (limits : Limits) (bytes : List ℕ) (es fs : List SentEntry) (n len : ℕ) → IsRange limits bytes es n
    → BeginsWithRange limits bytes fs len → (es ≡ fs) × (n ≡ len)
range_same limits bytes es fs n len r b =
    let d : suc (suc (suc (suc (limits.depth - 4)))) ≡ limits.depth = omega (arith, b.deep) in
    let read = rows_read limits b.allows (limits.depth - 4) false b.form fs b.rest bytes b.within b.is in
    let one = one_reply limits (suc (suc (suc (suc (limits.depth - 4))))) bytes b.rest (value (rows_tree fs))
    (value (rows_tree es)) n d r.within read r.reply in
    let same : rows_tree es ≡ rows_tree fs = cc (one.0) in (
      same_rows_tree es fs same,
      len_same bytes (rows_bytes b.form fs) b.rest n len r.within b.is one.1 b.len_is,
    )

pub range_begins : (limits : Limits) (bytes : List ℕ) (es : List SentEntry) (len : ℕ)
    → (b : BeginsWithRange limits bytes es len)
    → BeginsWithArray limits bytes (length es) (flat_map (entry_bytes b.form) es ++ b.rest)
range_begins limits bytes es len b =
    head_begins limits b.allows bytes 42 (length es) (flat_map (entry_bytes b.form) es ++ b.rest) b.within.few
    (rows_split b.form es b.rest bytes b.is)
