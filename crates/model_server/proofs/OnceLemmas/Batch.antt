-- What a batch that is executed makes of a log that is the first records.
use Rattle.std.proofs.Common.{◌≡◌, inl, inr, refl, sym, ap, subst, ◌∙◌, ℕ, ◌+◌, ◌<◌, ◌≤◌, ◌^◌, suc, nat_lt}
use Rattle.std.proofs.Common.{nat_eq, arith, Bool, true, false, ◌&&◌, ◌||◌, List, [], ◌∷◌, ◌++◌, map, append_assoc, length}
use Rattle.std.proofs.Common.{if◌then◌else◌}
use Rattle.std.proofs.lemmas.Bool.{lt-ltb, le-ltb, cases_lt}
use Rattle.std.proofs.lemmas.List.{length-append, map-append}
use Rattle.model_server.specs.Group.Worker.{Entry}
use Rattle.model_server.specs.Group.Group.{Numbers, id_text, is_below, fits}
use Rattle.model_server.specs.Group.World.{World, appended, log_of}
use Rattle.model_server.specs.Once.Feed.{Numbered, numbered, as_entry}
use Rattle.model_server.specs.Once.Producer.{add_all}

pub no_cons : {A : Type 0} (x : A) (xs : List A) → [] ≡ x ∷ xs → ⊥
no_cons x xs e = absurd (let t : [] ≡ x ∷ xs = e in cc)

-- two beginnings of one list that are of one length are the same
pub same_front : {A : Type 0} (xs ys us vs : List A) → xs ++ ys ≡ us ++ vs → length xs ≡ length us
    → (xs ≡ us) × (ys ≡ vs)
same_front [] ys [] vs e l = (refl, e)
same_front [] ys (u ∷ us) vs e l = absurd (omega (arith, l))
same_front (x ∷ xs) ys [] vs e l = absurd (omega (arith, l))
same_front (x ∷ xs) ys (u ∷ us) vs e l =
    let t : x ∷ (xs ++ ys) ≡ u ∷ (us ++ vs) = e in
    let head : x ≡ u = cc in
    let tail : xs ++ ys ≡ us ++ vs = cc in
    let r = same_front xs ys us vs tail (omega (arith, l)) in
    (let f : xs ≡ us = r.0 in cc, r.1)

module _ {F : Type 0} where
  pub length_numbered : (base : ℕ) (rs : List F) → length (numbered base rs) ≡ length rs
  length_numbered base [] = refl
  length_numbered base (r ∷ rs) = ap suc (length_numbered (base + 1) rs)

  -- the id of a record determines its number
  pub number_of : (base : ℕ) (rs : List F) (front : List (Numbered F)) (x : Numbered F) (back : List (Numbered F))
      → numbered base rs ≡ front ++ x ∷ back → x.0 ≡ (base + length front + 1, 0)
  number_of base [] [] x back e = absurd (no_cons x back e)
  number_of base [] (f ∷ front) x back e = absurd (no_cons f (front ++ x ∷ back) e)
  number_of base (r ∷ rs) [] x back e =
      let t : ((base + 1, 0), r) ∷ numbered (base + 1) rs ≡ x ∷ back = e in
      let h : ((base + 1, 0), r) ≡ x = cc in
      sym (ap (λ (z : Numbered F). z.0) h) ∙ ap (λ z. (z, 0)) (let n : base + 1 ≡ base + 0 + 1 = omega arith in n)
  number_of base (r ∷ rs) (f ∷ front) x back e =
      let t : ((base + 1, 0), r) ∷ numbered (base + 1) rs ≡ f ∷ (front ++ x ∷ back) = e in
      let h : numbered (base + 1) rs ≡ front ++ x ∷ back = cc in
      number_of (base + 1) rs front x back h
      ∙ ap (λ z. (z, 0))
      (let n : base + 1 + length front + 1 ≡ base + suc (length front) + 1 = omega arith in n)

  module _ (base : ℕ) (records : List F) (fit : base + length records < 2 ^ 64) where
    -- the log is the first of the records, and the last id is that of the last of them
    pub record Kept (log : List (Entry F)) (last : Numbers) : Type 0 where
      pub added : List (Numbered F)
      pub rest : List (Numbered F)
      pub all : numbered base records ≡ added ++ rest
      pub log_is : log ≡ map as_entry added
      pub up : last.0 ≤ base + length added
      pub low : 1 ≤ length added → last.0 ≡ base + length added
      pub second : last.1 ≡ 0

    -- a batch is records in a row, which begins at or below what the log has
    pub record Part (m : ℕ) (b : List (Numbered F)) : Type 0 where
      pub front : List (Numbered F)
      pub back : List (Numbered F)
      pub all : numbered base records ≡ front ++ (b ++ back)
      pub within : length front ≤ m

    abbrev pub part_later : (m n : ℕ) (b : List (Numbered F)) → m ≤ n → Part m b → Part n b
    part_later m n b l p = record { front = p.front; back = p.back; all = p.all; within = omega (arith, l, p.within) }

    refuses : (last : Numbers) (k : ℕ) → k ≤ last.0 → last.1 ≡ 0 → is_below last (k, 0) ≡ false
    refuses last k l z =
        let a : nat_lt last.0 k ≡ false = le-ltb last.0 k l in
        let c : nat_lt last.1 0 ≡ false = le-ltb last.1 0 (omega arith) in
        let and_no : (b : Bool) → (b && false) ≡ false = λ b. elim b as (λ v. (v && false) ≡ false)
        [ true ↦ refl | false ↦ refl ] in
        ap (λ b. b || (nat_eq last.0 k && nat_lt last.1 0)) a ∙ (ap (λ b. nat_eq last.0 k && b) c ∙ and_no _)

    accepts : (last : Numbers) (k : ℕ) → last.0 < k → k < 2 ^ 64 → (is_below last (k, 0) && fits (k, 0)) ≡ true
    accepts last k l h =
        ap (λ b. (b || (nat_eq last.0 k && nat_lt last.1 0)) && fits (k, 0)) (lt-ltb last.0 k l)
        ∙ ap (λ b. b && nat_lt 0 (2 ^ 64)) (lt-ltb k (2 ^ 64) h)

    -- the next record is added
    log_more : (w : World F) (e : Entry F) → log_of (record w { fresh = w.fresh ++ e ∷ [] }) ≡ log_of w ++ e ∷ []
    log_more w e = sym (append_assoc w.seen w.fresh (e ∷ []))

    -- what is made of it
    pub record More (m : ℕ) (log : List (Entry F)) (last : Numbers) (reached : ℕ) : Type 0 where
      pub kept : Kept log last
      pub grows : m ≤ length kept.added
      pub reaches : reached ≤ length kept.added

    pub adds : (w : World F) (k : Kept (log_of w) w.last) (b : List (Numbered F)) (p : Part (length k.added) b)
        → More (length k.added) (log_of (add_all w b)) (add_all w b).last (length p.front + length b)
    adds w k [] p = record { kept = k; grows = omega arith; reaches = omega (arith, p.within) }
    adds w k (x ∷ b) p =
        let M : ℕ = length k.added in
        let at : x.0 ≡ (base + length p.front + 1, 0) = number_of base records p.front x (b ++ p.back) p.all in
        let n : ℕ = base + length p.front + 1 in
        let next : List (Numbered F) = p.front ++ x ∷ [] in
        let next_all : numbered base records ≡ next ++ (b ++ p.back) =
        p.all ∙ sym (append_assoc p.front (x ∷ []) (b ++ p.back)) in
        let next_length : length next ≡ length p.front + 1 = length-append p.front (x ∷ []) in
        elim (cases_lt (length p.front) M) [
          | inl l ↦
              (let no : is_below w.last (n, 0) ≡ false
              = refuses w.last n (omega (arith, k.low (omega (arith, l)), l)) k.second in
              let same : appended w x.0 x.1 ≡ w =
              ap (λ z. appended w z x.1) at
              ∙ ap (λ v. if v && fits (n, 0)
              then record w { fresh = w.fresh ++ (id_text (n, 0), x.1) ∷ []; last = (n, 0) } else w) no in
              let q : Part M b
              = record { front = next; back = p.back; all = next_all; within = omega (arith, next_length, l) } in
              let r = adds w k b q in
              let P : World F → Type 0 = λ v.
              More M (log_of (add_all v b)) (add_all v b).last (length p.front + length (x ∷ b)) in
              subst P (sym same)
              (record { kept = r.kept; grows = r.grows; reaches = omega (arith, r.reaches, next_length) }))
          | inr l ↦
              (let here : length k.added ≡ length p.front = omega (arith, l, p.within) in
              let fronts = same_front k.added k.rest p.front (x ∷ (b ++ p.back)) (sym k.all ∙ p.all) here in
              let total : length (numbered base records) ≡ length records = length_numbered base records in
              let lengths : length (numbered base records) ≡ length p.front + suc (length (b ++ p.back)) =
              ap length p.all ∙ length-append p.front (x ∷ (b ++ p.back)) in
              let yes : (is_below w.last (n, 0) && fits (n, 0)) ≡ true =
              accepts w.last n (omega (arith, k.up, here)) (omega (arith, fit, total, lengths)) in
              let e : Entry F = (id_text (n, 0), x.1) in
              let v : World F = record w { fresh = w.fresh ++ e ∷ []; last = (n, 0) } in
              let same : appended w x.0 x.1 ≡ v =
              ap (λ z. appended w z x.1) at ∙ ap (λ t. if t then v else w) yes in
              let entry_is : as_entry x ≡ e = ap (λ z. let y : Entry F = (id_text z, x.1) in y) at in
              let added_is : k.added ≡ p.front = fronts.0 in
              let log_is : log_of v ≡ map as_entry next =
              log_more w e
              ∙ (ap (λ l. l ++ e ∷ []) (k.log_is ∙ ap (map as_entry) added_is)
              ∙ (ap (λ y. map as_entry p.front ++ y ∷ []) (sym entry_is)
              ∙ sym (map-append as_entry p.front (x ∷ [])))) in
              let more : Kept (log_of v) v.last = record {
                added = next;
                rest = b ++ p.back;
                all = next_all;
                log_is = log_is;
                up = omega (arith, next_length);
                low = λ h. omega (arith, next_length);
                second = refl;
              } in
              let q : Part (length next) b
              = record { front = next; back = p.back; all = next_all; within = omega arith } in
              let r = adds v more b q in
              let P : World F → Type 0 = λ u.
              More M (log_of (add_all u b)) (add_all u b).last (length p.front + length (x ∷ b)) in
              subst P (sym same) (record {
                kept = r.kept;
                grows = omega (arith, r.grows, next_length, here);
                reaches = omega (arith, r.reaches, next_length);
              }))
        ]
