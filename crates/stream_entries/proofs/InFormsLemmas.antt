-- Reading in both forms of a read reply at once.
use Rattle.std.proofs.Common.{◌≡◌, ◌++◌, true, Vec, Global, List, [], ◌∷◌, Option, Some, None, option_map}
use Rattle.std.proofs.Common.{option_and_then, append_assoc, refl, sym, ◌∙◌, ap, flat_map}
use Rattle.std.proofs.lemmas.List.{append-nil}
use Rattle.std.specs.Option.{is_some}
use Rattle.redis_resp.specs.Tree.{Tree, items}
use Rattle.redis_resp.specs.Reading.{traverse}
use Rattle.stream_entries.specs.Entry.{Entry}
use Rattle.stream_entries.specs.ItemsLeft.{item_tree}
use Rattle.stream_entries.specs.Rows.{joined, standard_entries}
use Rattle.stream_entries.specs.Read.{claim_entries}
use Rattle.stream_entries.specs.InForms.{InForms, all_joined, behind, behind_in_forms, entries_in_forms, item_in_forms}
use Rattle.stream_entries.specs.InForms.{items_in_forms}
use Rattle.stream_entries.specs.InFormsMeaning.{entries_held, given_in, held_in, list_or_none, overlap_of, settled_in}
use Rattle.stream_entries.specs.declared.entries.Entries.{Entries}
use Rattle.stream_entries.specs.declared.entries.Entries.TheVariants.{Both}
use Rattle.stream_entries.specs.declared.items_left.Item.{Item}
use Rattle.stream_entries.specs.declared.overlap.Form.{Form}
use Rattle.stream_entries.specs.declared.overlap.Form.TheVariants.{Standard, Claim}
use Rattle.stream_entries.specs.declared.overlap.Overlap.{Overlap}

pub in_both : {A B : Type 0} (a b : A) (c d : B) → a ≡ b → c ≡ d → ◌≡◌ {A = A × B} (a, c) (b, d)
in_both {A} {B} a b c d e f =
    let left : A → A × B = λ x. (x, c) in
    let right : B → A × B = λ y. (b, y) in
    ap left e ∙ ap right f

-- One list after another.

pub behind_none : {A : Type 0} (o : Option (List A)) → behind o None ≡ None
behind_none None = refl
behind_none (Some xs) = refl

behind_nothing : {A : Type 0} (o : Option (List A)) → behind o (Some []) ≡ o
behind_nothing None = refl
behind_nothing (Some xs) = ap Some (append-nil xs)

nothing_before : {A : Type 0} (o : Option (List A)) → behind (Some []) o ≡ o
nothing_before None = refl
nothing_before (Some xs) = refl

behind_both : {A : Type 0} (a b c : Option (List A)) → behind (behind a b) c ≡ behind a (behind b c)
behind_both None b c = refl
behind_both (Some xs) None c = refl
behind_both (Some xs) (Some ys) None = refl
behind_both (Some xs) (Some ys) (Some zs) = ap Some (append_assoc xs ys zs)

module _ {A : Type 0} (f : Tree → Option (List A)) where
  joined_first : (x : Tree) (xs : List Tree) → all_joined f (x ∷ xs) ≡ behind (f x) (all_joined f xs)
  joined_first x xs = by (f x) (traverse f xs)
    where
      by : (o : Option (List A)) (os : Option (List (List A)))
          → option_map joined (option_and_then (λ m. option_map (λ ms. m ∷ ms) os) o) ≡ behind o (option_map joined os)
      by None os = refl
      by (Some ys) None = refl
      by (Some ys) (Some ls) = refl

  joined_next : (all rest more : List Tree) (x : Tree) (done new : Option (List A)) → rest ≡ x ∷ more
      → new ≡ behind done (f x) → behind done (all_joined f rest) ≡ all_joined f all
      → behind new (all_joined f more) ≡ all_joined f all
  joined_next all rest more x done new steps is r =
      ap (λ o. behind o (all_joined f more)) is ∙ behind_both done (f x) (all_joined f more)
      ∙ ap (behind done) (sym (joined_first x more))
      ∙ ap (λ xs. behind done (all_joined f xs)) (sym steps) ∙ r

  joined_all : (all rest : List Tree) (done : Option (List A)) → rest ≡ []
      → behind done (all_joined f rest) ≡ all_joined f all → all_joined f all ≡ done
  joined_all all rest done e r = sym r ∙ ap (λ xs. behind done (all_joined f xs)) e ∙ behind_nothing done

  joined_refused : (all rest more : List Tree) (x : Tree) (done : Option (List A)) → rest ≡ x ∷ more
      → behind done (f x) ≡ None → behind done (all_joined f rest) ≡ all_joined f all → all_joined f all ≡ None
  joined_refused all rest more x done steps is r = sym (joined_next all rest more x done None steps (sym is) r)

-- the results so far in each form, followed by the result of the rest, are the result of the whole
module _ {A : Type 0} (f g : Tree → Option (List A)) (all : List Tree) where
  pub record FormsSoFar (rest : List Tree) (done : InForms (List A)) : Type 0 where
    pub standard : behind done.0 (all_joined f rest) ≡ all_joined f all
    pub claim : behind done.1 (all_joined g rest) ≡ all_joined g all

  pub forms_start : (done : InForms (List A)) → done ≡ (Some [], Some []) → FormsSoFar all done
  forms_start done e = record {
    standard = ap (λ (h : InForms (List A)). behind h.0 (all_joined f all)) e ∙ nothing_before (all_joined f all);
    claim = ap (λ (h : InForms (List A)). behind h.1 (all_joined g all)) e ∙ nothing_before (all_joined g all);
  }

  -- one more is read
  pub forms_next : (rest more : List Tree) (x : Tree) (done new : InForms (List A)) → rest ≡ x ∷ more
      → new ≡ behind_in_forms done (f x, g x) → FormsSoFar rest done → FormsSoFar more new
  forms_next rest more x done new steps is r = record {
    standard = joined_next f all rest more x done.0 new.0 steps (ap (λ (h : InForms (List A)). h.0) is) r.standard;
    claim = joined_next g all rest more x done.1 new.1 steps (ap (λ (h : InForms (List A)). h.1) is) r.claim;
  }

  -- nothing is left
  pub forms_all : (rest : List Tree) (done : InForms (List A)) → rest ≡ [] → FormsSoFar rest done
      → ◌≡◌ {A = InForms (List A)} (all_joined f all, all_joined g all) done
  forms_all rest done e r = in_both (all_joined f all) done.0 (all_joined g all) done.1
      (joined_all f all rest done.0 e r.standard) (joined_all g all rest done.1 e r.claim)

  -- both forms are ruled out
  pub forms_refused : (rest more : List Tree) (x : Tree) (done : InForms (List A)) → rest ≡ x ∷ more
      → behind_in_forms done (f x, g x) ≡ (None, None) → FormsSoFar rest done
      → ◌≡◌ {A = InForms (List A)} (all_joined f all, all_joined g all) (None, None)
  forms_refused rest more x done steps is r =
      in_both (all_joined f all) None (all_joined g all) None
      (joined_refused f all rest more x done.0 steps (ap (λ (h : InForms (List A)). h.0) is) r.standard)
      (joined_refused g all rest more x done.1 steps (ap (λ (h : InForms (List A)). h.1) is) r.claim)

pub none_behind : {A : Type 0} (done more : InForms (List A)) → more ≡ (None, None)
    → behind_in_forms done more ≡ (None, None)
none_behind {A} done more e = ap (λ (m : InForms (List A)). behind_in_forms done m) e
    ∙ in_both (behind done.0 None) None (behind done.1 None) None (behind_none done.0) (behind_none done.1)

-- The items of a list.

pub list_in_forms : (t : Tree) (ts : List Tree) → items t ≡ Some ts → entries_in_forms t ≡ items_in_forms ts
list_in_forms t ts is =
    ap
    (λ (o : Option (List Tree)). (
      option_map joined (option_and_then (traverse standard_entries) o),
      option_map joined (option_and_then (traverse claim_entries) o),
    )) is

pub no_list_in_forms : (t : Tree) → items t ≡ None → entries_in_forms t ≡ (None, None)
no_list_in_forms t is =
    ap
    (λ (o : Option (List Tree)). (
      option_map joined (option_and_then (traverse standard_entries) o),
      option_map joined (option_and_then (traverse claim_entries) o),
    )) is

-- What both forms have.

pub nothing_read : (overlaps : Vec Overlap Global) → overlaps.items ≡ []
    → entries_held (Both overlaps) ≡ (Some [], Some [])
nothing_read overlaps e =
    ap
    (λ (os : List Overlap). (
      Some (flat_map (λ o. given_in Standard (overlap_of o)) os),
      Some (flat_map (λ o. given_in Claim (overlap_of o)) os),
    )) e

pub both_have : (form : Form) (overlaps : Vec Overlap Global)
    → true ≡ is_some (held_in form (entries_held (Both overlaps)))
both_have Standard overlaps = refl
both_have Claim overlaps = refl

pub settled_listed : (form : Form) (overlaps : Vec Overlap Global)
    → settled_in form overlaps ≡ list_or_none (held_in form (entries_held (Both overlaps)))
settled_listed Standard overlaps = refl
settled_listed Claim overlaps = refl

-- An item that rules out a form, after entries of both.

module _ (t : Tree) (ids standard claim : List Entry) where
  pub claim_ruled_out : ids ≡ standard → claim_entries t ≡ None
      → ◌≡◌ {A = InForms (List Entry)} (option_map (λ es. ids ++ es) (standard_entries t), None)
      (behind_in_forms (Some standard, Some claim) (item_in_forms t))
  claim_ruled_out e none = in_both (option_map (λ es. ids ++ es) (standard_entries t))
      (option_map (λ es. standard ++ es) (standard_entries t)) None (option_map (λ es. claim ++ es) (claim_entries t))
      (ap (λ (xs : List Entry). option_map (λ es. xs ++ es) (standard_entries t)) e)
      (sym (ap (option_map (λ es. claim ++ es)) none))

  pub standard_ruled_out : ids ≡ claim → standard_entries t ≡ None
      → ◌≡◌ {A = InForms (List Entry)} (None, option_map (λ es. ids ++ es) (claim_entries t))
      (behind_in_forms (Some standard, Some claim) (item_in_forms t))
  standard_ruled_out e none = in_both None (option_map (λ es. standard ++ es) (standard_entries t))
      (option_map (λ es. ids ++ es) (claim_entries t)) (option_map (λ es. claim ++ es) (claim_entries t))
      (sym (ap (option_map (λ es. standard ++ es)) none))
      (ap (λ (xs : List Entry). option_map (λ es. xs ++ es) (claim_entries t)) e)

-- the same item after the same entries
pub same_item : {S : Type 0} (seen : S → Tree) (held taken : Entries) (item i : Item S) → held ≡ taken → item ≡ i
    → behind_in_forms (entries_held taken) (item_in_forms (item_tree seen i))
    ≡ behind_in_forms (entries_held held) (item_in_forms (item_tree seen item))
same_item {S} seen held taken item i a b =
    ap (λ (e : Entries). behind_in_forms (entries_held e) (item_in_forms (item_tree seen i))) (sym a)
    ∙ ap (λ (j : Item S). behind_in_forms (entries_held held) (item_in_forms (item_tree seen j))) (sym b)

pub ruleset list_forms = (list_in_forms, no_list_in_forms)
