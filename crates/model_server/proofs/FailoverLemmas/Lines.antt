-- What the lines of a consumer are of, if the replies to it are.
use Rattle.std.proofs.Common.{◌≡◌, inl, inr, sym, ap, subst, ◌∙◌, ℕ, Bool, true, false, List, ◌++◌, take, drop}
use Rattle.std.proofs.Common.{append_assoc, Option, Some, None, if◌then◌else◌}
use Rattle.std.proofs.lemmas.List.{take-append-drop}
use Rattle.model_server.specs.Group.Worker.{Entry, Verdict, Answer, acknowledged, entries_in, handled_in}
use Rattle.model_server.specs.Group.Group.{ids_of}
use Rattle.model_server.specs.Group.Law.{Among}
use Rattle.model_server.proofs.GroupLemmas.Among.{among_left, among_split}
use Rattle.model_server.specs.Once.Consumer.{Consumer, syncs, restarts, reconnects}
use Rattle.model_server.proofs.OnceLemmas.Apart.{handled_from}
use Rattle.model_server.proofs.OnceLemmas.Fill.{append_nil}
use Rattle.model_server.specs.Failover.Lookup.{unwritten, lines_of, looks_up}
use Rattle.model_server.specs.Failover.Law.{on_the_way}
use Rattle.model_server.proofs.FailoverLemmas.Looked.{unwritten_within}

-- each line is so, and each entry on the way to get one
pub record Lines {F : Type 0} (P : Entry F → Type 0) (c : Consumer F) : Type 0 where
  pub lines : (e : Entry F) → Among e (lines_of c) → P e
  pub coming : (e : Entry F) → Among (e.0, Some e.1) (on_the_way c.answer) → P e

module _ {F : Type 0} (P : Entry F → Type 0) where
  pub more : (Q : Entry F → Type 0) (c : Consumer F) → ((e : Entry F) → P e → Q e) → Lines P c → Lines Q c
  more Q c f r = record { lines = λ e h. f e (r.lines e h); coming = λ e h. f e (r.coming e h) }

  pub taken : (c : Consumer F) (vs : List Verdict) (o : Option (Answer F)) → c.answer ≡ o → Lines P c
      → Lines P (looks_up vs o c)
  taken c vs None q r = r
  taken c vs (Some a) q r =
      let new : List (Entry F) = handled_in (entries_in a) vs in
      let got : List (Entry F) = unwritten (ids_of (lines_of c)) new in
      let In : List (Entry F) → Entry F → Type 0 = λ l e. Among e l in
      let Comes : Option (Answer F) → Entry F → Type 0 = λ o e. Among (e.0, Some e.1) (on_the_way o) in
      record {
        lines = λ e h. elim (among_split e (lines_of c) got
            (subst (λ l. In l e) (sym (append_assoc c.file c.lines got)) h)) [
              | inl b ↦ r.lines e b
              | inr b ↦ r.coming e (subst (λ o. Comes o e) (sym q)
                  (handled_from (entries_in a) vs e (unwritten_within (ids_of (lines_of c)) new e b)))
            ];
        coming = λ e h. absurd h;
      }

  pub synced : (c : Consumer F) (b : Bool) → Lines P c → Lines P (if b then syncs c else c)
  synced c false r = r
  synced c true r = record {
    lines = λ e h.
        let In : List (Entry F) → Type 0 = λ l. Among e l in
        r.lines e (subst In (append_nil (c.file ++ c.lines)) h);
    coming = r.coming;
  }

  pub restarted : (c : Consumer F) (every kept n : ℕ) → Lines P c → Lines P (restarts every kept n c)
  restarted c every kept n r =
      let some : List (Entry F) = take kept c.lines in
      let cut : List (Entry F) = drop kept c.lines in
      let all_is : c.file ++ c.lines ≡ (c.file ++ some) ++ cut =
      ap (λ l. c.file ++ l) (sym (take-append-drop kept c.lines)) ∙ sym (append_assoc c.file some cut) in
      record {
        lines = λ e h.
            let In : List (Entry F) → Type 0 = λ l. Among e l in
            r.lines e (subst In (sym all_is)
            (among_left e (c.file ++ some) cut (subst In (append_nil (c.file ++ some)) h)));
        coming = λ e h. absurd h;
      }

  pub cut_off : (c : Consumer F) → Lines P c → Lines P (reconnects c)
  cut_off c r = record { lines = r.lines; coming = λ e h. absurd h }

  pub answered : (c : Consumer F) → Lines P c → Lines P (record c { answer = Some acknowledged })
  answered c r = record { lines = r.lines; coming = λ e h. absurd h }
