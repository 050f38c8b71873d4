-- The laws of the system.
use Rattle.std.proofs.Common.{◌≡◌, ◌⊎◌, inl, inr, sym, subst, List, ◌∷◌, [], ◌++◌}
use Rattle.worker_journal.specs.EntryLine.{Entry}
use Rattle.worker_journal.specs.Lines.{StartsWith}
use Rattle.model_server.specs.Group.Worker.{Id}
use Rattle.model_server.specs.Group.Group.{pending_ids}
use Rattle.model_server.specs.Group.World.{Append, Delete, Read, Reread, Claim, Claim_ids, Comes, Commit, Acknowledge}
use Rattle.model_server.specs.Group.World.{Ack_comes, Go_back, Crash, log_of, empty_world}
use Rattle.model_server.specs.Group.World as group
use Rattle.model_server.specs.Group.Law.{Among}
use Rattle.model_server.proofs.GroupLemmas.Among.{among_left, among_split}
use Rattle.model_server.proofs.GroupLemmas.Unique.{ids_unique, log_grows}
use Rattle.model_workers.specs.Files.Files.{Fields, Form, Files}
use Rattle.model_workers.specs.Files.Law.{IsLineIn}
use Rattle.model_workers.proofs.FilesLemmas.LineLemmas.{line_stays}
use Rattle.model_workers.specs.System.System.{Server, System, Move, Serves, Commits, Sends, Hears, Breaks, Posts, Adds_letter}
use Rattle.model_workers.specs.System.System.{Sends_ack, Settles, Restarts, serves, world_with, lettered_now, first_system}
use Rattle.model_workers.specs.System.System.{moves, run}
use Rattle.model_workers.specs.System.Law.{after, log, IsInAFile, HasLetter, IsKept, IsSettled, EachEntryIsKept}
use Rattle.model_workers.specs.System.Law.{AcknowledgedIsSettled, LettersStay, LettersAreOfTheLog}
use Rattle.model_workers.proofs.SystemLemmas.Logged.{Log}
use Rattle.model_workers.proofs.SystemLemmas.Sound.{Goes, over, at_first}

-- ---- the log grows

served_log : (s : Server) (x : group.Event Fields) (e : Entry) → Among e (s.seen ++ s.fresh)
    → Among e ((serves s x).seen ++ (serves s x).fresh)
served_log s (Append n fields) e h = log_grows (Append n fields ∷ []) (world_with s) e h
served_log s (Delete id) e h = log_grows (Delete id ∷ []) (world_with s) e h
served_log s (Read c n) e h = log_grows (Read c n ∷ []) (world_with s) e h
served_log s (Reread c pick) e h = h
served_log s (Claim c pick next) e h = h
served_log s (Claim_ids c pick) e h = h
served_log s (Ack_comes k) e h = log_grows (Ack_comes k ∷ []) (world_with s) e h
served_log s (Comes k vs) e h = h
served_log s (Commit c) e h = h
served_log s (Acknowledge c) e h = h
served_log s (Go_back c) e h = h
served_log s (Crash c every keeps ids) e h = h

module _ (form : Form) where
  log_each : (s : System) (m : Move) (e : Entry) → Among e (log s) → Among e (log (moves form s m))
  log_each s (Serves x) e h = served_log s.server x e h
  log_each s (Commits name) e h = h
  log_each s (Sends name settings) e h = h
  log_each s (Hears name settings which reply vs) e h = h
  log_each s (Breaks name state question) e h = h
  log_each s (Posts name which x) e h = h
  log_each s (Adds_letter name) e h = h
  log_each s (Sends_ack name) e h = h
  log_each s (Settles name which) e h = h
  log_each s (Restarts name settings torn ids before) e h = h

  log_over : (ms : List Move) (s : System) (e : Entry) → Among e (log s) → Among e (log (run form ms s))
  log_over [] s e h = h
  log_over (m ∷ ms) s e h = log_over ms (moves form s m) e (log_each s m e h)

  -- ---- where an entry is

  module _ (s : System) (g : Goes form s) where
    abbrev its_files : Files
    its_files = g.files

    placed : (e : Entry) → Among e its_files.stream.committed → IsInAFile form s e ⊎ HasLetter s e
    placed e h = elim (g.sound.placed.placed e h) [
      | inl w ↦ inl (
        w.0,
        λ bytes left.
            (let starts : StartsWith (its_files.file w.0) bytes =
            subst (λ xs. StartsWith xs bytes) (sym (g.coupled.file w.0)) left in
            subst (λ xs. IsLineIn (form.line e) xs) (sym starts.1)
            (line_stays (form.line e) (its_files.file w.0) starts.0 w.1)),
      )
      | inr l ↦ inr (subst (λ es. Among e es) g.coupled.letters l)
    ]

    is_deleted : (id : Id) → Among id its_files.stream.deleted → Among id s.server.deleted
    is_deleted id h = let P : Server → Type 0 = λ sv. Among id sv.deleted in subst P g.coupled.server h

    logged : (e : Entry) → Among e its_files.stream.committed → Among e (log_of its_files.stream)
    logged e h =
        let i = g.sound.not_lost in
        among_left e its_files.stream.seen its_files.stream.fresh (i.of_log e (i.committed e h))

    same_fields : (id : Id) (a b : Fields) → Among (id, a) (log_of its_files.stream)
        → Among (id, b) (log_of its_files.stream) → a ≡ b
    same_fields id a b h k =
        let P : Fields → Log → Type 0 = λ x l. Among (id, x) (l.seen ++ l.fresh) in
        ids_unique g.sound.history id a b (subst (P a) g.sound.log h) (subst (P b) g.sound.log k)

    kept_at : (e : Entry) → Among e (log s) → IsKept form s e
    kept_at e h =
        let P : Server → Type 0 = λ sv. Among e (sv.seen ++ sv.fresh) in
        let here : Among e (log_of its_files.stream) = subst P (sym g.coupled.server) h in
        elim (among_split e its_files.stream.seen its_files.stream.fresh here) [
          | inl a ↦ elim (g.sound.not_lost.lost e a) [
            | inl p ↦ inr (inl
                (let Q : Server → Type 0 = λ sv. Among e.0 (pending_ids sv.pending) in subst Q g.coupled.server p))
            | inr k ↦ inr (inr (elim k [
              | inl f ↦
                  (let same : f.0 ≡ e.1 = same_fields e.0 f.0 e.1 (logged (e.0, f.0) f.1) here in
                  let R : Fields → Type 0 = λ x. Among (e.0, x) its_files.stream.committed in
                  elim (placed e (subst R same f.1)) [ inl w ↦ inl w | inr l ↦ inr (inl l) ])
              | inr d ↦ inr (inr (is_deleted e.0 d))
            ]))
          ]
          | inr a ↦ inl (let Q : Server → Type 0 = λ sv. Among e sv.fresh in subst Q g.coupled.server a)
        ]

    settled_at : (id : Id) → Among id s.server.acknowledged_ids → IsSettled form s id
    settled_at id h =
        let P : Server → Type 0 = λ sv. Among id sv.acknowledged_ids in
        elim (g.sound.not_lost.acked id (subst P (sym g.coupled.server) h)) [
          | inl f ↦ inl (f.0, placed (id, f.0) f.1)
          | inr d ↦ inr (is_deleted id d)
        ]

    letter_logged : (e : Entry) → HasLetter s e → Among e (log s)
    letter_logged e h =
        let P : Server → Type 0 = λ sv. Among e (sv.seen ++ sv.fresh) in
        subst P g.coupled.server
        (logged e (g.sound.placed.letters e (subst (λ es. Among e es) (sym g.coupled.letters) h)))

  letters_each : (s : System) (m : Move) (e : Entry) → HasLetter s e → HasLetter (moves form s m) e
  letters_each s (Serves x) e h = h
  letters_each s (Commits name) e h = h
  letters_each s (Sends name settings) e h = h
  letters_each s (Hears name settings which reply vs) e h = h
  letters_each s (Breaks name state question) e h = h
  letters_each s (Posts name which x) e h = h
  letters_each s (Adds_letter name) e h = among_left e s.letters (lettered_now (s.desks name)) h
  letters_each s (Sends_ack name) e h = h
  letters_each s (Settles name which) e h = h
  letters_each s (Restarts name settings torn ids before) e h = h

  letters_over : (ms : List Move) (s : System) (e : Entry) → HasLetter s e → HasLetter (run form ms s) e
  letters_over [] s e h = h
  letters_over (m ∷ ms) s e h = letters_over ms (moves form s m) e (letters_each s m e h)

pub each_entry_is_kept : EachEntryIsKept
each_entry_is_kept form before ms more truly truly_more e h =
    let s : System = after form before ms in
    let one = over form ms (first_system before) (at_first form before) truly in
    kept_at form (run form more s) (over form more s one truly_more) e (log_over form more s e h)

pub acknowledged_is_settled : AcknowledgedIsSettled
acknowledged_is_settled form before ms truly id h =
    settled_at form (after form before ms) (over form ms (first_system before) (at_first form before) truly) id h

pub letters_stay : LettersStay
letters_stay form s ms e h = letters_over form ms s e h

pub letters_are_of_the_log : LettersAreOfTheLog
letters_are_of_the_log form before ms truly e h =
    letter_logged form (after form before ms) (over form ms (first_system before) (at_first form before) truly) e h
