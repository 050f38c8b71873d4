-- Each move keeps what the laws rest on: files of `model_workers::files` go with the system, and its laws hold of them.
use Rattle.std.proofs.Common.{◌≡◌, inl, inr, refl, sym, ap, subst, ◌∙◌, ℕ, Bool, true, false, not, List, [], ◌∷◌, ◌++◌}
use Rattle.std.proofs.Common.{Some, if◌then◌else◌}
use Rattle.std.specs.Prelude.{drop}
use Rattle.worker_journal.specs.EntryLine.{Entry}
use Rattle.model_server.specs.Group.Worker.{Id, taken_over}
use Rattle.model_server.specs.Group.Group.{Name, ids_of}
use Rattle.model_server.specs.Group.World.{World, Reply, item, but, empty_world}
use Rattle.model_server.specs.Group.World as group
use Rattle.model_server.specs.Group.Law.{Among}
use Rattle.model_server.proofs.GroupLemmas.Among.{among_left, among_right, among_split, among_item, among_but}
use Rattle.model_server.proofs.GroupLemmas.Lost as lost
use Rattle.model_workers.specs.Files.Files.{Fields, Form, Files, Event, first_files, happens}
use Rattle.model_workers.specs.Files.Files as files
use Rattle.model_workers.proofs.FilesLemmas.Step.{of_group, one_alone, at_each}
use Rattle.model_workers.proofs.FilesLemmas.Kept as files_kept
use Rattle.worker.specs.Machine.{commits, is_empty}
use Rattle.model_workers.specs.System.System.{Server, System, Desk, Move, Serves, Commits, Sends, Hears, Breaks, Posts}
use Rattle.model_workers.specs.System.System.{Adds_letter, Sends_ack, Settles, Restarts, first, lettered_now, with_letter}
use Rattle.model_workers.specs.System.System.{acknowledges_now, without_first, heard, first_system, moves, run}
use Rattle.model_workers.specs.System.Law.{HasClaimed, HearsTruly, AllHearTruly}
use Rattle.model_workers.proofs.SystemLemmas.Logged.{log_in, run_last, same_log}
use Rattle.model_workers.proofs.SystemLemmas.Coupled.{Coupled, Follows, Added, FirstIsAdded}
use Rattle.model_workers.proofs.SystemLemmas.Coupled as coupled

-- ---- what waits in a queue

first_waits : (es : List Entry) (e : Entry) → Among e (first es) → Among e es
first_waits [] e h = h
first_waits (x ∷ es) e (inl q) = inl q
first_waits (x ∷ es) e (inr h) = absurd h

now_waits : (es : List Entry) (added : Bool) (e : Entry) → Among e (if added then [] else first es) → Among e es
now_waits es true e h = absurd h
now_waits es false e h = first_waits es e h

behind_waits : (es : List Entry) (e : Entry) → Among e (drop 1 es) → Among e es
behind_waits [] e h = h
behind_waits (x ∷ es) e h = inr h

added_stays : (letters more : List Entry) (e : Entry) (added : Bool) → Added letters e added
    → Added (letters ++ more) e added
added_stays letters more e true h = among_left e letters more h
added_stays letters more e false h = tt

first_stays : (letters more es : List Entry) (added : Bool) → FirstIsAdded letters es added
    → FirstIsAdded (letters ++ more) es added
first_stays letters more [] added h = h
first_stays letters more (e ∷ es) added h = added_stays letters more e added h

not_added : (letters : List Entry) (e : Entry) (added : Bool) → added ≡ false → Added letters e added
not_added letters e added q = subst (λ b. Added letters e b) (sym q) tt

one_more : (letters es : List Entry) (e : Entry) (added : Bool) → FirstIsAdded letters es added
    → FirstIsAdded letters (es ++ e ∷ []) added
one_more letters [] e added h = not_added letters e added h
one_more letters (x ∷ es) e added h = h

now_added : (letters : List Entry) (e : Entry) (added : Bool) → Added letters e added
    → Among e (letters ++ (if added then [] else e ∷ []))
now_added letters e true h = among_left e letters [] h
now_added letters e false h = among_right e letters (e ∷ []) (inl refl)

first_now : (letters es : List Entry) (added : Bool) → FirstIsAdded letters es added
    → FirstIsAdded (letters ++ (if added then [] else first es)) es (not (is_empty es))
first_now letters [] added h = refl
first_now letters (e ∷ es) added h = now_added letters e added h

next_first : (letters es : List Entry) → FirstIsAdded letters es false
next_first letters [] = refl
next_first letters (e ∷ es) = tt

-- what is acknowledged has a dead letter
acknowledged_lettered : (letters es : List Entry) (added : Bool) → FirstIsAdded letters es added → (id : Id)
    → Among id (if added then ids_of (first es) else []) → (fields : Fields) × Among (id, fields) letters
acknowledged_lettered letters es false h id k = absurd k
acknowledged_lettered letters [] true h id k = absurd k
acknowledged_lettered letters (e ∷ es) true h id (inl q) = (e.1, subst (λ i. Among (i, e.1) letters) q h)
acknowledged_lettered letters (e ∷ es) true h id (inr k) = absurd k

-- ---- the files that go with the system

module _ (form : Form) where
  pub record Sound (f : Files) : Type 0 where
    pub not_lost : lost.Inv f.stream
    pub placed : files_kept.Inv form f
    pub history : List (group.Event Fields)
    pub log : log_in f.stream ≡ log_in (group.run history empty_world)

  -- files go with the system
  pub record Goes (s : System) : Type 0 where
    pub files : Files
    pub sound : Sound files
    pub coupled : Coupled s files

  by_event : (f : Files) → Sound f → (e : Event) → Sound (happens form f e)
  by_event f i e =
      let x : group.Event Fields = of_group form f e in
      record {
        not_lost = subst (λ w. lost.Inv w) (sym (one_alone form f e)) (lost.all_of_run (x ∷ []) f.stream i.not_lost);
        placed = files_kept.each form f i.placed e;
        history = i.history ++ x ∷ [];
        log = ap log_in (one_alone form f e)
            ∙ same_log f.stream (group.run i.history empty_world) x i.log
            ∙ ap log_in (sym (run_last i.history x empty_world));
      }

  by_events : (es : List Event) (f : Files) → Sound f → Sound (files.run form es f)
  by_events [] f i = i
  by_events (e ∷ es) f i = by_events es (happens form f e) (by_event f i e)

  going : (s : System) (f : Files) → Sound f → Follows form s f → Goes s
  going s f i led = record {
    files = files.run form led.events f;
    sound = by_events led.events f i;
    coupled = led.coupled;
  }

  -- ---- the moves of a queue

  abbrev without : Files → ℕ → Files
  without f which = record f { stream = record f.stream { replies = but f.stream.replies which } }

  without_reply : (f : Files) → Sound f → (which : ℕ) → Sound (without f which)
  without_reply f i which = record {
    not_lost = record {
      lost = i.not_lost.lost;
      answers = λ r h. i.not_lost.answers r (among_but f.stream.replies which r h);
      done = i.not_lost.done;
      held = i.not_lost.held;
      sent = i.not_lost.sent;
      acked = i.not_lost.acked;
      of_log = i.not_lost.of_log;
      loose = i.not_lost.loose;
      committed = i.not_lost.committed;
    };
    placed = record { are_lines = i.placed.are_lines; placed = i.placed.placed; letters = i.placed.letters };
    history = i.history;
    log = i.log;
  }

  abbrev fewer_replies : ℕ → Server → Server
  fewer_replies which sv = record sv { replies = but sv.replies which }

  post : (s : System) (f : Files) → Sound f → Coupled s f → (name : Name) (which : ℕ) (e : Entry)
      → HasClaimed s name which e → Goes (moves form s (Posts name which e))
  post s f i c name which e h =
      let d : Desk = s.desks name in
      let now : Desk = record d { waiting = d.waiting ++ e ∷ [] } in
      let r : Reply Fields = record { consumer = name; answer = taken_over h.0 ((e.0, Some e.1) ∷ []) } in
      let here : item f.stream.replies which ≡ Some r = ap (λ (sv : Server). item sv.replies which) c.server ∙ h.1 in
      let seen : Among e f.stream.seen =
      i.not_lost.answers r (among_item f.stream.replies which r here) (e.0, Some e.1) (inl refl) in
      record {
        files = without f which;
        sound = without_reply f i which;
        coupled = record {
          server = ap (fewer_replies which) c.server;
          file = c.file;
          machine = c.machine;
          loose = c.loose;
          filed = c.filed;
          letters = c.letters;
          posted = at_each s.desks name now (λ n d. (x : Entry) → Among x d.waiting → Among x f.stream.seen) c.posted
              (λ x k. elim (among_split x d.waiting (e ∷ []) k) [
                | inl a ↦ c.posted name x a
                | inr a ↦ elim a [ inl q ↦ subst (λ y. Among y f.stream.seen) q seen | inr z ↦ absurd z ]
              ]);
          added = at_each s.desks name now (λ n d. FirstIsAdded s.letters d.waiting d.added) c.added
              (one_more s.letters d.waiting e d.added (c.added name));
        };
      }

  add_letter : (s : System) (f : Files) → Sound f → Coupled s f → (name : Name)
      → Goes (moves form s (Adds_letter name))
  add_letter s f i c name =
      let d : Desk = s.desks name in
      let now : List Entry = lettered_now d in
      let w : World Fields = f.stream in
      let g : Files = record f {
        stream = record w { handled = w.handled ++ now; committed = w.committed ++ now };
        letters = f.letters ++ now;
      } in
      let did : (e : Entry) → Among e w.handled → Among e (w.handled ++ now) = λ e h. among_left e w.handled now h in
      let is_done : (id : Id) → lost.IsDone w.deleted w.committed id → lost.IsDone w.deleted (w.committed ++ now) id =
      λ id h. elim h [ inl p ↦ inl (p.0, among_left (id, p.0) w.committed now p.1) | inr k ↦ inr k ] in
      record {
        files = g;
        sound = record {
          not_lost = record {
            lost = λ e h. elim (i.not_lost.lost e h) [ inl p ↦ inl p | inr k ↦ inr (is_done e.0 k) ];
            answers = i.not_lost.answers;
            done = i.not_lost.done;
            held = λ n id h. is_done id (i.not_lost.held n id h);
            sent = λ a h id k. is_done id (i.not_lost.sent a h id k);
            acked = λ id h. is_done id (i.not_lost.acked id h);
            of_log = λ e h. elim (among_split e w.handled now h) [
              | inl a ↦ i.not_lost.of_log e a
              | inr a ↦ c.posted name e (now_waits d.waiting d.added e a)
            ];
            loose = λ n e h. did e (i.not_lost.loose n e h);
            committed = λ e h. elim (among_split e w.committed now h) [
              | inl a ↦ did e (i.not_lost.committed e a)
              | inr a ↦ among_right e w.handled now a
            ];
          };
          placed = record {
            are_lines = i.placed.are_lines;
            placed = λ e h. elim (among_split e w.committed now h) [
              | inl a ↦ elim (i.placed.placed e a) [ inl p ↦ inl p | inr l ↦ inr (among_left e f.letters now l) ]
              | inr a ↦ inr (among_right e f.letters now a)
            ];
            letters = λ e h. elim (among_split e f.letters now h) [
              | inl a ↦ among_left e w.committed now (i.placed.letters e a)
              | inr a ↦ among_right e w.committed now a
            ];
          };
          history = i.history;
          log = i.log;
        };
        coupled = record {
          server = c.server;
          file = c.file;
          machine = c.machine;
          loose = c.loose;
          filed = λ e h. among_left e w.committed now (c.filed e h);
          letters = ap (λ es. es ++ now) c.letters;
          posted = at_each s.desks name (with_letter d) (λ n d. (x : Entry) → Among x d.waiting → Among x w.seen) c.posted
              (c.posted name);
          added = at_each s.desks name (with_letter d) (λ n d. FirstIsAdded (s.letters ++ now) d.waiting d.added)
              (λ n. first_stays s.letters now (s.desks n).waiting (s.desks n).added (c.added n))
              (first_now s.letters d.waiting d.added (c.added name));
        };
      }

  send_ack : (s : System) (f : Files) → Sound f → Coupled s f → (name : Name) → Goes (moves form s (Sends_ack name))
  send_ack s f i c name =
      let d : Desk = s.desks name in
      let ids : List Id = acknowledges_now d in
      let w : World Fields = f.stream in
      let one_ack : Server → Server = λ sv. record sv { acks = (name, ids) ∷ sv.acks } in
      let lettered : (id : Id) → Among id ids → lost.IsDone w.deleted w.committed id = λ id h. (
      let l = acknowledged_lettered s.letters d.waiting d.added (c.added name) id h in
      inl (l.0, i.placed.letters (id, l.0) (subst (λ es. Among (id, l.0) es) (sym c.letters) l.1))) in
      record {
        files = record f { stream = record w { acks = (name, ids) ∷ w.acks } };
        sound = record {
          not_lost = record {
            lost = i.not_lost.lost;
            answers = i.not_lost.answers;
            done = i.not_lost.done;
            held = i.not_lost.held;
            sent = λ a h id k. elim h [
              | inl q ↦ lettered id (let P : Name × List Id → Type 0 = λ b. Among id b.1 in subst P (sym q) k)
              | inr b ↦ i.not_lost.sent a b id k
            ];
            acked = i.not_lost.acked;
            of_log = i.not_lost.of_log;
            loose = i.not_lost.loose;
            committed = i.not_lost.committed;
          };
          placed = record { are_lines = i.placed.are_lines; placed = i.placed.placed; letters = i.placed.letters };
          history = i.history;
          log = i.log;
        };
        coupled = record {
          server = ap one_ack c.server;
          file = c.file;
          machine = c.machine;
          loose = c.loose;
          filed = c.filed;
          letters = c.letters;
          posted = c.posted;
          added = c.added;
        };
      }

  settle : (s : System) (f : Files) → Sound f → Coupled s f → (name : Name) (which : ℕ)
      → Goes (moves form s (Settles name which))
  settle s f i c name which =
      let d : Desk = s.desks name in
      record {
        files = without f which;
        sound = without_reply f i which;
        coupled = record {
          server = ap (fewer_replies which) c.server;
          file = c.file;
          machine = c.machine;
          loose = c.loose;
          filed = c.filed;
          letters = c.letters;
          posted = at_each s.desks name (without_first d) (λ n d. (x : Entry) → Among x d.waiting → Among x f.stream.seen)
              c.posted (λ x k. c.posted name x (behind_waits d.waiting x k));
          added = at_each s.desks name (without_first d) (λ n d. FirstIsAdded s.letters d.waiting d.added) c.added
              (next_first s.letters (drop 1 d.waiting));
        };
      }

  -- ---- all moves

  each : (s : System) (f : Files) → Sound f → Coupled s f → (m : Move) → HearsTruly s m → Goes (moves form s m)
  each s f i c (Serves e) h = going (moves form s (Serves e)) f i (coupled.serve form s f c e)
  each s f i c (Commits name) h =
      going (moves form s (Commits name)) f i (coupled.commit form s f c name (commits (s.workers name).machine))
  each s f i c (Sends name settings) h =
      going (moves form s (Sends name settings)) f i (coupled.send form s f c name settings)
  each s f i c (Hears name settings which reply vs) h =
      going (moves form s (Hears name settings which reply vs)) f i
      (coupled.hear form s f c name _ which (heard settings (s.workers name) reply) vs h)
  each s f i c (Breaks name state question) h =
      going (moves form s (Breaks name state question)) f i (coupled.begin_again form s f c name state question)
  each s f i c (Posts name which e) h = post s f i c name which e h
  each s f i c (Adds_letter name) h = add_letter s f i c name
  each s f i c (Sends_ack name) h = send_ack s f i c name
  each s f i c (Settles name which) h = settle s f i c name which
  each s f i c (Restarts name settings torn ids before) h =
      going (moves form s (Restarts name settings torn ids before)) f i
      (coupled.restart form s f c name settings torn ids before)

  pub over : (ms : List Move) (s : System) → Goes s → AllHearTruly form s ms → Goes (run form ms s)
  over [] s g h = g
  over (m ∷ ms) s g h = over ms (moves form s m) (each s g.files g.sound g.coupled m h.0) h.1

  pub at_first : (before : Name → List ℕ) → Goes (first_system before)
  at_first before = record {
    files = first_files before;
    sound = record { not_lost = lost.always []; placed = files_kept.at_first form before; history = []; log = refl };
    coupled = coupled.at_first form before;
  }
