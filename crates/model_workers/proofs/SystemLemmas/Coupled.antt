-- Each move of a worker or of the server is some events of `model_workers::files`, and does not change the queues.
use Rattle.std.proofs.Common.{◌≡◌, inl, inr, refl, sym, ap, subst, ◌∙◌, ℕ, Bool, true, false, List, [], ◌∷◌, ◌++◌, filter}
use Rattle.std.proofs.Common.{append-nil, Option, Some, None, if◌then◌else◌}
use Rattle.std.proofs.lemmas.Slice.Eq.{bytes_eq-Decides}
use Rattle.std.specs.Str.{bytes_eq}
use Rattle.worker_journal.specs.EntryLine.{Entry}
use Rattle.model_server.specs.Group.Worker.{Id, Verdict, Machine, Delivered, entries_in, handled_in, begins_with}
use Rattle.model_server.specs.Group.Worker.{after, after_commit, begins_again}
use Rattle.model_server.specs.Group.Group.{Name}
use Rattle.model_server.specs.Group.World.{World, Reply, Append, Delete, Read, Reread, Claim, Claim_ids, Comes, Commit}
use Rattle.model_server.specs.Group.World.{Acknowledge, Ack_comes, Go_back, Crash, item, but, comes, with_one}
use Rattle.model_server.specs.Group.World.{committed_after, among_ids}
use Rattle.model_server.specs.Group.World as group
use Rattle.model_server.specs.Group.Group.{listed, ids_of}
use Rattle.model_server.specs.Group.Law.{Among}
use Rattle.model_server.proofs.GroupLemmas.Among.{among_left, among_right, among_split, among_map, among_of_map, among_filter}
use Rattle.model_server.proofs.GroupLemmas.Among.{among_filtered, filtered_passes, listed_among}
use Rattle.model_workers.specs.Files.Files.{Fields, Form, Files, Goes, Reopens, first_files, lines, whole_lines, is_in}
use Rattle.model_workers.specs.Files.Files as files
use Rattle.worker.specs.Answers.{Heard, told, no_group, group_made}
use Rattle.worker.specs.Gathered.{Doings, done_too, committed_too}
use Rattle.worker.specs.Session.{Standing, having_heard}
use Rattle.worker.specs.declared.state.Asked.{Asked}
use Rattle.worker.specs.declared.state.GroupState.{GroupState}
use Rattle.worker.specs.declared.state.Settings.{Settings}
use Rattle.model_workers.proofs.FilesLemmas.Started.{then_committed, all_its_own, all_listed}
use Rattle.model_workers.proofs.FilesLemmas.Step.{at_each}
use Rattle.worker.proofs.StepLemmas.{all_done}
use Rattle.model_workers.specs.System.System.{Server, System, Serves, Sends, Breaks, Restarts, server_of, new_desk}
use Rattle.model_workers.specs.System.System.{world_with, first_system, with_worker, waiting, still_coming, new_worker}
use Rattle.model_workers.specs.System.System.{repaired, filed_then, read_back, moves}
use Rattle.model_workers.specs.System.Law.{IsReplyTo}
use Rattle.model_workers.proofs.SystemLemmas.Served.{IsServed, append, delete, read, reread, claim, claim_ids, ack_came}

-- ---- one of many

-- both change at the same place
both_one : {A B C : Type 0} (fs : Name → A) (gs : Name → B) (q : A → C) (p : B → C) (name : Name) (a : A) (b : B)
    → ((n : Name) → q (fs n) ≡ p (gs n)) → q a ≡ p b → (n : Name) → q (with_one fs name a n) ≡ p (with_one gs name b n)
both_one fs gs q p name a b old new n =
    let case : (t : Bool) → q (if t then a else fs n) ≡ p (if t then b else gs n)
    = λ t. elim t as (λ t. q (if t then a else fs n) ≡ p (if t then b else gs n)) [ true ↦ new | false ↦ old n ] in
    case (bytes_eq name n)

-- one of the two changes, and the statement about it is still true
one_side : {A B : Type 0} (fs : Name → A) (gs : Name → B) (p : B → A) (name : Name) (b : B)
    → ((n : Name) → fs n ≡ p (gs n)) → fs name ≡ p b → (n : Name) → fs n ≡ p (with_one gs name b n)
one_side fs gs p name b old new n =
    let case : (t : Bool) → bytes_eq name n ≡ t → fs n ≡ p (if t then b else gs n)
    = λ t. elim t as (λ t. bytes_eq name n ≡ t → fs n ≡ p (if t then b else gs n)) [
      | true ↦ λ q. subst (λ m. fs m ≡ p b) ((bytes_eq-Decides name n).0 q) new
      | false ↦ λ q. old n
    ] in
    case (bytes_eq name n) refl

filter_all : {A : Type 0} (xs : List A) → filter (λ x. true) xs ≡ xs
filter_all [] = refl
filter_all (x ∷ xs) = ap (λ ys. x ∷ ys) (filter_all xs)

filter_none : {A : Type 0} (xs : List A) → filter (λ x. false) xs ≡ []
filter_none [] = refl
filter_none (x ∷ xs) = filter_none xs

-- ---- the system and the model side by side

abbrev machine_in : Standing Doings → Machine
machine_in w = w.machine

abbrev loose_in : Standing Doings → List Entry
loose_in w = w.history.loose

-- if it was added, the entry has a dead letter
abbrev pub Added : List Entry → Entry → Bool → Type 0
Added letters e true = Among e letters
Added letters e false = Unit {0}

-- the first of these has a dead letter, if it was added; nothing was added if none waits
abbrev pub FirstIsAdded : List Entry → List Entry → Bool → Type 0
FirstIsAdded letters [] added = added ≡ false
FirstIsAdded letters (e ∷ es) added = Added letters e added

pub record Coupled (s : System) (f : Files) : Type 0 where
  pub server : server_of f.stream ≡ s.server
  pub file : (n : Name) → f.file n ≡ s.file n
  pub machine : (n : Name) → f.stream.workers n ≡ (s.workers n).machine
  pub loose : (n : Name) → f.stream.loose n ≡ (s.workers n).history.loose
  pub filed : (e : Entry) → Among e s.filed → Among e f.stream.committed
  pub letters : f.letters ≡ s.letters
  pub posted : (n : Name) (e : Entry) → Among e (s.desks n).waiting → Among e f.stream.seen
  pub added : (n : Name) → FirstIsAdded s.letters (s.desks n).waiting (s.desks n).added

module _ (form : Form) where
  -- some events lead there
  pub record Follows (s : System) (f : Files) : Type 0 where
    pub events : List files.Event
    pub coupled : Coupled s (files.run form events f)

  nothing_happens : (s : System) (f : Files) → Coupled s f → Follows s f
  nothing_happens s f c = record { events = []; coupled = c }

  -- ---- the server

  served : (s : System) (f : Files) → Coupled s f → (e : group.Event Fields) → IsServed f.stream e
      → Coupled (record s { server = server_of (group.happens (world_with s.server) e) })
      (record f { stream = group.happens f.stream e })
  served s f c e i = record {
    server = i.server ∙ ap (λ sv. server_of (group.happens (world_with sv) e)) c.server;
    file = c.file;
    machine = λ n. i.workers n ∙ c.machine n;
    loose = λ n. i.loose n ∙ c.loose n;
    filed = λ x h. let P : List Entry → Type 0 = λ es. Among x es in subst P (sym i.committed) (c.filed x h);
    letters = c.letters;
    posted = λ n x h. i.seen x (c.posted n x h);
    added = c.added;
  }

  pub serve : (s : System) (f : Files) → Coupled s f → (e : group.Event Fields) → Follows (moves form s (Serves e)) f
  serve s f c (Append n fields) = record {
    events = Goes (Append n fields) ∷ [];
    coupled = served s f c (Append n fields) (append f.stream n fields);
  }
  serve s f c (Delete id) = record {
    events = Goes (Delete id) ∷ [];
    coupled = served s f c (Delete id) (delete f.stream id);
  }
  serve s f c (Read name n) = record {
    events = Goes (Read name n) ∷ [];
    coupled = served s f c (Read name n) (read f.stream name n);
  }
  serve s f c (Reread name pick) = record {
    events = Goes (Reread name pick) ∷ [];
    coupled = served s f c (Reread name pick) (reread f.stream name pick);
  }
  serve s f c (Claim name pick next) = record {
    events = Goes (Claim name pick next) ∷ [];
    coupled = served s f c (Claim name pick next) (claim f.stream name pick next);
  }
  serve s f c (Claim_ids name pick) = record {
    events = Goes (Claim_ids name pick) ∷ [];
    coupled = served s f c (Claim_ids name pick) (claim_ids f.stream name pick);
  }
  serve s f c (Ack_comes k) = record {
    events = Goes (Ack_comes k) ∷ [];
    coupled = served s f c (Ack_comes k) (ack_came f.stream k);
  }
  serve s f c (Comes k vs) = nothing_happens s f c
  serve s f c (Commit name) = nothing_happens s f c
  serve s f c (Acknowledge name) = nothing_happens s f c
  serve s f c (Go_back name) = nothing_happens s f c
  serve s f c (Crash name every keeps ids) = nothing_happens s f c

  -- ---- a worker

  -- it commits, if it does
  abbrev pub having_committed : System → Name → Bool → System
  having_committed s name b = record (with_worker s name (record (s.workers name) {
    machine = if b then after_commit (s.workers name).machine else (s.workers name).machine;
    history = if b then committed_too (s.workers name).history else (s.workers name).history;
  })) {
    file = with_one s.file name
        (s.file name ++ lines form (if b then (s.workers name).history.loose else []));
    filed = s.filed ++ (if b then (s.workers name).history.loose else []);
  }

  pub commit : (s : System) (f : Files) → Coupled s f → (name : Name) (b : Bool) → Follows (having_committed s name b) f
  commit s f c name true =
      let w : Standing Doings = s.workers name in
      let now : Standing Doings = record w { machine = after_commit w.machine; history = committed_too w.history } in
      let batch : files.batch form f name (λ e. false) ≡ lines form w.history.loose =
      ap (λ es. lines form es) (filter_all (f.stream.loose name)) ∙ ap (λ es. lines form es) (c.loose name) in
      record {
        events = Goes (Commit name) ∷ [];
        coupled = record {
          server = c.server;
          file = both_one f.file s.file (λ xs. xs) (λ xs. xs) name (f.file name ++ files.batch form f name (λ e. false))
              (s.file name ++ lines form w.history.loose) c.file
              (ap (λ xs. xs ++ files.batch form f name (λ e. false)) (c.file name) ∙ ap (λ xs. s.file name ++ xs) batch);
          machine = both_one f.stream.workers s.workers (λ m. m) machine_in name (after_commit (f.stream.workers name)) now
              c.machine (ap after_commit (c.machine name));
          loose = both_one f.stream.loose s.workers (λ es. es) loose_in name [] now c.loose refl;
          filed = λ e h. elim (among_split e s.filed w.history.loose h) [
            | inl a ↦ among_left e f.stream.committed (f.stream.loose name) (c.filed e a)
            | inr a ↦ among_right e f.stream.committed (f.stream.loose name)
                (subst (λ es. Among e es) (sym (c.loose name)) a)
          ];
          letters = ap (λ es. f.letters ++ es) (filter_none (f.stream.loose name)) ∙ append-nil f.letters ∙ c.letters;
          posted = c.posted;
          added = c.added;
        };
      }
  commit s f c name false = record {
    events = [];
    coupled = record {
      server = c.server;
      file = one_side f.file s.file (λ xs. xs) name (s.file name ++ []) c.file
          (c.file name ∙ sym (append-nil (s.file name)));
      machine = one_side f.stream.workers s.workers machine_in name (s.workers name) c.machine (c.machine name);
      loose = one_side f.stream.loose s.workers loose_in name (s.workers name) c.loose (c.loose name);
      filed = λ e h. elim (among_split e s.filed [] h) [ inl a ↦ c.filed e a | inr a ↦ absurd a ];
      letters = c.letters;
      posted = c.posted;
      added = c.added;
    };
  }

  pub send : (s : System) (f : Files) → Coupled s f → (name : Name) (settings : Settings)
      → Follows (moves form s (Sends name settings)) f
  send s f c name settings =
      let w : Standing Doings = s.workers name in
      record {
        events = Goes (Acknowledge name) ∷ [];
        coupled = record {
          server =
              ap (λ sv. let x : Server = record sv { acks = (name, (f.stream.workers name).to_acknowledge) ∷ sv.acks } in x) c.server
              ∙ ap (λ (m : Machine). let x : Server = record s.server { acks = (name, m.to_acknowledge) ∷ s.server.acks } in x)
              (c.machine name);
          file = c.file;
          machine = one_side f.stream.workers s.workers machine_in name (waiting settings w) c.machine (c.machine name);
          loose = one_side f.stream.loose s.workers loose_in name (waiting settings w) c.loose (c.loose name);
          filed = c.filed;
          letters = c.letters;
          posted = c.posted;
          added = c.added;
        };
      }

  -- it gets this
  abbrev pub having_told : System → Name → GroupState → ℕ → Option Heard → List Verdict → System
  having_told s name state which o vs = record (with_worker s name (having_heard done_too (s.workers name) state o vs)) {
    server = record s.server { replies = still_coming s.server.replies which o };
  }

  -- nothing that the machine uses
  unmoved : (s : System) (f : Files) → Coupled s f → (name : Name) (x : Standing Doings)
      → x.machine ≡ (s.workers name).machine → x.history ≡ (s.workers name).history → Follows (with_worker s name x) f
  unmoved s f c name x machine history = record {
    events = [];
    coupled = record {
      server = c.server;
      file = c.file;
      machine = one_side f.stream.workers s.workers machine_in name x c.machine (c.machine name ∙ sym machine);
      loose = one_side f.stream.loose s.workers loose_in name x c.loose
          (c.loose name ∙ sym (ap (λ (d : Doings). d.loose) history));
      filed = c.filed;
      letters = c.letters;
      posted = c.posted;
      added = c.added;
    };
  }

  pub hear : (s : System) (f : Files) → Coupled s f → (name : Name) (state : GroupState) (which : ℕ) (o : Option Heard)
      (vs : List Verdict) → IsReplyTo s name which o → Follows (having_told s name state which o vs) f
  hear s f c name state which None vs h =
      unmoved s f c name (having_heard done_too (s.workers name) state None vs) refl refl
  hear s f c name state which (Some no_group) vs h =
      unmoved s f c name (having_heard done_too (s.workers name) state (Some no_group) vs) refl refl
  hear s f c name state which (Some group_made) vs h =
      unmoved s f c name (having_heard done_too (s.workers name) state (Some group_made) vs) refl refl
  hear s f c name state which (Some (told a)) vs h =
      let w : Standing Doings = s.workers name in
      let r : Reply Fields = record { consumer = name; answer = a } in
      let o : Option Heard = Some (told a) in
      let x : Standing Doings = having_heard done_too w state o vs in
      let es : List (Delivered Fields) = entries_in a in
      let here : item f.stream.replies which ≡ Some r = ap (λ (sv : Server). item sv.replies which) c.server ∙ h in
      let there : group.happens f.stream (Comes which vs) ≡ comes f.stream which (Some r) vs =
      ap (λ q. comes f.stream which q vs) here in
      let P : World Fields → Type 0 = λ v. Coupled (having_told s name state which o vs) (record f { stream = v }) in
      let did : x.history.loose ≡ w.history.loose ++ handled_in es vs =
      ap (λ (d : Doings). d.loose) (all_done w.history es vs) in
      record {
        events = Goes (Comes which vs) ∷ [];
        coupled = subst P (sym there) (record {
          server = ap (λ sv. let y : Server = record sv { replies = but sv.replies which } in y) c.server;
          file = c.file;
          machine = both_one f.stream.workers s.workers (λ m. m) machine_in name (after (f.stream.workers name) a vs) x
              c.machine (ap (λ m. after m a vs) (c.machine name));
          loose = both_one f.stream.loose s.workers (λ l. l) loose_in name (f.stream.loose name ++ handled_in es vs) x
              c.loose (ap (λ l. l ++ handled_in es vs) (c.loose name) ∙ sym did);
          filed = c.filed;
          letters = c.letters;
          posted = c.posted;
          added = c.added;
        });
      }

  pub begin_again : (s : System) (f : Files) → Coupled s f → (name : Name) (state : GroupState) (question : Asked)
      → Follows (moves form s (Breaks name state question)) f
  begin_again s f c name state question =
      let w : Standing Doings = s.workers name in
      let x : Standing Doings = record w { machine = begins_again w.machine; group = state; asked = question } in
      record {
        events = Goes (Go_back name) ∷ [];
        coupled = record {
          server = c.server;
          file = c.file;
          machine = both_one f.stream.workers s.workers (λ m. m) machine_in name (begins_again (f.stream.workers name)) x
              c.machine (ap begins_again (c.machine name));
          loose = one_side f.stream.loose s.workers loose_in name x c.loose (c.loose name);
          filed = c.filed;
          letters = c.letters;
          posted = c.posted;
          added = c.added;
        };
      }

  pub restart : (s : System) (f : Files) → Coupled s f → (name : Name) (settings : Settings) (torn : List ℕ) (ids : List Id)
      (before : List Entry) → Follows (moves form s (Restarts name settings torn ids before)) f
  restart s f c name settings torn ids before =
      let now : List ℕ = repaired s name torn in
      let file : whole_lines (f.file name ++ torn) ≡ now = ap (λ xs. whole_lines (xs ++ torn)) (c.file name) in
      let did : filter (is_in form (whole_lines (f.file name ++ torn))) (f.stream.loose name)
      ≡ filter (is_in form now) (s.workers name).history.loose =
      ap (λ xs. filter (is_in form xs) (f.stream.loose name)) file ∙ ap (λ es. filter (is_in form now) es) (c.loose name) in
      let filed : (e : Entry) → Among e (filed_then form s name torn)
      → Among e (committed_after f.stream name (is_in form (whole_lines (f.file name ++ torn)))) =
      λ e h. elim (among_split e s.filed (filter (is_in form now) (s.workers name).history.loose) h) [
        | inl a ↦ among_left e f.stream.committed _ (c.filed e a)
        | inr a ↦ among_right e f.stream.committed _ (subst (λ es. Among e es) (sym did) a)
      ] in
      let back : (e : Entry) → Among e (read_back form s name torn) → Among e (files.read_back form f name torn) =
      λ e h. among_filter (is_in form (whole_lines (f.file name ++ torn))) e _
      (filed e (among_filtered (is_in form now) e (filed_then form s name torn) h))
      (ap (λ xs. is_in form xs e) file ∙ filtered_passes (is_in form now) e (filed_then form s name torn) h) in
      let mine : List Id = among_ids (read_back form s name torn) ids in
      let its_own : (id : Id) → Among id mine → Among id (ids_of (files.read_back form f name torn)) =
      λ id h. (
      let there : Among id (ids_of (read_back form s name torn)) =
      listed_among (ids_of (read_back form s name torn)) id
      (filtered_passes (listed (ids_of (read_back form s name torn))) id ids h) in
      let o = among_of_map (λ (e : Entry). e.0) id (read_back form s name torn) there in
      subst (λ i. Among i (ids_of (files.read_back form f name torn))) o.is
      (among_map (λ (e : Entry). e.0) o.x (files.read_back form f name torn) (back o.x o.within))) in
      let x : Standing Doings = new_worker settings.every mine before in
      record {
        events = Reopens name settings.every torn mine ∷ [];
        coupled = record {
          server = c.server;
          file = both_one f.file s.file (λ xs. xs) (λ xs. xs) name (whole_lines (f.file name ++ torn)) now c.file file;
          machine = both_one f.stream.workers s.workers (λ m. m) machine_in name
              (begins_with settings.every (among_ids (then_committed form f name settings.every torn)
              (among_ids (files.read_back form f name torn) mine))) x c.machine
              (ap (λ l. begins_with settings.every l) (all_its_own form f name settings.every torn mine)
              ∙ ap (λ l. begins_with settings.every l) (all_listed (files.read_back form f name torn) mine its_own));
          loose = both_one f.stream.loose s.workers (λ l. l) loose_in name [] x c.loose refl;
          filed = filed;
          letters = c.letters;
          posted = at_each s.desks name new_desk (λ n d. (e : Entry) → Among e d.waiting → Among e f.stream.seen) c.posted
              (λ e h. absurd h);
          added = at_each s.desks name new_desk (λ n d. FirstIsAdded s.letters d.waiting d.added) c.added refl;
        };
      }

  pub at_first : (before : Name → List ℕ) → Coupled (first_system before) (first_files before)
  at_first before = record {
    server = refl;
    file = λ n. refl;
    machine = λ n. refl;
    loose = λ n. refl;
    filed = λ e h. h;
    letters = refl;
    posted = λ n e h. h;
    added = λ n. refl;
  }
