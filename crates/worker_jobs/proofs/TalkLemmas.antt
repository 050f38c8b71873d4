-- The talk after an entry.
use Rattle.std.proofs.Common.{◌≡◌, ◌∙◌, ◌==◌, refl, sym, ap, subst, ℕ, Bool, true, false, List, [], ◌∷◌, ◌++◌}
use Rattle.std.proofs.Common.{Option, Some, None, if◌then◌else◌, option_map}
use Rattle.std.specs.Io.KnownBytes.{Appends, Consumes, append_known}
use Rattle.std.proofs.lemmas.Bool.{eqb-true, eqb-false}
use Rattle.model_server.specs.Group.Worker.{Entry, Verdict, done, left_pending, stop}
use Rattle.stream_in_place.specs.Sent.{Pairs}
use Rattle.worker_jobs.specs.LineOf.{line_of}
use Rattle.worker_jobs.specs.Lines.{HasNoEnd}
use Rattle.worker_jobs.specs.Talk.{Exchanges, Pipes, by_line, by_reply, ended, first_line, goes_on, replied, talk_of, talked}
use Rattle.worker_jobs.specs.VerdictOf.{verdict_of}
use Rattle.worker_jobs.specs.declared.reply.Reply.{Reply}
use Rattle.worker_jobs.specs.declared.reply.Reply.TheVariants.{Done, Later, Dead, Stop}

-- ---- the first line

-- these bytes begin with this line and its end
pub record IsFirst (bytes line rest : List ℕ) : Type 0 where
  pub is : bytes ≡ ended line ++ rest
  pub one_line : HasNoEnd line

some_is : {A : Type 0} (a b : A) → Some a ≡ Some b → a ≡ b
some_is {A} a b e = ap (λ (o : Option A). elim o [ None ↦ a | Some x ↦ x ]) e

pub first_is : (bytes line rest : List ℕ) → first_line bytes ≡ Some (line, rest) → IsFirst bytes line rest
first_is [] line rest is = absurd (cc is)
first_is (b ∷ bs) line rest is = by (b == 10) (first_line bs) refl refl (λ l r f. first_is bs l r f) is
  where
    by : (q : Bool) (o : Option (List ℕ × List ℕ)) → (b == 10) ≡ q → first_line bs ≡ o
        → ((l r : List ℕ) → first_line bs ≡ Some (l, r) → IsFirst bs l r)
        → if◌then◌else◌ {A = Option (List ℕ × List ℕ)} q (Some ([], bs)) (option_map (λ (p : List ℕ × List ℕ). (b ∷ p.0, p.1)) o) ≡ Some (line, rest)
        → IsFirst (b ∷ bs) line rest
    by true o eq first more e =
        let parts = some_is ([], bs) (line, rest) e in
        let line_is : [] ≡ line = ap (λ (p : List ℕ × List ℕ). p.0) parts in
        let rest_is : bs ≡ rest = ap (λ (p : List ℕ × List ℕ). p.1) parts in
        subst (λ (l : List ℕ). IsFirst (b ∷ bs) l rest) line_is (record {
          is = ap (λ (x : ℕ). x ∷ bs) (eqb-true b 10 eq) ∙ ap (λ (xs : List ℕ). 10 ∷ xs) rest_is;
          one_line = tt;
        })
    by false None eq first more e = absurd (cc e)
    by false (Some p) eq first more e =
        let parts = some_is (b ∷ p.0, p.1) (line, rest) e in
        let line_is : b ∷ p.0 ≡ line = ap (λ (x : List ℕ × List ℕ). x.0) parts in
        let rest_is : p.1 ≡ rest = ap (λ (x : List ℕ × List ℕ). x.1) parts in
        let later = more p.0 p.1 first in
        subst (λ (l : List ℕ). IsFirst (b ∷ bs) l rest) line_is (record {
          is = ap (λ (xs : List ℕ). b ∷ xs) (later.is ∙ ap (λ (xs : List ℕ). ended p.0 ++ xs) rest_is);
          one_line = (eqb-false b 10 eq, later.one_line);
        })

-- and the other way round
pub is_first : (line rest : List ℕ) → HasNoEnd line → first_line (ended line ++ rest) ≡ Some (line, rest)
is_first [] rest none = refl
is_first (b ∷ line) rest none = by (b == 10) refl (is_first line rest none.1)
  where
    by : (q : Bool) → (b == 10) ≡ q → first_line (ended line ++ rest) ≡ Some (line, rest)
        → if◌then◌else◌ {A = Option (List ℕ × List ℕ)} q (Some ([], ended line ++ rest))
        (option_map (λ (p : List ℕ × List ℕ). (b ∷ p.0, p.1)) (first_line (ended line ++ rest)))
        ≡ Some (b ∷ line, rest)
    by true eq later = absurd (none.0 (eqb-true b 10 eq))
    by false eq later = ap (option_map (λ (p : List ℕ × List ℕ). (b ∷ p.0, p.1))) later

-- ---- the talk goes on

-- known bytes that grow
grown : (old new : Option (List ℕ)) (bytes : List ℕ) → (old ≡ None → new ≡ None) → Appends old new bytes
    → new ≡ append_known old bytes
grown None new bytes unknown h = unknown refl
grown (Some xs) None bytes unknown h = absurd h
grown (Some xs) (Some ys) bytes unknown h = ap Some h

abbrev pipes : List ℕ → Option (List ℕ) → Option (List ℕ) → Pipes
pipes stream sent coming = record { stream = stream; sent = sent; coming = coming }

-- a reply that lets the talk go on means this
pub data Means : Reply → Verdict → Type 0 where
  is_done : Means Done done
  is_later : Means Later left_pending
  is_dead : Means Dead left_pending

means_on : (p : Pipes) (r : Reply) (v : Verdict) → Means r v → by_reply p (Some r) v ≡ goes_on p
means_on p Done done is_done = refl
means_on p Later left_pending is_later = refl
means_on p Dead left_pending is_dead = refl
means_on p Done left_pending m = elim m [ ]
means_on p Done stop m = elim m [ ]
means_on p Later done m = elim m [ ]
means_on p Later stop m = elim m [ ]
means_on p Dead done m = elim m [ ]
means_on p Dead stop m = elim m [ ]
means_on p Stop v m = elim m [ ]

-- such a verdict waits for the line that comes
talks_on : (p : Pipes) (e : Entry Pairs) (r : Reply) (v : Verdict) → Means r v
    → replied (record p { sent = append_known p.sent (ended (line_of p.stream e)) }) p.coming v ≡ talked (goes_on p) e v
talks_on p e r done m = refl
talks_on p e r left_pending m = refl
talks_on p e Done stop m = elim m [ ]
talks_on p e Later stop m = elim m [ ]
talks_on p e Dead stop m = elim m [ ]
talks_on p e Stop stop m = elim m [ ]

-- after a line came
came : (p : Pipes) (r : Reply) (v : Verdict) (line : List ℕ) (new : Option (List ℕ)) → (p.coming ≡ None → new ≡ None)
    → Consumes p.coming new (ended line) → HasNoEnd line → verdict_of line ≡ Some r → Means r v
    → replied p p.coming v ≡ goes_on (record p { coming = new })
came p r v line new unknown consumes one says means = by p.coming refl new unknown consumes
  where
    by : (old : Option (List ℕ)) → p.coming ≡ old → (n : Option (List ℕ)) → (old ≡ None → n ≡ None)
        → Consumes old n (ended line) → replied p old v ≡ goes_on (record p { coming = n })
    by None is n unknown h =
        ap (λ (c : Option (List ℕ)). goes_on (record p { coming = c })) (is ∙ sym (unknown refl))
    by (Some bytes) is None unknown h = absurd h
    by (Some bytes) is (Some rest) unknown h =
        let first : first_line bytes ≡ Some (line, rest) = ap first_line h ∙ is_first line rest one in
        ap (λ (o : Option (List ℕ × List ℕ)). by_line p o v) first
        ∙ ap (λ (o : Option Reply). by_reply (record p { coming = Some rest }) o v) says
        ∙ means_on (record p { coming = Some rest }) r v means

-- the line of an entry went out, and a line came that lets the talk go on
pub went : (stream : List ℕ) (e : Entry Pairs) (sent sent_then coming coming_then : Option (List ℕ)) (line : List ℕ) (r : Reply)
    (v : Verdict) → (sent ≡ None → sent_then ≡ None) → (coming ≡ None → coming_then ≡ None)
    → Exchanges stream e sent sent_then coming coming_then line → verdict_of line ≡ Some r → Means r v
    → talk_of false stream sent_then coming_then ≡ talked (talk_of false stream sent coming) e v
went stream e sent sent_then coming coming_then line r v unknown unread x says means =
    let p = pipes stream (append_known sent (ended (line_of stream e))) coming in
    ap (λ (s : Option (List ℕ)). goes_on (pipes stream s coming_then)) (grown sent sent_then _ unknown x.went)
    ∙ (sym (came p r v line coming_then unread x.came x.one_line says means)
    ∙ talks_on (pipes stream sent coming) e r v means)

-- after a stop
pub stopped : (stream : List ℕ) (e : Entry Pairs) (before after : Bool) (sent sent_then coming coming_then : Option (List ℕ))
    → after ≡ true → talk_of after stream sent_then coming_then ≡ talked (talk_of before stream sent coming) e stop
stopped stream e true after sent sent_then coming coming_then is = ap (λ (b : Bool). talk_of b stream sent_then coming_then) is
stopped stream e false after sent sent_then coming coming_then is = ap (λ (b : Bool). talk_of b stream sent_then coming_then) is

-- the same where the talk had not stopped before
pub went_on : (stream stream_then : List ℕ) (e : Entry Pairs) (before after : Bool)
    (sent sent_then coming coming_then : Option (List ℕ)) (line : List ℕ) (r s : Reply) (v : Verdict) → before ≡ false
    → after ≡ before → stream_then ≡ stream → (sent ≡ None → sent_then ≡ None) → (coming ≡ None → coming_then ≡ None)
    → Exchanges stream e sent sent_then coming coming_then line → verdict_of line ≡ Some r → r ≡ s → Means s v
    → talk_of after stream_then sent_then coming_then ≡ talked (talk_of before stream sent coming) e v
went_on stream stream_then e before after sent sent_then coming coming_then line r s v was same named unknown unread x says is means =
    ap (λ (b : Bool). talk_of b stream_then sent_then coming_then) (same ∙ was)
    ∙ (ap (λ (n : List ℕ). talk_of false n sent_then coming_then) named
    ∙ (went stream e sent sent_then coming coming_then line s v unknown unread x (says ∙ ap Some is) means
    ∙ ap (λ (b : Bool). talked (talk_of b stream sent coming) e v) (sym was)))
