-- From what XREADGROUP of one stream does to what `Server::step` does.
use Rattle.std.proofs.Common.{◌≡◌, ◌<◌, ℕ, List, [], ◌∷◌, ◌++◌, drop, get_or, length, map, refl, sym, ap, subst, ◌∙◌, arith}
use Rattle.std.proofs.lemmas.List.{length-map}
use Rattle.std.specs.Global.{Vec}
use Rattle.std.specs.Prelude.{codes}
use Rattle.model_server.specs.Group.World.{World}
use Rattle.server_store.specs.Stream.{seen_stream}
use Rattle.server_store.specs.declared.stream.Stream.{Stream}
use Rattle.server_commands.specs.Commands.{IsNamed, Replies, lower_case}
use Rattle.server_commands.specs.IdWords.{texts_of}
use Rattle.server_commands.specs.Model.{AreNumbered, Fields, IsModelIn}
use Rattle.server_commands.specs.ReadGroup.{ReadsGroup, ReadsOne}
use Rattle.server_commands.specs.Stepping.{ReadsSo, XreadgroupSteps}
use Rattle.server_commands.specs.declared.answer.Answer.{Answer}
use Rattle.server_commands.specs.declared.answer.Reply.{Reply}
use Rattle.server_commands.specs.declared.answer.Reply.TheVariants.{Done}
use Rattle.server_commands.specs.declared.commands.Change.TheVariants as changes
use Rattle.server_commands.proofs.ReadEventLemmas.{xreadgroup_is_the_event}
use Rattle.server_commands.proofs.RereadLawLemmas.{xreadgroup_with_an_id_is_the_event}
use Rattle.server_commands.proofs.SteppingLemmas.{Answers, named_so, others_stay}

-- the first word and the others
record Split (words : List (Vec ℕ)) (text : List ℕ) (texts : List (List ℕ)) : Type 0 where
  first : Vec ℕ
  rest : List (Vec ℕ)
  is : words ≡ first ∷ rest
  item : first.items ≡ text
  others : texts_of rest ≡ texts

split : (words : List (Vec ℕ)) (text : List ℕ) (texts : List (List ℕ)) → texts_of words ≡ text ∷ texts → Split words text texts
split [] text texts same = absurd (omega (arith, ap length same))
split (a ∷ words) text texts same = record {
  first = a;
  rest = words;
  is = refl;
  item = ap (λ (ts : List (List ℕ)). get_or ts 0 []) same;
  others = ap (λ (ts : List (List ℕ)). drop 1 ts) same;
}

ended : (words : List (Vec ℕ)) → texts_of words ≡ [] → words ≡ []
ended [] same = refl
ended (a ∷ words) same = absurd (omega (arith, ap length same))

joined : (words : List (Vec ℕ)) (text : List ℕ) (texts : List (List ℕ)) (s : Split words text texts) (rest : List (Vec ℕ))
    → s.rest ≡ rest → words ≡ s.first ∷ rest
joined words text texts s rest same = s.is ∙ ap (λ (r : List (Vec ℕ)). s.first ∷ r) same

module _ (now : ℕ) (old new : List Stream) where
  -- what is read of one stream is what the model gives
  read_so : (key name consumer text : List ℕ) (most : ℕ) (answer : Answer) (w : World Fields) → 0 < most
      → ReadsOne name consumer most now key text answer old new → (model : IsModelIn key name (map seen_stream old) w)
      → AreNumbered model.group → model.group.next_number < 18446744073709551615
      → ReadsSo key name consumer text most answer model.group (map seen_stream old) (map seen_stream new) w
  read_so key name consumer text most answer w some does model numbered room = record {
    news = λ is. (
      xreadgroup_is_the_event key name consumer now most answer old new w some (does.news is) model numbered room,
      others_stay key old new _ (does.news is),
    );
    own = λ id fit other word names known log.
        let law = xreadgroup_with_an_id_is_the_event key name consumer now most id answer old new w (does.own id fit other word)
        model numbered room names known log in
        (law.0, law.1, others_stay key old new _ (does.own id fit other word));
  }

  named_reads : (g c k t : Vec ℕ) (name consumer key text : List ℕ) (most : ℕ) (answer : Answer) → g.items ≡ name → c.items ≡ consumer
      → k.items ≡ key → t.items ≡ text → ReadsOne g.items c.items most now k.items t.items answer old new
      → ReadsOne name consumer most now key text answer old new
  named_reads g c k t name consumer key text most answer one two three four reads = rw (one, two, three, four) at reads

  reads_of : (words : List (Vec ℕ)) (reply : Reply) (command : List ℕ) (texts : List (List ℕ)) (answer : Answer)
      → Answers now old new words reply → lower_case command ≡ codes "xreadgroup" → texts_of words ≡ command ∷ texts
      → 6 < length words → reply ≡ Done answer → ReadsGroup (drop 1 words) now answer old new
  reads_of words reply command texts answer replies is same long done =
      let s = split words command texts same in
      let named : IsNamed changes.ReadGroup words = subst (IsNamed changes.ReadGroup) (sym s.is)
      (named_so s.first s.rest command (codes "xreadgroup") changes.ReadGroup s.item is refl) in
      subst (Replies changes.ReadGroup words now old new) done (replies changes.ReadGroup named long)

  pub xreadgroup_steps : (words : List (Vec ℕ)) (reply : Reply) → Answers now old new words reply
      → XreadgroupSteps words reply (map seen_stream old) (map seen_stream new)
  xreadgroup_steps words reply replies command first name consumer second key text [] answer w is one two count same model numbered room done =
      let long : length words ≡ 7 = sym (length-map words (λ (v : Vec ℕ). v.items)) ∙ ap length same in
      let does : ReadsGroup (drop 1 words) now answer old new =
      reads_of words reply command _ answer replies is same (omega (arith, long)) done in
      let s0 = split words command _ same in
      let s1 = split s0.rest first _ s0.others in
      let s2 = split s1.rest name _ s1.others in
      let s3 = split s2.rest consumer _ s2.others in
      let s4 = split s3.rest second _ s3.others in
      let s5 = split s4.rest key _ s4.others in
      let s6 = split s5.rest text _ s5.others in
      let all : drop 1 words ≡ s1.first ∷ s2.first ∷ s3.first ∷ s4.first ∷ s5.first ∷ s6.first ∷ [] =
      ap (λ (ws : List (Vec ℕ)). drop 1 ws) s0.is
      ∙ joined s0.rest first _ s1 _ (joined s1.rest name _ s2 _ (joined s2.rest consumer _ s3 _ (joined s3.rest second _ s4 _
      (joined s4.rest key _ s5 _ (joined s5.rest text _ s6 [] (ended s6.rest s6.others)))))) in
      let reads : ReadsOne s2.first.items s3.first.items 18446744073709551615 now s5.first.items s6.first.items answer old new =
      does.plain s1.first s2.first s3.first s4.first s5.first s6.first all (ap lower_case s1.item ∙ one) (ap lower_case s4.item ∙ two) in (
        18446744073709551615,
        refl,
        read_so key name consumer text 18446744073709551615 answer w (omega arith)
            (named_reads s2.first s3.first s5.first s6.first name consumer key text 18446744073709551615 answer s2.item s3.item s5.item s6.item reads) model numbered room,
      )
  xreadgroup_steps words reply replies command first name consumer second key text (a ∷ []) answer w is one two count same model numbered room done =
      absurd count
  xreadgroup_steps words reply replies command first name consumer second key text (a ∷ n ∷ []) answer w is one two count same model numbered room done =
      let long : length words ≡ 9 = sym (length-map words (λ (v : Vec ℕ). v.items)) ∙ ap length same in
      let does : ReadsGroup (drop 1 words) now answer old new =
      reads_of words reply command _ answer replies is same (omega (arith, long)) done in
      let s0 = split words command _ same in
      let s1 = split s0.rest first _ s0.others in
      let s2 = split s1.rest name _ s1.others in
      let s3 = split s2.rest consumer _ s2.others in
      let s4 = split s3.rest a _ s3.others in
      let s5 = split s4.rest n _ s4.others in
      let s6 = split s5.rest second _ s5.others in
      let s7 = split s6.rest key _ s6.others in
      let s8 = split s7.rest text _ s7.others in
      let all : drop 1 words
      ≡ s1.first ∷ s2.first ∷ s3.first ∷ s4.first ∷ s5.first ∷ s6.first ∷ s7.first ∷ s8.first ∷ [] =
      ap (λ (ws : List (Vec ℕ)). drop 1 ws) s0.is
      ∙ joined s0.rest first _ s1 _ (joined s1.rest name _ s2 _ (joined s2.rest consumer _ s3 _ (joined s3.rest a _ s4 _
      (joined s4.rest n _ s5 _ (joined s5.rest second _ s6 _ (joined s6.rest key _ s7 _ (joined s7.rest text _ s8 []
      (ended s8.rest s8.others)))))))) in
      let reads = does.counted s1.first s2.first s3.first s4.first s5.first s6.first s7.first s8.first all
      (ap lower_case s1.item ∙ one) (ap lower_case s4.item ∙ count) (ap lower_case s6.item ∙ two) in (
        reads.0,
        reads.1,
        read_so key name consumer text reads.0 answer w reads.1
            (named_reads s2.first s3.first s7.first s8.first name consumer key text reads.0 answer s2.item s3.item s7.item s8.item reads.2) model numbered room,
      )
  xreadgroup_steps words reply replies command first name consumer second key text (a ∷ n ∷ m ∷ others) answer w is one two count same model numbered room done =
      absurd count
