use Rattle.std.proofs.Common.{◌≡◌, true, ap, sym, ◌∙◌, arith, length, rules}
use Rattle.std.proofs.lemmas.Bool.Decides.{nat_tests}
use Rattle.std.specs.Prelude.{◌==◌, ◌||◌}
use Rattle.server_store.specs.PendingList.{live_from}
use Rattle.server_commands.specs.Stalled.{found_in, nothing_until}
use Rattle.server_commands.proofs.StalledLemmas.{absent, present, goes_gone, goes_claimed, goes_past, ends_empty, ends_at, told}
use Rattle.server_commands.proofs.commands.stalled.find_stalled.Goals as goal
use Rattle.server_commands.proofs.commands.stalled.find_stalled.Goals.{in_default, in-Some+then-attempts-eq0, then-attempts-eq0-via-then-attempts-eq0, then-attempts-eq0-via-else-attempts-eq0+then-left-eq0}

pub loop-after-preserved-then-is_none : goal.loop-after-preserved-then-is_none
loop-after-preserved-then-is_none c = record {
  no_next = c.loop-after.invariant.no_next;
  found = λ up. goes_gone c.args.stream.now.entries.items c.args.claim.now.now c.args.claim.now.least_idle
      c.loop-after.attempts c.loop-after.left c.in-Some.pending _ _ c.loop-after.claimed.items
      c.loop-after.gone.items _ (search rules) (search rules) c.in-Some.ensures.some (c.loop-after.invariant.found up)
      c.push.new.self.items
      (absent c.args.stream.now.entries.items c.in-Some.pending.id c.get.result (search rules) c.get.ensures.none up)
      c.in_ok-push.ensures.items;
}

pub loop-after-preserved-then-saturating_sub-claim : goal.loop-after-preserved-then-saturating_sub-claim
loop-after-preserved-then-saturating_sub-claim c = record {
  no_next = c.loop-after.invariant.no_next;
  found = λ up. goes_claimed c.args.stream.now.entries.items c.args.claim.now.now c.args.claim.now.least_idle
      c.loop-after.attempts c.loop-after.left c.in-Some.pending _ _ c.loop-after.claimed.items
      c.loop-after.gone.items _ (search rules) (search rules) c.in-Some.ensures.some (c.loop-after.invariant.found up)
      c.push-then-saturating_sub-claim.new.self.items
      (present c.args.stream.now.entries.items c.in-Some.pending.id c.get.result (search rules) c.get.ensures.some c.get.ensures.there)
      (search rules) c.in_ok-push-2.ensures.items;
}

pub loop-after-preserved : goal.loop-after-preserved
loop-after-preserved c = record {
  no_next = c.loop-after.invariant.no_next;
  found = λ up. goes_past c.args.stream.now.entries.items c.args.claim.now.now c.args.claim.now.least_idle
      c.loop-after.attempts c.loop-after.left c.in-Some.pending _ _ c.loop-after.claimed.items
      c.loop-after.gone.items _ (search rules) (search rules) c.in-Some.ensures.some (c.loop-after.invariant.found up)
      (present c.args.stream.now.entries.items c.in-Some.pending.id c.get.result (search rules) c.get.ensures.some c.get.ensures.there)
      (search rules);
}

pub returns : goal.returns
returns c = record {
  start = c.start-at.ensures.index;
  split = λ up. c.start-at.ensures.split;
  is = λ up.
      let ends : found_in c.args.stream.now.entries.items c.args.claim.now.now c.args.claim.now.least_idle
      c.loop-after.attempts c.loop-after.left (live_from c.args.group.now.pending.slots c.loop-after.at)
      ≡ nothing_until c.match-next_at.next = elim c.match-next_at.branch [
        | in_default w ↦
            ends_empty c.args.stream.now.entries.items c.args.claim.now.now c.args.claim.now.least_idle c.loop-after.attempts
            c.loop-after.left _ (ap length w.in_default.ensures.none)
            ∙ ap nothing_until (sym (w.next-is ∙ c.loop-after.invariant.no_next))
        | in-Some+then-attempts-eq0 w ↦
            let stops : ((c.loop-after.attempts == 0) || (c.loop-after.left == 0)) ≡ true =
            elim w.then-attempts-eq0.branch [
              | then-attempts-eq0-via-then-attempts-eq0 v ↦ grind (arith, nat_tests, v.if-attempts-eq0.true)
              | then-attempts-eq0-via-else-attempts-eq0+then-left-eq0 v ↦ grind (arith, nat_tests, v.if-left-eq0.true)
            ] in
            ends_at c.args.stream.now.entries.items c.args.claim.now.now c.args.claim.now.least_idle c.loop-after.attempts
            c.loop-after.left w.in-Some.pending _ _ w.in-Some.ensures.some stops
            ∙ ap nothing_until (sym w.next-is)
      ] in
      rw (sym c.saturating_mul-attempts.ensures, sym c.start-at.ensures.rest)
      (told c.loop-after.claimed.items c.loop-after.gone.items c.match-next_at.next _ _ ends (c.loop-after.invariant.found up));
}
