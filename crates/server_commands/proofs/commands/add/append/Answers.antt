use Rattle.std.proofs.Common.{arith, refl}
use Rattle.server_commands.proofs.commands.add.append.Goals as goal
use Rattle.server_commands.proofs.commands.add.append.Goals.{in-Some-trim, in_default-trim}

pub returns-clause-ok : goal.returns-clause-ok
returns-clause-ok c = record {
  entry = record { id = c.in-Some.id; fields = c.args.fields };
  longer = c.append.new.self;
  fielded = refl;
  fit = c.in-Some.ensures.fit;
  above = c.in-Some.ensures.above;
  wanted = c.in-Some.ensures.wanted;
  added = c.in_ok-append.ensures.ok;
  trimmed = elim c.match-options.branch [
    | in-Some-trim w ↦ rw (w.in-Some-trim.is, w.stream-is) (w.trim-count.result, w.trim-count.ensures)
    | in_default-trim w ↦ rw (w.in_default-trim.is, w.stream-is) refl
  ];
  answered = refl;
}

pub returns-clause-nodes : goal.returns-clause-nodes
returns-clause-nodes c = λ none. elim c.match-options.branch [
  | in-Some-trim w ↦ absurd (grind (arith, none, w.in-Some-trim.is))
  | in_default-trim w ↦ rw w.stream-is (record {
    id = c.in-Some.id;
    answered = refl;
    grows = c.in_ok-append.ensures.grows;
    begins = c.in_ok-append.ensures.begins;
  })
]
