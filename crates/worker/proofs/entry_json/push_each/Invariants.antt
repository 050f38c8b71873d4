use Rattle.std.proofs.Common.{◌≡◌, ◌++◌, flat_map}
use Rattle.worker.specs.EntryJson.{field_tokens}
use Rattle.worker.proofs.entry_json.push_each.Given as goal

-- the tokens so far, and behind them those that are left, are all
abbrev pub invariant-loop-name : goal.invariant-loop-name
invariant-loop-name l = record {
  before : l.out.before ≡ l.fn.out.before;
  tokens : l.out.tokens ++ flat_map field_tokens l.name-iterator
      ≡ l.fn.out.tokens ++ flat_map field_tokens l.fn.fields;
}
