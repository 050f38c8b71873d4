use Rattle.std.proofs.Common.{rules, ◌≡◌, ◌++◌, ◌∷◌, drop}
use Rattle.stream_fill.proofs.ReaderLemmas.{line_there}
use Rattle.stream_fill.proofs.line_reader.LineReader.find_line.Goals as goal

pub returns-in-Some-clause-line : goal.returns-in-Some-clause-line
returns-in-Some-clause-line g c =
    let waiting = drop c.loop.self.begin c.loop.self.buffer.items in
    let split : waiting ≡ c.in-Some.line.now ++ 10 ∷ c.in-Some._rest.now = search rules in
    line_there waiting c.in-Some.line.now c.in-Some._rest.now split c.in-Some.ensures.first
