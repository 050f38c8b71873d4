use Rattle.model_workers.proofs.LetterLemmas.{claims_are_moves, deliveries_are_moves}
use Rattle.model_workers.proofs.LetterLemmas as lemmas
use Rattle.model_workers.proofs.letters.give_ups_are_moves.Goals as goal

pub returns-clause-claims : goal.returns-clause-claims
returns-clause-claims c = claims_are_moves

pub returns-clause-letters : goal.returns-clause-letters
returns-clause-letters c = deliveries_are_moves

pub returns-clause-all : goal.returns-clause-all
returns-clause-all c = lemmas.give_ups_are_moves
