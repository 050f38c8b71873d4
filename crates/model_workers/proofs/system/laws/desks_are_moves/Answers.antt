use Rattle.model_workers.proofs.SystemLemmas.DeskLemmas.{asks_as_it_does, letters_are_moves, posts_are_moves, others_leave_the_desk}
use Rattle.model_workers.proofs.SystemLemmas.DeskLemmas.{starts_with_a_new_desk}
use Rattle.model_workers.proofs.system.laws.desks_are_moves.Goals as goal

pub returns-clause-asks : goal.returns-clause-asks
returns-clause-asks c = asks_as_it_does

pub returns-clause-posts : goal.returns-clause-posts
returns-clause-posts c = posts_are_moves

pub returns-clause-letters : goal.returns-clause-letters
returns-clause-letters c = letters_are_moves

pub returns-clause-starts : goal.returns-clause-starts
returns-clause-starts c = starts_with_a_new_desk

pub returns-clause-others : goal.returns-clause-others
returns-clause-others c = others_leave_the_desk
