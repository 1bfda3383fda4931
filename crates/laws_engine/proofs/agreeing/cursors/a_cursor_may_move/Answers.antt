use Rattle.laws_engine.proofs.AgreeingLemmas.Moves.{cancels, chooses_index, goes_to, makes_keys, moves, ranges, seeks, unranges}
use Rattle.laws_engine.proofs.agreeing.cursors.a_cursor_may_move.Goals as goal

pub returns-clause-index : goal.returns-clause-index
returns-clause-index c = chooses_index

pub returns-clause-way : goal.returns-clause-way
returns-clause-way c = moves

pub returns-clause-key : goal.returns-clause-key
returns-clause-key c = makes_keys

pub returns-clause-seek : goal.returns-clause-seek
returns-clause-seek c = seeks

pub returns-clause-range : goal.returns-clause-range
returns-clause-range c = ranges

pub returns-clause-no_range : goal.returns-clause-no_range
returns-clause-no_range c = unranges

pub returns-clause-bookmark : goal.returns-clause-bookmark
returns-clause-bookmark c = goes_to

pub returns-clause-cancel : goal.returns-clause-cancel
returns-clause-cancel c = cancels
