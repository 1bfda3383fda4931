use Rattle.engine_image.specs.MadeTables.{AreMadeTables}
use Rattle.engine_image.proofs.tables.made_tables.Given as goal

-- The tables so far have the trees that were opened for them.
abbrev pub invariant-loop-trees : goal.invariant-loop-trees
invariant-loop-trees l = AreMadeTables l.yielded l.made.items l.tables
