use Rattle.tool_dump.specs.SoundTrees.{lines_of_index, roots_of_index}
use Rattle.tool_dump.proofs.Telling.{FirstTold}
use Rattle.tool_dump.proofs.pages.append_indexes.Given as goal

-- The indexes so far are told.
abbrev pub invariant-loop-index : goal.invariant-loop-index
invariant-loop-index l = FirstTold l.space roots_of_index (lines_of_index l.space l.table) l.indexes l.index-index l.fn.text.items l.text.items l.fn.marks l.marks
