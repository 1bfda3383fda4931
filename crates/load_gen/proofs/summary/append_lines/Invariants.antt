-- The text so far and the lines that are left are all.
use Rattle.std.proofs.Common.{◌≡◌, ◌++◌, drop, length}
use Rattle.load_gen.specs.Summary.{index_lines}
use Rattle.load_gen.proofs.summary.append_lines.Given as goal

abbrev pub invariant-loop-index : goal.invariant-loop-index
invariant-loop-index l =
    l.text.items ++ index_lines (drop (length l.yielded) l.indexes) (drop (length l.yielded) l.counts) ≡ l.fn.text.items ++ index_lines l.indexes l.counts
