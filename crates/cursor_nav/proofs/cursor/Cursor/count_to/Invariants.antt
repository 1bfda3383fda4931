use Rattle.std.proofs.Common.{◌≡◌, ◌+◌, length}
use Rattle.cursor_nav.specs.Places.{place_pair, found_pair, entries_from}
use Rattle.cursor_nav.proofs.InOrder.{IsFound}
use Rattle.cursor_nav.proofs.PairOrder.{count_at}
use Rattle.cursor_nav.proofs.cursor.Cursor.count_to.Given as goal

-- what is counted and what is left are all
abbrev pub invariant-loop-number : goal.invariant-loop-number
invariant-loop-number g l = record {
  counted : l.number + count_at l.self.range (found_pair l.next) (g.W.View.entries l.view l.self.table l.self.index) ≡ length (entries_from (place_pair l.self.place) l.self.range (g.W.View.entries l.view l.self.table l.self.index));
  found : IsFound (found_pair l.next) (g.W.View.entries l.view l.self.table l.self.index);
}
