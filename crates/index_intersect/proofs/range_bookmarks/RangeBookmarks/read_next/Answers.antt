use Rattle.std.proofs.Common.{◌||◌, length, bytes_eq, sym, ap, subst, ◌∙◌}
use Rattle.std.specs.List.{list_any}
use Rattle.cursor_nav.specs.Places.{place_bookmark}
use Rattle.index_intersect.specs.Walks.{bookmarks_ahead, has}
use Rattle.index_intersect.proofs.Reading.{Inserts, moved, read_all}
use Rattle.index_intersect.proofs.range_bookmarks.RangeBookmarks.read_next.Goals as goal

pub returns-then-not-advance-clause-ended : goal.returns-then-not-advance-clause-ended
returns-then-not-advance-clause-ended g c = read_all c.args.self.now.read _ (rw c.if-not-advance.true at c.advance.ensures.ahead)

pub bookmark-requires : goal.bookmark-requires
bookmark-requires g c = c.advance.ensures.on c.if-not-advance.false

pub returns-clause-read : goal.returns-clause-read
returns-clause-read g c = λ b.
    let x = place_bookmark c.advance.new.self.place in
    let ahead = rw c.if-not-advance.false at c.advance.ensures.ahead in
    let added : Inserts c.args.self.now.read x c.insert.new.self =
    subst (λ k. Inserts c.args.self.now.read k c.insert.new.self) (c.copy.ensures ∙ c.bookmark.ensures) c.in_ok-insert.ensures.updates.0 in
    moved c.args.self.now.read c.insert.new.self x (bookmarks_ahead (g.W.View.entries c.args.view.now) c.advance.new.self) added b
    ∙ ap (λ xs. has c.args.self.now.read b || list_any (bytes_eq b) xs) (sym ahead)

pub returns-clause-fewer : goal.returns-clause-fewer
returns-clause-fewer g c = sym (ap length (rw c.if-not-advance.false at c.advance.ensures.ahead))
