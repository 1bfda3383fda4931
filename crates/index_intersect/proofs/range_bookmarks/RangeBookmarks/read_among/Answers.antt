use Rattle.std.proofs.Common.{◌≡◌, ◌&&◌, ◌||◌, suc, true, false, length, sym, ap, subst, ◌∙◌, refl, bytes_eq, arith}
use Rattle.std.specs.List.{list_any}
use Rattle.cursor_nav.specs.Places.{place_bookmark}
use Rattle.index_intersect.specs.Walks.{bookmarks_ahead, has}
use Rattle.index_intersect.proofs.Reading.{Inserts, done, passed, taken}
use Rattle.index_intersect.proofs.range_bookmarks.RangeBookmarks.read_among.Goals as goal

pub loop-self-init : goal.loop-self-init
loop-self-init g c = λ b. refl

pub bookmark-bookmark-requires : goal.bookmark-bookmark-requires
bookmark-bookmark-requires g c = c.advance.ensures.on c.loop-self-test.true

pub loop-self-smaller : goal.loop-self-smaller
loop-self-smaller g c =
    let es = g.W.View.entries c.args.view.now in
    let fewer : length (bookmarks_ahead es c.loop-self.self.walk) ≡ suc (length (bookmarks_ahead es c.advance.new.self)) = ap length (rw c.loop-self-test.true at c.advance.ensures.ahead) in
    omega (arith, fewer)

pub loop-self-smaller-in_ok-insert : goal.loop-self-smaller-in_ok-insert
loop-self-smaller-in_ok-insert g c =
    let es = g.W.View.entries c.args.view.now in
    let fewer : length (bookmarks_ahead es c.loop-self.self.walk) ≡ suc (length (bookmarks_ahead es c.advance.new.self)) = ap length (rw c.loop-self-test.true at c.advance.ensures.ahead) in
    omega (arith, fewer)

pub loop-self-preserved : goal.loop-self-preserved
loop-self-preserved g c = λ b.
    let others = c.args.others.now in
    let read = c.loop-self.self.read in
    let x = place_bookmark c.advance.new.self.place in
    let ahead = rw c.loop-self-test.true at c.advance.ensures.ahead in
    let lacking : has others x ≡ false = sym (c.contains.ensures ∙ ap (has others) c.bookmark-bookmark.ensures) ∙ c.if-contains.false in
    passed others read x (bookmarks_ahead (g.W.View.entries c.args.view.now) c.advance.new.self) lacking b
    ∙ ap (λ xs. has read b || (has others b && list_any (bytes_eq b) xs)) (sym ahead)
    ∙ c.loop-self.invariant b

pub loop-self-preserved-in_ok-insert : goal.loop-self-preserved-in_ok-insert
loop-self-preserved-in_ok-insert g c = λ b.
    let others = c.args.others.now in
    let read = c.loop-self.self.read in
    let x = place_bookmark c.advance.new.self.place in
    let ahead = rw c.loop-self-test.true at c.advance.ensures.ahead in
    let there : has others x ≡ true = sym (c.contains.ensures ∙ ap (has others) c.bookmark-bookmark.ensures) ∙ c.if-contains.true in
    let added : Inserts read x c.insert.new.self = subst (λ k. Inserts read k c.insert.new.self) (c.copy.ensures ∙ c.bookmark-bookmark.ensures) c.in_ok-insert.ensures.updates.0 in
    taken others read c.insert.new.self x (bookmarks_ahead (g.W.View.entries c.args.view.now) c.advance.new.self) there added b
    ∙ ap (λ xs. has read b || (has others b && list_any (bytes_eq b) xs)) (sym ahead)
    ∙ c.loop-self.invariant b

pub returns : goal.returns
returns g c = λ b.
    done c.args.others.now c.loop-self.self.read (bookmarks_ahead (g.W.View.entries c.args.view.now) c.loop-self.self.walk) (rw c.loop-self-test.false at c.advance.ensures.ahead) b
    ∙ c.loop-self.invariant b
