use Rattle.std.proofs.Common.{◌≡◌, true, false, not, length, Some, ap, ◌∙◌, sym, subst, arith}
use Rattle.index_derive.specs.declared.entries.Place.TheVariants.{On}
use Rattle.cursor_nav.specs.Places.{Pair, pair_lt, place_pair, found_pair, is_beyond, is_within_upper, entry_after, entries_from}
use Rattle.cursor_nav.specs.Navigation.{CursorState}
use Rattle.cursor_nav.proofs.InOrder.{IsIn, is_found}
use Rattle.cursor_nav.proofs.PairOrder.{count_at, count_from_first, count_one_more, count_no_more}
use Rattle.cursor_nav.proofs.cursor.Cursor.count_to.Goals as goal

pub loop-number-init : goal.loop-number-init
loop-number-init g c =
    let self = c.args.self.now in
    let entries = g.W.View.entries c.args.view.now self.table self.index in
    let sorted = g.met.W.View.sorted c.args.view.now self.table self.index in
    let first = c.not_below-next.ensures in
    let all : length (entries_from (place_pair self.place) self.range entries) ≡ count_at self.range (found_pair c.not_below-next.result) entries =
    count_from_first self.range (place_pair self.place) entries sorted ∙ ap (λ found. count_at self.range found entries) (sym first) in
    record {
      counted = omega (arith, all);
      found = is_found (λ entry. not (pair_lt entry (place_pair self.place))) entries (found_pair c.not_below-next.result) (sym first);
    }

pub returns-then-not-counts : goal.returns-then-not-counts
returns-then-not-counts g c =
    let self = c.args.self.now in
    let entries = g.W.View.entries c.args.view.now self.table self.index in
    let sorted = g.met.W.View.sorted c.args.view.now self.table self.index in
    let entry : Pair = (c.in-Some.entry.key, c.in-Some.entry.bookmark) in
    let found : IsIn entry entries = rw c.in-Some.is at c.loop-number.invariant.found in
    let beyond : is_within_upper self.range c.in-Some.entry.key ≡ false = cc in
    let none : count_at self.range (Some entry) entries ≡ 0 = count_no_more self.range entry entries found sorted beyond in
    let counted = rw c.in-Some.is at c.loop-number.invariant.counted in
    omega (arith, none, counted)

pub loop-number-preserved : goal.loop-number-preserved
loop-number-preserved g c =
    let self = c.args.self.now in
    let entries = g.W.View.entries c.args.view.now self.table self.index in
    let sorted = g.met.W.View.sorted c.args.view.now self.table self.index in
    let key = c.in-Some.entry.key in
    let bookmark = c.in-Some.entry.bookmark in
    let found : IsIn (key, bookmark) entries = rw c.in-Some.is at c.loop-number.invariant.found in
    let within : is_within_upper self.range key ≡ true = cc in
    let one = count_one_more self.range (key, bookmark) entries found sorted within in
    let counted = rw c.in-Some.is at c.loop-number.invariant.counted in
    let IsNext : CursorState → Type 0 = λ s. found_pair c.after-next.result ≡ entry_after (On key bookmark) (g.W.View.entries c.args.view.now s.table s.index) in
    let next : found_pair c.after-next.result ≡ entry_after (On key bookmark) entries = subst IsNext c.self.view_is c.after-next.ensures in
    record {
      counted = rw next (omega (arith, one, counted));
      found = is_found (is_beyond (On key bookmark)) entries (found_pair c.after-next.result) (sym next);
    }
