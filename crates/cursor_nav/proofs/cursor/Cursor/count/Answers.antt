use Rattle.std.proofs.Common.{◌≡◌, ◌≤◌, not, ◌&&◌, length, min, refl, ap, ◌∙◌}
use Rattle.common_lemmas.proofs.Lists.{length-filter}
use Rattle.cursor_nav.specs.Places.{Pair, pair_lt, place_pair, is_within_upper, entries_from}
use Rattle.cursor_nav.specs.Navigation.{count_from, at_most}
use Rattle.cursor_nav.proofs.Counting.{at_most_is, current_is}
use Rattle.cursor_nav.proofs.cursor.Cursor.count.Goals as goal

pub returns : goal.returns
unfolding count_from
returns g c =
    let self = c.args.self.now in
    let entries = g.W.View.entries c.args.view.now self.table self.index in
    let counted = entries_from (place_pair self.place) self.range entries in
    let fewer : length counted ≤ length entries = length-filter (λ (entry : Pair). not (pair_lt entry (place_pair self.place)) && is_within_upper self.range entry.0) entries in
    let number : c.count_to.result ≡ at_most c.args.most (length counted) =
    c.count_to.ensures ∙ ap (λ n. min n (length counted)) c.bound_of.ensures ∙ at_most_is c.args.most (length counted) (length entries) fewer c.requires.few in
    let here = current_is (g.W.View.has_record c.args.view.now self.table) self.place _ c.in_ok-current.ensures in
    rw here (rw number refl)
