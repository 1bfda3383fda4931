use Rattle.std.proofs.Common.{◌≡◌, true, not, find, ap, ◌∙◌, sym, subst}
use Rattle.cursor_nav.specs.Places.{pair_lt, is_on, place_pair, found_pair}
use Rattle.cursor_nav.specs.Navigation.{CursorState}
use Rattle.cursor_nav.proofs.PairOrder.{not_below_by_neighbour, entry_beyond}
use Rattle.cursor_nav.proofs.cursor.Cursor.not_below.Goals as goal

pub returns-in-Some : goal.returns-in-Some
returns-in-Some g c =
    let entries = g.W.View.entries c.args.view.now c.self.inside.table.0 c.self.inside.index.0 in
    let IsOn : CursorState → Type 0 = λ s. is_on s.place ≡ true in
    let here : is_on c.self.inside.place ≡ true = subst IsOn (sym c.self.view_is) c.requires in
    let IsNearest : CursorState → Type 0 = λ s. found_pair c.after.result ≡ find (λ entry. not (pair_lt entry (place_pair s.place))) (g.W.View.entries c.args.view.now s.table s.index) in
    subst IsNearest c.self.view_is
    (c.after.ensures ∙ ap (λ found. entry_beyond found entries) c.in-Some.ensures
    ∙ not_below_by_neighbour c.self.inside.place entries here (g.met.W.View.sorted c.args.view.now c.self.inside.table.0 c.self.inside.index.0))

pub returns-in-None : goal.returns-in-None
returns-in-None g c =
    let entries = g.W.View.entries c.args.view.now c.self.inside.table.0 c.self.inside.index.0 in
    let IsOn : CursorState → Type 0 = λ s. is_on s.place ≡ true in
    let here : is_on c.self.inside.place ≡ true = subst IsOn (sym c.self.view_is) c.requires in
    let IsNearest : CursorState → Type 0 = λ s. found_pair c.after-in-None.result ≡ find (λ entry. not (pair_lt entry (place_pair s.place))) (g.W.View.entries c.args.view.now s.table s.index) in
    subst IsNearest c.self.view_is
    (c.after-in-None.ensures ∙ ap (λ found. entry_beyond found entries) c.in-None.ensures
    ∙ not_below_by_neighbour c.self.inside.place entries here (g.met.W.View.sorted c.args.view.now c.self.inside.table.0 c.self.inside.index.0))
