use Rattle.std.proofs.Common.{◌≡◌, true, ap, ◌∙◌, sym}
use Rattle.cursor_nav.specs.Places.{is_on, is_within}
use Rattle.cursor_nav.specs.CursorView.{key_range}
use Rattle.cursor_nav.proofs.InOrder.{holds}
use Rattle.cursor_nav.proofs.PairOrder.{reaches_by_nearest}
use Rattle.cursor_nav.proofs.cursor.Cursor.reaches.Goals as goal

pub returns-in-Some : goal.returns-in-Some
returns-in-Some g c =
    let range = key_range c.args.limit.now in
    let here : is_on c.args.self.now.place ≡ true = cc in
    let sorted = g.met.W.View.sorted c.args.view.now c.args.self.now.table c.args.self.now.index in
    c.is_within.ensures ∙ ap (holds (λ entry. is_within range entry.0)) c.in-Some.ensures ∙ sym (reaches_by_nearest c.args.self.now.place range _ here sorted)

pub returns-in-None : goal.returns-in-None
returns-in-None g c =
    let range = key_range c.args.limit.now in
    let here : is_on c.args.self.now.place ≡ true = cc in
    let sorted = g.met.W.View.sorted c.args.view.now c.args.self.now.table c.args.self.now.index in
    ap (holds (λ entry. is_within range entry.0)) c.in-None.ensures ∙ sym (reaches_by_nearest c.args.self.now.place range _ here sorted)
