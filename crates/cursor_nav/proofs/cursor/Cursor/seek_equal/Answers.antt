use Rattle.std.proofs.Common.{false, ap, ◌∙◌}
use Rattle.jet_base.specs.declared.replies.Jet.TheVariants as jet
use Rattle.index_derive.specs.declared.entries.Place.TheVariants.{Gap}
use Rattle.cursor_nav.specs.Places.{entry_after}
use Rattle.cursor_nav.specs.Navigation.{CursorState, Navigated, answer_of, found_or}
use Rattle.cursor_nav.specs.Steps.{landed, stands_at}
use Rattle.cursor_nav.proofs.PairOrder.{first_equal}
use Rattle.cursor_nav.proofs.Seeking.{landed_equal}
use Rattle.cursor_nav.proofs.cursor.Cursor.seek_equal.Goals as goal

pub returns-clause-answer : goal.returns-clause-answer
returns-clause-answer g c =
    let self = c.args.self.now in
    let key = c.args.key.now in
    let entries = g.W.View.entries c.args.view.now self.table self.index in
    let sorted = g.met.W.View.sorted c.args.view.now self.table self.index in
    c.land.ensures.answer
    ∙ ap (λ b. answer_of (landed c.seek_up.new.self b key false).jet 0) c.has_key-equal.ensures
    ∙ ap (λ (s : CursorState). answer_of (landed s (stands_at key s.place) key false).jet 0) c.seek_up.ensures.cursor
    ∙ ap (λ (n : Navigated). answer_of n.jet 0) (landed_equal self key (entry_after (Gap key false) entries))
    ∙ ap (λ found. answer_of (found_or self jet.Success found jet.RecordNotFound (Gap key false)).jet 0) (first_equal key entries sorted)

pub returns-clause-cursor : goal.returns-clause-cursor
returns-clause-cursor g c =
    let self = c.args.self.now in
    let key = c.args.key.now in
    let entries = g.W.View.entries c.args.view.now self.table self.index in
    let sorted = g.met.W.View.sorted c.args.view.now self.table self.index in
    c.land.ensures.cursor
    ∙ ap (λ b. (landed c.seek_up.new.self b key false).cursor) c.has_key-equal.ensures
    ∙ ap (λ (s : CursorState). (landed s (stands_at key s.place) key false).cursor) c.seek_up.ensures.cursor
    ∙ ap (λ (n : Navigated). n.cursor) (landed_equal self key (entry_after (Gap key false) entries))
    ∙ ap (λ found. (found_or self jet.Success found jet.RecordNotFound (Gap key false)).cursor) (first_equal key entries sorted)
