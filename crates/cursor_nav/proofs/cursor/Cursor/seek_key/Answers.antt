use Rattle.std.proofs.Common.{true, refl, sym, ap, ◌∙◌}
use Rattle.index_derive.specs.declared.entries.Place.TheVariants.{Before, Gap}
use Rattle.cursor_nav.specs.Places.{entry_before}
use Rattle.cursor_nav.specs.Navigation.{Navigated, answer_of, sought_by}
use Rattle.cursor_nav.specs.Steps.{landed_near}
use Rattle.cursor_nav.proofs.Seeking.{landed_near_is}
use Rattle.cursor_nav.proofs.cursor.Cursor.seek_key.Goals as goal

pub returns-in-Le-clause-answer : goal.returns-in-Le-clause-answer
returns-in-Le-clause-answer g c =
    let self = c.args.self.now in
    let key = c.args.key.now in
    let entries = g.W.View.entries c.args.view.now self.table self.index in
    c.land_near-in-Le.ensures.answer
    ∙ (λ i. answer_of (landed_near (c.seek_down-found.ensures.cursor i) (c.seek_down-found.ensures.found i) key true).jet 0)
    ∙ ap (λ (n : Navigated). answer_of n.jet 0) (landed_near_is self key true Before (entry_before (Gap key true) entries) refl)
    ∙ (λ i. answer_of (sought_by self entries key (sym c.in-Le.is i)).jet 0)
