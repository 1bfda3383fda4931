use Rattle.std.proofs.Common.{◌≡◌, ℕ, Some, None, Ok, sym, ap, subst, ◌∙◌}
use Rattle.std.specs.Prelude.{IfSome}
use Rattle.cursor_nav.specs.Navigation.{CursorState}
use Rattle.cursor_nav.specs.Places.{Pair}
use Rattle.session_local.specs.Local.{cursor_labelled}
use Rattle.version_cleanup.specs.Cleaning.{reader_in}
use Rattle.laws_engine.specs.EngineState.{EngineState}
use Rattle.engine_parts.specs.Parts.{tables_of}
use Rattle.engine_parts.specs.Reading.{CurrentEntry, records_for}
use Rattle.engine_parts.proofs.CurrentRecords.{entry_shown}
use Rattle.engine_parts.proofs.engine.Engine.current_entry.Goals as goal

pub returns-in-Some-look_up : goal.returns-in-Some-look_up
returns-in-Some-look_up c =
    let engine = c.args.self.now in
    let session = c.args.local.now.session in
    let found = c.in-Some.found.now in
    let Shows : Pair → Type 0 = λ entry. IfSome (cursor_labelled c.args.local.now.state c.args.cursor.0) (λ c'. CurrentEntry (records_for engine session c'.cursor.table) c'.cursor.place (Ok entry)) in
    let same : (c.in-On.key, c.in-On.bookmark) ≡ (c.copy.result, c.copy-in-Some-look_up.result) = (λ i. (sym c.copy.ensures i, sym c.copy-in-Some-look_up.ensures i)) in
    subst Shows same
    (entry_shown engine session (cursor_labelled c.args.local.now.state c.args.cursor.0) found c.in-On.key c.in-On.bookmark c.self.inside.tables c.reader-reader.result c.table-table.result.0 c.as_bytes.result.now
    (Some c.in-Some-look_up.field-0) c.in-Some.ensures
    (sym (c.place.ensures ∙ ap (λ (s : CursorState). s.place) c.cursor-2.ensures) ∙ c.in-On.is)
    (record {
      same_tables = ap tables_of c.self.view_is;
      same_reader = c.reader-reader.ensures ∙ ap (λ (n : ℕ). reader_in n c.self.inside.sessions) c.session.ensures ∙ ap (λ (e : EngineState). reader_in session e.sessions) c.self.view_is;
      same_table = c.table-table.ensures ∙ ap (λ (s : CursorState). s.table) c.cursor-in-On.ensures;
      same_bookmark = c.as_bytes.ensures.value;
    })
    c.in-Some-look_up.ensures)

pub returns-in-None : goal.returns-in-None
returns-in-None c =
    let engine = c.args.self.now in
    let session = c.args.local.now.session in
    let found = c.in-Some.found.now in
    entry_shown engine session (cursor_labelled c.args.local.now.state c.args.cursor.0) found c.in-On.key c.in-On.bookmark c.self.inside.tables c.reader-reader.result c.table-table.result.0 c.as_bytes.result.now
    None c.in-Some.ensures
    (sym (c.place.ensures ∙ ap (λ (s : CursorState). s.place) c.cursor-2.ensures) ∙ c.in-On.is)
    (record {
      same_tables = ap tables_of c.self.view_is;
      same_reader = c.reader-reader.ensures ∙ ap (λ (n : ℕ). reader_in n c.self.inside.sessions) c.session.ensures ∙ ap (λ (e : EngineState). reader_in session e.sessions) c.self.view_is;
      same_table = c.table-table.ensures ∙ ap (λ (s : CursorState). s.table) c.cursor-in-On.ensures;
      same_bookmark = c.as_bytes.ensures.value;
    })
    c.in-None.ensures
