use Rattle.std.proofs.Common.{sym, ap, ◌∙◌}
use Rattle.cursor_nav.specs.Navigation.{CursorState}
use Rattle.version_cleanup.specs.Cleaning.{reader_in}
use Rattle.laws_engine.specs.EngineState.{EngineState}
use Rattle.engine_parts.specs.Parts.{tables_of}
use Rattle.engine_parts.proofs.CurrentRecords.{record_gone, record_shown}
use Rattle.engine_parts.proofs.engine.Engine.current_row.Goals as goal

pub returns-in-Some : goal.returns-in-Some
returns-in-Some c =
    record_shown c.args.self.now c.args.session.0 c.args.cursor.now c.in-On.field-0 c.in-On.bookmark c.self.inside.tables c.reader-reader.result c.table-table.result.0 c.as_bytes.result.now c.in-Some.row
    (sym (c.place.ensures ∙ ap (λ (s : CursorState). s.place) c.cursor.ensures) ∙ c.in-On.is)
    (record {
      same_tables = ap tables_of c.self.view_is;
      same_reader = c.reader-reader.ensures ∙ ap (λ (e : EngineState). reader_in c.args.session.0 e.sessions) c.self.view_is;
      same_table = c.table-table.ensures ∙ ap (λ (s : CursorState). s.table) c.cursor-in-On.ensures;
      same_bookmark = c.as_bytes.ensures.value;
    })
    c.in-Some.ensures

pub returns-in-None : goal.returns-in-None
returns-in-None c =
    record_gone c.args.self.now c.args.session.0 c.args.cursor.now c.in-On.field-0 c.in-On.bookmark c.self.inside.tables c.reader-reader.result c.table-table.result.0 c.as_bytes.result.now
    (sym (c.place.ensures ∙ ap (λ (s : CursorState). s.place) c.cursor.ensures) ∙ c.in-On.is)
    (record {
      same_tables = ap tables_of c.self.view_is;
      same_reader = c.reader-reader.ensures ∙ ap (λ (e : EngineState). reader_in c.args.session.0 e.sessions) c.self.view_is;
      same_table = c.table-table.ensures ∙ ap (λ (s : CursorState). s.table) c.cursor-in-On.ensures;
      same_bookmark = c.as_bytes.ensures.value;
    })
    c.in-None.ensures
