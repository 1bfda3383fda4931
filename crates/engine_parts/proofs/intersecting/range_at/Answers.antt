use Rattle.std.proofs.Common.{Ok, Result, sym, ap, ◌∙◌}
use Rattle.jet_base.specs.declared.replies.Jet.{Jet}
use Rattle.index_intersect.specs.declared.ranges.IndexRange.{IndexRange}
use Rattle.cursor_nav.specs.declared.cursor.Moved.{Moved}
use Rattle.cursor_nav.specs.Navigation.{CursorState, answer_of, current_answer}
use Rattle.engine_parts.specs.Intersecting.{range_at, range_if}
use Rattle.engine_parts.specs.Reading.{has_shown}
use Rattle.engine_parts.proofs.Intersections.{on_if_current}
use Rattle.engine_parts.proofs.intersecting.range_at.Goals as goal

pub of_cursor-requires : goal.of_cursor-requires
of_cursor-requires c =
    let cursor = c.cursor-cursor.result.now in
    on_if_current (has_shown c.args.view.now.reader c.args.view.now.tables.now.store cursor.table) cursor.place c.in-Ok.field-0 c.in-Ok.ensures

pub returns-in_default : goal.returns-in_default
returns-in_default c = ap (range_at (has_shown c.args.view.now.reader c.args.view.now.tables.now.store)) (sym c.in_default.ensures)

pub returns-in-Ok : goal.returns-in-Ok
returns-in-Ok c =
    let has = has_shown c.args.view.now.reader c.args.view.now.tables.now.store in
    let cursor = c.cursor-cursor.result.now in
    ap (λ (range : IndexRange). Ok range) c.of_cursor.ensures
    ∙ ap (λ (r : Result Moved Jet). range_if r cursor) c.in-Ok.ensures
    ∙ ap (λ (k : CursorState). range_if (answer_of (current_answer (has k.table) k.place) 0) k) c.cursor-cursor.ensures
    ∙ ap (range_at has) (sym c.in-Some.ensures)

pub returns-in-Err : goal.returns-in-Err
returns-in-Err c =
    let has = has_shown c.args.view.now.reader c.args.view.now.tables.now.store in
    let cursor = c.cursor-cursor.result.now in
    ap (λ (r : Result Moved Jet). range_if r cursor) c.in-Err.ensures
    ∙ ap (λ (k : CursorState). range_if (answer_of (current_answer (has k.table) k.place) 0) k) c.cursor-cursor.ensures
    ∙ ap (range_at has) (sym c.in-Some.ensures)
