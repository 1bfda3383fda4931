use Rattle.std.proofs.Common.{◌≡◌, ◌++◌, List, Some, map, ap, sym, ◌∙◌}
use Rattle.std.specs.Prelude.{◌==◌, option_copied, slice_get}
use Rattle.std.proofs.lemmas.Bool.{not-false}
use Rattle.database_state.specs.Table.{schema_of}
use Rattle.image_contents.specs.ReadVariants.{contents_of}
use Rattle.image_findings.specs.TableContents.{long_values}
use Rattle.index_derive.specs.Entries.{key_list}
use Rattle.image_live.specs.KeySpans.{Span, begin_behind, span_of, spans_before}
use Rattle.image_live.proofs.Pushed.{behind_some, if_ok, row_before}
use Rattle.stored_variants.specs.RecordRows.{record_of}
use Rattle.version_store.specs.Answers.{told_change}
use Rattle.version_store.specs.HeldChanges.{HeldChange}
use Rattle.image_live.proofs.keys.derived.push_change.Goals as goal
use Rattle.image_live.proofs.keys.derived.push_change.Goals.{in-Some-older_rewrite, in-None}

pub returns : goal.returns
returns c =
    let v = c.args.variants.now in
    let x = told_change c.change_at-change.result in
    let old : List Span = c.args.spans.now.items in
    let new : List Span = c.push_row.new.spans.items in
    if_ok c.push_row.result
    (new ≡ old ++ map (span_of x.bookmark c.match-older_rewrite.begins c.args.place) (key_list c.args.rule.now (schema_of v.table.now) (record_of (long_values (contents_of v)) c.in-Some.row.now)))
    ((h : HeldChange) → slice_get v.versions.now c.args.place ≡ Some h → new ≡ old ++ spans_before c.args.rule.now (contents_of v) v.versions.now c.args.place h)
    (λ put h same.
    row_before c.args.rule.now (contents_of v) v.versions.now c.args.place c.match-older_rewrite.begins x h c.in-Some.row.now c.older_rewrite.result new old c.change_at-change.ensures
    (sym (ap (λ n. x.table == n) c.id.ensures) ∙ not-false (x.table == c.id.result.0) (sym c.ne.ensures ∙ c.if-ne.false))
    (ap option_copied c.in-Some.is) c.older_rewrite.ensures.place
    (elim c.match-older_rewrite.branch [
      | in-Some-older_rewrite w ↦ w.begins-is ∙ behind_some w.in-Some-older_rewrite.older ∙ sym (ap begin_behind w.in-Some-older_rewrite.is)
      | in-None w ↦ w.begins-is ∙ sym (ap begin_behind w.in-None.is)
    ]) put same)
    c.push_row.ensures
