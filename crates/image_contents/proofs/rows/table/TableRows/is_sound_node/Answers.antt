use Rattle.std.proofs.Common.{◌≡◌, false, List, [], sym, ap, ◌∙◌, ℕ}
use Rattle.std.specs.Prelude.{IfOk}
use Rattle.std.specs.List.{list_any}
use Rattle.image_findings.specs.RowFindings.{has_before, is_row_under, is_sound_node, lacks_room}
use Rattle.image_contents.proofs.NodesSound.{no_bytes, no_key, no_room, some_bytes, wide, whole_is, with_ok, with_row, without_row}
use Rattle.image_contents.proofs.rows.table.TableRows.is_sound_node.Goals as goal
use Rattle.image_contents.specs.NodesLeft.{node_in}
use Rattle.image_contents.specs.RowsRead.{contents_read, values_read}

pub returns-then-not-is_bookmark : goal.returns-then-not-is_bookmark
returns-then-not-is_bookmark c = no_key c.args.self.now.number c.args.versions.now (contents_read c.args.self.now []) (node_in c.args.node) (sym c.is_bookmark.ensures ∙ c.if-not-is_bookmark.true)

pub returns-then-node-gt-MAX_ROW_SIZE : goal.returns-then-node-gt-MAX_ROW_SIZE
returns-then-node-gt-MAX_ROW_SIZE c = wide c.args.self.now.number c.args.versions.now (contents_read c.args.self.now []) (node_in c.args.node) c.if-node-gt-MAX_ROW_SIZE.true

pub returns-then-before : goal.returns-then-before
returns-then-before c =
    no_room c.args.self.now.number c.args.versions.now (contents_read c.args.self.now []) (node_in c.args.node)
    (sym (c.rows_before-before.ensures.room ∙ ap (λ (k : ℕ). list_any (lacks_room c.args.node.extent k c.args.node.key.now) c.args.versions.now) c.id.ensures) ∙ c.if-before.true)

pub returns-then-is_empty : goal.returns-then-is_empty
returns-then-is_empty c =
    c.rows_before-before.ensures.row
    ∙ ap (λ (k : ℕ). has_before k c.args.node.key.now c.args.versions.now) c.id.ensures
    ∙ without_row c.args.self.now.number c.args.versions.now (contents_read c.args.self.now []) (node_in c.args.node) (sym c.is_bookmark.ensures ∙ c.if-not-is_bookmark.false) c.if-node-gt-MAX_ROW_SIZE.false
    (sym (c.rows_before-before.ensures.room ∙ ap (λ (k : ℕ). list_any (lacks_room c.args.node.extent k c.args.node.key.now) c.args.versions.now) c.id.ensures) ∙ c.if-before.false) (no_bytes c.args.node.bytes.now (sym c.is_empty.ensures ∙ c.if-is_empty.true))

pub is_row_under-requires-clause-readable : goal.is_row_under-requires-clause-readable
is_row_under-requires-clause-readable c = c.requires.readable

pub is_row_under-requires-clause-whole : goal.is_row_under-requires-clause-whole
is_row_under-requires-clause-whole c = whole_is (values_read c.args.self.now) c.args.node.bytes.now c.requires.whole (some_bytes c.args.node.bytes.now (sym c.is_empty.ensures ∙ c.if-is_empty.false))

pub returns : goal.returns
returns c =
    with_ok c.is_row_under.result _ _ c.is_row_under.ensures
    (with_row c.args.self.now.number c.args.versions.now (contents_read c.args.self.now []) (node_in c.args.node) (sym c.is_bookmark.ensures ∙ c.if-not-is_bookmark.false) c.if-node-gt-MAX_ROW_SIZE.false
    (sym (c.rows_before-before.ensures.room ∙ ap (λ (k : ℕ). list_any (lacks_room c.args.node.extent k c.args.node.key.now) c.args.versions.now) c.id.ensures) ∙ c.if-before.false) (some_bytes c.args.node.bytes.now (sym c.is_empty.ensures ∙ c.if-is_empty.false)))
