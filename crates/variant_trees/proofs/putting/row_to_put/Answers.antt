use Rattle.std.proofs.Common.{◌≡◌, ℕ, ◌++◌, List, Option, sym, ap, subst, ◌∙◌}
use Rattle.std.specs.Prelude.{IfSome, option_and_then, option_copied}
use Rattle.column_set.specs.Rows.{IsRowBytes, row_bytes}
use Rattle.table_trees.specs.Sources.{row_given}
use Rattle.long_rows.specs.KeptRows.{kept_row}
use Rattle.stored_variants.specs.RecordRows.{row_in_node, row_under}
use Rattle.table_trees.specs.StoredTables.{table_long_values, table_nodes}
use Rattle.variant_trees.specs.PutStages.{put_found}
use Rattle.variant_trees.proofs.PutRows.{row_bytes_of}
use Rattle.variant_trees.proofs.putting.row_to_put.Goals as goal

pub returns-in-Ok-clause-row : goal.returns-in-Ok-clause-row
returns-in-Ok-clause-row c =
    c.in-Ok.ensures.ok.1
    ∙ sym (ap row_bytes (c.rows_without_long_values.ensures.kept (put_found c.args.number c.args.trees.now.tables c.args.table.0 c.args.bookmark.now (option_copied c.args.copied)) c.args.values.now (sym c.requires.here ∙ c.if-is_here.true)))

pub keep_row-requires-clause-rows : goal.keep_row-requires-clause-rows
keep_row-requires-clause-rows c =
    let before : option_copied c.row_in_node.result ≡ row_under (table_nodes c.args.trees.now.tables c.args.table.0) c.args.bookmark.now = c.row_in_node.ensures ∙ ap (option_and_then row_in_node) c.get.ensures in record {
      before = subst (λ (o : Option (List ℕ)). IfSome o IsRowBytes) (sym before) (row_bytes_of (table_long_values c.args.trees.now.tables c.args.table.0) (row_under (table_nodes c.args.trees.now.tables c.args.table.0) c.args.bookmark.now) c.requires.newest);
      copied = c.requires.copied;
    }

pub keep_row-requires-clause-short : goal.keep_row-requires-clause-short
keep_row-requires-clause-short c = c.requires.may.short

pub returns-in-Ok-keep_row-clause-row : goal.returns-in-Ok-keep_row-clause-row
returns-in-Ok-keep_row-clause-row c =
    let before : option_copied c.row_in_node.result ≡ row_under (table_nodes c.args.trees.now.tables c.args.table.0) c.args.bookmark.now = c.row_in_node.ensures ∙ ap (option_and_then row_in_node) c.get.ensures in
    c.in-Ok-keep_row.ensures.ok
    ∙ ap (λ (o : Option (List ℕ)). row_bytes (kept_row (record { values = table_long_values c.args.trees.now.tables c.args.table.0; rows = row_given o ++ row_given (option_copied c.args.copied); number = c.args.number }) c.args.values.now)) before
