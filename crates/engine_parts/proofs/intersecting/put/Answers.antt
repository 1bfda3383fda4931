use Rattle.std.proofs.Common.{◌≡◌, ℕ, ◌≤◌, ◌&&◌, List, [], ◌∷◌, Some, true, length, ap, ◌∙◌}
use Rattle.std.proofs.lemmas.Bool.{le-leb}
use Rattle.session_local.specs.IntersectCalls.{bookmark_columns}
use Rattle.temp_table.specs.declared.columns.TempColumn.{TempColumn}
use Rattle.temp_table.specs.TempColumns.{row_fits}
use Rattle.temp_table.specs.TempRows.{put_row}
use Rattle.engine_parts.proofs.intersecting.put.Goals as goal

row-fits : (columns : List TempColumn) (bookmark : List ℕ) → columns ≡ bookmark_columns → length bookmark ≤ 255 → row_fits columns (Some bookmark ∷ []) ≡ true
row-fits columns bookmark same short = ap (λ (cs : List TempColumn). row_fits cs (Some bookmark ∷ [])) same ∙ ap (λ b. b && true) (le-leb (length bookmark) 255 short)

pub put-requires : goal.put-requires
put-requires c =
    ap (λ (b : List ℕ). row_fits c.args.table.now.columns (Some b ∷ [])) c.as_bytes.ensures.value
    ∙ row-fits c.args.table.now.columns c.args.bookmark.now c.requires.columns c.as_bytes.ensures.fits

pub returns-in-Ok : goal.returns-in-Ok
returns-in-Ok c = c.in-Ok.ensures.put ∙ ap (λ (b : List ℕ). put_row c.args.table.now (Some b ∷ [])) c.as_bytes.ensures.value
