use Rattle.std.proofs.Common.{◌+◌, arith}
use Rattle.database_state.specs.Table.{schema_of}
use Rattle.image_contents.specs.ReadVariants.{contents_of}
use Rattle.image_findings.specs.EntryFindings.{pairs_of, row_before}
use Rattle.version_store.specs.Answers.{told_change}
use Rattle.image_contents.proofs.VariantEntries.{one_more}
use Rattle.image_contents.proofs.entries.variants.TableVariants.push_before.Goals as goal

pub loop-place-preserved : goal.loop-place-preserved
loop-place-preserved c =
    let variants = c.args.self.now in (
      omega (arith, c.loop-place-test.true, c.len.ensures),
      one_more (row_before (contents_of variants)) (pairs_of c.args.rule.now (schema_of variants.table.now)) variants.versions.now c.loop-place.place (c.loop-place.place + 1) (told_change c.change_at.result) _ c.loop-place.entries.items _
          c.change_at.ensures (omega arith) c.in-Ok.ensures c.loop-place.invariant.1,
    )
