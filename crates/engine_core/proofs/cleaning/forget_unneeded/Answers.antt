use Rattle.std.proofs.Common.{◌<◌, List, length, refl, sym, ap, subst, ◌∙◌}
use Rattle.laws_engine.specs.HeldRecords.{HeldRecord}
use Rattle.stored_variants.specs.StoredVersions.{StoredVersions}
use Rattle.engine_core.specs.Cleans.{without_unneeded}
use Rattle.engine_core.proofs.GivenUp.{all_kept, fewer_held, kept_later, some_held}
use Rattle.engine_core.proofs.cleaning.forget_unneeded.Goals as goal

pub loop-more-init : goal.loop-more-init
loop-more-init c = record { rest = refl; more = c.has_unneeded-more.ensures }

pub forget-requires : goal.forget-requires
forget-requires c = some_held c.args.oldest c.loop-more.tables.store.held (sym c.loop-more.invariant.more ∙ c.loop-more-test.true)

pub loop-more-smaller : goal.loop-more-smaller
loop-more-smaller c =
    subst (λ (v : StoredVersions). length v.store.held < length c.loop-more.tables.store.held) (sym c.forget.ensures)
    (fewer_held c.args.oldest c.loop-more.tables.store.held (sym c.loop-more.invariant.more ∙ c.loop-more-test.true))

pub loop-more-preserved : goal.loop-more-preserved
loop-more-preserved c = record {
  rest =
      ap (λ (v : StoredVersions). record v { store = without_unneeded c.args.oldest v.store }) c.forget.ensures
      ∙ ap (λ (held : List HeldRecord). record c.loop-more.tables { store = record c.loop-more.tables.store { held = held } }) (kept_later c.args.oldest c.loop-more.tables.store.held (sym c.loop-more.invariant.more ∙ c.loop-more-test.true))
      ∙ c.loop-more.invariant.rest;
  more = c.has_unneeded-more-in-loop-more.ensures;
}

pub returns : goal.returns
returns c =
    sym (ap (λ (held : List HeldRecord). record c.loop-more.tables { store = record c.loop-more.tables.store { held = held } }) (all_kept c.args.oldest c.loop-more.tables.store.held (sym c.loop-more.invariant.more ∙ c.loop-more-test.false)))
    ∙ c.loop-more.invariant.rest
