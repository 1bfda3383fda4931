use Rattle.std.proofs.Common.{◌≡◌, ◌<◌, List, [], None, length, refl, sym, ap, subst, ◌∙◌}
use Rattle.laws_engine.specs.HeldRecords.{HeldRecord, from_oldest_kept}
use Rattle.stored_variants.specs.StoredVersions.{StoredVersions}
use Rattle.engine_core.proofs.SessionsGivenUp.{fewer_held, none_left, rest_unneeded, some_held}
use Rattle.engine_core.proofs.closing.forget_all.Goals as goal

pub loop-more-init : goal.loop-more-init
loop-more-init c = record { rest = refl; unneeded = c.requires; more = c.has_unneeded-more.ensures }

pub forget-requires : goal.forget-requires
forget-requires c = some_held c.loop-more.tables.store.held (sym c.loop-more.invariant.more ∙ c.loop-more-test.true)

pub loop-more-smaller : goal.loop-more-smaller
loop-more-smaller c =
    subst (λ (v : StoredVersions). length v.store.held < length c.loop-more.tables.store.held) (sym c.forget.ensures)
    (fewer_held c.loop-more.tables.store.held (sym c.loop-more.invariant.more ∙ c.loop-more-test.true))

pub loop-more-preserved : goal.loop-more-preserved
loop-more-preserved c = record {
  rest = ap (λ (v : StoredVersions). record v { store = record v.store { held = [] } }) c.forget.ensures ∙ c.loop-more.invariant.rest;
  unneeded = subst (λ (v : StoredVersions). from_oldest_kept None v.store.held ≡ []) (sym c.forget.ensures) (rest_unneeded c.loop-more.tables.store.held c.loop-more.invariant.unneeded);
  more = c.has_unneeded-more-in-loop-more.ensures;
}

pub returns : goal.returns
returns c =
    ap (λ (held : List HeldRecord). record c.loop-more.tables { store = record c.loop-more.tables.store { held = held } })
    (none_left c.loop-more.tables.store.held c.loop-more.invariant.unneeded (sym c.loop-more.invariant.more ∙ c.loop-more-test.false))
    ∙ c.loop-more.invariant.rest
