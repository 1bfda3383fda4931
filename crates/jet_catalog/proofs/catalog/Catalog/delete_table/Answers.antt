use Rattle.std.proofs.Common.{◌≡◌, rules, tests}
use Rattle.std.specs.Prelude.{◌==◌, not, filter}
use Rattle.std.proofs.lemmas.Fn.{filter_same}
use Rattle.jet_catalog.proofs.RisingIds.{ids_rise-filter}
use Rattle.jet_catalog.proofs.catalog.Catalog.delete_table.Goals as goal

pub invariant_of-self : goal.invariant_of-self
invariant_of-self c =
    let kept : c.retain.new.self.items ≡ filter (λ t. not (t.id == c.args.id.0)) c.self.inside.tables.items =
    filter_same _ (λ t. not (t.id == c.args.id.0)) _ (λ x b q k. search (rules, tests)) _ _ c.retain.ensures.filtered in
    rw kept (ids_rise-filter (λ t. not (t.id == c.args.id.0)) 0 c.self.inside.greatest c.self.inside.tables.items c.self.invariant)

pub returns : goal.returns
returns c =
    let kept : c.retain.new.self.items ≡ filter (λ t. not (t.id == c.args.id.0)) c.self.inside.tables.items =
    filter_same _ (λ t. not (t.id == c.args.id.0)) _ (λ x b q k. search (rules, tests)) _ _ c.retain.ensures.filtered in
    rw (← c.self.view_is, kept)
