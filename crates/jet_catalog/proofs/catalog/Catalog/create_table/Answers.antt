use Rattle.std.proofs.Common.{◌≡◌, ◌<◌, ap, arith}
use Rattle.jet_catalog.proofs.RisingIds.{ids_rise-append}
use Rattle.jet_catalog.proofs.catalog.Catalog.create_table.Goals as goal

pub invariant_of-self-2 : goal.invariant_of-self-2
invariant_of-self-2 c =
    let greatest = ap (λ v. v.greatest_table) c.self.view_is in
    let above : c.self.inside.greatest < c.args.id.0 = omega (arith, greatest) in
    rw c.in_ok-push.ensures.items (ids_rise-append 0 c.self.inside.greatest c.args.id.0 c.self.inside.tables.items c.new-table.result above (ap (λ t. t.id) c.new-table.ensures) c.self.invariant)
