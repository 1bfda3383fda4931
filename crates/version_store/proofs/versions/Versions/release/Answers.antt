-- Each item changes as its held change does.
use Rattle.std.proofs.Common.{List, map, ap, subst, sym, ◌∙◌}
use Rattle.version_store.specs.declared.item.Item.{Item}
use Rattle.version_store.specs.HeldChanges.{released_change}
use Rattle.version_store.specs.Items.{released_item}
use Rattle.version_store.specs.Kept.{held}
use Rattle.version_store.specs.OpenChanges.{OpenChanges}
use Rattle.version_store.proofs.EndLemmas.{release-cost, release-held, release-hash, release-spent}
use Rattle.version_store.proofs.KeepLemmas.{Mapped, keeps-map}
use Rattle.version_store.proofs.OpenLemmas.{opens-released}
use Rattle.version_store.proofs.versions.Versions.release.Goals as goal

mapped : (c : goal.After-release_all) → Mapped c.release_all.new.items.items c.self.inside.rows.pieces c.self.inside.chains c.self.inside.total (map (released_change c.args.session.0 c.args.level) (held c.self.inside))
mapped c =
    let a = c.self.inside in
    keeps-map (released_item c.args.session.0 c.args.level) (released_change c.args.session.0 c.args.level) a.items.items c.release_all.new.items.items a.rows.pieces a.chains a.total c.self.invariant.keeps c.release_all.ensures
    (release-held c.args.session.0 c.args.level) (release-hash c.args.session.0 c.args.level) (release-spent c.args.session.0 c.args.level) (release-cost c.args.session.0 c.args.level)

pub invariant_of-self : goal.invariant_of-self
invariant_of-self c =
    let a = c.self.inside in
    record {
      keeps = (mapped c).keeps;
      opens = subst (λ (l : List Item). OpenChanges a.rows.first l a.newest.items) (sym c.release_all.ensures)
          (opens-released c.args.session.0 c.args.level a.rows.first a.items.items a.newest.items c.requires c.self.invariant.opens);
    }

pub returns : goal.returns
returns c = (mapped c).value_is ∙ ap (map (released_change c.args.session.0 c.args.level)) c.self.view_is
