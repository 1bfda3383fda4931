-- Each item changes as its held change does.
use Rattle.std.proofs.Common.{List, map, ap, subst, sym, ◌∙◌}
use Rattle.version_store.specs.declared.item.Item.{Item}
use Rattle.version_store.specs.HeldChanges.{committed_change}
use Rattle.version_store.specs.Items.{committed_item}
use Rattle.version_store.specs.Kept.{held}
use Rattle.version_store.specs.OpenChanges.{OpenChanges}
use Rattle.version_store.proofs.EndLemmas.{commit-cost, commit-held, commit-hash, commit-spent}
use Rattle.version_store.proofs.KeepLemmas.{Mapped, keeps-map}
use Rattle.version_store.proofs.OpenLemmas.{opens-committed}
use Rattle.version_store.proofs.versions.Versions.commit.Goals as goal

mapped : (c : goal.After-set_newest) → Mapped c.commit_all.new.items.items c.self.inside.rows.pieces c.self.inside.chains c.self.inside.total (map (committed_change c.args.session.0 c.args.number) (held c.self.inside))
mapped c =
    let a = c.self.inside in
    keeps-map (committed_item c.args.session.0 c.args.number) (committed_change c.args.session.0 c.args.number) a.items.items c.commit_all.new.items.items a.rows.pieces a.chains a.total c.self.invariant.keeps c.commit_all.ensures
    (commit-held c.args.session.0 c.args.number) (commit-hash c.args.session.0 c.args.number) (commit-spent c.args.session.0 c.args.number) (commit-cost c.args.session.0 c.args.number)

pub invariant_of-self : goal.invariant_of-self
invariant_of-self c =
    let a = c.self.inside in
    record {
      keeps = (mapped c).keeps;
      opens = subst (λ (l : List Item). OpenChanges a.rows.first l c.set_newest.new.newest.items) (sym c.commit_all.ensures)
          (subst (OpenChanges a.rows.first (map (committed_item c.args.session.0 c.args.number) a.items.items)) (sym c.set_newest.ensures)
          (opens-committed c.args.session.0 c.args.number a.rows.first a.items.items a.newest.items c.self.invariant.opens));
    }

pub returns : goal.returns
returns c = (mapped c).value_is ∙ ap (map (committed_change c.args.session.0 c.args.number)) c.self.view_is
