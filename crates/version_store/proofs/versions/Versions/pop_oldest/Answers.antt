-- The first change goes, and all numbers keep their meaning.
use Rattle.std.proofs.Common.{ℕ, length, ap, subst, sym, arith}
use Rattle.version_bucket.specs.Pieces.{Pieces}
use Rattle.version_store.specs.HeldChanges.{HeldChange}
use Rattle.version_store.specs.OpenChanges.{OpenChanges}
use Rattle.version_store.proofs.HeldLemmas.{length-held}
use Rattle.version_store.proofs.KeepLemmas.{keeps-pop}
use Rattle.version_store.proofs.OpenLemmas.{opens-popped}
use Rattle.version_store.proofs.versions.Versions.pop_oldest.Goals as goal

pub invariant_of-self : goal.invariant_of-self
invariant_of-self c =
    let a = c.self.inside in
    record {
      keeps = keeps-pop a.items.items c.pop_front.new.self.items a.rows.pieces c.pop_front-4.new.self.pieces a.chains c.pop_front-5.new.self a.total c.self.invariant.keeps c.pop_front.ensures.rest (ap (λ (p : Pieces). p.pieces) c.pop_front-4.ensures) c.pop_front-5.ensures;
      opens = subst (λ (n : ℕ). OpenChanges n c.pop_front.new.self.items a.newest.items) (sym (ap (λ (p : Pieces). p.first) c.pop_front-4.ensures))
          (opens-popped a.rows.first a.items.items c.pop_front.new.self.items a.newest.items c.self.invariant.opens
          (omega (arith, length-held a.items.items a.rows.pieces c.self.invariant.keeps.are_rows, c.requires, ap (length {A = HeldChange}) c.self.view_is)) c.pop_front.ensures.rest);
    }
