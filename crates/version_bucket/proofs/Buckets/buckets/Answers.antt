-- Each bucket but the first and the last holds 61,440 bytes of kept pieces.
use Rattle.std.proofs.Common.{◌≡◌, ◌+◌, ◌/◌, ◌≤◌, List, ℕ, sym, ap, subst, ◌∙◌, arith}
use Rattle.std.specs.Prelude.{sum_by}
use Rattle.version_bucket.specs.Held.{joined}
use Rattle.version_bucket.specs.Layout.{cost}
use Rattle.version_bucket.specs.Pieces.{Pieces}
use Rattle.version_bucket.proofs.HeldLemmas.{bound, shown-pieces}
use Rattle.version_bucket.proofs.Buckets.buckets.Goals as goal

pub returns-clause-bound : goal.returns-clause-bound
returns-clause-bound c =
    let a = c.self.inside in let k = c.self.invariant in
    let e : c.args.self.now.pieces ≡ joined k.pieces_in = sym (ap (λ (v : Pieces). v.pieces) c.self.view_is) ∙ shown-pieces a.first a.freed a.room a.places.items a.held.items k in
    subst (λ (ps : List (List ℕ)). c.len.result ≤ 2 + sum_by cost ps / 61440) (sym e) (omega (arith, c.len.ensures, a.held.ok.0, bound a.freed k.start a.held.items k.places_in k.pieces_in k.holds))
