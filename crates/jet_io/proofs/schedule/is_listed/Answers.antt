use Rattle.std.proofs.Common.{◌≡◌, ◌+◌, ◌==◌, ◌^◌, ◌≤◌, false, sym, arith, get_or}
use Rattle.std.proofs.lemmas.List.Folds.{list_any_none}
use Rattle.std.proofs.lemmas.List.Elements.{All-from_get_or}
use Rattle.std.proofs.lemmas.Bool.{ne_eqb}
use Rattle.jet_io.proofs.schedule.is_listed.Goals as goal

-- each number of the list is below 2^64
pub returns-in-None : goal.returns-in-None
returns-in-None c =
    let high : 2 ^ 64 ≤ c.args.called + 1 = omega (arith, c.in-None.ensures) in
    sym (list_any_none (λ n. n == c.args.called + 1) c.args.failing.now (All-from_get_or (λ n. (n == c.args.called + 1) ≡ false) c.args.failing.now 0 (λ i lt.
    let fits = c.type_inv.failing i in
    ne_eqb (get_or c.args.failing.now i 0) (c.args.called + 1) (λ e. omega arith))))
