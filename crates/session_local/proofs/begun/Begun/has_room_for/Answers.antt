use Rattle.std.proofs.Common.{◌≡◌, ℕ, ◌==◌, true, false, not, nat_le, nat_lt, length, find, is_some, refl, sym, ◌∙◌, ap, arith}
use Rattle.std.proofs.lemmas.Bool.Decides.{nat_tests}
use Rattle.session_local.specs.SessionSide.{HeldState}
use Rattle.session_local.proofs.Distinct.{is_some-position}
use Rattle.session_local.proofs.begun.Begun.has_room_for.Goals as goal

fewer : (n m : ℕ) → n ≡ m → nat_lt n 16 ≡ not (nat_le 16 m)
fewer n m e = grind (arith, nat_tests)

pub returns-in-Some : goal.returns-in-Some
returns-in-Some c =
    let cursors = c.args.self.now.cursors in
    let there : is_some (find (λ o. o.label == c.args.label.0) cursors) ≡ true =
    sym (is_some-position (λ o. o.label == c.args.label.0) cursors) ∙ ap is_some (sym c.position.ensures ∙ c.in-Some.is) in
    rw there refl

pub returns-in-None : goal.returns-in-None
returns-in-None c =
    let cursors = c.args.self.now.cursors in
    let same = ap (λ (h : HeldState). length h.cursors) c.self.view_is in
    let missing : is_some (find (λ o. o.label == c.args.label.0) cursors) ≡ false =
    sym (is_some-position (λ o. o.label == c.args.label.0) cursors) ∙ ap is_some (sym c.position.ensures ∙ c.in-None.is) in
    rw missing (fewer c.len.result (length cursors) (omega (arith, same, c.len.ensures)))
