use Rattle.std.proofs.Common.{◌≡◌, Bool, true, false, Ok, Err, if◌then◌else◌, sym, ◌∙◌}
use Rattle.jet_base.specs.declared.replies.Jet.{Jet}
use Rattle.cursor_nav.specs.declared.cursor.Moved.{Moved}
use Rattle.cursor_nav.specs.Navigation.{is_refusal}
use Rattle.session_local.proofs.navigating.jet_of.Goals as goal

ok_jet : (b : Bool) (reply : Jet) (moved : Moved) → Ok moved ≡ (if b then Err reply else Ok (record { jet = reply; number = 0 })) → moved.jet ≡ reply
ok_jet true reply moved e = cc
ok_jet false reply moved e = cc

err_jet : (b : Bool) (reply refusal : Jet) (made : Moved) → Err refusal ≡ (if b then Err reply else Ok made) → refusal ≡ reply
err_jet true reply refusal made e = cc
err_jet false reply refusal made e = cc

pub returns-in-Ok : goal.returns-in-Ok
returns-in-Ok c reply e = ok_jet (is_refusal reply) reply c.in-Ok.moved (sym c.in-Ok.is ∙ e)

pub returns-in-Err : goal.returns-in-Err
returns-in-Err c reply e = err_jet (is_refusal reply) reply c.in-Err.refusal _ (sym c.in-Err.is ∙ e)
