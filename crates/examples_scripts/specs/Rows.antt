-- Rows for examples.
use Rattle.std.specs.Prelude.{ℕ}
use Rattle.jet_base.specs.declared.replies.Jet.TheVariants as jet
use Rattle.session_local.specs.declared.request.Request.{Request}
use Rattle.session_local.specs.Answer.{Row, Nothing}

-- a call of a session that succeeded without a value
abbrev pub row : ℕ → ℕ → Request → Row
row n session request = record { n = n; session = session; request = request; answered = record { jet = jet.Success; shown = Nothing } }
