-- Facts of outcomes, by the ways in which a call is answered.
use Rattle.std.proofs.Common.{◌≡◌, true, false, [], ◌∷◌, Option, Some, None, refl, cond}
use Rattle.jet_base.specs.declared.replies.Jet.{Jet}
use Rattle.jet_base.specs.declared.replies.Jet.TheVariants as jet
use Rattle.column_set.specs.Refusals.{Refusals, first_refusal}
use Rattle.column_set.specs.declared.columns.Column.{Column}
use Rattle.session_local.specs.Local.{OpenCursor, PreparedUpdate}
use Rattle.session_local.specs.Outcome.{CallInputs, Outcome, refused, unless_refused, unless, on_cursor}
use Rattle.session_local.specs.RecordCalls.{on_prepared, on_column}

-- a fact of every refusal and of what follows is one of a call with refusals
pub unless_refused-all : (P : Outcome → Type 0) (asked : CallInputs) (reply : Option Jet) (next : Unit {0} → Outcome) → ((reply : Jet) → P (refused asked reply)) → P (next tt) → P (unless_refused asked reply next)
unless_refused-all P asked (Some reply) next refusal rest = refusal reply
unless_refused-all P asked None next refusal rest = rest

pub unless-all : (P : Outcome → Type 0) (asked : CallInputs) (refusals : Refusals) (next : Unit {0} → Outcome) → ((reply : Jet) → P (refused asked reply)) → P (next tt) → P (unless asked refusals next)
unless-all P asked refusals next refusal rest = unless_refused-all P asked (first_refusal refusals) next refusal rest

-- the same of a call at a cursor
pub on_cursor-all : (P : Outcome → Type 0) (asked : CallInputs) (found : Option OpenCursor) (next : OpenCursor → Outcome) → P (refused asked jet.InvalidTableId) → ((c : OpenCursor) → found ≡ Some c → P (next c)) → P (on_cursor asked found next)
on_cursor-all P asked None next refusal rest = refusal
on_cursor-all P asked (Some c) next refusal rest = rest c refl

pub on_prepared-all : (P : Outcome → Type 0) (asked : CallInputs) (prepared : Option PreparedUpdate) (next : PreparedUpdate → Outcome) → ((reply : Jet) → P (refused asked reply)) → ((update : PreparedUpdate) → P (next update)) → P (on_prepared asked prepared next)
on_prepared-all P asked None next refusal rest = refusal jet.UpdateNotPrepared
on_prepared-all P asked (Some update) next refusal rest = rest update

pub on_column-all : (P : Outcome → Type 0) (asked : CallInputs) (column : Option Column) (next : Column → Outcome) → ((reply : Jet) → P (refused asked reply)) → ((column : Column) → P (next column)) → P (on_column asked column next)
on_column-all P asked None next refusal rest = refusal jet.ColumnNotFound
on_column-all P asked (Some column) next refusal rest = rest column

-- a fact of each refusal of the list
abbrev pub EachRefusal : (Jet → Type 0) → Refusals → Type 0
EachRefusal Q [] = Unit {0}
EachRefusal Q (refusal ∷ refusals) = Q refusal.1 × EachRefusal Q refusals

pub unless-each : (P : Outcome → Type 0) (asked : CallInputs) (refusals : Refusals) (next : Unit {0} → Outcome) → EachRefusal (λ reply. P (refused asked reply)) refusals → P (next tt) → P (unless asked refusals next)
unless-each P asked [] next each rest = rest
unless-each P asked (refusal ∷ refusals) next each rest =
    elim refusal.0 as (λ b. P (unless_refused asked (cond b (Some refusal.1) (first_refusal refusals)) next)) [
      | true ↦ each.0
      | false ↦ unless-each P asked refusals next each.1 rest
    ]
