use Rattle.std.proofs.Common.{◌≡◌, w32, w64, rules, of_z, to_z, true, false, sym, ap, ◌∙◌}
use Rattle.std.specs.Prelude.{ℤ}
use Rattle.jet_base.specs.declared.replies.Jet.TheVariants as jet
use Rattle.cursor_nav.specs.Places.{place_bookmark}
use Rattle.session_local.specs.Answer.{Answered, Number}
use Rattle.session_local.specs.Outcome.{Outcome}
use Rattle.engine_parts.specs.Reading.{fields_at, unseen_amounts}
use Rattle.engine_parts.proofs.SeenSums.{other_shown, sum_shown}
use Rattle.engine_parts.proofs.engine.Engine.value_seen.Goals.{else-column-via-then-column+else-sequence-eq1, else-column-via-else-column}
use Rattle.engine_parts.proofs.engine.Engine.value_seen.Goals as goal

pub returns-then-sequence-eq1-clause-answer : goal.returns-then-sequence-eq1-clause-answer
returns-then-sequence-eq1-clause-answer c asked most =
    let shown : ℤ → Answered = λ n. record { jet = jet.Success; shown = Number n } in
    let engine = c.args.self.now in
    let cursor = c.args.cursor.now in
    let number : to_z w32 (of_z w32 c.sum_at.result) ≡ c.sum_at.result = search rules in
    let read : to_z w64 (of_z w64 c.from.result) ≡ c.from.result = search rules in
    ap (λ (o : Outcome). o.answered)
    (sum_shown asked c.args.sequence most cursor.schema (unseen_amounts engine c.args.session.0 cursor.cursor.table (place_bookmark cursor.cursor.place)) c.args.row.now (fields_at engine c.args.session.0 cursor) c.args.column.now c.requires.row c.requires.column c.if-column.true c.if-sequence-eq1.true)
    ∙ ap shown (sym (c.from.ensures ∙ number ∙ c.sum_at.ensures))
    ∙ ap shown (sym read)

pub returns-else-column-clause-answer : goal.returns-else-column-clause-answer
returns-else-column-clause-answer c asked most =
    let engine = c.args.self.now in
    let cursor = c.args.cursor.now in
    ap (λ (o : Outcome). o.answered)
    (other_shown asked c.args.sequence most cursor.schema (unseen_amounts engine c.args.session.0 cursor.cursor.table (place_bookmark cursor.cursor.place)) c.args.row.now (fields_at engine c.args.session.0 cursor) c.args.column.now c.requires.row c.requires.column
    (elim c.else-column.branch [
      | else-column-via-then-column+else-sequence-eq1 w ↦ λ sum. w.if-sequence-eq1.false
      | else-column-via-else-column w ↦ λ sum. absurd (never (sym sum ∙ w.if-column.false))
    ]))
    ∙ c.value_in.ensures.answer asked most
  where
    never : true ≡ false → ⊥
    never e = cc
