use Rattle.std.proofs.Common.{◌==◌, List, Option, get_or, sym, ◌∙◌, ap}
use Rattle.session_local.specs.Local.{OpenCursor}
use Rattle.session_local.specs.SessionSide.{HeldState}
use Rattle.session_local.specs.declared.reply.Reply.{Reply}
use Rattle.session_local.specs.Answer.{answered_by}
use Rattle.session_local.specs.Outcome.{on_cursor}
use Rattle.session_local.specs.RecordCalls.{retrieve_copy}
use Rattle.session_local.proofs.Distinct.{found-position, missing-position}
use Rattle.session_local.proofs.begun.Begun.show_copy.Goals as goal

pub returns-in_default-clause-shown : goal.returns-in_default-clause-shown
returns-in_default-clause-shown c =
    let missing = missing-position (λ (o : OpenCursor). o.label == c.args.label.0) c.args.self.now.cursors (sym c.position.ensures ∙ c.in_default.is) in
    λ asked. ap (λ (r : Reply). answered_by r c.args.self.now.reply) c.without_value.ensures
    ∙ ap (λ (o : Option OpenCursor). (on_cursor asked o (λ x. retrieve_copy asked x c.args.column.now c.args.sequence c.args.most)).answered) (sym missing)

pub returns-in-Ok-clause-shown : goal.returns-in-Ok-clause-shown
returns-in-Ok-clause-shown c =
    let same = ap (λ (h : HeldState). h.cursors) c.self.view_is in
    let at = c.in-Some.at in
    let cursor = c.index.result.now in
    let is = c.index.ensures ∙ ap (λ (cs : List OpenCursor). get_or cs at cursor) same in
    let known = found-position (λ (o : OpenCursor). o.label == c.args.label.0) c.args.self.now.cursors at cursor (sym c.position.ensures ∙ c.in-Some.is) is in
    λ asked. c.show_value.ensures.answer
    ∙ sym (c.in-Ok.ensures.answer asked c.args.most)
    ∙ ap (λ (o : Option OpenCursor). (on_cursor asked o (λ x. retrieve_copy asked x c.args.column.now c.args.sequence c.args.most)).answered) (sym known)

pub returns-in-Err-clause-shown : goal.returns-in-Err-clause-shown
returns-in-Err-clause-shown c =
    let same = ap (λ (h : HeldState). h.cursors) c.self.view_is in
    let at = c.in-Some.at in
    let cursor = c.index.result.now in
    let is = c.index.ensures ∙ ap (λ (cs : List OpenCursor). get_or cs at cursor) same in
    let known = found-position (λ (o : OpenCursor). o.label == c.args.label.0) c.args.self.now.cursors at cursor (sym c.position.ensures ∙ c.in-Some.is) is in
    λ asked. ap (λ (r : Reply). answered_by r c.args.self.now.reply) c.without_value-in-Err.ensures
    ∙ sym (c.in-Err.ensures.answer asked c.args.most)
    ∙ ap (λ (o : Option OpenCursor). (on_cursor asked o (λ x. retrieve_copy asked x c.args.column.now c.args.sequence c.args.most)).answered) (sym known)
