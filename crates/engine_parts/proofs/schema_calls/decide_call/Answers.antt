use Rattle.std.proofs.Common.{◌≡◌, ℕ, Result, Ok, Err, sym, ap, subst, ◌∙◌}
use Rattle.jet_base.specs.declared.replies.Jet.{Jet}
use Rattle.index_derive.specs.declared.schema_calls.SchemaStep.{SchemaStep}
use Rattle.laws_engine.proofs.EngineLemmas.Decisions.{session_of}
use Rattle.engine_parts.specs.SchemaRequests.{IsDecided}
use Rattle.engine_parts.proofs.SchemaCalls.{IsAsked, schema-decision, schema-done, schema-full, schema-refused}
use Rattle.engine_parts.proofs.schema_calls.decide_call.Goals as goal

pub returns-in-Err-clause-answer : goal.returns-in-Err-clause-answer
returns-in-Err-clause-answer c =
    let engine = c.args.engine.now in
    let side = c.args.local.now in
    let called = c.args.call.now in
    let asked : IsAsked side c.args.request.now called = record { begun = c.requires.shared; same = c.requires.called } in
    let told : IsDecided engine side.session called c.in_ok-refusal.field-0 = subst (λ (own : ℕ). IsDecided engine own called c.in_ok-refusal.field-0) c.session-session.ensures c.in_ok-refusal.ensures in
    let decided : IsDecided engine side.session called (Err c.in-Err.refusal) = subst (λ (decision : Result SchemaStep Jet). IsDecided engine side.session called decision) c.in-Err.is told in
    rw c.refused.ensures (schema-refused engine side c.args.request.now called c.in-Err.refusal asked decided)

pub returns-then-is_full-clause-answer : goal.returns-then-is_full-clause-answer
returns-then-is_full-clause-answer c =
    let engine = c.args.engine.now in
    let side = c.args.local.now in
    let called = c.args.call.now in
    let asked : IsAsked side c.args.request.now called = record { begun = c.requires.shared; same = c.requires.called } in
    let told : IsDecided engine side.session called c.in_ok-refusal.field-0 = subst (λ (own : ℕ). IsDecided engine own called c.in_ok-refusal.field-0) c.session-session.ensures c.in_ok-refusal.ensures in
    let decided : IsDecided engine side.session called (Ok c.in-Ok.made) = subst (λ (decision : Result SchemaStep Jet). IsDecided engine side.session called decision) c.in-Ok.is told in
    rw c.refused-then-is_full.ensures (schema-full engine side c.args.request.now called c.in-Ok.made asked decided (sym c.is_full.ensures ∙ c.if-is_full.true))

pub returns-else-is_full-clause-answer : goal.returns-else-is_full-clause-answer
returns-else-is_full-clause-answer c =
    let engine = c.args.engine.now in
    let side = c.args.local.now in
    let called = c.args.call.now in
    let asked : IsAsked side c.args.request.now called = record { begun = c.requires.shared; same = c.requires.called } in
    let told : IsDecided engine side.session called c.in_ok-refusal.field-0 = subst (λ (own : ℕ). IsDecided engine own called c.in_ok-refusal.field-0) c.session-session.ensures c.in_ok-refusal.ensures in
    let decided : IsDecided engine side.session called (Ok c.in-Ok.made) = subst (λ (decision : Result SchemaStep Jet). IsDecided engine side.session called decision) c.in-Ok.is told in
    let label : c.session-session.result ≡ session_of side.session = ap session_of c.session-session.ensures in
    rw (c.done.ensures, c.one.ensures, label) (schema-done engine side c.args.request.now called c.in-Ok.made asked decided (sym c.is_full.ensures ∙ c.if-is_full.false))

pub returns-else-is_full-clause-decided : goal.returns-else-is_full-clause-decided
returns-else-is_full-clause-decided c =
    let engine = c.args.engine.now in
    let side = c.args.local.now in
    let called = c.args.call.now in
    let asked : IsAsked side c.args.request.now called = record { begun = c.requires.shared; same = c.requires.called } in
    let told : IsDecided engine side.session called c.in_ok-refusal.field-0 = subst (λ (own : ℕ). IsDecided engine own called c.in_ok-refusal.field-0) c.session-session.ensures c.in_ok-refusal.ensures in
    let decided : IsDecided engine side.session called (Ok c.in-Ok.made) = subst (λ (decision : Result SchemaStep Jet). IsDecided engine side.session called decision) c.in-Ok.is told in
    let label : c.session-session.result ≡ session_of side.session = ap session_of c.session-session.ensures in
    rw (c.done.ensures, c.one.ensures, label)
    (schema-decision engine side c.args.request.now called c.in-Ok.made c.requires.lawful asked decided (sym c.is_full.ensures ∙ c.if-is_full.false))
