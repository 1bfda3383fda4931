use Rattle.std.proofs.Common.{◌≡◌, ℕ, List, Option, Some, None, find, bytes_eq, refl, sym, ◌∙◌, ap}
use Rattle.std.specs.Option.{option_copied}
use Rattle.jet_base.specs.declared.replies.Jet.TheVariants as jet
use Rattle.index_derive.specs.declared.rules.IndexRule.{IndexRule}
use Rattle.session_local.specs.Local.{OpenCursor}
use Rattle.session_local.specs.Navigating.{EntriesOf, set_to, set_to_named}
use Rattle.session_local.proofs.open_cursor.OpenCursor.set_index.Goals as goal

named_rule : (entries : EntriesOf) (c : OpenCursor) (name : Option (List ℕ)) (text : List ℕ) (rule : IndexRule) → name ≡ Some text → find (λ r. bytes_eq r.name text) c.schema.indexes ≡ Some rule → set_to_named entries c name ≡ set_to entries c.cursor rule.id.0
named_rule entries c name text rule e found = rw (e, found) refl

no_such_rule : (entries : EntriesOf) (c : OpenCursor) (name : Option (List ℕ)) (text : List ℕ) → name ≡ Some text → find (λ r. bytes_eq r.name text) c.schema.indexes ≡ None → set_to_named entries c name ≡ record { jet = jet.IndexNotFound; cursor = c.cursor }
no_such_rule entries c name text e missing = rw (e, missing) refl

pub returns-in-Some-rule_named-clause-answer : goal.returns-in-Some-rule_named-clause-answer
returns-in-Some-rule_named-clause-answer g c =
    let same = ap (λ (o : OpenCursor). o.schema.indexes) c.self-in-Some.view_is in
    let known = rw same at (sym c.rule_named.ensures ∙ ap option_copied c.in-Some-rule_named.is) in
    rw (named_rule (g.W.View.entries c.args.view.now) c.args.self.now c.args.name.now c.in-Some.name _ c.in-Some.is known) c.set_to-in-Some-rule_named.ensures.answer

pub returns-in-Some-rule_named-clause-cursor : goal.returns-in-Some-rule_named-clause-cursor
returns-in-Some-rule_named-clause-cursor g c =
    let same = ap (λ (o : OpenCursor). o.schema.indexes) c.self-in-Some.view_is in
    let known = rw same at (sym c.rule_named.ensures ∙ ap option_copied c.in-Some-rule_named.is) in
    rw (named_rule (g.W.View.entries c.args.view.now) c.args.self.now c.args.name.now c.in-Some.name _ c.in-Some.is known) c.set_to-in-Some-rule_named.ensures.cursor

pub returns-in-None-rule_named-clause-answer : goal.returns-in-None-rule_named-clause-answer
returns-in-None-rule_named-clause-answer g c =
    let same = ap (λ (o : OpenCursor). o.schema.indexes) c.self-in-Some.view_is in
    let missing = rw same at (sym c.rule_named.ensures ∙ ap option_copied c.in-None-rule_named.is) in
    rw (no_such_rule (g.W.View.entries c.args.view.now) c.args.self.now c.args.name.now c.in-Some.name c.in-Some.is missing) refl
