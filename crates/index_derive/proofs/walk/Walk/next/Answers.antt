use Rattle.std.proofs.Common.{◌≡◌, ℕ, ◌+◌, ◌<◌, ◌≤◌, List, ◌∷◌, map, subst, sym, ap, ◌∙◌}
use Rattle.std.specs.Prelude.{option_copied}
use Rattle.index_derive.specs.Entries.{is_ignored}
use Rattle.index_derive.specs.Walks.{candidate_of, candidates_left, values_in}
use Rattle.index_derive.proofs.Rows.{candidates-kept, candidates-ignored, candidates-row, candidates-none, steps-fall, steps-fall_row}
use Rattle.index_derive.proofs.walk.Walk.next.Goals as goal

below : (a b n : ℕ) → b ≡ n → a < b → a < n
below a b n e h = subst (λ m. a < m) e h

reached : (a b n : ℕ) → a ≡ n → a ≤ b → n ≤ b
reached a b n e h = subst (λ m. m ≤ b) e h

pub loop-self-preserved : goal.loop-self-preserved
loop-self-preserved g c =
    sym (candidates-row c.args.rule.now c.args.parts.now (g.R.Values.fields c.args.record.now) c.loop-self.self.row c.loop-self.self.at
    (below _ _ _ c.row_count-rows.ensures c.loop-self-test.true) (reached _ _ _ c.row_length.ensures c.if-self-row_length.false))
    ∙ c.loop-self.invariant

pub loop-self-smaller : goal.loop-self-smaller
loop-self-smaller g c =
    steps-fall_row c.args.rule.now c.args.parts.now (g.R.Values.fields c.args.record.now) c.loop-self.self.row c.loop-self.self.at
    (below _ _ _ c.row_count-rows.ensures c.loop-self-test.true) (reached _ _ _ c.row_length.ensures c.if-self-row_length.false)

pub loop-self-preserved-else-not-is_ignored : goal.loop-self-preserved-else-not-is_ignored
loop-self-preserved-else-not-is_ignored g c =
    let values = ap (map (option_copied {T = List ℕ})) c.as_slice.ensures.value ∙ c.values_in-values.ensures in
    sym (candidates-ignored c.args.rule.now c.args.parts.now (g.R.Values.fields c.args.record.now) c.loop-self.self.row c.loop-self.self.at
    (below _ _ _ c.row_count-rows.ensures c.loop-self-test.true) (below _ _ _ c.row_length.ensures c.if-self-row_length.true)
    (sym (ap (is_ignored c.args.rule.now.flags) values) ∙ sym c.is_ignored.ensures ∙ c.if-not-is_ignored.false))
    ∙ c.loop-self.invariant

pub loop-self-smaller-else-not-is_ignored : goal.loop-self-smaller-else-not-is_ignored
loop-self-smaller-else-not-is_ignored g c =
    steps-fall c.args.rule.now c.args.parts.now (g.R.Values.fields c.args.record.now) c.loop-self.self.row c.loop-self.self.at
    (below _ _ _ c.row_count-rows.ensures c.loop-self-test.true) (below _ _ _ c.row_length.ensures c.if-self-row_length.true)

pub returns-then-not-is_ignored : goal.returns-then-not-is_ignored
returns-then-not-is_ignored g c =
    let rule = c.args.rule.now in
    let parts = c.args.parts.now in
    let made = values_in rule.flags parts (g.R.Values.fields c.args.record.now) c.loop-self.self.row c.loop-self.self.at in
    let values : map (option_copied {T = List ℕ}) c.as_slice.result.now ≡ made = ap (map (option_copied {T = List ℕ})) c.as_slice.ensures.value ∙ c.values_in-values.ensures in
    let keyed : map (option_copied {T = List ℕ}) c.as_slice-then-not-is_ignored.result.now ≡ made = ap (map (option_copied {T = List ℕ})) c.as_slice-then-not-is_ignored.ensures.value ∙ c.values_in-values.ensures in
    let tested : map (option_copied {T = List ℕ}) c.as_slice-then-not-is_ignored-2.result.now ≡ made = ap (map (option_copied {T = List ℕ})) c.as_slice-then-not-is_ignored-2.ensures.value ∙ c.values_in-values.ensures in
    let key : c.key_of-key.result.0 ≡ (candidate_of rule parts made).key = c.key_of-key.ensures.key ∙ ap (λ vs. (candidate_of rule parts vs).key) keyed in
    let cut : c.key_of-key.result.1 ≡ (candidate_of rule parts made).cut = c.key_of-key.ensures.cut ∙ ap (λ vs. (candidate_of rule parts vs).cut) keyed in
    let null : c.has_null.result ≡ (candidate_of rule parts made).has_null = c.has_null.ensures ∙ ap (λ vs. (candidate_of rule parts vs).has_null) tested in
    sym c.loop-self.invariant
    ∙ candidates-kept rule parts (g.R.Values.fields c.args.record.now) c.loop-self.self.row c.loop-self.self.at
    (below _ _ _ c.row_count-rows.ensures c.loop-self-test.true) (below _ _ _ c.row_length.ensures c.if-self-row_length.true)
    (sym (ap (is_ignored rule.flags) values) ∙ sym c.is_ignored.ensures ∙ c.if-not-is_ignored.true)
    ∙ (λ i. record { key = sym key i; cut = sym cut i; has_null = sym null i } ∷ candidates_left rule parts (g.R.Values.fields c.args.record.now) (record { row = c.loop-self.self.row; at = c.loop-self.self.at + 1 }))

pub returns : goal.returns
returns g c =
    sym c.loop-self.invariant ∙ candidates-none c.args.rule.now c.args.parts.now (g.R.Values.fields c.args.record.now) c.loop-self.self.row c.loop-self.self.at (reached _ _ _ c.row_count-rows.ensures c.loop-self-test.false)
