-- Schema steps that compare as equal are the same.
use Rattle.std.proofs.Common.{◌≡◌, ◌&&◌, ℕ, Bool, true, false, List, [], ◌∷◌, refl, rules}
use mathlib.Core.Bool.{beq, false≢true}
use denote.Enum.Bare.{same_true}
use Rattle.std.specs.Prelude.{IsTrue, ◌==◌}
use Rattle.std.specs.Cmp.Lexicographic.{pointwise}
use Rattle.std.proofs.lemmas.Bool.{eqb-true}
use Rattle.std.proofs.lemmas.Slice.Eq.{bytes_eq-Decides}
use Rattle.common_lemmas.proofs.Booleans.{and_left, and_right}
use Rattle.jet_base.specs.declared.words.ColType.{ColType}
use Rattle.jet_base.specs.contracts.words.ColType.{the_type}
use Rattle.jet_base.specs.contracts.words.ColTypePartialEq.TheImpl as type_eq
use Rattle.column_set.specs.declared.columns.Column.{Column}
use Rattle.column_set.specs.contracts.columns.ColumnPartialEq.TheImpl as column_eq
use Rattle.index_derive.specs.declared.rules.Condition.{Condition}
use Rattle.index_derive.specs.declared.rules.IndexFlags.{IndexFlags}
use Rattle.index_derive.specs.declared.rules.IndexRule.{IndexRule}
use Rattle.index_derive.specs.declared.rules.Segment.{Segment}
use Rattle.index_derive.specs.declared.schema_calls.SchemaStep.{SchemaStep}
use Rattle.index_derive.specs.declared.schema_calls.SchemaStep.TheVariants as step
use Rattle.index_derive.specs.contracts.rules.ConditionPartialEq.TheImpl as condition_eq
use Rattle.index_derive.specs.contracts.rules.IndexFlagsPartialEq.TheImpl as flags_eq
use Rattle.index_derive.specs.contracts.rules.IndexRulePartialEq.TheImpl as rule_eq
use Rattle.index_derive.specs.contracts.rules.SegmentPartialEq.TheImpl as segment_eq
use Rattle.index_derive.specs.contracts.schema_calls.SchemaStepPartialEq.TheImpl as step_eq

same_flag : (a b : Bool) → IsTrue (beq a b) → a ≡ b
same_flag true true h = refl
same_flag true false h = absurd (false≢true h)
same_flag false true h = absurd (false≢true h)
same_flag false false h = refl

same_items : {X : Type 0} (equal : X → X → Bool) → ((x y : X) → IsTrue (equal x y) → x ≡ y) → (xs ys : List X) → IsTrue (pointwise equal xs ys) → xs ≡ ys
same_items equal same [] [] h = refl
same_items equal same [] (y ∷ ys) h = absurd (false≢true h)
same_items equal same (x ∷ xs) [] h = absurd (false≢true h)
same_items equal same (x ∷ xs) (y ∷ ys) h = λ i. same x y (and_left _ _ h) i ∷ same_items equal same xs ys (and_right _ _ h) i

same_type : (a b : ColType) → IsTrue ((type_eq.ghosts).eq a b) → a ≡ b
same_type a b h = same_true the_type (search rules) a b h

same_segment : (a b : Segment) → IsTrue ((segment_eq.ghosts).eq a b) → a ≡ b
same_segment a b h = search rules

same_condition : (a b : Condition) → IsTrue ((condition_eq.ghosts).eq a b) → a ≡ b
same_condition a b h = search rules

same_flags : (a b : IndexFlags) → IsTrue ((flags_eq.ghosts).eq a b) → a ≡ b
same_flags a b h =
    let unique = and_right _ _ h in
    let disallownull = and_right _ _ unique in
    let ignorenull = and_right _ _ disallownull in
    let ignoreanynull = and_right _ _ ignorenull in
    let ignorefirstnull = and_right _ _ ignoreanynull in
    let sortnullshigh = and_right _ _ ignorefirstnull in
    let crossproduct = and_right _ _ sortnullshigh in
    let disallowtruncation = and_right _ _ crossproduct in
    let tuples = and_right _ _ disallowtruncation in
    λ i. record {
      primary = same_flag a.primary b.primary (and_left _ _ h) i;
      unique = same_flag a.unique b.unique (and_left _ _ unique) i;
      disallownull = same_flag a.disallownull b.disallownull (and_left _ _ disallownull) i;
      ignorenull = same_flag a.ignorenull b.ignorenull (and_left _ _ ignorenull) i;
      ignoreanynull = same_flag a.ignoreanynull b.ignoreanynull (and_left _ _ ignoreanynull) i;
      ignorefirstnull = same_flag a.ignorefirstnull b.ignorefirstnull (and_left _ _ ignorefirstnull) i;
      sortnullshigh = same_flag a.sortnullshigh b.sortnullshigh (and_left _ _ sortnullshigh) i;
      crossproduct = same_flag a.crossproduct b.crossproduct (and_left _ _ crossproduct) i;
      disallowtruncation = same_flag a.disallowtruncation b.disallowtruncation (and_left _ _ disallowtruncation) i;
      tuples = same_flag a.tuples b.tuples tuples i;
    }

same_column : (a b : Column) → IsTrue ((column_eq.ghosts).eq a b) → a ≡ b
same_column a b h =
    let name = and_right _ _ h in
    let kind = and_right _ _ name in
    let tagged = and_right _ _ kind in
    let multi = and_right _ _ tagged in
    let not_null = and_right _ _ multi in
    let escrow = and_right _ _ not_null in
    let version = and_right _ _ escrow in
    let auto = and_right _ _ version in
    λ i. record {
      id = record { 0 = eqb-true a.id.0 b.id.0 (and_left _ _ h) i };
      name = (bytes_eq-Decides a.name b.name).0 (and_left _ _ name) i;
      kind = same_type a.kind b.kind (and_left _ _ kind) i;
      tagged = same_flag a.tagged b.tagged (and_left _ _ tagged) i;
      multi = same_flag a.multi b.multi (and_left _ _ multi) i;
      not_null = same_flag a.not_null b.not_null (and_left _ _ not_null) i;
      escrow = same_flag a.escrow b.escrow (and_left _ _ escrow) i;
      version = same_flag a.version b.version (and_left _ _ version) i;
      auto = same_flag a.auto b.auto auto i;
    }

same_rule : (a b : IndexRule) → IsTrue ((rule_eq.ghosts).eq a b) → a ≡ b
same_rule a b h =
    let name = and_right _ _ h in
    let order = and_right _ _ name in
    let segments = and_right _ _ order in
    let flags = and_right _ _ segments in
    let conditions = and_right ((flags_eq.ghosts).eq a.flags b.flags) _ flags in
    let key_most = and_right _ _ conditions in
    λ i. record {
      id = record { 0 = eqb-true a.id.0 b.id.0 (and_left _ _ h) i };
      name = (bytes_eq-Decides a.name b.name).0 (and_left _ _ name) i;
      order = eqb-true a.order b.order (and_left _ _ order) i;
      segments = same_items (segment_eq.ghosts).eq same_segment a.segments b.segments (and_left _ _ segments) i;
      flags = same_flags a.flags b.flags (and_left ((flags_eq.ghosts).eq a.flags b.flags) _ flags) i;
      conditions = same_items (condition_eq.ghosts).eq same_condition a.conditions b.conditions (and_left _ _ conditions) i;
      key_most = eqb-true a.key_most b.key_most key_most i;
    }

-- steps of one kind compare field by field, and steps of two kinds as different
pub same_steps : (a b : SchemaStep) → IsTrue ((step_eq.ghosts).eq a b) → a ≡ b
same_steps (step.CreateTable t n) (step.CreateTable u m) h = λ i. step.CreateTable (record { 0 = eqb-true t.0 u.0 (and_left _ _ h) i }) ((bytes_eq-Decides n m).0 (and_right _ _ h) i)
same_steps (step.DeleteTable t) (step.DeleteTable u) h = λ i. step.DeleteTable (record { 0 = eqb-true t.0 u.0 h i })
same_steps (step.AddColumn t c) (step.AddColumn u d) h = λ i. step.AddColumn (record { 0 = eqb-true t.0 u.0 (and_left _ _ h) i }) (same_column c d (and_right (t.0 == u.0) ((column_eq.ghosts).eq c d) h) i)
same_steps (step.DeleteColumn t c) (step.DeleteColumn u d) h = λ i. step.DeleteColumn (record { 0 = eqb-true t.0 u.0 (and_left _ _ h) i }) (record { 0 = eqb-true c.0 d.0 (and_right _ _ h) i })
same_steps (step.CreateIndex t r) (step.CreateIndex u s) h = λ i. step.CreateIndex (record { 0 = eqb-true t.0 u.0 (and_left _ _ h) i }) (same_rule r s (and_right (t.0 == u.0) ((rule_eq.ghosts).eq r s) h) i)
same_steps (step.DeleteIndex t r) (step.DeleteIndex u s) h = λ i. step.DeleteIndex (record { 0 = eqb-true t.0 u.0 (and_left _ _ h) i }) (record { 0 = eqb-true r.0 s.0 (and_right _ _ h) i })
same_steps a b h = absurd (false≢true h)
