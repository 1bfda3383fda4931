use Rattle.std.proofs.Common.{◌≡◌, ap, ◌∙◌, length}
use Rattle.long_value.specs.Values.{LongValue, head_data}
use Rattle.long_value.specs.Stores.{HoldsValue}
use Rattle.long_value.proofs.Held.{head_read, none_data, some_data}
use Rattle.long_value.proofs.values.LongValues.head.Goals as goal

read : (c : goal.In-Some) (value : LongValue) → HoldsValue c.args.space.now c.args.self.now c.args.id value → c.in-Some.head.now ≡ head_data value
read c value holds =
    some_data c.in-Some.head c.get.result (head_data value) c.in-Some.is
    (head_read c.args.space.now c.args.self.now c.args.id value c.as_slice.result.now c.get.result holds (c.as_slice.ensures ∙ c.chunk_key.ensures) c.get.ensures)

pub returns-in-Some-clause-head : goal.returns-in-Some-clause-head
returns-in-Some-clause-head c value holds = read c value holds

pub returns-in-Some-clause-size : goal.returns-in-Some-clause-size
returns-in-Some-clause-size c = ap length (read c c.requires.0 c.requires.1)

nothing : (c : goal.After-result-in-None-1) (value : LongValue) → HoldsValue c.args.space.now c.args.self.now c.args.id value → ⊥
nothing c value holds =
    none_data c.get.result (head_data value) c.in-None.is
    (head_read c.args.space.now c.args.self.now c.args.id value c.as_slice.result.now c.get.result holds (c.as_slice.ensures ∙ c.chunk_key.ensures) c.get.ensures)

pub returns-in-None-clause-head : goal.returns-in-None-clause-head
returns-in-None-clause-head c value holds = absurd (nothing c value holds)

pub returns-in-None-clause-size : goal.returns-in-None-clause-size
returns-in-None-clause-size c = absurd (nothing c c.requires.0 c.requires.1)
