use Rattle.std.proofs.Common.{◌≡◌, ◌-◌, sym, subst, ◌∙◌, arith}
use Rattle.long_value.specs.Values.{put_value, without_value}
use Rattle.long_value.specs.Stores.{HasValues, id_bytes}
use Rattle.long_value.proofs.Held.{held_long, released_last, released_other}
use Rattle.long_value.proofs.values.LongValues.release.Goals as goal

pub overflow_sub-count : goal.overflow_sub-count
overflow_sub-count c =
    let long = held_long c.args.space.now c.args.self.now c.args.id c.requires.0 c.requires.1 in
    let was : c.count-count.result ≡ c.requires.0.count = c.count-count.ensures c.requires.0 c.requires.1 in
    omega (arith, long.counted, was)

pub set_count-requires-clause-some : goal.set_count-requires-clause-some
set_count-requires-clause-some c =
    let long = held_long c.args.space.now c.args.self.now c.args.id c.requires.0 c.requires.1 in
    let was : c.count-count.result ≡ c.requires.0.count = c.count-count.ensures c.requires.0 c.requires.1 in
    omega (arith, long.counted, was, c.if-count-eq1.false)

pub returns-then-count-eq1-clause-values : goal.returns-then-count-eq1-clause-values
returns-then-count-eq1-clause-values c values value has e =
    let was : c.count-count.result ≡ value.count = c.count-count.ensures value (values, has, e) in
    subst (HasValues c.take_out.new.space c.take_out.new.self) (sym (released_last (id_bytes c.args.id) value values (sym was ∙ c.if-count-eq1.true))) (c.take_out.ensures.values values value has e)

pub returns-else-count-eq1-clause-values : goal.returns-else-count-eq1-clause-values
returns-else-count-eq1-clause-values c values value has e =
    let id = id_bytes c.args.id in
    let was : c.count-count.result ≡ value.count = c.count-count.ensures value (values, has, e) in
    let less = subst (λ n. HasValues c.set_count.new.space c.set_count.new.self (put_value id (record value { count = n - 1 }) values)) was (c.set_count.ensures.values values value has e) in
    subst (HasValues c.set_count.new.space c.set_count.new.self) (sym (released_other id value values (λ one. c.if-count-eq1.false (was ∙ one)))) less

pub returns-then-count-eq1-clause-store : goal.returns-then-count-eq1-clause-store
returns-then-count-eq1-clause-store c =
    let held = c.requires.1 in
    (without_value (id_bytes c.args.id) held.0, c.take_out.ensures.values held.0 c.requires.0 held.1 held.2)

pub returns-else-count-eq1-clause-store : goal.returns-else-count-eq1-clause-store
returns-else-count-eq1-clause-store c =
    let value = c.requires.0 in
    let held = c.requires.1 in
    (put_value (id_bytes c.args.id) (record value { count = c.count-count.result - 1 }) held.0, c.set_count.ensures.values held.0 value held.1 held.2)
