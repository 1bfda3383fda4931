use Rattle.std.proofs.Common.{◌≡◌, ◌+◌, suc, subst, arith}
use Rattle.long_value.specs.Values.{put_value}
use Rattle.long_value.specs.Stores.{HasValues, id_bytes}
use Rattle.long_value.proofs.values.LongValues.share.Goals as goal

pub returns-clause-values : goal.returns-clause-values
returns-clause-values c values value has e =
    let was = c.count-count.ensures value (values, has, e) in
    let more : c.count-count.result + 1 ≡ suc value.count = omega (arith, was) in
    subst (λ n. HasValues c.set_count.new.space c.set_count.new.self (put_value (id_bytes c.args.id) (record value { count = n }) values)) more (c.set_count.ensures.values values value has e)

pub returns-clause-store : goal.returns-clause-store
returns-clause-store c =
    let value = c.requires.0 in
    let held = c.requires.1 in
    (put_value (id_bytes c.args.id) (record value { count = c.count-count.result + 1 }) held.0, c.set_count.ensures.values held.0 value held.1 held.2)
