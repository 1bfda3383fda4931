use Rattle.std.proofs.Common.{◌≤◌, ◌-◌, length, take, drop, arith, length-take, length-drop}
use Rattle.record_edit.proofs.Widths.{seven_bytes}
use Rattle.record_edit.proofs.numbers.+from_lowest.Goals as goal

pub overflow_mul-result : goal.overflow_mul-result
overflow_mul-result t c =
    let xs = c.args.bytes.now in
    let short : length (take (length xs - 1) (drop 1 xs)) ≤ 7 = simp (length-take, length-drop) (omega arith) in
    omega (arith, seven_bytes (length (take (length xs - 1) (drop 1 xs))) short, c.from_lowest.ensures.below)

pub overflow_add-result : goal.overflow_add-result
overflow_add-result t c =
    let xs = c.args.bytes.now in
    let short : length (take (length xs - 1) (drop 1 xs)) ≤ 7 = simp (length-take, length-drop) (omega arith) in
    omega (arith, seven_bytes (length (take (length xs - 1) (drop 1 xs))) short, c.from_lowest.ensures.below, c.type_inv.bytes 0)
