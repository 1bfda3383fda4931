-- A lower front is that of a lower key.
use Rattle.std.proofs.Common.{◌<◌, arith}
use Rattle.byteorder.specs.Endian.{big_number}
use Rattle.page_image.proofs.Fronts.{AreBytes, below_by_front, lower_front}
use Rattle.page_image.proofs.order.is_lower.Goals as goal

pub returns-clause-keys : goal.returns-clause-keys
returns-clause-keys c = λ is.
    let own : AreBytes c.args.own.now = λ k. omega (arith, c.type_inv.own k) in
    let key : AreBytes c.args.key.now = λ k. omega (arith, c.type_inv.key k) in
    let lower : big_number 8 c.args.own.now < big_number 8 c.args.key.now = omega (arith, lower_front c.args.own_front c.args.key_front is, c.requires.own, c.requires.key) in
    below_by_front 8 c.args.own.now c.args.key.now own key lower
