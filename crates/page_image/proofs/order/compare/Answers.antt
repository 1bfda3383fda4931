-- The fronts tell, where they differ.
use Rattle.std.proofs.Common.{◌≡◌, ◌<◌, ◌-◌, length, ◌∙◌, sym, arith}
use Rattle.std.specs.Ordering.{nat_cmp}
use Rattle.std.specs.Cmp.Lexicographic.{slice_cmp}
use Rattle.byteorder.specs.Endian.{big_number}
use Rattle.page_image.proofs.Fronts.{AreBytes, above_by_front, below_by_front, rest_by_front, short_by_front}
use Rattle.page_image.proofs.Spelled.{all_behind}
use Rattle.page_image.proofs.order.compare.Goals as goal

pub returns-then-own_front-key_front : goal.returns-then-own_front-key_front
returns-then-own_front-key_front c =
    let own : AreBytes c.args.own.now = λ k. omega (arith, c.type_inv.own k) in
    let key : AreBytes c.args.key.now = λ k. omega (arith, c.type_inv.key k) in
    let lower : big_number 8 c.args.own.now < big_number 8 c.args.key.now = omega (arith, c.if-own_front-key_front.true, c.front-own_front.ensures, c.requires) in
    sym (below_by_front 8 c.args.own.now c.args.key.now own key lower)

pub returns-then-key_front-own_front : goal.returns-then-key_front-own_front
returns-then-key_front-own_front c =
    let own : AreBytes c.args.own.now = λ k. omega (arith, c.type_inv.own k) in
    let key : AreBytes c.args.key.now = λ k. omega (arith, c.type_inv.key k) in
    let higher : big_number 8 c.args.key.now < big_number 8 c.args.own.now = omega (arith, c.if-key_front-own_front.true, c.front-own_front.ensures, c.requires) in
    sym (above_by_front 8 c.args.own.now c.args.key.now own key higher)

pub returns-then-min-lt-FRONT_BYTES : goal.returns-then-min-lt-FRONT_BYTES
returns-then-min-lt-FRONT_BYTES c =
    let own : AreBytes c.args.own.now = λ k. omega (arith, c.type_inv.own k) in
    let key : AreBytes c.args.key.now = λ k. omega (arith, c.type_inv.key k) in
    let same : big_number 8 c.args.own.now ≡ big_number 8 c.args.key.now = omega (arith, c.if-own_front-key_front.false, c.if-key_front-own_front.false, c.front-own_front.ensures, c.requires) in
    c.cmp.ensures ∙ sym (short_by_front c.args.own.now c.args.key.now own key (omega arith) same)

pub returns-else-min-lt-FRONT_BYTES : goal.returns-else-min-lt-FRONT_BYTES
returns-else-min-lt-FRONT_BYTES c =
    let own : AreBytes c.args.own.now = λ k. omega (arith, c.type_inv.own k) in
    let key : AreBytes c.args.key.now = λ k. omega (arith, c.type_inv.key k) in
    let same : big_number 8 c.args.own.now ≡ big_number 8 c.args.key.now = omega (arith, c.if-own_front-key_front.false, c.if-key_front-own_front.false, c.front-own_front.ensures, c.requires) in
    c.cmp-else-min-lt-FRONT_BYTES.ensures
    ∙ (λ i. slice_cmp nat_cmp (all_behind c.args.own.now (length c.args.own.now - 8) (omega arith) i) (all_behind c.args.key.now (length c.args.key.now - 8) (omega arith) i))
    ∙ sym (rest_by_front 8 c.args.own.now c.args.key.now own key (omega arith) (omega arith) same)
