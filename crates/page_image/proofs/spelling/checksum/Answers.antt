-- One more word is the step of the definition.
use Rattle.std.proofs.Common.{◌≡◌, ◌+◌, ◌*◌, drop, refl, arith, ap, ◌∙◌}
use Rattle.std.proofs.lemmas.Slice.{between_to_end}
use Rattle.byteorder.specs.Endian.{little_number}
use Rattle.page_image.specs.Page.{xor_of_words}
use Rattle.page_image.proofs.Words.{xor_of_words-more}
use Rattle.page_image.proofs.spelling.checksum.Goals as goal

pub loop-word-init : goal.loop-word-init
unfolding xor_of_words
loop-word-init c = refl

pub loop-word-preserved : goal.loop-word-preserved
loop-word-preserved c = xor_of_words-more c.args.bytes.now c.loop-word.word c.loop-word.sum c.read_u64-sum.result c.loop-word.invariant
    (c.read_u64-sum.ensures ∙ ap (little_number 8) (between_to_end c.args.bytes.now (8 + 8 * c.loop-word.word) 4096 (omega arith)))

pub returns : goal.returns
returns c =
    let all : c.loop-word.word ≡ 511 = omega arith in
    c.loop-word.invariant ∙ ap (λ n. xor_of_words n (drop 8 c.args.bytes.now)) all
