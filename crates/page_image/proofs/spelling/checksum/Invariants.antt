use Rattle.std.proofs.Common.{◌≡◌, drop}
use Rattle.page_image.specs.Page.{xor_of_words}
use Rattle.page_image.proofs.spelling.checksum.Given as goal

abbrev pub invariant-loop-word : goal.invariant-loop-word
invariant-loop-word l = l.sum ≡ xor_of_words l.word (drop 8 l.bytes)
