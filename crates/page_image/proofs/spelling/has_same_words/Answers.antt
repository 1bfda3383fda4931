-- The slices go to the ends of both.
use Rattle.std.proofs.Common.{bytes_eq, ◌∙◌, arith}
use Rattle.page_image.proofs.Spelled.{all_behind}
use Rattle.page_image.proofs.spelling.has_same_words.Goals as goal

pub returns : goal.returns
returns c = c.eq.ensures ∙ (λ i. bytes_eq (all_behind c.args.own.now 4088 (omega arith) i) (all_behind c.args.other.now 4088 (omega arith) i))
