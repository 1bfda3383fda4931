use Rattle.std.proofs.Common.{sym, ap, ◌∙◌}
use Rattle.std.specs.Option.{option_map}
use Rattle.std.specs.Ordering.{is_lt}
use Rattle.image_contents.specs.LeastBookmarks.{lesser}
use Rattle.image_contents.proofs.Least.{lesser_first, lesser_other}
use Rattle.image_contents.proofs.rows.pass.lesser.Goals as goal

pub returns-then-is_lt : goal.returns-then-is_lt
returns-then-is_lt c =
    lesser_first c.args.bookmark.now c.in-Some.other.now (ap is_lt (sym c.cmp.ensures) ∙ sym c.is_lt.ensures ∙ c.if-is_lt.true)
    ∙ ap (λ o. lesser c.args.bookmark.now (option_map (λ key. key.now) o)) (sym c.in-Some.is)

pub returns-else-is_lt : goal.returns-else-is_lt
returns-else-is_lt c =
    lesser_other c.args.bookmark.now c.in-Some.other.now (ap is_lt (sym c.cmp.ensures) ∙ sym c.is_lt.ensures ∙ c.if-is_lt.false)
    ∙ ap (λ o. lesser c.args.bookmark.now (option_map (λ key. key.now) o)) (sym c.in-Some.is)

pub returns-in-None : goal.returns-in-None
returns-in-None c = ap (λ o. lesser c.args.bookmark.now (option_map (λ key. key.now) o)) (sym c.in-None.is)
