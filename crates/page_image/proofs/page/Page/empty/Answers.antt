-- An empty page shows no node.
use Rattle.std.proofs.Common.{ℕ, List, [], refl, sym, ◌∙◌, arith}
use Rattle.page_image.specs.Shown.{Shows}
use Rattle.page_image.proofs.Kept.{again, shown}
use Rattle.page_image.proofs.Spelled.{body-parts}
use Rattle.page_image.proofs.page.Page.empty.Goals as goal

shows : (c : goal.After-write_head) (offsets : List ℕ) → Shows c.write_head.new.bytes offsets 0 32 (record { number = c.args.number; kind = c.args.kind; nodes = [] })
shows c offsets = record {
  page = record { number = omega (arith, c.ranges.number.fits); kind = c.requires; rising = λ i j d lt h. absurd (omega arith); fits = λ k d h. absurd (omega arith); size = omega arith };
  spelled = c.write_head.ensures ∙ sym (body-parts (record { number = c.args.number; kind = c.args.kind; nodes = [] }));
  counted = refl;
  ended = refl;
  placed = λ k h. absurd (omega arith);
}

pub invariant_of-result : goal.invariant_of-result
invariant_of-result c = again _ _ _ _ _ (shows c _)

pub returns-clause-value : goal.returns-clause-value
returns-clause-value c = shown _ _ _ _ _ (shows c [])

pub returns-clause-page : goal.returns-clause-page
returns-clause-page c = (again _ _ _ _ _ (shows c [])).page
