-- There is a frame for each page.
use Rattle.std.proofs.Common.{length, sym, ap, ◌∙◌}
use Rattle.page_space.specs.Frames.{Frames}
use Rattle.page_space.proofs.FrameLemmas.{length-frames_of}
use Rattle.page_space.proofs.Space.len.Goals as goal

pub returns-clause-value : goal.returns-clause-value
returns-clause-value c = c.len.ensures ∙ c.self.inside.pages.ok.0 ∙ sym (length-frames_of c.self.inside.pages.items c.self.inside.taken.items c.self.invariant.same) ∙ ap (λ (f : Frames). length f) c.self.view_is
