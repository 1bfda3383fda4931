-- What a space is once a page that it lent was written.
use Rattle.std.specs.Prelude.{ℕ, Some, slice_set}
use Rattle.std.specs.Borrow.{Lends, MutBor, Fml}
use Rattle.page_image.specs.Page.{PageContents}
use Rattle.page_image.specs.contracts.page.Page as page
use Rattle.page_space.specs.Frames.{Frames}
use Rattle.page_space.specs.contracts.Space.{the_row}

-- The space ends with the last value behind r as its page.
abbrev pub LendsPage : MutBor Frames → ℕ → MutBor PageContents → Fml
LendsPage s number r = Lends the_row page.the_row s r (λ contents. slice_set s.now number (Some contents))
