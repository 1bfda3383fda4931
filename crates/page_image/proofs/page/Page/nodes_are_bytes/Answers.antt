-- The nodes are read from bytes.
use Rattle.std.proofs.Common.{subst}
use Rattle.std.specs.List.{AllByRecursion}
use Rattle.page_image.specs.Page.{AreBytes, IsPage, Node, PageContents}
use Rattle.page_image.proofs.ByteNodes.{keys_of, values_of}
use Rattle.page_image.proofs.page.Page.nodes_are_bytes.Goals as goal

pub returns-clause-page : goal.returns-clause-page
returns-clause-page c = subst IsPage c.self.view_is c.self.invariant.page

pub returns-clause-keys : goal.returns-clause-keys
returns-clause-keys c = subst (λ (p : PageContents). AllByRecursion (λ (n : Node). AreBytes n.key) p.nodes) c.self.view_is (keys_of c.self.inside.bytes c.items_are_bytes.ensures)

pub returns-clause-values : goal.returns-clause-values
returns-clause-values c = subst (λ (p : PageContents). AllByRecursion (λ (n : Node). AreBytes n.data) p.nodes) c.self.view_is (values_of c.self.inside.bytes c.items_are_bytes.ensures)
