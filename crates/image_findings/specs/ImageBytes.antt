-- What the pages and the live part of an image have that are read from files: pages in their form, and bytes.
use Rattle.std.specs.Prelude.{IfSome}
use Rattle.std.specs.List.{AllByRecursion}
use Rattle.column_set.specs.NumberReading.{IsBytes}
use Rattle.page_image.specs.Page.{IsPage, Node, PageContents}
use Rattle.image_findings.specs.Images.{ImageContents}

-- the keys of a page rise, and the data of its nodes are bytes
pub record IsPageOfBytes (p : PageContents) : Type 0 where
  pub form : IsPage p
  pub nodes : AllByRecursion (λ (n : Node). IsBytes n.data) p.nodes

-- so it is with all pages that are taken, and the live part is bytes
pub record IsOfBytes (image : ImageContents) : Type 0 where
  pub pages : AllByRecursion (λ o. IfSome o IsPageOfBytes) image.pages
  pub live : IsBytes image.live
