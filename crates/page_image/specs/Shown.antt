-- What a page in memory shows, and what is kept beside its bytes.
use Rattle.std.specs.Prelude.{◌≡◌, ℕ, ◌<◌, List, drop, length, take, slice_index}
use Rattle.page_image.specs.Page.{PageContents, IsPage, page_body, page_size}
use Rattle.page_image.specs.Reading.{contents_of}
use Rattle.page_image.specs.declared.page.Page.TheInside.{Inside}

-- The bytes spell the contents but for the checksum, which is made when they leave; count and end are their number of nodes and where these end, and offsets says where each begins.
pub record Shows (bytes offsets : List ℕ) (count end : ℕ) (p : PageContents) : Type 0 where
  pub page : IsPage p
  pub spelled : drop 8 bytes ≡ page_body p
  pub counted : count ≡ length p.nodes
  pub ended : end ≡ page_size p.nodes
  pub placed : (k : ℕ) → k < count → slice_index offsets k ≡ page_size (take k p.nodes)

abbrev pub contents : Inside → PageContents
contents a = contents_of a.bytes

abbrev pub IsShown : Inside → Type 0
IsShown a = Shows a.bytes a.offsets a.count a.end (contents_of a.bytes)
