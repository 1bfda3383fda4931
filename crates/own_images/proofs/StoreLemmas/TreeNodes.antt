-- What each node of the pages has, each node of a tree has.
use Rattle.std.proofs.Common.{ℕ, zero, suc, [], ◌∷◌, Option, Some, None}
use Rattle.std.specs.Prelude.{slice_index_or, unwrap_or, IfSome}
use Rattle.std.specs.List.{AllByRecursion}
use Rattle.std.proofs.lemmas.List.Elements.{recursion_from_All}
use Rattle.btree_inplace.specs.Shape.{child_of, entries, page_in}
use Rattle.common_lemmas.proofs.Lists.{all_each, all_weaker}
use Rattle.laws_versions.proofs.IndexLemmas.Members.{all_flat}
use Rattle.page_image.specs.Page.{DataFits, Node, PageContents}
use Rattle.page_space.specs.Frames.{Frames, empty_page, page_at}
use Rattle.image_findings.specs.ImageBytes.{IsPageOfBytes}

-- what all nodes of the pages have
abbrev pub HaveAll : (Node → Type 0) → Frames → Type 0
HaveAll P frames = AllByRecursion (λ o. IfSome o (λ (p : PageContents). AllByRecursion P p.nodes)) frames

at_page : (P : Node → Type 0) (frames : Frames) → HaveAll P frames → (page : ℕ) → IfSome (slice_index_or frames page None) (λ (p : PageContents). AllByRecursion P p.nodes)
at_page P [] all page = tt
at_page P (o ∷ frames) all zero = all.0
at_page P (o ∷ frames) all (suc page) = at_page P frames all.1 page

on_page : (P : Node → Type 0) (frames : Frames) → HaveAll P frames → (page : ℕ) → AllByRecursion P (page_in frames page).nodes
on_page P frames all page = by (page_at frames page) (at_page P frames all page)
  where
    by : (o : Option PageContents) → IfSome o (λ (p : PageContents). AllByRecursion P p.nodes) → AllByRecursion P (unwrap_or o (empty_page page)).nodes
    by None h = tt
    by (Some p) h = h

pub below : (P : Node → Type 0) (frames : Frames) → HaveAll P frames → (depth page : ℕ) → AllByRecursion P (entries depth frames page)
below P frames all zero page = on_page P frames all page
below P frames all (suc depth) page =
    all_flat P (λ n. entries depth frames (child_of n)) (page_in frames page).nodes (all_each (λ n. AllByRecursion P (entries depth frames (child_of n))) (λ n. below P frames all depth (child_of n)) (page_in frames page).nodes)

-- ---- data that fit

if_some : {X : Type 0} (P Q : X → Type 0) → ((x : X) → P x → Q x) → (o : Option X) → IfSome o P → IfSome o Q
if_some P Q f None h = tt
if_some P Q f (Some x) h = f x h

pub data_fit : (frames : Frames) → AllByRecursion (λ o. IfSome o IsPageOfBytes) frames → HaveAll DataFits frames
data_fit frames all =
    all_weaker (λ o. IfSome o IsPageOfBytes) (λ o. IfSome o (λ (p : PageContents). AllByRecursion DataFits p.nodes))
    (λ o h. if_some IsPageOfBytes (λ (p : PageContents). AllByRecursion DataFits p.nodes) (λ p is. recursion_from_All DataFits p.nodes is.form.fits) o h) frames all
