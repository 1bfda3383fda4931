-- Trees that change one after the other.
use Rattle.std.proofs.Common.{◌≡◌, ℕ, inl, List, refl, sym, subst, ◌∙◌, arith}
use Rattle.std.specs.Prelude.{Contains}
use Rattle.page_image.specs.Page.{Node}
use Rattle.page_space.specs.Frames.{Frames, page_at}
use Rattle.btree_inplace.specs.Trees.{Exchanges, IsTree, nodes_of, pages_of}
use Rattle.btree_inplace.specs.ExchangeLaws.{exchanges_then}
use Rattle.btree_inplace.specs.declared.Tree.{Tree}
use Rattle.long_value.specs.Stores.{Becomes}

pub exchanges_none : (frames : Frames) (pages : List ℕ) → Exchanges frames frames pages pages
exchanges_none frames pages = record { taken = λ p h. inl h; given_back = λ p h not. absurd (not h); others = λ p h not. refl }

pub exchanges_written : (old new : Frames) (before after : List ℕ) → after ≡ before → ((p : ℕ) → ¬ Contains before p → page_at new p ≡ page_at old p) → Exchanges old new before after
exchanges_written old new before after same others = record {
  taken = λ p h. inl (subst (λ (l : List ℕ). Contains l p) same h);
  given_back = λ p h not. absurd (not (subst (λ (l : List ℕ). Contains l p) (sym same) h));
  others = λ p h not. others p h;
}

-- ---- trees

pub becomes_same : (frames : Frames) (tree : Tree) → IsTree frames tree → Becomes frames tree frames tree (nodes_of frames tree)
becomes_same frames tree is = record { tree = is; has = refl; pages = exchanges_none frames (pages_of frames tree); root = refl }

pub becomes_then : (a b c : Frames) (first second third : Tree) (nodes nodes' : List Node) → Becomes a first b second nodes → Becomes b second c third nodes' → Becomes a first c third nodes'
becomes_then a b c first second third nodes nodes' s t = record {
  tree = t.tree;
  has = t.has;
  pages = exchanges_then a b c (pages_of a first) (pages_of b second) (pages_of c third) s.pages t.pages;
  root = t.root ∙ s.root;
}

pub becomes_as : (old : Frames) (was : Tree) (new : Frames) (is : Tree) (nodes nodes' : List Node) → nodes ≡ nodes' → Becomes old was new is nodes → Becomes old was new is nodes'
becomes_as old was new is nodes nodes' e b = record { tree = b.tree; has = b.has ∙ e; pages = b.pages; root = b.root }
