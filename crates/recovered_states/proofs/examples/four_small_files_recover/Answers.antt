use Rattle.std.proofs.Common.{◌≡◌, ℕ, zero, suc, ◌≤◌, ◌<◌, [], ◌∷◌, Option, Some, None, get_or, length, inl, refl, sym, subst, arith}
use Rattle.std.proofs.Math.Seq.{take_all}
use Rattle.checkpoint.specs.Contents.{has_head, number_at}
use Rattle.checkpoint.specs.Opening.{HoldsPages, SlotSays}
use Rattle.database_state.specs.Computing.{computing}
use Rattle.database_state.specs.State.{empty_state}
use Rattle.database_state.specs.Step.{entry_by}
use Rattle.image_findings.specs.Findings.{IsConsistent, engine_in}
use Rattle.image_findings.specs.Opening.{opening}
use Rattle.index_derive.specs.declared.log.EntryKind.TheVariants as entry
use Rattle.jet_volume.specs.declared.files.LogStart.{LogStart}
use Rattle.laws_engine.specs.EngineState.{EngineState, empty_engine}
use Rattle.laws_engine.specs.HoldsState.{HoldsState}
use Rattle.log_grammar.specs.EntryBytes.{IsCut, entry_bytes, has_spelling}
use Rattle.log_ring.specs.Blocks.{is_of, length_field}
use Rattle.page_image.specs.Page.{DataFits, IsPage, Node, PageContents, node_bytes, page_bytes, page_front, page_head}
use Rattle.store_core.specs.Stands.{Checkpoint}
use Rattle.recovered_states.specs.Recovers.{image_of}
use Rattle.recovered_states.specs.Samples.{catalog_page}
use Rattle.recovered_states.proofs.examples.four_small_files_recover.Goals as goal

-- ---- the page

page_length : length (page_bytes catalog_page) ≡ 4096
unfolding page_bytes page_front page_head node_bytes
page_length = refl

is_page : IsPage catalog_page
is_page = record {
  number = omega arith;
  kind = inl refl;
  rising = λ i j d lt less. absurd (omega (arith, lt, less));
  fits = fits;
  size = omega arith;
}
  where
    fits : (k : ℕ) (d : Node) → k < 1 → DataFits (get_or catalog_page.nodes k d)
    fits zero d less = omega arith
    fits (suc k) d less = absurd (omega (arith, less))

whole : 4096 ≤ length (page_bytes catalog_page)
whole = omega (arith, page_length)

pages : HoldsPages (page_bytes catalog_page) (0 ∷ []) (Some catalog_page ∷ [])
pages = record { count = refl; each = says }
  where
    says : (p : ℕ) → p < 1 → SlotSays (page_bytes catalog_page) p (get_or (0 ∷ []) p 2) (get_or {A = Option PageContents} (Some catalog_page ∷ []) p None)
    says zero less = record { one_of_two = omega arith; whole = whole; is_page = is_page; bytes = take_all 4096 (page_bytes catalog_page) (omega (arith, page_length)); own_number = refl }
    says (suc p) less = absurd (omega (arith, less))

-- ---- the checkpoint

abbrev start : LogStart
start = record { generation = 1; offset = 0; position = 0 }

abbrev first : Checkpoint
first = record { number = 1; entries = 0; start = start; catalog_root = 0; pages = Some catalog_page ∷ []; live = 0 ∷ 0 ∷ 0 ∷ 0 ∷ 0 ∷ 0 ∷ 0 ∷ 0 ∷ [] }

consistent : IsConsistent (image_of first)
unfolding opening
consistent = refl

engine_is : engine_in 0 (image_of first) ≡ empty_engine 0
unfolding opening
engine_is = refl

-- ---- the log

begin_is_cut : IsCut (5 ∷ 0 ∷ 0 ∷ 0 ∷ 5 ∷ [])
unfolding entry_bytes has_spelling
begin_is_cut = (entry_by 1 entry.Begin, 1, 0 ∷ 0 ∷ 0 ∷ [], refl, refl)

pub returns : goal.returns
unfolding number_at has_head is_of length_field computing entry_bytes has_spelling
returns c = record {
  checkpoint = Some first;
  stream = 5 ∷ 0 ∷ 0 ∷ 0 ∷ 1 ∷ 1 ∷ 0 ∷ 0 ∷ 0 ∷ 5 ∷ 0 ∷ 0 ∷ 0 ∷ 5 ∷ [];
  stands = record {
    slots = 0 ∷ [];
    shows = record { file = refl; is_file = refl; says = refl; holds = pages };
    gives = (record { generation = 1; offset = 35; position = 14 }, record { blocks = (start, 5 ∷ 0 ∷ 0 ∷ 0 ∷ 1 ∷ 1 ∷ 0 ∷ 0 ∷ 0 ∷ 5 ∷ 0 ∷ 0 ∷ 0 ∷ 5 ∷ []) ∷ []; leads = (refl, refl); ends = refl; stream_is = refl });
  };
  from = record {
    shown = empty_state;
    shows = (consistent, subst (λ (e : EngineState). HoldsState e empty_state) (sym engine_is) (c.an_empty_engine_holds_the_empty_state.ensures.holds 0));
    entries = entry_by 1 entry.Enter ∷ [];
    rest = 5 ∷ 0 ∷ 0 ∷ 0 ∷ 5 ∷ [];
    reads = refl;
    cut = begin_is_cut;
    come = record { lawful = (refl, tt); spelled = refl };
    is = refl;
  };
}
