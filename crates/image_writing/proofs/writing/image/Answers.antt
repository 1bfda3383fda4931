use Rattle.std.proofs.Common.{subst, sym, ◌∙◌}
use Rattle.database_state.specs.State.{DatabaseState}
use Rattle.engine_parts.specs.Parts.{engine_state}
use Rattle.laws_engine.specs.EngineState.{EngineState, HasRoomForEnds}
use Rattle.laws_engine.specs.HoldsState.{HoldsState}
use Rattle.laws_images.specs.SoundStates.{IsSoundState}
use Rattle.image_writing.specs.EngineImages.{ShowsEngine}
use Rattle.image_writing.proofs.CopiedTrees.{no_tables}
use Rattle.image_writing.proofs.EngineShown.{shown}
use Rattle.image_writing.proofs.PageNumbers.{own_number}
use Rattle.image_writing.proofs.writing.image.Goals as goal

pub tree_pages-requires : goal.tree_pages-requires
tree_pages-requires c = no_tables c.parts-parts.result.newest_put c.parts-parts.result.catalog.now c.parts-parts.result.trees.now c.parts-parts.result.versions.now c.parts-parts.ensures.kept

pub returns-clause-shape : goal.returns-clause-shape
returns-clause-shape c = record {
  slots = sym c.in_ok-slots.slots.ok.0 ∙ c.in_ok-slots.ensures.len ∙ c.len.ensures ∙ c.in_ok-own.own.pages.ok.0;
  pages = c.in_ok-own.ensures.few;
  live = c.in_ok-live.ensures.short;
  numbers = own_number c.in_ok-own.own.pages.items _ c.in_ok-own.ensures.trees.pages;
}

pub returns-clause-shows : goal.returns-clause-shows
returns-clause-shows c =
    subst (λ (e : EngineState). (state : DatabaseState) → HoldsState e state → IsSoundState state → HasRoomForEnds e
    → ShowsEngine e state (record { number = c.engine.inside.number; pages = c.in_ok-own.own.pages.items; catalog_root = c.in_ok-own.own.root; live = c.in_ok-live.live.items })) c.engine.view_is
    (shown (record {
      fits = c.the_live_part_of_an_engine_can_be_written.ensures;
      consistent = c.an_engine_image_is_consistent.ensures.consistent;
      holds = c.an_engine_image_is_consistent.ensures.holds;
      engine = c.the_engine_of_an_own_image_is_settled.ensures.engine;
    })
    c.in_ok-own.own.pages.items c.in_ok-own.own.root c.in_ok-live.live.items (engine_state c.engine.inside) c.parts-parts.result.newest_put c.parts-parts.result.catalog.now c.parts-parts.result.trees.now c.parts-parts.result.versions.now
    (record {
      kept = c.parts-parts.ensures.kept;
      shown = c.parts-parts.ensures.shown;
      nodes = c.nodes_are_in_order.ensures.sorted;
      short = c.nodes_are_in_order.ensures.short;
      entries = c.entries_are_in_order.ensures.sorted;
      long_values = c.long_values_are_whole.ensures;
    })
    c.in_ok-own.ensures.trees c.in_ok-live.ensures.spelled c.in_ok-live.ensures.bytes)
