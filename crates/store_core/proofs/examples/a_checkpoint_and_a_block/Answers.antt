use Rattle.std.proofs.Common.{ℕ, zero, suc, ◌<◌, [], ◌∷◌, Option, None, get_or, refl}
use Rattle.jet_volume.specs.declared.files.LogStart.{LogStart}
use Rattle.log_ring.specs.Blocks.{is_of, length_field}
use Rattle.checkpoint.specs.Contents.{number_at, has_head}
use Rattle.page_image.specs.Page.{PageContents}
use Rattle.checkpoint.specs.Opening.{SlotSays, HoldsPages}
use Rattle.store_core.proofs.examples.a_checkpoint_and_a_block.Goals as goal

-- the one page is free
free : HoldsPages [] (2 ∷ []) (None ∷ [])
free = record { count = refl; each = says }
  where
    says : (p : ℕ) → p < 1 → SlotSays [] p (get_or (2 ∷ []) p 2) (get_or {A = Option PageContents} (None ∷ []) p None)
    says zero less = refl
    says (suc p) less = refl

start : LogStart
start = record { generation = 1; offset = 0; position = 0 }

pub returns : goal.returns
unfolding number_at has_head is_of length_field
returns c = record {
  opened = record {
    slots = 2 ∷ [];
    shows = record { file = refl; is_file = refl; says = refl; holds = free };
    gives = (record { generation = 1; offset = 23; position = 2 }, record { blocks = (record { generation = 1; offset = 0; position = 0 }, 3 ∷ 5 ∷ []) ∷ []; leads = (refl, refl); ends = refl; stream_is = refl });
  };
  closed = record {
    slots = 2 ∷ [];
    shows = record { file = refl; is_file = refl; says = refl; holds = free };
    gives = (record { generation = 1; offset = 0; position = 0 }, record { blocks = []; leads = refl; ends = refl; stream_is = refl });
  };
}
