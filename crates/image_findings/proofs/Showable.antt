-- The engine that is made of a consistent image has all that is asked of an engine that holds the state that it shows.
use Rattle.std.proofs.Common.{◌≤◌, ℕ, arith}
use Rattle.std.specs.Prelude.{map}
use Rattle.database_state.specs.State.{transaction_of}
use Rattle.laws_images.proofs.OpenedLemmas.EachShown.{EachBoth, each_before, each_both}
use Rattle.laws_images.specs.InTurn.{AreInTurn, ArePlaced}
use Rattle.laws_images.specs.ShowableEngines.{EachIn, HasSoundRecords, HasSoundTables, IsShowable, IsSoundRecord, first_records, past_in, state_of}
use Rattle.laws_images.specs.ShownStates.{past_of, tables_before}
use Rattle.laws_versions.specs.UniqueKeys.{HasUniqueKeys}
use Rattle.image_findings.specs.Findings.{contents_in, engine_in, engine_of_parts, history_of, live_of, told_in, values_by_table, whole_of}
use Rattle.image_findings.specs.ImageBytes.{IsOfBytes}
use Rattle.image_findings.specs.Images.{ImageContents}
use Rattle.image_findings.specs.NoFindings.{HasNoFinding}
use Rattle.image_findings.specs.TableContents.{newest_table}
use Rattle.image_findings.specs.TreeFindings.{nodes_below}
use Rattle.image_findings.proofs.Befores.{adds_all, befores_sound, plain_indexes_see_no_sum, sums_keep}
use Rattle.image_findings.proofs.Built.{tables_are_built}
use Rattle.image_findings.proofs.Known.{IsSpelled, known_in, newest_in, ordered_in, plain_in, sound_of, turn_in}
use Rattle.image_findings.proofs.Nodes.{tables_rise}
use Rattle.image_findings.proofs.Placed.{all_placed, all_steps}
use Rattle.image_findings.proofs.Sessions.{begins, in_order, labels_rise, levels_stay, numbers_rise}
use Rattle.image_findings.proofs.SoundIndexes.{each_own}
use Rattle.image_findings.proofs.Tables.{own_numbers, single_sums}
use Rattle.image_findings.proofs.Told.{IsTold, ids_are_given, ids_rise, is_told}
use Rattle.image_findings.proofs.Turns.{all_touch, have_costs, in_turn, records_before, shown_held}
use Rattle.image_findings.proofs.Unique.{all_unique, carried_over, each_keys_found}

told_of : (image : ImageContents) → HasNoFinding image → IsTold (told_in image)
told_of image n = is_told (nodes_below image.pages image.catalog_root) (told_in image) n.told

pub turn_of : (image : ImageContents) → IsOfBytes image → HasNoFinding image → IsSpelled image → AreInTurn (shown_held (contents_in image) (live_of image).held) (map newest_table (contents_in image))
turn_of image bytes n live = in_turn image.number (contents_in image) (whole_of image).sessions (ordered_in image bytes n) (plain_in image n) (newest_in image bytes n) (live_of image).held (turn_in image bytes n live)

first_of : (image : ImageContents) → IsOfBytes image → HasNoFinding image → IsSpelled image → EachIn IsSoundRecord image.number (map newest_table (contents_in image)) (records_before (contents_in image) (live_of image).held)
first_of image bytes n live =
    each_before IsSoundRecord image.number (map newest_table (contents_in image)) (shown_held (contents_in image) (live_of image).held) (turn_of image bytes n live)
    (sums_keep image.number (contents_in image) (whole_of image).sessions (plain_in image n) (live_of image).held (known_in image bytes n live)) (befores_sound image.number (contents_in image) (whole_of image).sessions (live_of image).held (known_in image bytes n live)) (newest_in image bytes n)

both_of : (image : ImageContents) → IsOfBytes image → HasNoFinding image → IsSpelled image → EachBoth IsSoundRecord image.number (map newest_table (contents_in image)) (past_of (shown_held (contents_in image) (live_of image).held) (map newest_table (contents_in image)))
both_of image bytes n live =
    each_both IsSoundRecord image.number (map newest_table (contents_in image)) (shown_held (contents_in image) (live_of image).held) (turn_of image bytes n live)
    (sums_keep image.number (contents_in image) (whole_of image).sessions (plain_in image n) (live_of image).held (known_in image bytes n live)) (befores_sound image.number (contents_in image) (whole_of image).sessions (live_of image).held (known_in image bytes n live)) (newest_in image bytes n)

pub unique_of : (limit : ℕ) (image : ImageContents) → IsOfBytes image → HasNoFinding image → IsSpelled image → HasUniqueKeys (first_records (engine_in limit image)) (past_in (engine_in limit image)) (state_of (engine_in limit image))
unique_of limit image bytes n live =
    let tables = contents_in image in
    let held = (live_of image).held in
    let transactions = transaction_of (state_of (engine_of_parts 0 image.number 0 (contents_in image) (live_of image))) in
    let past = past_of (shown_held tables held) (map newest_table tables) in
    record {
      tables = carried_over transactions (records_before tables held) past (shown_held tables held) (map newest_table tables) past
          (all_unique image.number tables (whole_of image).sessions held transactions (known_in image bytes n live) (turn_of image bytes n live) (all_steps (shown_held tables held) (map newest_table tables) (turn_of image bytes n live))
          (first_of image bytes n live) (both_of image bytes n live) (sound_of image n) (each_own image.pages (told_in image) (told_of image n))
          (each_keys_found (history_of (engine_of_parts 0 image.number 0 tables (live_of image))) held image.pages (told_in image).tables n.keys) (plain_in image n));
    }

pub placed_of : (limit : ℕ) (image : ImageContents) → IsOfBytes image → HasNoFinding image → IsSpelled image → ArePlaced image.number (told_in image).greatest (live_of image).sessions (engine_in limit image).store
placed_of limit image bytes n live =
    let store = (engine_in limit image).store in
    record {
      in_order = in_order image.number (told_in image).greatest (contents_in image) (values_by_table (contents_in image)) store.tables (whole_of image) n.live;
      numbers = numbers_rise (values_by_table (contents_in image)) store.tables (whole_of image) live.1;
      levels = levels_stay image.number (contents_in image) (values_by_table (contents_in image)) store.tables (whole_of image) n.live;
      placed = all_placed image.number (told_in image).greatest (contents_in image) (whole_of image).sessions (live_of image).held (live_of image).held (known_in image bytes n live) (turn_of image bytes n live);
      begins = λ session. begins image.number (contents_in image) (tables_before store.held store.tables) (past_of store.held store.tables) (whole_of image) live.1 n.live session;
    }

tables_of : (limit : ℕ) (image : ImageContents) → IsOfBytes image → HasNoFinding image → IsSpelled image → HasSoundTables (engine_in limit image)
tables_of limit image bytes n live = record {
  rise = tables_rise (contents_in image) (ordered_in image bytes n);
  ids = ids_rise image.pages (told_in image) (told_of image n);
  given = ids_are_given image.pages (told_in image) (told_of image n) n.catalog;
  columns = own_numbers image.pages (told_in image).greatest (told_in image).tables n.catalog;
  built = tables_are_built image.pages (told_in image) (told_of image n) n.catalog;
  single = λ id. single_sums image.pages (told_in image).greatest (told_in image).tables n.catalog id;
  plain = plain_indexes_see_no_sum image.number (contents_in image) (whole_of image).sessions (live_of image).held (known_in image bytes n live) (plain_in image n);
}

records_of_image : (limit : ℕ) (image : ImageContents) → IsOfBytes image → HasNoFinding image → IsSpelled image → HasSoundRecords (engine_in limit image)
records_of_image limit image bytes n live =
    let known = known_in image bytes n live in
    record {
      turn = turn_of image bytes n live;
      costs = have_costs image.number (contents_in image) (whole_of image).sessions (live_of image).held known;
      newest = newest_in image bytes n;
      befores = befores_sound image.number (contents_in image) (whole_of image).sessions (live_of image).held known;
      adds = adds_all image.number (contents_in image) (whole_of image).sessions (live_of image).held known;
      keeps = sums_keep image.number (contents_in image) (whole_of image).sessions (plain_in image n) (live_of image).held known;
      touched = all_touch image.number (contents_in image) (whole_of image).sessions (ordered_in image bytes n) (live_of image).held (turn_in image bytes n live);
      unique = unique_of limit image bytes n live;
    }

upto_itself : (n : ℕ) → n ≤ n
upto_itself n = omega arith

pub showable : (limit : ℕ) (image : ImageContents) → IsOfBytes image → HasNoFinding image → IsSpelled image → IsShowable (engine_in limit image)
showable limit image bytes n live =
    let store = (engine_in limit image).store in
    record {
      tables = tables_of limit image bytes n live;
      records = records_of_image limit image bytes n live;
      placed = placed_of limit image bytes n live;
      labels = labels_rise (tables_before store.held store.tables) (past_of store.held store.tables) (whole_of image) live.1;
      numbered = upto_itself image.number;
    }
