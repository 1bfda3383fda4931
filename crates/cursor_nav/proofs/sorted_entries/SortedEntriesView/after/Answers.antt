use Rattle.std.proofs.Common.{map, ap, ◌∙◌}
use Rattle.cursor_nav.specs.Places.{pair_of, found_pair, entry_after}
use Rattle.cursor_nav.proofs.Listing.{first_pairs}
use Rattle.cursor_nav.proofs.sorted_entries.SortedEntriesView.after.Goals as goal

pub returns : goal.returns
returns c =
    c.copied.ensures ∙ ap found_pair c.first_beyond.ensures ∙ first_pairs c.args.place.now c.as_slice.result.now
    ∙ ap (λ entries. entry_after c.args.place.now (map pair_of entries)) c.as_slice.ensures.value
