-- The tests of specs/CompactExamples.antt pass, as the checker computes them. Assumes nothing.
use Rattle.std.specs.Prelude.{Bool, true, ◌≡◌, refl}
use Rattle.model.specs.CompactExamples.{L, at, bar, by_number, compact_examples, free, grows, left_first, lent, locked, notches, pushed, refusals, ring, started, stops, told, two_passes, two_pixels}
use Rattle.model.specs.Calls.{allowed_degrees, compact_call, layout_causes, some_outside, some_turn_wrong}
use Rattle.model.specs.Piece.{allows, tight}
use Rattle.model.specs.Compact.{compact, conflicts_with_some, corner_sum, fits_at, left_then_down, pixels_slid, push_below, push_piece, slide, slide_of, until_still}
use Rattle.model.specs.Overlap.{conflict, near_to}
use Rattle.model.specs.Layout.{conflicting_pair, first_pair, inside, leftmost, pair_conflicts, pairs_from, pairs_with, rightmost, used_length}
use Rattle.model.specs.Lent.{entry_fits, entry_in_range, job_of, lent_well, pixel_start, sheet_in_range}
use Rattle.model.specs.Start.{falling_order, free_only, insert, stack_all, start}
use Rattle.model.specs.Buffer.{same_entries, same_numbers, turn_of, turn_of_degrees}
use Rattle.model.specs.Refusal.{unless}

-- pieces are pushed as document 02 says
pub compact_examples_hold : compact_examples ≡ true
unfolding compact_examples lent free locked bar at told pushed stops left_first two_passes by_number L ring notches two_pixels grows started refusals
    same_entries same_numbers turn_of_degrees turn_of near_to conflict pairs_with pairs_from pair_conflicts first_pair conflicting_pair rightmost leftmost
    used_length lent_well entry_in_range entry_fits sheet_in_range allowed_degrees some_turn_wrong some_outside layout_causes compact_call conflicts_with_some fits_at
    pixels_slid slide_of slide until_still corner_sum left_then_down push_piece push_below compact insert falling_order free_only stack_all start allows tight
    inside unless job_of pixel_start
compact_examples_hold = refl
