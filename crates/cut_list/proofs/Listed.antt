-- Horizontals and verticals stored one after the other, in a buffer with room for them or without. Assumes nothing.
use Rattle.list_laws.proofs.Kit.{◌∙◌, ◌≡◌, ap, ap₂, sym, List, [], ◌++◌, map, map-append, ◌+◌, ◌<◌, ◌≤◌, ℕ, arith, length, length-append, length-map, lt-ltb}
use Rattle.list_laws.proofs.Kit.{le-ltb, sets}
use Rattle.list_laws.proofs.Stores.{sets_append, sets_filled}
use Rattle.model.specs.Refusal.{refused, given, plain_refusal, unless}
use Rattle.model.specs.Strip.{Strip, strips}
use Rattle.model.specs.Cut.{CutLine, cut_line_of, line_entry}
use Rattle.model.specs.Calls.{lines_after}
use Rattle.model.specs.declared.JobSize.{JobSize}
use Rattle.model.specs.declared.Direction.TheVariants.{Horizontal, Vertical}
use Rattle.text_laws.proofs.Causes.{here_refused, not_there}
use Rattle.cut_scan.specs.Scan.{SmallGrid, grid_units, line_entries, LinesAppended}
use Rattle.cut_list.specs.Owned.{grid_of, owned_lines, in_room, SmallSheet}

-- ── the grids of a small sheet ──

pub small_rows : (size : JobSize) → SmallSheet size → SmallGrid (grid_of Horizontal size)
small_rows size s = record { length = s.columns; lines = s.rows; along = omega arith; across = s.columns }

pub small_columns : (size : JobSize) → SmallSheet size → SmallGrid (grid_of Vertical size)
small_columns size s = record { length = s.rows; lines = s.columns; along = s.columns; across = omega arith }

-- ── both directions ──

module _ (size : JobSize) (os : List ℕ) {before after after' : List (List ℕ)} {next next' : ℕ}
    (rows : LinesAppended Horizontal (strips Horizontal (grid_units Horizontal os (grid_of Horizontal size))) before 0 after next)
    (columns : LinesAppended Vertical (strips Vertical (grid_units Vertical os (grid_of Vertical size))) after next after' next') where
  abbrev hs : List Strip
  hs = strips Horizontal (grid_units Horizontal os (grid_of Horizontal size))

  abbrev vs : List Strip
  vs = strips Vertical (grid_units Vertical os (grid_of Vertical size))

  -- as many lines as strips
  pub both_count_lem : next' ≡ length (owned_lines size os)
  unfolding owned_lines
  both_count_lem =
      let a : next ≡ 0 + length hs = rows.end in
      let b : next' ≡ next + length vs = columns.end in
      let c : length (map (cut_line_of Horizontal) hs ++ map (cut_line_of Vertical) vs)
      ≡ length (map (cut_line_of Horizontal) hs) + length (map (cut_line_of Vertical) vs) =
      length-append (map (cut_line_of Horizontal) hs) (map (cut_line_of Vertical) vs) in
      let d : length (map (cut_line_of Horizontal) hs) ≡ length hs = length-map hs (cut_line_of Horizontal) in
      let e : length (map (cut_line_of Vertical) vs) ≡ length vs = length-map vs (cut_line_of Vertical) in
      omega arith

  -- stored one after the other
  pub both_stored : after' ≡ sets before 0 (map line_entry (owned_lines size os))
  unfolding owned_lines
  both_stored =
      let first : length (line_entries Horizontal hs) ≡ length hs =
      length-map (map (cut_line_of Horizontal) hs) line_entry ∙ length-map hs (cut_line_of Horizontal) in
      columns.stored
      ∙ ap₂ (λ (l : List (List ℕ)) (k : ℕ). sets l k (line_entries Vertical vs)) rows.stored (rows.end ∙ ap (λ (k : ℕ). 0 + k) (sym first))
      ∙ sym (sets_append before 0 (line_entries Horizontal hs) (line_entries Vertical vs))
      ∙ ap (sets before 0) (sym (map-append line_entry (map (cut_line_of Horizontal) hs) (map (cut_line_of Vertical) vs)))

-- ── room ──

-- a buffer that is too short
pub short_room : (ls : List CutLine) (room : ℕ) → room < length ls → in_room ls room ≡ refused (plain_refusal 7)
short_room ls room h = here_refused 7 _ [] ls (lt-ltb room (length ls) h)

-- one with room
pub enough_room : (ls : List CutLine) (room : ℕ) → length ls ≤ room → in_room ls room ≡ given ls
unfolding unless
enough_room ls room h = not_there 7 _ [] ls (le-ltb room (length ls) h)

-- what it holds then
pub room_filled : (ls : List CutLine) (before : List (List ℕ)) → length ls ≤ length before
    → sets before 0 (map line_entry ls) ≡ lines_after before (given ls)
room_filled ls before h = sets_filled before (map line_entry ls) (let e = length-map ls line_entry in omega arith)
