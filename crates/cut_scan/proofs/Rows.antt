-- The strips of one pixel line, unit by unit, and of all lines, one after the other. Assumes nothing.
use Rattle.list_laws.proofs.Kit.{◌∙◌, ◌≡◌, ap, refl, subst, sym, append-nil, false, true, not, ◌≢◌, List, [], ◌++◌, map, map-append, ◌+◌, ◌-◌, ◌<◌, ◌≤◌, suc}
use Rattle.list_laws.proofs.Kit.{zero, ℕ, add-one, arith, eqb, sub-zero}
use Rattle.model.specs.Strip.{Run, Strip, strip_of, closing, runs_from, strips_from, strips}
use Rattle.model.specs.declared.Direction.{Direction}
use Rattle.model.specs.declared.Direction.TheVariants.{Horizontal, Vertical}
use Rattle.cut_scan.specs.Scan.{owner_at, side_at, grid_units, row_from, LinesAppended, Left}
use Rattle.cut_scan.specs.declared.Grid.{Grid}
use Rattle.cut_scan.proofs.Storing.{left_append, left_end_lem}

-- a unit of line 0, and of a later line, by the owners before and after it
pub side_first : (os : List ℕ) (g : Grid) (a c r : ℕ) → c ≡ 0 → r ≡ owner_at os g a c → not (eqb 0 r) ≡ side_at os g a c
unfolding side_at
side_first os g a c r z e = rw (e, z)

pub side_later : (os : List ℕ) (g : Grid) (a c r b : ℕ) → c ≢ 0 → r ≡ owner_at os g a c → b ≡ owner_at os g a (c - 1) → not (eqb b r) ≡ side_at os g a c
unfolding side_at
side_later os g a zero r b n e f = absurd (n refl)
side_later os g a (suc c) r b n e f = let p : suc c - 1 ≡ c = omega arith in rw (e, f, p)

-- a run that ends stands in front of the later ones
closing_front : (i run : ℕ) (later : List Run) → closing i run later ≡ closing i run [] ++ later
closing_front i zero later = refl
closing_front i (suc run) later = refl

module _ (os : List ℕ) (g : Grid) (c : ℕ) where
  -- one side more
  pub row_side : (a run : ℕ) → a < g.length → side_at os g a c ≡ true → row_from os g c a run ≡ row_from os g c (a + 1) (run + 1)
  unfolding row_from runs_from
  row_side a run l e =
      let left : g.length - a ≡ suc (g.length - (a + 1)) = omega arith in
      rw (left, e, runs_from, add-one a, add-one run)

  -- no side: the run before it ends
  pub row_gap : (a run : ℕ) → a < g.length → side_at os g a c ≡ false
      → row_from os g c a run ≡ map (strip_of c) (closing a run []) ++ row_from os g c (a + 1) 0
  unfolding row_from runs_from
  row_gap a run l e =
      let left : g.length - a ≡ suc (g.length - (a + 1)) = omega arith in
      rw (left, e, runs_from, add-one a)
      (ap (map (strip_of c)) (closing_front a run (runs_from (λ k. side_at os g k c) (suc a) (g.length - suc a) 0))
      ∙ map-append (strip_of c) (closing a run []) (runs_from (λ k. side_at os g k c) (suc a) (g.length - suc a) 0))

  -- the end of the line
  pub row_end : (run : ℕ) → row_from os g c g.length run ≡ map (strip_of c) (closing g.length run [])
  unfolding row_from runs_from
  row_end run = let none : g.length - g.length ≡ 0 = omega arith in rw none

  -- once the last run is stored, the line is
  pub row_stored : {d : Direction} {before now now' : List (List ℕ)} {from at at' : ℕ} (a run : ℕ) → a ≡ g.length
      → Left d before from (row_from os g c a run) now at (row_from os g c 0 0) → LinesAppended d (map (strip_of c) (closing g.length run [])) now at now' at'
      → LinesAppended d (row_from os g c 0 0) before from now' at'
  row_stored {d} {before} {now} {now'} {from} {at} {at'} a run e w p =
      let last : List Strip = map (strip_of c) (closing g.length run []) in
      let rest : row_from os g c a run ≡ last ++ [] = ap (λ (k : ℕ). row_from os g c k run) e ∙ row_end run ∙ sym (append-nil last) in
      left_end_lem (left_append last [] (subst (λ (ts : List Strip). Left d before from ts now at (row_from os g c 0 0)) rest w) p)

-- ── all lines ──

-- the strips of the lines from c on: those of line c, then the others
pub lines_step : (d : Direction) (os : List ℕ) (g : Grid) (c : ℕ) → c ≤ g.lines
    → strips_from d (grid_units d os g) c (suc g.lines - c) ≡ row_from os g c 0 0 ++ strips_from d (grid_units d os g) (c + 1) (suc g.lines - (c + 1))
unfolding strips_from row_from
lines_step Horizontal os g c l =
    let left : suc g.lines - c ≡ suc (suc g.lines - (c + 1)) = omega arith in
    rw (left, strips_from, add-one c, sub-zero)
lines_step Vertical os g c l =
    let left : suc g.lines - c ≡ suc (suc g.lines - (c + 1)) = omega arith in
    rw (left, strips_from, add-one c, sub-zero)

-- no line is left
pub lines_end : (d : Direction) (os : List ℕ) (g : Grid) (c : ℕ) → g.lines < c → strips_from d (grid_units d os g) c (suc g.lines - c) ≡ []
unfolding strips_from
lines_end d os g c l = let left : suc g.lines - c ≡ 0 = omega arith in rw left

-- all are at first
pub lines_all : (d : Direction) (os : List ℕ) (g : Grid) → strips d (grid_units d os g) ≡ strips_from d (grid_units d os g) 0 (suc g.lines - 0)
lines_all Horizontal os g = rw sub-zero
lines_all Vertical os g = rw sub-zero
