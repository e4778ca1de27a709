-- Document 02, point 2, whole: what the request says of the cut list of a valid layout. The parts are proved
-- in Sides, Lines, Unique, Lengths, Steps and Millimetres. Assumes nothing.
use Rattle.list_laws.proofs.Kit.{◌≡◌, ap, ap₂, ◌++◌, map, ◌*◌, ◌+◌, ◌<◌, ◌≤◌, suc, ℕ, arith, length, mul_comm}
use Rattle.strip_laws.proofs.Strips.{strips_agree}
use Rattle.model.specs.Piece.{point, other, extent}
use Rattle.model.specs.Layout.{Job, Layout, sheet_extent}
use Rattle.model.specs.Cut.{cut_line_of, sides, side_count, cut_lines}
use Rattle.model.specs.declared.Direction.{Direction}
use Rattle.model.specs.declared.Direction.TheVariants.{Horizontal, Vertical}
use Rattle.descent_laws.specs.Claims.{ValidLayout}
use Rattle.cut_laws.specs.Lines.{cut_line_at, LinesClaims}
use Rattle.cut_laws.specs.Sides.{Renumbered, OnSheetLines, CutClaims}
use Rattle.cut_laws.proofs.Sides.{set_along_lem, set_across, sides_exactly_lem, renumbered_sides}
use Rattle.cut_laws.proofs.Lines.{lines_claims}
use Rattle.cut_laws.proofs.Unique.{lines_unique}
use Rattle.cut_laws.proofs.Steps.{step_claims}
use Rattle.cut_laws.proofs.Millimetres.{exact_within}

-- a point by its coordinates along and across
point_within : (j : Job) (d : Direction) (a c : ℕ) → a ≤ sheet_extent d j → c ≤ sheet_extent (other d) j → OnSheetLines j (point d a c)
point_within j Horizontal a c h k = record { column = h; row = k }
point_within j Vertical a c h k = record { column = k; row = h }

-- the box of the sides
sides_along : (d : Direction) (j : Job) (v : Layout) → extent d (sides d j v) ≡ sheet_extent d j
unfolding sides
sides_along d j v = set_along_lem d _ _ _

sides_across : (d : Direction) (j : Job) (v : Layout) → extent (other d) (sides d j v) ≡ suc (sheet_extent (other d) j)
unfolding sides
sides_across d j v = set_across d _ _ _

module _ (j : Job) (v : Layout) where
  -- what holds of the lines of any two sets of units holds of the layout's
  layout_lines : LinesClaims (λ d. sides d j v) (cut_lines j v)
  unfolding cut_lines
  layout_lines = lines_claims (λ d. sides d j v)

  -- a place of a line lies on the sheet or on its edge
  end_within : (k a : ℕ) → k < length (cut_lines j v) → a ≤ (cut_line_at (cut_lines j v) k).last
      → OnSheetLines j (point (cut_line_at (cut_lines j v) k).direction a (cut_line_at (cut_lines j v) k).line)
  end_within k a h b =
      let l = cut_line_at (cut_lines j v) k in
      let d = l.direction in
      let along = layout_lines.last_within k h in
      let across = layout_lines.line_within k h in
      let e = sides_along d j v in
      let f = sides_across d j v in
      point_within j d a l.line (omega arith) (omega arith)

  -- a renumbering leaves the list as it is
  renumbered : (j' : Job) (v' : Layout) → Renumbered j v j' v' → cut_lines j' v' ≡ cut_lines j v
  unfolding cut_lines
  renumbered j' v' r =
      ap₂ ◌++◌ (ap (map (cut_line_of Horizontal)) (strips_agree Horizontal _ _ (renumbered_sides j v j' v' r Horizontal)))
      (ap (map (cut_line_of Vertical)) (strips_agree Vertical _ _ (renumbered_sides j v j' v' r Vertical)))

  -- the request holds
  pub cut_claims : ValidLayout j v → CutClaims j v
  unfolding side_count
  cut_claims within =
      record {
        sides_exactly = λ d a c. sides_exactly_lem d j v within a c;
        lines = layout_lines;
        only = λ ms o. lines_unique (λ d. sides d j v) ms (cut_lines j v) o layout_lines.exactly;
        lengths = layout_lines.lengths;
        steps = step_claims (cut_lines j v);
        smaller_within = λ k h. let s = layout_lines.exactly.some k h in end_within k (cut_line_at (cut_lines j v) k).first h (omega arith);
        larger_within = λ k h. end_within k (cut_line_at (cut_lines j v) k).last h (omega arith);
        few_lines =
            let few = layout_lines.few in
            let a = sides_along Horizontal j v in
            let b = sides_across Horizontal j v in
            let c = sides_along Vertical j v in
            let d = sides_across Vertical j v in
            let bound : 2 * length (cut_lines j v)
            ≤ suc j.size.rows * suc j.size.columns + suc j.size.columns * suc j.size.rows = rw (b, a, d, c) at few in
            let same = mul_comm (suc j.size.columns) (suc j.size.rows) in omega arith;
        numbers_free = renumbered;
        exact = exact_within;
      }
