-- The units between different owners are the sides of the layout, so that their lines are the layout's. Assumes nothing.
use Rattle.list_laws.proofs.Kit.{◌∙◌, ◌≡◌, ap, ap₂, refl, sym, Bool, ◌&&◌, false, true, not, ◌⊎◌, ⊎_elim, List, ◌++◌, map, ◌*◌, ◌+◌, ◌<◌, ◌≤◌, suc, zero, ℕ}
use Rattle.list_laws.proofs.Kit.{arith, eqb, get_or, le-ltb, lt-ltb, ltb, ltb-true}
use Rattle.list_laws.proofs.Numbers.{below_or, in_rows_lem}
use Rattle.strip_laws.specs.Boxes.{SameShape}
use Rattle.strip_laws.proofs.Strips.{strips_agree}
use Rattle.cover_laws.proofs.Pixels.{pixel_at_lem}
use Rattle.model.specs.Bounded.{any_below}
use Rattle.model.specs.Piece.{point, other}
use Rattle.model.specs.Layout.{Job, Layout, sheet_extent}
use Rattle.model.specs.Cut.{side_of, set_along, sides, cut_line_of, cut_lines}
use Rattle.model.specs.declared.Direction.{Direction}
use Rattle.model.specs.declared.Direction.TheVariants.{Horizontal, Vertical}
use Rattle.descent_laws.specs.Claims.{ValidLayout, NoConflict}
use Rattle.cut_laws.specs.Sides.{IsSheetPixel}
use Rattle.cut_laws.specs.Owners.{owner, owner_before}
use Rattle.cut_laws.proofs.Sides.{same_set}
use Rattle.cut_laws.proofs.Owners.{sides_by_owner, no_owner}
use Rattle.cut_owners.specs.OwnersPainted.{OwnersPainted}
use Rattle.cut_scan.specs.Scan.{owner_at, before_at, side_at, grid_units}
use Rattle.cut_list.specs.Owned.{grid_of, owned_lines}

-- ── the owners of a painted sheet ──

module _ (j : Job) (v : Layout) (os : List ℕ) (painted : OwnersPainted j v os) where
  -- the owner of a pixel of the sheet
  owner_read : (x y : ℕ) → x < j.size.columns → y < j.size.rows → get_or os (y * j.size.columns + x) 0 ≡ owner j v (record { x = x; y = y })
  owner_read x y l h =
      painted.owners (y * j.size.columns + x) (in_rows_lem l h) ∙ ap (owner j v) (pixel_at_lem j x y l)

  -- by the coordinates along and across
  owner_inside : (d : Direction) (a c : ℕ) → a < sheet_extent d j → c < sheet_extent (other d) j
      → get_or os (a * (grid_of d j.size).along + c * (grid_of d j.size).across) 0 ≡ owner j v (point d a c)
  owner_inside Horizontal a c l h =
      ap (λ (k : ℕ). get_or os k 0) (let e : a * 1 + c * j.size.columns ≡ c * j.size.columns + a = omega arith in e) ∙ owner_read a c l h
  owner_inside Vertical a c l h =
      ap (λ (k : ℕ). get_or os k 0) (let e : a * j.size.columns + c * 1 ≡ a * j.size.columns + c = omega arith in e) ∙ owner_read c a h l

  -- the grid of a direction has the sheet's lines
  grid_lines : (d : Direction) → (grid_of d j.size).lines ≡ sheet_extent (other d) j
  grid_lines Horizontal = refl
  grid_lines Vertical = refl

  grid_length : (d : Direction) → (grid_of d j.size).length ≡ sheet_extent d j
  grid_length Horizontal = refl
  grid_length Vertical = refl

  -- a place past the last line is not on the sheet
  off_sheet : (d : Direction) (a c : ℕ) → sheet_extent (other d) j ≤ c → IsSheetPixel j (point d a c) → ⊥
  off_sheet Horizontal a c h w = let r = w.row in omega arith
  off_sheet Vertical a c h w = let r = w.column in omega arith

  module _ (valid : ValidLayout j v) where
    -- the owner at any line
    owner_at_lem : (d : Direction) (a c : ℕ) → a < sheet_extent d j → owner_at os (grid_of d j.size) a c ≡ owner j v (point d a c)
    owner_at_lem d a c l =
        let e = grid_lines d in
        ⊎_elim
        (λ (h : c < sheet_extent (other d) j). rw (lt-ltb c (grid_of d j.size).lines (omega arith), owner_at) (owner_inside d a c l h))
        (λ (h : sheet_extent (other d) j ≤ c).
        rw (le-ltb c (grid_of d j.size).lines (omega arith), owner_at) (sym (no_owner j v valid (point d a c) (off_sheet d a c h))))
        (below_or c (sheet_extent (other d) j))

    -- and before a line
    owner_before_lem : (d : Direction) (a c : ℕ) → a < sheet_extent d j → before_at os (grid_of d j.size) a c ≡ owner_before d j v a c
    owner_before_lem d a zero l = refl
    owner_before_lem d a (suc c) l = owner_at_lem d a c l

    module _ (apart : NoConflict j v) where
      -- a unit lies between different owners exactly when it is a side
      side_read : (d : Direction) (a c : ℕ) → a < sheet_extent d j
          → side_at os (grid_of d j.size) a c ≡ any_below j.size.count (λ i. side_of d j v i a c)
      unfolding side_at
      side_read d a c l = ap₂ (λ (p q : ℕ). not (eqb p q)) (owner_before_lem d a c l) (owner_at_lem d a c l) ∙ sym (sides_by_owner j v apart d a c)

      -- the sets of units agree
      units_sides : (d : Direction) → SameShape (grid_units d os (grid_of d j.size)) (sides d j v)
      unfolding sides
      units_sides Horizontal = same_set Horizontal _ _ _ _ _ _ refl refl (λ a c l h. side_read Horizontal a c l)
      units_sides Vertical = same_set Vertical _ _ _ _ _ _ refl refl (λ a c l h. side_read Vertical a c l)

      -- and so do their lines
      pub owned_lines_lem : owned_lines j.size os ≡ cut_lines j v
      unfolding owned_lines cut_lines
      owned_lines_lem =
          ap₂ ◌++◌ (ap (map (cut_line_of Horizontal)) (strips_agree Horizontal _ _ (units_sides Horizontal)))
          (ap (map (cut_line_of Vertical)) (strips_agree Vertical _ _ (units_sides Vertical)))
