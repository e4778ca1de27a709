-- Document 01, 'When a call says no', refusal 8: a lent job that passes the check meets what demand 3 and the start layout ask for.
-- Turn 0 is allowed to each piece since o is odd, and each box fits the sheet. A layout that is lent with it has its corners in the sheet. Assumes nothing.
use Rattle.list_laws.proofs.Kit.{◌≡◌, true, ◌&&◌, List, ◌+◌, ◌<◌, ◌≤◌, ℕ, arith, div-one, leb, leb-true}
use Rattle.model.specs.Piece.{allows}
use Rattle.model.specs.Layout.{Job, Layout, allowed, inside, place_of, turned_piece, unit_weights}
use Rattle.model.specs.Start.{start, start_of_all, program_start}
use Rattle.model.specs.Lent.{Lent, entry_turns, job_of, lent_well, column_bound, row_bound}
use Rattle.model.specs.Buffer.{layout_of}
use Rattle.model.specs.declared.Turn.TheVariants.{Zero}
use Rattle.list_laws.proofs.Tests.{and_left, and_right}
use Rattle.job_laws.proofs.Checked.{Facts, facts}
use Rattle.descent_laws.specs.LentLayout.{Laid}
use Rattle.descent_laws.specs.Claims.{ValidLayout, Demand3}
use Rattle.descent_laws.specs.Start.{BoxesFit, LockedGiven, StartClaims}
use Rattle.descent_laws.proofs.Start.{start_of_all_valid, start_claims}
use Rattle.descent_laws.proofs.Guided.{unit_valid}
use Rattle.descent_laws.proofs.Demand3.{demand3}

-- turn 0 is allowed to each piece
pub lent_zero_allowed : (l : Lent) → lent_well l ≡ true → (i : ℕ) → i < (job_of l).size.count → allowed (job_of l) i Zero ≡ true
unfolding job_of allows
lent_zero_allowed l e i b = rw (div-one (entry_turns l.table i)) ((facts l e).turns_odd i b)

-- each box fits the sheet
pub lent_boxes_fit : (l : Lent) → lent_well l ≡ true → BoxesFit (job_of l)
unfolding job_of
lent_boxes_fit l e = record { columns_fit = (facts l e).columns_fit; rows_fit = (facts l e).rows_fit }

-- the start layout of a lent job, with locked placements that are inside in allowed turns, is what the documents say
pub lent_start_claims : (l : Lent) (v : Layout) → lent_well l ≡ true → LockedGiven (job_of l) v → StartClaims (job_of l) v (start (job_of l) v)
lent_start_claims l v e given = start_claims (job_of l) v (lent_boxes_fit l e) (lent_zero_allowed l e) given

-- the start layout of all its pieces is valid
pub lent_start_of_all_valid : (l : Lent) → lent_well l ≡ true → ValidLayout (job_of l) (start_of_all (job_of l))
lent_start_of_all_valid l e = start_of_all_valid (job_of l) (lent_boxes_fit l e) (lent_zero_allowed l e)

-- a valid layout has its locked placements
pub valid_given : (j : Job) (v : Layout) → ValidLayout j v → LockedGiven j v
valid_given j v h = record { one_per_piece = h.one_per_piece; inside_sheet = λ i l _. h.inside_sheet i l; turn_allowed = λ i l _. h.turn_allowed i l }

-- the program's run of a lent job begins with a valid layout
pub lent_start_valid : (l : Lent) → lent_well l ≡ true → ValidLayout (job_of l) (program_start (job_of l))
lent_start_valid l e =
    (lent_start_claims l (start_of_all (job_of l)) e (valid_given (job_of l) (start_of_all (job_of l)) (lent_start_of_all_valid l e))).valid

-- demand 3 holds of every run from there by weights 1
pub lent_demand3 : (l : Lent) → lent_well l ≡ true → Demand3 (job_of l) (unit_weights (job_of l).size.count) (program_start (job_of l))
lent_demand3 l e = demand3 (job_of l) (unit_weights (job_of l).size.count) (program_start (job_of l)) (unit_valid (job_of l)) (lent_start_valid l e)

-- the corner of a piece of a layout that passes lies in the sheet
pub corner_within : (l : Lent) (es : List (List ℕ)) → Laid l es → (i : ℕ) → i < l.size.count
    → ((place_of (layout_of es) i).x.0 ≤ column_bound) × ((place_of (layout_of es) i).y.0 ≤ row_bound)
unfolding inside job_of
corner_within l es laid i b =
    let p = place_of (layout_of es) i in
    let m : Facts l = facts l laid.well in
    let r = m.few_rows in
    let c = m.few_columns in
    let right = p.x.0 + (turned_piece (job_of l) i p.turn).columns in
    let top = p.y.0 + (turned_piece (job_of l) i p.turn).rows in
    let e : (leb right l.size.columns && leb top l.size.rows) ≡ true = laid.valid.inside_sheet i b in (
      omega (arith, leb-true right l.size.columns (and_left _ _ e)),
      omega (arith, leb-true top l.size.rows (and_right (leb right l.size.columns) _ e)),
    )
