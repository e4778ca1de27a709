-- `layout_lines`: a sheet has at most 65,536 pixels, so that there is room for their owners; the lines between different owners are the
-- layout's. Assumes nothing.
use Rattle.list_laws.proofs.Kit.{◌≡◌, ◌++◌, ◌*◌, ◌≤◌, List, ℕ, arith, drop, length, length-append, length-take-le, take, take_at, rules}
use Rattle.model.specs.Lent.{lent_by, job_of, area_bound}
use Rattle.model.specs.Buffer.{layout_of}
use Rattle.model.specs.Cut.{cut_lines}
use Rattle.list_laws.proofs.Lists.{front_length}
use Rattle.job_laws.proofs.Checked.{facts}
use Rattle.cut_list.specs.Owned.{owned_lines}
use Rattle.cut_list.proofs.Owned.{owned_lines_lem}
use Rattle.cut_list.proofs.layout_lines.Statement.{statement}
use Rattle.cut_list.proofs.layout_lines.Tie as tie

-- the sheet's pixels
abbrev pixelCount : tie.Start → ℕ
pixelCount s = s.args.size.rows * s.args.size.columns

-- there is room for them
enough : (s : tie.Start) → pixelCount s ≤ length s.args.owners.now
enough s =
    let area = (facts _ s.requires.0.laid.well).area in
    let most = s.requires.1 in omega arith

-- and no number of them overflows
few : (s : tie.Start) → pixelCount s ≤ area_bound
few s = (facts _ s.requires.0.laid.well).area

overflow_mul-n : tie.Need-overflow_mul-n
overflow_mul-n c = let s : tie.Start = search in let h = few s in omega arith

slice_bounds-paint-end : tie.Need-slice_bounds-paint-end
slice_bounds-paint-end c = let s : tie.Start = search in enough s

slice_bounds-paint-end-2 : tie.Need-slice_bounds-paint-end-2
slice_bounds-paint-end-2 c = let s : tie.Start = search in front_length _ s.args.owners.now (enough s)

paint-requires : tie.Need-paint-requires
paint-requires c κs =
    let s : tie.Start = search in
    (s.requires.0.laid, length-take-le (pixelCount s) s.args.owners.now (enough s))

-- the owners
abbrev made : tie.After-paint → List ℕ
made p = p.paint.new.owners

made-full : (p : tie.After-paint) → let s : tie.Start = search in length (made p) ≡ pixelCount s
unfolding job_of
made-full p = p.paint.ensures.full

slice_bounds-lines_of-end : tie.Need-slice_bounds-lines_of-end
slice_bounds-lines_of-end c =
    let s : tie.Start = search in
    let p : tie.After-paint = search in
    let full = made-full p in simp length-append (omega arith)

slice_bounds-lines_of-end-2 : tie.Need-slice_bounds-lines_of-end-2
slice_bounds-lines_of-end-2 c =
    let s : tie.Start = search in
    let p : tie.After-paint = search in
    let full = made-full p in
    front_length _ (made p ++ drop (pixelCount s) s.args.owners.now) (simp length-append (omega arith))

lines_of-requires : tie.Need-lines_of-requires
lines_of-requires c κs =
    let s : tie.Start = search in
    let f = facts _ s.requires.0.laid.well in
    let rows = f.few_rows in
    record { rows = omega arith; columns = f.few_columns }

returns : tie.Need-returns
unfolding job_of
returns c =
    let s : tie.Start = search in
    let p : tie.After-paint = search in
    let a = s.args in
    let front : take (pixelCount s) (made p ++ drop (pixelCount s) a.owners.now) ≡ made p =
    take_at (made p) (drop (pixelCount s) a.owners.now) (pixelCount s) (made-full p) in
    let j = job_of (lent_by a.size a.table.now a.pixels.now) in
    let owned : owned_lines a.size (made p) ≡ cut_lines j (layout_of a.layout.now) =
    owned_lines_lem j (layout_of a.layout.now) (made p) p.paint.ensures s.requires.0.laid.valid s.requires.0.apart in
    rw (front, owned) at c.before.lines_of.ensures

pub layout_lines_spec : {M : Type 1} → statement M
layout_lines_spec =
    tie.close (tie.spec
    overflow_mul-n slice_bounds-paint-end slice_bounds-paint-end-2 paint-requires slice_bounds-lines_of-end slice_bounds-lines_of-end-2
    lines_of-requires (search rules) (search rules) returns)
