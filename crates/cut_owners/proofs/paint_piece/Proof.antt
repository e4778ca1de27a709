-- `paint_piece`: a piece of a valid layout lies inside, so that its pixels may be marked. Assumes nothing.
use Rattle.list_laws.proofs.Kit.{◌<◌, arith, rules}
use Rattle.model.specs.Lent.{job_of}
use Rattle.job_laws.proofs.Checked.{facts}
use Rattle.cut_owners.proofs.paint_piece.Statement.{statement}
use Rattle.cut_owners.proofs.paint_piece.Tie as tie

-- piece numbers are below 64
few : (s : tie.Start) → s.args.i < 64
few s =
    let h = s.requires.1 in
    let n = (facts _ s.requires.0.well).few_pieces in omega arith

place_at-place-requires : tie.Need-place_at-place-requires
place_at-place-requires c κs =
    let s : tie.Start = search in
    let h = s.requires.1 in
    let n = s.requires.0.whole in omega arith

overflow_cast-owner : tie.Need-overflow_cast-owner
overflow_cast-owner c = let s : tie.Start = search in let h = few s in omega arith

overflow_add-owner : tie.Need-overflow_add-owner
overflow_add-owner c = let s : tie.Start = search in let h = few s in omega arith

move_piece-requires : tie.Need-move_piece-requires
unfolding job_of
move_piece-requires c κs =
    let s : tie.Start = search in
    let at_place : tie.After-place_at-place = search in
    let pre = s.requires in
    record { well = pre.0.well; piece = pre.1; within = rw at_place.place_at-place.ensures (pre.0.valid.inside_sheet s.args.i pre.1); full = pre.2 }

returns : tie.Need-returns
returns c =
    let at_place : tie.After-place_at-place = search in
    rw at_place.place_at-place.ensures at c.before.before.move_piece.ensures

pub paint_piece_spec : {M : Type 1} → statement M
paint_piece_spec = tie.close (tie.spec
    place_at-place-requires overflow_cast-owner overflow_add-owner move_piece-requires (search rules) returns)
