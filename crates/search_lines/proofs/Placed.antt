-- A kept line serves every two corners with its offset across: the penalty of two placed pieces depends on the difference of their corners
-- only, so a piece on a line reads its penalties with a standing piece from their line. Assumes nothing.
use Rattle.list_laws.proofs.Kit.{◌≡◌, refl, ◌+◌, ◌-◌, ℕ, arith}
use Rattle.model.specs.Piece.{Point, Shape, along, across, point, extent, corner, line_direction, held, on_line}
use Rattle.model.specs.Overlap.{penalty}
use Rattle.model.specs.Layout.{Job, Layout, corner_in}
use Rattle.model.specs.declared.Direction.{Direction}
use Rattle.model.specs.declared.Line.{Line}
use Rattle.model.specs.declared.Line.TheVariants.{InRow, InColumn}
use Rattle.model.specs.declared.Turn.{Turn}
use Rattle.overlap_laws.specs.Grown.{grown_piece, grown_in}
use Rattle.overlap_laws.proofs.Share.{same_difference, along_point, across_point}
use Rattle.overlap_laws.proofs.Penalty.{penalty_difference}
use Rattle.search_laws.specs.PieceSum.{penalty_on}
use Rattle.search_laws.specs.Lines.{middle, line_penalty}

-- where the corner of a placement on a line is along it, and across it
along_on : (line : Line) (t : Turn) (a : ℕ) → along (line_direction line) (corner (on_line line t a)) ≡ a
along_on (InRow r) t a = refl
along_on (InColumn c) t a = refl

across_on : (line : Line) (t : Turn) (a : ℕ) → across (line_direction line) (corner (on_line line t a)) ≡ held line
across_on (InRow r) t a = refl
across_on (InColumn c) t a = refl

-- penalties do not change when both corners are moved alike
pub line_penalty_at : (d : Direction) (s : Shape) (u : Point) (t : Shape) (v : Point) (o c : ℕ)
    → c + along d v ≡ along d u + (extent d s - 1) → o + across d u ≡ across d v + middle → penalty s u t v ≡ line_penalty d s t o c
unfolding line_penalty
line_penalty_at d s u t v o c e f =
    let along-u : along d (point d c middle) ≡ c = along_point d c middle in
    let across-u : across d (point d c middle) ≡ middle = across_point d c middle in
    let along-v : along d (point d (extent d s - 1) o) ≡ extent d s - 1 = along_point d (extent d s - 1) o in
    let across-v : across d (point d (extent d s - 1) o) ≡ o = across_point d (extent d s - 1) o in
    penalty_difference s u t v (point d c middle) (point d (extent d s - 1) o)
    (same_difference d u v (point d c middle) (point d (extent d s - 1) o) (omega arith) (omega arith))

-- piece i in the turn at coordinate a on the line, and piece k as the layout places it: place c of their line
pub line_on : (j : Job) (v : Layout) (i : ℕ) (t : Turn) (line : Line) (a k o c : ℕ)
    → c + along (line_direction line) (corner_in v k) ≡ a + (extent (line_direction line) (grown_piece j i t) - 1)
    → o + held line ≡ across (line_direction line) (corner_in v k) + middle
    → penalty_on j v i t line a k ≡ line_penalty (line_direction line) (grown_piece j i t) (grown_in j v k) o c
unfolding penalty_on
line_on j v i t line a k o c e f =
    let p : along (line_direction line) (corner (on_line line t a)) ≡ a = along_on line t a in
    let q : across (line_direction line) (corner (on_line line t a)) ≡ held line = across_on line t a in
    line_penalty_at (line_direction line) (grown_piece j i t) (corner (on_line line t a)) (grown_in j v k) (corner_in v k) o c (omega arith) (omega arith)
