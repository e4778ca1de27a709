-- The box of a turned piece, and where its pixels stand in the store. Assumes nothing.
use Rattle.list_laws.proofs.Kit.{◌≡◌, refl, List, [], ◌*◌, ◌+◌, ◌<◌, ◌≤◌, ℕ, mul-le-mul, arith}
use Rattle.model.specs.Piece.{turned}
use Rattle.model.specs.declared.Turn.{Turn}
use Rattle.model.specs.declared.Turn.TheVariants.{Zero, Quarter, Half, ThreeQuarters}
use Rattle.piece_pixels.specs.Turned.{stored_by, shown_by, sides_of, SmallPiece}
use Rattle.piece_pixels.specs.declared.TurnedPiece.{TurnedPiece}

-- a pixel of a small box stands among the box's first pixels
pub area_small : {p : TurnedPiece} {x y : ℕ} → SmallPiece p → x < p.columns → y < p.rows → y * p.columns + x < 65281
area_small {p} {x} {y} s a b =
    let l : p.columns ≤ 255 = s.columns in
    let r : p.rows ≤ 255 = s.rows in
    let k : y ≤ 255 = omega arith in
    let h : y * p.columns ≤ 255 * 255 = mul-le-mul k l in
    omega arith

-- the box does not depend on the pixels
same_sides : (t : Turn) (pixels : List ℕ) (p : TurnedPiece) → sides_of (turned t (stored_by [] p)) ≡ sides_of (turned t (stored_by pixels p))
same_sides Zero pixels p = refl
same_sides Quarter pixels p = refl
same_sides Half pixels p = refl
same_sides ThreeQuarters pixels p = refl

pub shown_sides : (pixels : List ℕ) (p : TurnedPiece) → sides_of (shown_by [] p) ≡ sides_of (shown_by pixels p)
shown_sides pixels p = same_sides p.turn pixels p
