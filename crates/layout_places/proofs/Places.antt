-- Placements in a layout buffer, found in their entries, and what the answers for a turn say. Assumes nothing.
use Rattle.list_laws.proofs.Kit.{◌≡◌, refl, ◌&&◌, false, Option, none, some, List, [], ◌+◌, ◌<◌, ℕ, arith, leb, get_or-map, get_or}
use Rattle.model.specs.Piece.{turn_bit, allows}
use Rattle.model.specs.Layout.{Job, inside, place_of, turned_piece}
use Rattle.model.specs.Buffer.{turn_of, turn_of_degrees, placement_of, layout_of}
use Rattle.model.specs.declared.Placement.{Placement}
use Rattle.model.specs.declared.Turn.{Turn}
use Rattle.model.specs.declared.Turn.TheVariants.{Zero, Quarter, Half, ThreeQuarters}
use Rattle.std.specs.Prelude.{Bool, Some, None, unwrap_or, MatchOption}
use Rattle.std.specs.Prelude as std
use Rattle.layout_places.specs.Answers.{turn_answer}
use Rattle.piece_pixels.specs.Turned.{sides_of}
use Rattle.piece_pixels.specs.declared.Sides.{Sides}

-- a turn's part of the sum of turns is not 0
pub bit_positive : (t : Turn) → 0 < turn_bit t
bit_positive Zero = omega arith
bit_positive Quarter = omega arith
bit_positive Half = omega arith
bit_positive ThreeQuarters = omega arith

-- the sum 0 has no turn in it
pub none_allowed : (t : Turn) → allows 0 t ≡ false
unfolding allows
none_allowed Zero = refl
none_allowed Quarter = refl
none_allowed Half = refl
none_allowed ThreeQuarters = refl

-- where no turn is answered, there is none
pub unknown_none : (o : Option Turn) → None ≡ turn_answer o → o ≡ none
unknown_none none e = refl
unknown_none (some t) e = cc

-- a turn that is answered is that turn
pub known_some : (o : Option Turn) (t : Turn) → Some t ≡ turn_answer o → o ≡ some t
known_some none t e = cc
known_some (some u) t e = cc

-- a turn that may be missing, with turn 0 in its place
pub known_or_zero : (o : Option Turn) → unwrap_or (turn_answer o) Zero ≡ elim o [ none ↦ Zero | some t ↦ t ]
known_or_zero none = refl
known_or_zero (some t) = refl

-- what is asked of a turn, and answered with no where there is none
pub asked_of_turn : (o : Option Turn) (r : std.Option Turn) (b : Bool) (P : Turn → Type 0) (test : Turn → Bool) → r ≡ turn_answer o
    → MatchOption r (b ≡ false) P → ((t : Turn) → P t → b ≡ test t) → b ≡ elim o [ none ↦ false | some t ↦ test t ]
asked_of_turn none r b P test e m h = rw e at m
asked_of_turn (some t) r b P test e m h = h t (rw e at m)

-- the placement of piece i in a layout buffer is that of its entry
pub place_of_entry : (es : List (List ℕ)) (i : ℕ) → place_of (layout_of es) i ≡ placement_of (get_or es i [])
unfolding turn_of turn_of_degrees
place_of_entry es i = get_or-map placement_of es i []

-- the inside test by the turned box's sides
pub inside_by_sides : (j : Job) (i : ℕ) (p : Placement) (s : Sides) → s ≡ sides_of (turned_piece j i p.turn)
    → inside j i p ≡ (leb (p.x.0 + s.columns) j.size.columns && leb (p.y.0 + s.rows) j.size.rows)
unfolding inside
inside_by_sides j i p s e = rw e
