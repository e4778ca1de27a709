-- Document 01, 'Start, layout text, sheet': a turn as degrees and a placement as an entry of a layout buffer are read back as they
-- were, and an entry of three numbers whose first is the degrees of a turn comes back too. Assumes nothing.
use Rattle.list_laws.proofs.Kit.{◌∙◌, ◌≡◌, ap, ap₂, refl, sym, Bool, false, false≢true, true, List, [], ◌∷◌, ◌<◌, suc, zero, ℕ, arith, eqb, eqb-true, get_or, length, set}
use Rattle.list_laws.proofs.Lists.{map_set}
use Rattle.model.specs.Piece.{degrees}
use Rattle.model.specs.Layout.{Layout, place_of, with_place}
use Rattle.model.specs.Buffer.{turn_of_degrees, turn_passes, is_turn, turn_of, entry_of, placement_of, entries_of, layout_of}
use Rattle.model.specs.declared.Turn.{Turn}
use Rattle.model.specs.declared.Turn.TheVariants.{Zero, Quarter, Half, ThreeQuarters}
use Rattle.model.specs.declared.Placement.{Placement}

-- the turn of a turn's degrees
pub turn_of_degrees_lem : (t : Turn) → turn_of (degrees t) ≡ t
unfolding turn_of turn_of_degrees
turn_of_degrees_lem Zero = refl
turn_of_degrees_lem Quarter = refl
turn_of_degrees_lem Half = refl
turn_of_degrees_lem ThreeQuarters = refl

-- a turn's degrees are those of a turn
pub degrees_turn : (t : Turn) → is_turn (degrees t) ≡ true
unfolding is_turn turn_of_degrees
degrees_turn Zero = refl
degrees_turn Quarter = refl
degrees_turn Half = refl
degrees_turn ThreeQuarters = refl

-- the degrees of the turn that they are
pub degrees_of_turn : (d : ℕ) → is_turn d ≡ true → degrees (turn_of d) ≡ d
unfolding is_turn turn_of turn_of_degrees
degrees_of_turn d e = go (eqb d 0) (eqb d 90) (eqb d 180) (eqb d 270) refl refl refl refl
  where
    go : (a b c f : Bool) → eqb d 0 ≡ a → eqb d 90 ≡ b → eqb d 180 ≡ c → eqb d 270 ≡ f → degrees (turn_of d) ≡ d
    go true b c f p q r s = rw (p, turn_of) (sym (eqb-true d 0 p))
    go false true c f p q r s = rw (p, q, turn_of) (sym (eqb-true d 90 q))
    go false false true f p q r s = rw (p, q, r, turn_of) (sym (eqb-true d 180 r))
    go false false false true p q r s = rw (p, q, r, s, turn_of) (sym (eqb-true d 270 s))
    go false false false false p q r s = absurd (false≢true (rw (p, q, r, s, is_turn, turn_passes) at e))

-- a placement's entry is read as the placement
pub entry_read_back : (p : Placement) → placement_of (entry_of p) ≡ p
entry_read_back p = ap (λ (t : Turn). record { turn = t; x = p.x; y = p.y }) (turn_of_degrees_lem p.turn)

-- a layout buffer with one entry written anew has the placement
pub layout_set : (es : List (List ℕ)) (i : ℕ) (p : Placement) → layout_of (set es i (entry_of p)) ≡ with_place (layout_of es) i p
layout_set es i p = map_set placement_of es i (entry_of p) ∙ ap (set (layout_of es) i) (entry_read_back p)

-- an entry is written as it was read
pub entry_written_back : (d x y : ℕ) → is_turn d ≡ true → entry_of (placement_of (d ∷ x ∷ y ∷ [])) ≡ d ∷ x ∷ y ∷ []
entry_written_back d x y e = ap (λ (a : ℕ). a ∷ x ∷ y ∷ []) (degrees_of_turn d e)

-- a layout's entries are read as the layout
pub entries_read_back : (v : Layout) → layout_of (entries_of v) ≡ v
entries_read_back [] = refl
entries_read_back (p ∷ v) = ap₂ (λ (q : Placement) (w : Layout). q ∷ w) (entry_read_back p) (entries_read_back v)

-- entry i of a layout's buffer
pub entry_at : (v : Layout) (i : ℕ) → i < length v → get_or (entries_of v) i [] ≡ entry_of (place_of v i)
entry_at [] i l = absurd (omega arith)
entry_at (p ∷ v) zero l = refl
entry_at (p ∷ v) (suc i) l = entry_at v i (omega arith)

-- a buffer that holds its layout as it is written still does
pub written_set : (es : List (List ℕ)) (i : ℕ) (p : Placement) → entries_of (layout_of es) ≡ es
    → entries_of (layout_of (set es i (entry_of p))) ≡ set es i (entry_of p)
written_set es i p e = ap entries_of (layout_set es i p) ∙ map_set entry_of (layout_of es) i p ∙ ap (λ (z : List (List ℕ)). set z i (entry_of p)) e
