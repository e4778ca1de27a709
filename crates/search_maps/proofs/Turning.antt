-- A piece in the opposite turn is the piece turned by half, so its strips are those that a map of the moved piece is made from. Assumes nothing.
use Rattle.list_laws.proofs.Kit.{◌∙◌, ◌≡◌, ap, ap₂, refl, subst₂, sym, List, map, ◌-◌, ◌<◌, ◌≤◌, ℕ, arith}
use Rattle.list_laws.proofs.Tests.{same_tests}
use Rattle.model.specs.Piece.{Shape, pixel, other, extent, turned}
use Rattle.model.specs.Strip.{Strip}
use Rattle.model.specs.Buffer.{strip_entry}
use Rattle.model.specs.declared.Direction.{Direction}
use Rattle.model.specs.declared.Direction.TheVariants.{Horizontal, Vertical}
use Rattle.model.specs.declared.Turn.{Turn}
use Rattle.model.specs.declared.Turn.TheVariants.{Zero, Quarter, Half, ThreeQuarters}
use Rattle.strip_laws.specs.Boxes.{InBox, SameShape}
use Rattle.strip_laws.proofs.Boxes.{pixel_in_box, pixel_in, same_extent}
use Rattle.strip_laws.proofs.Strips.{strips_agree}
use Rattle.overlap_laws.specs.Grown.{grown}
use Rattle.pair_overlap.specs.Seen.{entries}
use Rattle.search_maps.specs.Map.{opposite, sides_of, extra_limit, StripsIn, MovedIn}
use Rattle.search_maps.proofs.Fitting.{strips_in_lem}
use Rattle.search_maps.proofs.Shared.{half_extent}

-- shapes of one box whose sets agree in it
pub same_in_box : (s u : Shape) → s.columns ≡ u.columns → s.rows ≡ u.rows
    → ((x y : ℕ) → x < s.columns → y < s.rows → s.has x y ≡ u.has x y) → SameShape s u
same_in_box s u l w h =
    record {
      columns = l;
      rows = w;
      pixels = λ p.
          same_tests (pixel s p) (pixel u p)
          (λ e.
          let b = pixel_in_box s p e in
          let c : InBox u p = record { column = omega (arith, b.column); row = omega (arith, b.row) } in
          pixel_in u p c ∙ sym (h p.x p.y b.column b.row) ∙ sym (pixel_in s p b) ∙ e)
          (λ e.
          let c = pixel_in_box u p e in
          let b : InBox s p = record { column = omega (arith, c.column); row = omega (arith, c.row) } in
          pixel_in s p b ∙ h p.x p.y b.column b.row ∙ sym (pixel_in u p c) ∙ e);
    }

-- half a turn after a turn is the opposite turn
pub half_after : (t : Turn) (s : Shape) → SameShape (turned (opposite t) s) (turned Half (turned t s))
half_after Zero s = same_in_box (turned Half s) (turned Half s) refl refl (λ x y l m. refl)
half_after Quarter s =
    same_in_box (turned ThreeQuarters s) (turned Half (turned Quarter s)) refl refl (λ x y l m. ap₂ s.has refl (omega arith))
half_after Half s = same_in_box s (turned Half (turned Half s)) refl refl (λ x y l m. ap₂ s.has (omega arith) (omega arith))
half_after ThreeQuarters s =
    same_in_box (turned Quarter s) (turned Half (turned ThreeQuarters s)) refl refl (λ x y l m. ap₂ s.has (omega arith) refl)

-- the strips of a piece in the opposite turn are those that `make_map` asks for
pub opposite_entries : (d : Direction) (t : Turn) (s : Shape) → entries d (turned (opposite t) s) ≡ entries d (turned Half (turned t s))
opposite_entries d t s = ap (λ (ts : List Strip). map strip_entry ts) (strips_agree d (turned (opposite t) s) (turned Half (turned t s)) (half_after t s))

-- and they lie in the piece's box
pub opposite_in : (d : Direction) (t : Turn) (s : Shape)
    → StripsIn (extent d (turned t s)) (extent (other d) (turned t s)) (entries d (turned (opposite t) s))
opposite_in d t s =
    let h = half_after t s in
    subst₂ (λ (a c : ℕ). StripsIn a c (entries d (turned (opposite t) s)))
    (same_extent d (turned (opposite t) s) (turned Half (turned t s)) h ∙ half_extent d (turned t s))
    (same_extent (other d) (turned (opposite t) s) (turned Half (turned t s)) h ∙ half_extent (other d) (turned t s))
    (strips_in_lem d (turned (opposite t) s))

-- a grown box without its growth
ungrown : (d : Direction) (s : Shape) (extra : ℕ) → extent d s ≡ extent d (grown extra s) - extra
ungrown Horizontal s extra = omega arith
ungrown Vertical s extra = omega arith

-- so they lie as `make_map` asks for, where the piece is grown
pub opposite_moved : (d : Direction) (t : Turn) (s u : Shape) (extra : ℕ) → extra ≤ extra_limit
    → MovedIn (sides_of d (grown extra (turned t s)) u) extra (entries d (turned (opposite t) s))
opposite_moved d t s u extra l =
    record {
      few = l;
      strips = subst₂ (λ (a c : ℕ). StripsIn a c (entries d (turned (opposite t) s))) (ungrown d (turned t s) extra) (ungrown (other d) (turned t s) extra)
          (opposite_in d t s);
    }
