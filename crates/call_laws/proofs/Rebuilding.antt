-- Document 01, 'Strips' and the refusals of rebuilding: the cause of 8 is there exactly where no panel of the box has just the lent
-- strips, and what rebuilding writes is the pixels of each panel that has them. The test rebuilds the set and compares its strips; a
-- panel that has the strips is that set again, and sets with the same box and pixels have the same bytes. Assumes nothing.
use Rattle.list_laws.proofs.Kit.{◌∙◌, ◌≡◌, ap, ap₂, refl, subst, sym, ◌&&◌, not, true, ◌↔◌, List, [], ◌∷◌, map, ◌%◌, ◌*◌, ◌+◌, ◌/◌, ◌<◌, ◌≤◌, suc, zero, ℕ}
use Rattle.list_laws.proofs.Kit.{div-lt_iff_lt-mul, mod-lt, mul_comm, arith, le-ltb, not-false}
use Rattle.model.specs.Bounded.{one_if}
use Rattle.model.specs.Piece.{Shape, tight, side_bound}
use Rattle.model.specs.Strip.{Strip, strips, rebuilt}
use Rattle.model.specs.Buffer.{strip_entry, entry_strip, bytes_from, bytes_of, same_entries}
use Rattle.model.specs.Lent.{up_to}
use Rattle.model.specs.Refusal.{given}
use Rattle.model.specs.Calls.{rebuilt_from, strips_well, rebuild_call}
use Rattle.model.specs.declared.Direction.{Direction}
use Rattle.model.specs.declared.Direction.TheVariants.{Horizontal}
use Rattle.list_laws.proofs.Equal.{same_entries_lem, same_entries_exactly}
use Rattle.list_laws.proofs.Tests.{and_left, and_right, and_both}
use Rattle.list_laws.proofs.Numbers.{factor_positive}
use Rattle.text_laws.proofs.Outcomes.{given_unless, unless_given}
use Rattle.strip_laws.specs.Boxes.{SameShape}
use Rattle.strip_laws.proofs.Boxes.{same_cell}
use Rattle.strip_laws.specs.Strips.{HasStrips}
use Rattle.strip_laws.proofs.Rebuild.{rebuilt_columns, rebuilt_rows, rebuilt_only}
use Rattle.strip_laws.proofs.ValidStrips.{PieceHas, piece_exactly, valid_rebuilt}
use Rattle.call_laws.specs.Rebuilding.{PieceOf, RebuildClaims, RebuiltAs}

-- ── bytes ──

-- sets with the same box and pixels have the same bytes from number k on
bytes_agree : (s u : Shape) → SameShape s u → (k left : ℕ) → k + left ≤ s.columns * s.rows → bytes_from s k left ≡ bytes_from u k left
unfolding bytes_from
bytes_agree s u h k zero b = refl
bytes_agree s u h k (suc left) b =
    let some : 0 < s.columns = factor_positive s.columns s.rows (omega arith) in
    let row : k / s.columns < s.rows = (div-lt_iff_lt-mul some).1 (omega (arith, mul_comm s.columns s.rows)) in
    let here : s.has (k % s.columns) (k / s.columns) ≡ u.has (k % u.columns) (k / u.columns) =
    same_cell Horizontal s u h (k % s.columns) (k / s.columns) (mod-lt k some) row
    ∙ ap (λ (l : ℕ). u.has (k % l) (k / l)) h.columns in
    ap₂ (λ (a : ℕ) (l : List ℕ). a ∷ l) (ap one_if here) (bytes_agree s u h (suc k) left (omega arith))

-- sets with the same box and pixels have the same bytes
pub same_bytes : (s u : Shape) → SameShape s u → bytes_of s ≡ bytes_of u
same_bytes s u h = bytes_agree s u h 0 (s.columns * s.rows) (omega arith) ∙ ap₂ (λ (l w : ℕ). bytes_from u 0 (l * w)) h.columns h.rows

-- ── strips as entries ──

-- strips are read back from their entries
pub strips_read_back : (ts : List Strip) → map entry_strip (map strip_entry ts) ≡ ts
strips_read_back [] = refl
strips_read_back (t ∷ ts) = ap (λ (l : List Strip). t ∷ l) (strips_read_back ts)

-- the strips of the rebuilt set, where the test passes
well_strips : (d : Direction) (l w : ℕ) (ts : List Strip) → same_entries (map strip_entry (strips d (rebuilt d l w ts))) (map strip_entry ts) ≡ true
    → strips d (rebuilt d l w ts) ≡ ts
well_strips d l w ts e =
    sym (strips_read_back (strips d (rebuilt d l w ts)))
    ∙ ap (λ (es : List (List ℕ)). map entry_strip es) (same_entries_lem (map strip_entry (strips d (rebuilt d l w ts))) (map strip_entry ts) e)
    ∙ strips_read_back ts

-- the test of strips passes exactly where a piece of the box has just these strips
pub strips_well_exactly : (d : Direction) (l w : ℕ) (ts : List Strip) → (strips_well d l w (map strip_entry ts) ≡ true) ↔ PieceHas d l w ts
unfolding strips_well
strips_well_exactly d l w ts = (
  λ e.
      let both : (tight (rebuilt d l w ts) && same_entries (map strip_entry (strips d (rebuilt d l w ts))) (map strip_entry ts)) ≡ true =
      rw (strips_read_back ts) at e in
      record {
        shape = rebuilt d l w ts;
        has = record {
          columns = rebuilt_columns d l w ts;
          rows = rebuilt_rows d l w ts;
          are = well_strips d l w ts (and_right (tight (rebuilt d l w ts)) _ both);
        };
        is_tight = and_left (tight (rebuilt d l w ts)) _ both;
      },
  λ h.
      let v = (piece_exactly d l w ts).0 h in
      rw (strips_read_back ts)
      (and_both v.1 ((same_entries_exactly _ _).1 (ap (λ (us : List Strip). map strip_entry us) (valid_rebuilt d l w ts v.0)))),
)

-- ── the call ──

-- where the test passes, the rebuilt set is such a piece
pub well_piece : (d : Direction) (l w : ℕ) (es : List (List ℕ)) → strips_well d l w es ≡ true → PieceOf d l w es (rebuilt_from d l w es)
unfolding strips_well
well_piece d l w es e =
    let s : Shape = rebuilt_from d l w es in
    record {
      columns = rebuilt_columns d l w (map entry_strip es);
      rows = rebuilt_rows d l w (map entry_strip es);
      is_tight = and_left (tight s) _ e;
      are = same_entries_lem (map strip_entry (strips d s)) es (and_right (tight s) _ e);
    }

-- the strips of such a piece are those that the entries are read as
piece_strips_lem : (d : Direction) (l w : ℕ) (es : List (List ℕ)) (s : Shape) → PieceOf d l w es s → HasStrips d l w (map entry_strip es) s
piece_strips_lem d l w es s p =
    record {
      columns = p.columns;
      rows = p.rows;
      are = sym (strips_read_back (strips d s)) ∙ ap (λ (xs : List (List ℕ)). map entry_strip xs) p.are;
    }

-- where there is such a piece, the test passes
pub piece_well : (d : Direction) (l w : ℕ) (es : List (List ℕ)) (s : Shape) → PieceOf d l w es s → strips_well d l w es ≡ true
piece_well d l w es s p =
    let h : PieceHas d l w (strips d s) =
    record { shape = s; has = record { columns = p.columns; rows = p.rows; are = refl }; is_tight = p.is_tight } in
    subst (λ (xs : List (List ℕ)). strips_well d l w xs ≡ true) p.are ((strips_well_exactly d l w (strips d s)).1 h)

-- the cause of refusal 8 of rebuilding is not there exactly where some piece of the box has just the lent strips
pub strips_well_piece : (d : Direction) (l w : ℕ) (es : List (List ℕ)) → (strips_well d l w es ≡ true) ↔ ((s : Shape) × PieceOf d l w es s)
strips_well_piece d l w es = (λ e. (rebuilt_from d l w es, well_piece d l w es e), λ h. piece_well d l w es h.0 h.1)

-- it is so, whatever is lent
pub rebuild_given : (d : Direction) (l w : ℕ) (es : List (List ℕ)) (room : ℕ) (s : Shape) → rebuild_call d l w es room ≡ given s
    → RebuildClaims d l w es s
unfolding rebuild_call
rebuild_given d l w es room s e =
    let u = given_unless _ (rebuilt_from d l w es) s e in
    let well : strips_well d l w es ≡ true = not-false (strips_well d l w es) u.none.1.0 in
    let same : (v : Shape) → PieceOf d l w es v → SameShape (rebuilt_from d l w es) v =
    λ v p. rebuilt_only d l w (map entry_strip es) v (piece_strips_lem d l w es v p) in
    rw (← u.same)
    (record { piece = well_piece d l w es well; only = same; bytes = λ v p. same_bytes (rebuilt_from d l w es) v (same v p) })

-- they are, where they are its strips, its sides are 1 to 255 and the pixel buffer has room for its box
pub rebuilt_back : (d : Direction) (es : List (List ℕ)) (s : Shape) (room : ℕ) → PieceOf d s.columns s.rows es s
    → up_to side_bound s.columns ≡ true → up_to side_bound s.rows ≡ true → s.columns * s.rows ≤ room → RebuiltAs d es s room
unfolding rebuild_call
rebuilt_back d es s room piece c r space =
    let again : Shape = rebuilt_from d s.columns s.rows es in
    let gives : rebuild_call d s.columns s.rows es room ≡ given again =
    unless_given _ again (ap not (and_both c r), (ap not (piece_well d s.columns s.rows es s piece), (le-ltb _ _ space, tt))) in
    let claims : RebuildClaims d s.columns s.rows es again = rebuild_given d s.columns s.rows es room again gives in
    record { shape = again; gives = gives; same = claims.only s piece; bytes = claims.bytes s piece }
