-- The mover's track: what it asks for, that it is the mover's, and how many places it has at most. Assumes nothing.
use Rattle.list_laws.proofs.Kit.{◌≡◌, subst, sym, Bool, false, true, leb, ◌+◌, ◌-◌, ◌<◌, ◌≤◌, suc, ℕ, le_trans, arith, length}
use Rattle.model.specs.Piece.{extent, other, held, line_direction, gap_bound}
use Rattle.model.specs.Layout.{Job, sheet_extent, turned_piece}
use Rattle.model.specs.Search.{places}
use Rattle.model.specs.Lent.{Lent, job_of, lent_well}
use Rattle.model.specs.declared.Direction.{Direction}
use Rattle.model.specs.declared.Direction.TheVariants.{Horizontal, Vertical}
use Rattle.model.specs.declared.Turn.{Turn}
use Rattle.model.specs.declared.Line.{Line}
use Rattle.strip_laws.proofs.Tight.{tight_side}
use Rattle.job_laws.proofs.Checked.{facts}
use Rattle.call_laws.proofs.Jobs.{lent_tight}
use Rattle.search_tracks.specs.declared.Mover.{Mover}
use Rattle.search_tracks.specs.declared.Track.{Track}
use Rattle.search_tracks.specs.Boxes.{track_of, SmallTrack}
use Rattle.search_tracks.proofs.Tracks.{grown_extent_of}
use Rattle.search_beside.specs.Ready.{OnTrack}

-- the mover has its entry, and the sheet its bounds
pub track_asked : (l : Lent) (i : ℕ) → lent_well l ≡ true → i < l.size.count
    → ((i < length l.table) × ((l.size.columns ≤ 4096) × (l.size.rows ≤ 4096)))
    × (l.size.gap ≤ gap_bound)
track_asked l i w b =
    let e = (facts l w).entries in
    let c = (facts l w).few_columns in
    let r = (facts l w).few_rows in
    ((omega arith, (omega arith, omega arith)), (facts l w).small_gap)

-- a line has no more places than the sheet has pixels along it, for a box of some
places_few : (j : Job) (i : ℕ) (t : Turn) (line : Line) → 1 ≤ extent (line_direction line) (turned_piece j i t)
    → places j i t line ≤ sheet_extent (line_direction line) j
unfolding places
places_few j i t line some =
    go (leb (held line + extent (other (line_direction line)) (turned_piece j i t)) (sheet_extent (other (line_direction line)) j))
  where
    go : (b : Bool)
        → elim b as (λ _. ℕ) [ true ↦ suc (sheet_extent (line_direction line) j) - extent (line_direction line) (turned_piece j i t) | false ↦ 0 ]
        ≤ sheet_extent (line_direction line) j
    go true = omega arith
    go false = omega arith

-- and a sheet has at most 4,096 along any line
sheet_few : (l : Lent) → lent_well l ≡ true → (d : Direction) → sheet_extent d (job_of l) ≤ 4096
unfolding job_of
sheet_few l w Horizontal = (facts l w).few_columns
sheet_few l w Vertical = let r = (facts l w).few_rows in omega arith

-- the mover's track
pub on_track : (l : Lent) (m : Mover) (t : Track) → lent_well l ≡ true → m.piece < l.size.count → t ≡ track_of (job_of l) m → SmallTrack t → OnTrack l m t
unfolding job_of
on_track l m t w b e s =
    let d = line_direction m.line in
    let side = tight_side d (turned_piece (job_of l) m.piece m.turn) (lent_tight l w m.piece m.turn b) in
    record {
      is = e;
      small = s;
      some = subst (λ (z : Track). 0 < z.length) (sym e) (let g = grown_extent_of d (job_of l) m.piece m.turn in omega arith);
      few = subst (λ (z : Track). z.places ≤ 4096) (sym e)
          (le_trans (places_few (job_of l) m.piece m.turn m.line side) (sheet_few l w d));
      piece = b;
    }

-- it has at most 4,096 places
pub places_most : (l : Lent) (m : Mover) (t : Track) → OnTrack l m t → t.places ≤ 4096
places_most l m t o = o.few
