-- `layout_slides::slide` meets its contract: the entry of the piece is that of the placement moved back by the room, and the others stay.
-- Assumes nothing.
use Rattle.list_laws.proofs.Kit.{◌∙◌, ◌≡◌, ap, ap₂, sym, List, ◌-◌, ℕ, arith, set, rules}
use Rattle.model.specs.Piece.{along, corner}
use Rattle.model.specs.Layout.{place_of}
use Rattle.model.specs.Compact.{slid_to, slide_of, slide}
use Rattle.model.specs.Lent.{Lent, lent_by, job_of}
use Rattle.model.specs.Buffer.{layout_of, entries_of, entry_of}
use Rattle.model.specs.declared.Placement.{Placement}
use Rattle.text_laws.proofs.Entries.{layout_set, written_set}
use Rattle.job_laws.proofs.Checked.{facts}
use Rattle.compact_laws.proofs.Slides.{slide_first}
use Rattle.layout_slides.proofs.Rooms.{entry_there}
use Rattle.layout_slides.proofs.slide.Statement.{statement}
use Rattle.layout_slides.proofs.slide.Tie as tie

-- the lent job
abbrev lent : tie.Start → Lent
lent s = lent_by s.args.size s.args.table.now s.args.pixels.now

slide_room-room-requires : tie.Need-slide_room-room-requires
slide_room-room-requires c κs = let s : tie.Start = search in (s.requires.0, s.requires.1.0)

place_at-place-requires : tie.Need-place_at-place-requires
place_at-place-requires c κs = let s : tie.Start = search in entry_there _ (lent s) _ _ _ s.requires.0 _ s.requires.1.0

moved_back-requires : tie.Need-moved_back-requires
moved_back-requires c κs =
    let s : tie.Start = search in
    let asked : tie.After-slide_room-room = search in
    let placed : tie.After-place_at-place = search in
    let a = s.args in
    let within = (slide_first a.direction (job_of (lent s)) a.i (layout_of a.layout.now)).within in
    rw (asked.slide_room-room.ensures, placed.place_at-place.ensures) within

offset_bounds-layout-i : tie.Need-offset_bounds-layout-i
offset_bounds-layout-i c =
    let s : tie.Start = search in
    let i = s.requires.1.0 in
    let few = (facts (lent s) s.requires.0.laid.well).few_pieces in
    omega arith

bounds-layout-i : tie.Need-bounds-layout-i
bounds-layout-i c = let s : tie.Start = search in entry_there _ (lent s) _ _ _ s.requires.0 _ s.requires.1.0

returns : tie.Need-returns
unfolding slide
returns c =
    let s : tie.Start = search in
    let asked : tie.After-slide_room-room = search in
    let placed : tie.After-place_at-place = search in
    let moved : tie.After-moved_back = search in
    let wrote : tie.After-entry_of = search in
    let a = s.args in
    let es : List (List ℕ) = a.layout.now in
    let d = a.direction in
    let p = place_of (layout_of es) a.i in
    let q : Placement = slid_to d p (along d (corner p) - slide_of d (job_of (lent s)) a.i (layout_of es)) in
    let e : moved.moved_back.result ≡ q =
    moved.moved_back.ensures
    ∙ ap₂ (λ (z : Placement) (n : ℕ). slid_to d z (along d (corner z) - n)) placed.place_at-place.ensures asked.slide_room-room.ensures in (
      asked.slide_room-room.ensures,
      ap (set es a.i) (wrote.entry_of.ensures ∙ ap entry_of e)
          ∙ sym (written_set es a.i q s.requires.1.1)
          ∙ ap entries_of (layout_set es a.i q),
    )

pub slide_spec : {M : Type 1} → statement M
slide_spec =
    tie.close (tie.spec
    slide_room-room-requires place_at-place-requires moved_back-requires (search rules) offset_bounds-layout-i bounds-layout-i (search rules) returns)
