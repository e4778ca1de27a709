-- Demand 2, the cover counts: "For every list of lay and withdraw calls from a fresh sheet, each pixel's count is the number of laid
-- pieces on it." Document 01, 'Start, layout text, sheet', says which pieces are laid: those whose last call that was not refused is
-- a lay; and that a piece that isn't laid has turn 0 and corner (0, 0). The last line is the claim, for every job of at most 64
-- pieces and every list of calls. The count is stated twice: by the sheet record, and by the calls alone.
-- What the words mean is in specs/CoverClaims. Why it is true: Counts keeps the counts equal to the record through each call; Last
-- follows a piece's entry through the list. Assumes nothing.
use Rattle.list_laws.proofs.Kit.{◌∙◌, ◌≡◌, ap, refl, subst, ◌&&◌, true, ◌⊎◌, inl, inr, Option, none, some, List, ◌*◌, ◌+◌, ◌<◌, ◌≤◌, ℕ, get_or}
use Rattle.model.specs.Bounded.{one_if}
use Rattle.model.specs.Piece.{Point, corner, covers}
use Rattle.model.specs.Layout.{Job, turned_piece}
use Rattle.model.specs.Lent.{piece_bound}
use Rattle.model.specs.Cover.{Sheet, blank, laid_at, entry_in, pixel_at, covers_pixel, fresh}
use Rattle.model.specs.Cover.{Call, laying, withdrawing, after_calls, laid_count, last_taken}
use Rattle.model.specs.declared.Entry.{Entry}
use Rattle.list_laws.proofs.Sums.{sum_agree}
use Rattle.list_laws.proofs.Tests.{clash}
use Rattle.cover_laws.specs.CoverClaims.{laid_pieces, lies_on, lying_pieces, LaidPiece, CoverHolds}
use Rattle.cover_laws.proofs.Counts.{LaidWell, reached_sound}
use Rattle.cover_laws.proofs.Last.{entry_after, LaidBy, entry_laid, last_names, reached_entry, reached_laid, reached_blank}
use Rattle.cover_laws.proofs.Pixels.{pixel_at_lem, number_below}

-- the number by coordinates is the number by the pixel's number
laid_pieces_lem : (j : Job) (es : List Entry) (k : ℕ) → laid_count j es k ≡ laid_pieces j es (pixel_at j k)
unfolding laid_count laid_pieces covers_pixel
laid_pieces_lem j es k = refl

-- the record and the calls say the same of piece i
lies_step : (j : Job) (i : ℕ) (q : Point) (o : Option Call)
    → ((entry_after o).laid && covers (turned_piece j i (entry_after o).place.turn) (corner (entry_after o).place) q) ≡ lies_on j i q o
lies_step j i q none = refl
lies_step j i q (some (laying m p)) = refl
lies_step j i q (some (withdrawing m)) = refl

-- a laid entry that is blank or laid well is laid well
laid_entry : (j : Job) (i : ℕ) (e : Entry) → e.laid ≡ true → (e ≡ blank) ⊎ LaidWell j i e → LaidWell j i e
laid_entry j i e laid (inl q) = absurd (clash laid (ap (λ (x : Entry). x.laid) q))
laid_entry j i e laid (inr w) = w

module _ (j : Job) (few : j.size.count ≤ piece_bound) (cs : List Call) where
  -- the sheet after the calls
  abbrev after : Sheet
  after = after_calls j (fresh j) cs

  -- the record and the calls count the same pieces on a pixel
  lying_pieces_lem : (q : Point) → laid_pieces j after.pieces q ≡ lying_pieces j cs q
  unfolding laid_pieces lying_pieces
  lying_pieces_lem q =
      sum_agree j.size.count _ (λ i. one_if (lies_on j i q (last_taken j (fresh j) i none cs)))
      (λ i l. rw (reached_entry j few i cs) (ap one_if (lies_step j i q (last_taken j (fresh j) i none cs))))

  -- each pixel's count is the number of laid pieces on it
  count_at : (x y : ℕ) → x < j.size.columns → y < j.size.rows
      → get_or after.counts (y * j.size.columns + x) 0 ≡ laid_pieces j after.pieces (record { x = x; y = y })
  count_at x y l l' =
      let k = y * j.size.columns + x in
      (reached_sound j few cs).count k (number_below j x y l l') ∙ laid_pieces_lem j after.pieces k
      ∙ ap (λ (q : Point). laid_pieces j after.pieces q) (pixel_at_lem j x y l)

  -- a laid piece lies where the last of its given calls put it
  piece_placed : (i : ℕ) → (entry_in after.pieces i).laid ≡ true → LaidPiece j cs after i
  piece_placed i e =
      let last = last_taken j (fresh j) i none cs in
      let same = reached_entry j few i cs in
      let by : LaidBy i last = entry_laid i last (last_names j (fresh j) i none cs tt) (rw same at e) in
      let entry : entry_in after.pieces i ≡ laid_at by.place = same ∙ by.entry in
      let here : LaidWell j i (entry_in after.pieces i) = laid_entry j i (entry_in after.pieces i) e ((reached_sound j few cs).entry i) in
      let well : LaidWell j i (laid_at by.place) = subst (λ (x : Entry). LaidWell j i x) entry here in
      record { place = by.place; call = by.call; entry = entry; piece = well.piece; turn = well.turn; within = well.within }

-- demand 2, the cover counts: for every job of at most 64 pieces and every list of lay and withdraw calls from a fresh sheet
pub demand2_cover : (j : Job) → j.size.count ≤ piece_bound → (cs : List Call) → CoverHolds j cs (after_calls j (fresh j) cs)
demand2_cover j few cs =
    record {
      entries = (reached_sound j few cs).pieces;
      pixels = (reached_sound j few cs).counts;
      counts = count_at j few cs;
      counts_by_calls = λ x y l l'. count_at j few cs x y l l' ∙ lying_pieces_lem j few cs (record { x = x; y = y });
      counts_by_number = (reached_sound j few cs).count;
      laid = λ i. reached_laid j few i cs;
      unlaid = λ i. reached_blank j few i cs;
      placed = piece_placed j few cs;
    }
