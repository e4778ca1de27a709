-- `strip_scan::scan::next_strip`: a line with a pixel left has the next strip, one with none is done. Assumes nothing.
use Rattle.list_laws.proofs.Kit.{◌∙◌, ◌≡◌, sym, Bool, bool_beq, false, ◌-◌, ◌≤◌, ℕ, arith}
use Rattle.model.specs.Bounded.{first_from}
use Rattle.model.specs.Piece.{cell}
use Rattle.list_laws.proofs.Bounded.{first_from_lem}
use Rattle.piece_pixels.specs.Turned.{shown_by}
use Rattle.strip_scan.specs.Scan.{turned_side}
use Rattle.strip_scan.proofs.Scanning.{piece_found, piece_line_done, piece_none_left}
use Rattle.strip_scan.proofs.scan.next_strip.Goals as goal

-- the first cell that is wanted is none before the given one
first_low : (f : ℕ → Bool) {stop : ℕ} (t left : ℕ) → stop ≡ first_from f t left → t ≤ stop
first_low f t left e = rw e (first_from_lem f t left).low

pub overflow_sub-count : goal.overflow_sub-count
overflow_sub-count c =
    let a = c.args in
    first_low (λ k. bool_beq (cell a.direction (shown_by a.pixels.now a.piece) k c.loop-line.line) false) c.find-first.result
    (turned_side a.direction a.piece - c.find-first.result) c.find-end.ensures

pub returns-then-first-length : goal.returns-then-first-length
returns-then-first-length c =
    let n = c.line_length-length.ensures in
    let m = c.line_count-lines.ensures in
    let a = c.args in
    let l = c.loop-line in
    let found = piece_found a.direction a.pixels.now a.piece l.line l.along c.find-first.result c.find-end.result (omega arith) (omega arith)
    c.find-first.ensures (omega arith) c.find-end.ensures in
    record { next = sym l.invariant.left ∙ found.next; within = found.within; line = found.line }

pub loop-line-preserved : goal.loop-line-preserved
loop-line-preserved c =
    let n = c.line_length-length.ensures in
    let m = c.line_count-lines.ensures in
    let a = c.args in
    let l = c.loop-line in
    record {
      within = omega arith;
      left = sym (piece_line_done a.direction a.pixels.now a.piece l.line l.along c.find-first.result (omega arith) (omega arith) c.find-first.ensures
          (omega arith))
          ∙ l.invariant.left;
    }

pub returns : goal.returns
returns c =
    let m = c.line_count-lines.ensures in
    let a = c.args in
    sym c.loop-line.invariant.left ∙ piece_none_left a.direction a.pixels.now a.piece c.loop-line.line c.loop-line.along (omega arith)
