-- `search_lines::draw_back` meets its contract: the line of the two, drawn beside the store and copied backwards. Assumes nothing.
use Rattle.list_laws.proofs.Kit.{◌∙◌, ◌≡◌, sym, List, ◌+◌, ◌-◌, ◌≤◌, ℕ, arith, length, length-drop, length-replicate, length-take, length-take-le, rules}
use Rattle.model.specs.Lent.{Lent, lent_by}
use Rattle.search_laws.specs.Lines.{line_places}
use Rattle.search_lines.specs.Making.{moved_shape, standing_shape}
use Rattle.search_lines.proofs.Sourcing.{asked_named, places_few, parts_alike, made_back}
use Rattle.search_lines.proofs.draw_back.Statement.{statement}
use Rattle.search_lines.proofs.draw_back.Tie as tie

-- the lent job
abbrev lent : tie.Start → Lent
lent c = lent_by c.args.size c.args.table.now c.args.pixels.now

-- the line fits beside the store
few : (e : tie.Start) → line_places e.args.direction (moved_shape (lent e) e.args.two) (standing_shape (lent e) e.args.two) ≤ 526
few e = places_few (lent e) e.args.two (asked_named (lent e) _ _ e.args.two e.requires.0) e.args.direction

draw_line-count-requires : tie.Need-draw_line-count-requires
draw_line-count-requires c κs =
    let e : tie.Start = search in
    let n = length-replicate {A = ℕ} 526 0 in
    let h = few e in
    (e.requires.0, (omega arith, (omega arith, e.requires.1.1.1)))

-- the entry, from where the line is drawn
abbrev entry : tie.After-draw_line-count → tie.Start
entry c = search

-- the line that was drawn
abbrev drawn : tie.After-draw_line-count → List ℕ
drawn c = c.draw_line-count.new.lines

-- how many places it has, and where they go
counted : (c : tie.After-draw_line-count)
    →
    let a = (entry c).args in
    let l = lent (entry c) in
    (c.draw_line-count.result ≡ line_places a.direction (moved_shape l a.two) (standing_shape l a.two))
    × (c.draw_line-count.result ≤ length (drawn c)) × (length (drawn c) ≡ 526) × (a.at + c.draw_line-count.result ≤ length a.lines.now)
    × (length a.lines.now ≤ 524288)
counted c =
    let e = entry c in
    let n = c.draw_line-count.ensures.1.1 in
    let long : length (drawn c) ≡ 526 = c.draw_line-count.auto.lines ∙ length-replicate {A = ℕ} 526 0 in
    let h = few e in
    let room = e.requires.1.0 in
    (n, omega arith, long, omega arith, e.requires.1.1.0)

overflow_add-end : tie.Need-overflow_add-end
overflow_add-end c = let at-draw-line : tie.After-draw_line-count = search in let h = counted at-draw-line in omega arith

slice_bounds-drawn-end : tie.Need-slice_bounds-drawn-end
slice_bounds-drawn-end c = let at-draw-line : tie.After-draw_line-count = search in let h = counted at-draw-line in omega arith

slice_bounds-copy_back-end : tie.Need-slice_bounds-copy_back-end
slice_bounds-copy_back-end c =
    let at-draw-line : tie.After-draw_line-count = search in
    sym (length-take-le at-draw-line.draw_line-count.result (drawn at-draw-line) (counted at-draw-line).1)

slice_bounds-copy_back-end-2 : tie.Need-slice_bounds-copy_back-end-2
slice_bounds-copy_back-end-2 c = let at-draw-line : tie.After-draw_line-count = search in let h = counted at-draw-line in omega arith

copy_back-requires : tie.Need-copy_back-requires
copy_back-requires c κs =
    let at-draw-line : tie.After-draw_line-count = search in
    let h = counted at-draw-line in
    parts_alike (entry at-draw-line).args.lines.now (drawn at-draw-line) (entry at-draw-line).args.at at-draw-line.draw_line-count.result h.3 h.1

returns : tie.Need-returns
returns c =
    let at-draw-line : tie.After-draw_line-count = search in
    let at-copy-back : tie.After-copy_back = search in
    let a = (entry at-draw-line).args in
    let h = counted at-draw-line in
    let count : ℕ = at-draw-line.draw_line-count.result in
    let at : ℕ = a.at in (
      made_back (lent (entry at-draw-line)) a.direction a.two a.lines.now (drawn at-draw-line) _ at count (at + count - at) h.0 (omega arith)
          (omega arith) h.1 at-draw-line.draw_line-count.ensures.0.line
          (at-copy-back.copy_back.auto.to ∙ simp (length-take, length-drop) (omega arith)) at-copy-back.copy_back.ensures,
      at-draw-line.draw_line-count.ensures.1.0,
    )

pub draw_back_spec : {M : Type 1} → statement M
draw_back_spec =
    tie.close (tie.spec
    (search rules) draw_line-count-requires overflow_add-end slice_bounds-drawn-end slice_bounds-copy_back-end (search rules) (search rules)
    slice_bounds-copy_back-end-2 copy_back-requires (search rules) (search rules) returns)
