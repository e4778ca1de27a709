-- `search_classes::equal_pieces` meets its contract: the sides agree, and the bytes from both starts on. Assumes nothing.
use Rattle.list_laws.proofs.Kit.{◌∙◌, ◌≡◌, ap, ap₂, sym, ◌*◌, ◌+◌, ℕ, arith, false≢true, get_or}
use Rattle.model.specs.Lent.{Lent, lent_by, entry_columns, entry_rows, entry_area}
use Rattle.search_classes.proofs.Equals.{Stored, stored, bytes_equal}
use Rattle.search_classes.proofs.equal_pieces.Statement.{statement}
use Rattle.search_classes.proofs.equal_pieces.Tie as tie

-- the lent job
abbrev lent : tie.Start → Lent
lent c = lent_by c.args.size c.args.table.now c.args.pixels.now

-- both pieces are there
first : (e : tie.Start) → Stored (lent e) e.args.i
first e = stored (lent e) e.args.i e.requires.0 e.requires.1.0

second : (e : tie.Start) → Stored (lent e) e.args.k
second e = stored (lent e) e.args.k e.requires.0 e.requires.1.1

columns_of-requires : tie.Need-columns_of-requires
columns_of-requires c κs = let e : tie.Start = search in let f = (first e).entry in let s = (second e).entry in omega arith

columns_of-requires-2 : tie.Need-columns_of-requires-2
columns_of-requires-2 c κs = let e : tie.Start = search in let f = (first e).entry in let s = (second e).entry in omega arith

returns-then-columns_of : tie.Need-returns-then-columns_of
returns-then-columns_of c = λ e. absurd (false≢true e)

rows_of-requires : tie.Need-rows_of-requires
rows_of-requires c κs = let e : tie.Start = search in let f = (first e).entry in let s = (second e).entry in omega arith

rows_of-requires-2 : tie.Need-rows_of-requires-2
rows_of-requires-2 c κs = let e : tie.Start = search in let f = (first e).entry in let s = (second e).entry in omega arith

returns-then-rows_of : tie.Need-returns-then-rows_of
returns-then-rows_of c = λ e. absurd (false≢true e)

-- the entry, from where the sides agree
abbrev entry : tie.Else-rows_of → tie.Start
entry c = search

pixel_start-a-requires : tie.Need-pixel_start-a-requires
pixel_start-a-requires c κs = let b : tie.Else-rows_of = search in let f = first (entry b) in let n = f.entry in (omega arith, f.few)

pixel_start-b-requires : tie.Need-pixel_start-b-requires
pixel_start-b-requires c κs = let b : tie.Else-rows_of = search in let f = second (entry b) in let n = f.entry in (omega arith, f.few)

area_of-requires : tie.Need-area_of-requires
area_of-requires c κs = let b : tie.Else-rows_of = search in (first (entry b)).entry

-- the sides agree
columns : (c : tie.Else-rows_of) → entry_columns (entry c).args.table.now (entry c).args.i ≡ entry_columns (entry c).args.table.now (entry c).args.k
columns c =
    let a : tie.After-columns_of = search in
    let b : tie.After-columns_of-2 = search in
    let t : tie.Else-columns_of = search in
    sym a.columns_of.ensures.0 ∙ t.if-columns_of.false ∙ b.columns_of-2.ensures.0

rows : (c : tie.Else-rows_of) → entry_rows (entry c).args.table.now (entry c).args.i ≡ entry_rows (entry c).args.table.now (entry c).args.k
rows c =
    let a : tie.After-rows_of = search in
    let b : tie.After-rows_of-2 = search in
    sym a.rows_of.ensures.0 ∙ c.if-rows_of.false ∙ b.rows_of-2.ensures.0

-- so do the areas
areas : (c : tie.Else-rows_of) → entry_area (entry c).args.table.now (entry c).args.i ≡ entry_area (entry c).args.table.now (entry c).args.k
areas c = ap₂ (λ (x y : ℕ). x * y) (columns c) (rows c)

same_bytes-requires : tie.Need-same_bytes-requires
same_bytes-requires c κs =
    let b : tie.Else-rows_of = search in
    let at-pixel-start : tie.After-pixel_start-a = search in
    let at-pixel-start2 : tie.After-pixel_start-b = search in
    let f = first (entry b) in
    let s = second (entry b) in
    let ef = at-pixel-start.pixel_start-a.ensures in
    let es = at-pixel-start2.pixel_start-b.ensures in
    let n = c.area_of.ensures.0 in
    let same = areas b in
    let fw = f.within in
    let sw = s.within in
    let fs = f.small in
    let ss = s.small in
    (omega arith, omega arith, omega arith, omega arith)

returns : tie.Need-returns
returns c =
    let b : tie.Else-rows_of = search in
    let at-pixel-start : tie.After-pixel_start-a = search in
    let at-pixel-start2 : tie.After-pixel_start-b = search in
    let at-area-of : tie.After-area_of = search in
    let a = (entry b).args in
    let n = at-area-of.area_of.ensures.0 in
    λ yes.
    bytes_equal (lent (entry b)) a.i a.k (columns b) (rows b)
    (λ m h.
    ap (λ (x : ℕ). get_or a.pixels.now (x + m) 0) (sym at-pixel-start.pixel_start-a.ensures)
    ∙ c.same_bytes.ensures yes m (omega arith)
    ∙ ap (λ (x : ℕ). get_or a.pixels.now (x + m) 0) at-pixel-start2.pixel_start-b.ensures)

pub equal_pieces_spec : {M : Type 1} → statement M
equal_pieces_spec =
    tie.close (tie.spec
    columns_of-requires columns_of-requires-2 returns-then-columns_of rows_of-requires rows_of-requires-2 returns-then-rows_of pixel_start-a-requires
    pixel_start-b-requires area_of-requires same_bytes-requires returns)
