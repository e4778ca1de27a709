-- `piece_pixels::has_pixel` meets its contract: a pixel past the store's end reads as none. Assumes nothing.
use Rattle.list_laws.proofs.Kit.{◌∙◌, ap, sym, eqb, get_or-eq_default, rules}
use Rattle.piece_pixels.proofs.has_pixel.Statement.{statement}
use Rattle.piece_pixels.proofs.has_pixel.Tie as tie

returns-then-index-pixels : tie.Need-returns-then-index-pixels
returns-then-index-pixels c =
    let at-start : tie.Start = search in
    c.before.before.cell_index-index.ensures.0 at-start.args.pixels.now

returns : tie.Need-returns
returns c =
    let at-start : tie.Start = search in
    sym (ap (λ k. eqb k 1) (get_or-eq_default at-start.args.pixels.now 0 c.if-index-pixels.false))
    ∙ c.before.cell_index-index.ensures.0 at-start.args.pixels.now

pub has_pixel_spec : {M : Type 1} → statement M
has_pixel_spec = tie.close (tie.spec
    (search rules) (search rules) returns-then-index-pixels returns)
