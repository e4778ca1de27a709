-- `piece_pixels::stored_index` meets its contract: a small box has a small area, and the pixel lies in it. Assumes nothing.
use Rattle.list_laws.proofs.Kit.{refl, arith}
use Rattle.list_laws.proofs.Numbers.{in_rows_lem}
use Rattle.piece_pixels.proofs.Cells.{area_small}
use Rattle.piece_pixels.proofs.stored_index.Statement.{statement}
use Rattle.piece_pixels.proofs.stored_index.Tie as tie

overflow_mul-result : tie.Need-overflow_mul-result
overflow_mul-result c = let h = area_small c.before.requires.0 c.before.requires.1.0 c.before.requires.1.1 in omega arith

overflow_add-result : tie.Need-overflow_add-result
overflow_add-result c = let h = area_small c.before.requires.0 c.before.requires.1.0 c.before.requires.1.1 in omega arith

overflow_add-result-2 : tie.Need-overflow_add-result-2
overflow_add-result-2 c = let h = area_small c.before.before.requires.0 c.before.before.requires.1.0 c.before.before.requires.1.1 in omega arith

returns : tie.Need-returns
returns c = let h = in_rows_lem c.before.before.requires.1.0 c.before.before.requires.1.1 in (refl, omega arith)

pub stored_index_spec : {M : Type 1} → statement M
stored_index_spec = tie.close (tie.spec
    overflow_mul-result overflow_add-result overflow_add-result-2 returns)
