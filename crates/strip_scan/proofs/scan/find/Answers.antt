-- `strip_scan::scan::find`: a cell that is not wanted is not the first one. Assumes nothing.
use Rattle.list_laws.proofs.Kit.{◌∙◌, ◌≡◌, sym, Bool, bool_beq}
use Rattle.list_laws.proofs.Firsts.{first_go}
use Rattle.strip_scan.proofs.scan.find.Goals as goal

-- what the cell test said, in the contract's terms
flag : (wanted b p : Bool) {r : Bool} → b ≡ p → bool_beq b wanted ≡ r → bool_beq p wanted ≡ r
flag wanted b p e h = rw e at h

pub loop-at-preserved : goal.loop-at-preserved
loop-at-preserved c =
    sym (first_go _ c.loop-at.at _ c.loop-at-test.true (flag _ _ _ c.is_pixel.ensures c.if-is_pixel-wanted.false)) ∙ c.loop-at.invariant
