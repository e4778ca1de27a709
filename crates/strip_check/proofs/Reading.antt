-- Entries of a buffer read as strips. Assumes nothing.
use Rattle.list_laws.proofs.Kit.{◌≡◌, ap, sym, List, ℕ}
use Rattle.model.specs.Buffer.{entry_strip}
use Rattle.strip_check.specs.Check.{as_strip, ReadOf}
use Rattle.strip_check.specs.declared.Strip.{Strip as ReadStrip}

-- what was read is the entry's strip
pub read_is : {e : List ℕ} {t : ReadStrip} → ReadOf e t → as_strip t ≡ entry_strip e
read_is r = sym (ap entry_strip r.whole)
