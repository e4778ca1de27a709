-- A layout buffer that is written again holds the same layout. Assumes nothing.
use Rattle.list_laws.proofs.Kit.{◌∙◌, ◌≡◌, ap, sym, List, ℕ, length, length-map}
use Rattle.model.specs.Lent.{Lent}
use Rattle.model.specs.Buffer.{entry_of, placement_of, layout_of, entries_of}
use Rattle.text_laws.proofs.Entries.{entries_read_back}
use Rattle.descent_laws.specs.LentLayout.{Laid}

module _ (l : Lent) (es fs : List (List ℕ)) (laid : Laid l es) (e : fs ≡ entries_of (layout_of es)) where
  -- it is read as before
  pub same_layout_lem : layout_of fs ≡ layout_of es
  same_layout_lem = ap layout_of e ∙ entries_read_back (layout_of es)

  -- so it is a layout that calls take
  pub laid_again : Laid l fs
  laid_again =
      record {
        well = laid.well;
        whole = ap length e ∙ length-map (layout_of es) entry_of ∙ length-map es placement_of ∙ laid.whole;
        valid = rw same_layout_lem laid.valid;
      }

  -- as a layout is written
  pub as_written : entries_of (layout_of fs) ≡ fs
  as_written = ap entries_of same_layout_lem ∙ sym e
