-- Demand 2, strips (document 01, 'Strips'): pixels become strips and strips the same pixels again, by rows and by columns. The
-- last theorem says it whole, for each direction and each shape; its parts are proved in Strips, Rebuild and ValidStrips.
-- Assumes nothing.
use Rattle.strip_laws.specs.Strips.{Demand2Strips}
use Rattle.strip_laws.proofs.Strips.{strips_exactly, strips_maximal, strips_ordered, strips_agree, strips_determine}
use Rattle.strip_laws.proofs.Rebuild.{rebuilt_same, rebuilt_strips, rebuilt_only, rebuilt_has, strips_some}
use Rattle.strip_laws.proofs.ValidStrips.{valid_rebuilt}

-- demand 2 holds
pub demand2_strips : Demand2Strips
demand2_strips =
    record {
      of_pixels = λ d s.
          record {
            exact = strips_exactly d s;
            maximal = strips_maximal d s;
            ordered = strips_ordered d s;
            unique = strips_determine d s;
            fixed = strips_agree d s;
            again = rebuilt_same d s;
            strips_again = λ e. rebuilt_strips d e s;
            some = strips_some d s;
          };
      of_strips = λ d l w ts. record { only = rebuilt_only d l w ts; has = rebuilt_has d l w ts; valid = valid_rebuilt d l w ts };
    }
