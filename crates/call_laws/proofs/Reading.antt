-- Document 01, 'Job text', of the calls that follow a reading: the reader fills the front of a lent table and a lent pixel store and leaves
-- what lies beyond, and the job that then stands in them passes the check of every call, with the pieces that were read. What lies
-- beyond plays no part, since the check and the pieces look at n entries and their boxes' bytes. Assumes nothing.
use Rattle.list_laws.proofs.Kit.{◌∙◌, ◌≡◌, ap, ap₂, refl, subst, true, List, [], ◌++◌, ◌*◌, ◌+◌, ◌<◌, ◌≤◌, suc, zero, ℕ, mul_comm, arith, eqb}
use Rattle.list_laws.proofs.Kit.{get_or-append, drop, get_or, length, length-append, take, take-append_seam}
use Rattle.model.specs.Lent.{Lent, entry_columns, entry_rows, pixel_start, entry_in_range, entry_fits, lent_shape, lent_well}
use Rattle.model.specs.Refusal.{given}
use Rattle.model.specs.JobText.{read_job}
use Rattle.model.specs.Calls.{table_after, store_after}
use Rattle.list_laws.proofs.Numbers.{in_rows_lem}
use Rattle.text_laws.specs.Texts.{Agree}
use Rattle.job_laws.proofs.Starts.{start_end}
use Rattle.text_laws.proofs.Store.{tight_agree}
use Rattle.job_laws.proofs.Checked.{Facts, facts, well}
use Rattle.text_laws.proofs.JobRead.{JustRead, job_read_well, job_read_just}
use Rattle.call_laws.specs.Reading.{job_left, JobLeft, FrontRead}

-- the job with more entries and bytes behind its own
abbrev pub longer : Lent → List (List ℕ) → List ℕ → Lent
longer k more bytes = record { size = k.size; table = k.table ++ more; pixels = k.pixels ++ bytes }

module _ (k : Lent) (passes : lent_well k ≡ true) (more : List (List ℕ)) (bytes : List ℕ) where
  -- its entries are the job's
  same_entry : (i : ℕ) → i < k.size.count → get_or (k.table ++ more) i [] ≡ get_or k.table i []
  same_entry i l = get_or-append k.table more [] i (let e = (facts k passes).entries in omega arith)

  -- its pieces' pixels begin where the job's do
  same_start : (i : ℕ) → i ≤ k.size.count → pixel_start (k.table ++ more) i ≡ pixel_start k.table i
  unfolding pixel_start
  same_start zero l = refl
  same_start (suc i) l =
      ap₂ (λ (a b : ℕ). a + b) (same_start i (omega arith)) (ap (λ (e : List ℕ). get_or e 0 0 * get_or e 1 0) (same_entry i (omega arith)))

  -- its bytes are the job's
  same_byte : (i : ℕ) → i < pixel_start k.table k.size.count → get_or (k.pixels ++ bytes) i 0 ≡ get_or k.pixels i 0
  same_byte i l = get_or-append k.pixels bytes 0 i (let e = (facts k passes).store in omega arith)

  -- its pieces agree with the job's
  pub longer_agree : (i : ℕ) → i < k.size.count → Agree (lent_shape (longer k more bytes) i) (lent_shape k i)
  unfolding pixel_start
  longer_agree i l =
      let f : Facts k = facts k passes in
      let c : ℕ = entry_columns k.table i in
      let w : ℕ = entry_rows k.table i in
      let s : ℕ = pixel_start k.table i in
      record {
        columns = ap (λ (e : List ℕ). get_or e 0 0) (same_entry i l);
        rows = ap (λ (e : List ℕ). get_or e 1 0) (same_entry i l);
        wide = f.columns_some i l;
        high = f.rows_some i l;
        has = λ x y hx hy.
            ap (λ (b : ℕ). eqb b 1)
            (ap₂ (λ (n : ℕ) (e : List ℕ). get_or (k.pixels ++ bytes) (n + (y * get_or e 0 0 + x)) 0) (same_start i (omega arith)) (same_entry i l)
            ∙ same_byte (s + (y * c + x))
            (let b : y * c + x < w * c = in_rows_lem hx hy in
            let end : s + c * w ≤ pixel_start k.table k.size.count = start_end k.table i k.size.count l in
            omega (arith, mul_comm c w)));
      }

  -- the longer job passes the check too
  pub longer_well : lent_well (longer k more bytes) ≡ true
  unfolding entry_in_range entry_fits
  longer_well =
      let f : Facts k = facts k passes in
      let total : pixel_start (k.table ++ more) k.size.count ≡ pixel_start k.table k.size.count = same_start k.size.count (omega arith) in
      well (longer k more bytes)
      (record {
        sheet = f.sheet;
        entries = let e = f.entries in omega (arith, length-append k.table more);
        ranges = λ i l. rw (same_entry i l) (f.ranges i l);
        fits = λ i l. rw (same_entry i l) (f.fits i l);
        areas = let a = f.areas in omega arith;
        store = let a = f.store in omega (arith, length-append k.pixels bytes);
        bits = λ i l. (let b : i < pixel_start k.table k.size.count = omega arith in rw (same_byte i b) (f.bits i b));
        tight_boxes = λ i l. tight_agree (lent_shape (longer k more bytes) i) (lent_shape k i) (longer_agree i l) ∙ f.tight_boxes i l;
      })

-- it is so, for a text and buffers of any content
pub job_given : (text : List ℕ) (table : List (List ℕ)) (pixels : List ℕ) (k : Lent) → read_job text (length table) (length pixels) ≡ given k
    → JobLeft k (job_left text table pixels k)
job_given text table pixels k e =
    let passes : lent_well k ≡ true = job_read_well text (length table) (length pixels) k e in
    let more : List (List ℕ) = drop (length k.table) table in
    let bytes : List ℕ = drop (length k.pixels) pixels in
    rw e
    (record {
      passes = longer_well k passes more bytes;
      pieces = longer_agree k passes more bytes;
      turns = λ i l. ap (λ (x : List ℕ). get_or x 2 0) (same_entry k passes more bytes i l);
      locks = λ i l. ap (λ (x : List ℕ). get_or x 3 0) (same_entry k passes more bytes i l);
    })

-- it is so: a call that is lent just these parts is lent the job that was read
pub front_given : (text : List ℕ) (table : List (List ℕ)) (pixels : List ℕ) (k : Lent) → read_job text (length table) (length pixels) ≡ given k
    → FrontRead text table pixels k
front_given text table pixels k e =
    let just : JustRead (length table) (length pixels) k = job_read_just text (length table) (length pixels) k e in
    record {
      entries =
          subst (λ (n : ℕ). take n (table_after table (read_job text (length table) (length pixels))) ≡ k.table) just.entries
          (rw e (take-append_seam k.table (drop (length k.table) table)));
      bytes =
          subst (λ (n : ℕ). take n (store_after pixels (read_job text (length table) (length pixels))) ≡ k.pixels) just.bytes
          (rw e (take-append_seam k.pixels (drop (length k.pixels) pixels)));
    }
