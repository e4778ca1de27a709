-- Document 01, 'When a call says no': "Every call lent a job, first: 8, its W, L, n, n entries and box pixels are none that reading
-- gives", and so are its gap (document 02, point 4) and its locks (point 6). The check passes exactly the lent jobs whose W, L, n, g, n
-- entries and box pixels are there and are what reading some text gives. What lies beyond in the buffers plays no part: the job and the job
-- without it agree entry by entry and pixel by pixel. Assumes nothing.
use Rattle.list_laws.proofs.Kit.{◌∙◌, ◌≡◌, ap, ap₂, refl, subst, sym, ◌&&◌, false≢true, true, ◌↔◌, List, [], ◌*◌, ◌+◌, ◌<◌, ◌≤◌, suc, zero, ℕ, add-zero}
use Rattle.list_laws.proofs.Kit.{mul_comm, zero-add, arith, eqb, leb, get_or, length, take, get_or-take}
use Rattle.model.specs.Piece.{tight}
use Rattle.model.specs.Lent.{Lent, lock_bound, side_bound, sides_in_range, entry_columns, entry_rows, pixel_start, entry_in_range, entry_fits, lent_shape, lent_well}
use Rattle.list_laws.proofs.Numbers.{in_rows_lem}
use Rattle.text_laws.specs.Texts.{Readable}
use Rattle.job_laws.proofs.Starts.{start_end}
use Rattle.text_laws.proofs.Store.{tight_agree}
use Rattle.job_laws.proofs.Checked.{Facts, facts, well}
use Rattle.job_laws.proofs.Ranges.{at_least, entry_facts}
use Rattle.text_laws.proofs.JobRead.{job_read_well}
use Rattle.text_laws.specs.JobWriting.{entry_fields, lock_line, job_text, entries_from, exact_job}
use Rattle.text_laws.proofs.JobReadBack.{job_read_back}

-- the entries from number i on
entries_at : (table : List (List ℕ)) (i left m : ℕ) → m < left → get_or (entries_from table i left) m [] ≡ entry_fields table (i + m)
entries_at table i zero m l = absurd (omega arith)
entries_at table i (suc left) zero l = rw add-zero
entries_at table i (suc left) (suc m) l =
    let s : suc i + m ≡ i + suc m = omega arith in
    entries_at table (suc i) left m (omega arith) ∙ ap (entry_fields table) s

module _ (k : Lent) where
  -- the job without what lies beyond it has the same entries
  same_entry : (i : ℕ) → i < k.size.count → get_or (exact_job k).table i [] ≡ entry_fields k.table i
  same_entry i l = entries_at k.table 0 k.size.count i l ∙ ap (entry_fields k.table) (zero-add i)

  -- the same columns
  same_columns : (i : ℕ) → i < k.size.count → entry_columns (exact_job k).table i ≡ entry_columns k.table i
  same_columns i l = ap (λ (e : List ℕ). get_or e 0 0) (same_entry i l)

  -- the same rows
  same_rows : (i : ℕ) → i < k.size.count → entry_rows (exact_job k).table i ≡ entry_rows k.table i
  same_rows i l = ap (λ (e : List ℕ). get_or e 1 0) (same_entry i l)

  -- its pieces' pixels begin where they did
  same_start : (i : ℕ) → i ≤ k.size.count → pixel_start (exact_job k).table i ≡ pixel_start k.table i
  unfolding pixel_start
  same_start zero l = refl
  same_start (suc i) l =
      ap₂ (λ (a b : ℕ). a + b) (same_start i (omega arith)) (ap₂ (λ (a b : ℕ). a * b) (same_columns i (omega arith)) (same_rows i (omega arith)))

  -- its check tells the same of entries
  same_ranges : (i : ℕ) → i < k.size.count → entry_in_range (exact_job k).table i ≡ true → entry_in_range k.table i ≡ true
  unfolding entry_in_range
  same_ranges i l e =
      subst (λ (x : List ℕ). (sides_in_range (get_or x 0 0) (get_or x 1 0) (get_or x 2 0) && leb (get_or x 3 0) lock_bound) ≡ true) (same_entry i l) e

  -- and of boxes in the sheet
  same_fits : (i : ℕ) → i < k.size.count → entry_fits k.size (exact_job k).table i ≡ true → entry_fits k.size k.table i ≡ true
  unfolding entry_fits
  same_fits i l e = subst (λ (x : List ℕ). (leb (get_or x 0 0) k.size.columns && leb (get_or x 1 0) k.size.rows) ≡ true) (same_entry i l) e

  -- and of boxes
  same_tight : (i : ℕ) → i < k.size.count → entry_in_range (exact_job k).table i ≡ true → tight (lent_shape (exact_job k) i) ≡ tight (lent_shape k i)
  unfolding entry_in_range pixel_start
  same_tight i l e =
      let total : ℕ = pixel_start k.table k.size.count in
      let s = entry_facts k.table i (same_ranges i l e) in
      tight_agree (lent_shape (exact_job k) i) (lent_shape k i)
      (record {
        columns = same_columns i l;
        rows = same_rows i l;
        wide = at_least side_bound (entry_columns k.table i) s.columns;
        high = at_least side_bound (entry_rows k.table i) s.rows;
        has = λ x y hx hy.
            let s : ℕ = pixel_start k.table i in
            let c : ℕ = entry_columns k.table i in
            let at : ℕ = s + (y * c + x) in
            ap (λ (b : ℕ). eqb b 1)
            (ap₂ (λ (n m : ℕ). get_or (take total k.pixels) (n + (y * m + x)) 0) (same_start i (omega arith)) (same_columns i l)
            ∙ get_or-take total k.pixels at 0
            (let b : y * c + x < entry_rows k.table i * c = in_rows_lem hx hy in
            let end : s + c * entry_rows k.table i ≤ total = start_end k.table i k.size.count l in
            omega (arith, mul_comm c (entry_rows k.table i))));
      })

  -- so the job without what lies beyond passes only if the job passes, where its entries and pixels are there
  exactly_well : k.size.count ≤ length k.table → pixel_start k.table k.size.count ≤ length k.pixels → lent_well (exact_job k) ≡ true
      → lent_well k ≡ true
  exactly_well he hp e =
      let f : Facts (exact_job k) = facts (exact_job k) e in
      let total : pixel_start (exact_job k).table k.size.count ≡ pixel_start k.table k.size.count = same_start k.size.count (omega arith) in
      well k
      (record {
        sheet = f.sheet;
        entries = he;
        ranges = λ i l. same_ranges i l (f.ranges i l);
        fits = λ i l. same_fits i l (f.fits i l);
        areas = let a = f.areas in omega arith;
        store = hp;
        bits = λ i l. rw (get_or-take (pixel_start k.table k.size.count) k.pixels i 0 l) at (f.bits i (omega arith));
        tight_boxes = λ i l. sym (same_tight i l (f.ranges i l)) ∙ f.tight_boxes i l;
      })

-- the check of a lent job passes exactly those
pub lent_well_readable : (k : Lent) → (lent_well k ≡ true) ↔ Readable k
lent_well_readable k = (
  (λ e.
      let f : Facts k = facts k e in
      record {
        entries = f.entries;
        store = f.store;
        text = job_text k;
        reads =
            job_read_back k e true (lock_line k.size) refl (λ none. absurd (false≢true (sym none))) (length k.table) (length k.pixels)
            f.entries f.store;
      }),
  (λ r. exactly_well k r.entries r.store (job_read_well r.text (length k.table) (length k.pixels) (exact_job k) r.reads)),
)
