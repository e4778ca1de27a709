-- The job that a reading leaves in the front of the lent buffers is the job that was read. Assumes nothing.
use Rattle.list_laws.proofs.Kit.{◌∙◌, ◌≡◌, ap, refl, sym, true, List, ◌≤◌, ℕ, arith, length, take}
use Rattle.model.specs.Lent.{Lent, lent_by, lent_well, pixel_start, piece_bound, area_bound}
use Rattle.model.specs.Refusal.{Outcome, refused, given}
use Rattle.model.specs.JobText.{read_job}
use Rattle.model.specs.declared.JobSize.{JobSize}
use Rattle.model.specs.declared.Refusal.{Refusal}
use Rattle.job_calls.specs.Reading.{read_answer, Leaves}
use Rattle.std.specs.Prelude.{Result, Ok, Err}
use Rattle.text_laws.proofs.JobRead.{JustRead, job_read_well, job_read_just}
use Rattle.call_laws.specs.Reading.{FrontRead}
use Rattle.call_laws.proofs.Reading.{front_given}

-- ── what the answers say of the outcome ──

-- the job that an answer tells of
record Told (o : Outcome Lent) (size : JobSize) : Type 0 where
  job : Lent
  gives : o ≡ given job
  numbers : size ≡ job.size

told : (o : Outcome Lent) (size : JobSize) → Ok size ≡ read_answer o → Told o size
told (refused r) size e = cc
told (given k) size e = record { job = k; gives = refl; numbers = cc }

refusal_told : (o : Outcome Lent) (r : Refusal) → Err r ≡ read_answer o → o ≡ refused r
refusal_told (refused s) r e = cc
refusal_told (given k) r e = cc

-- ── the front ──

-- a reading into buffers of 64 entries and 65,536 bytes
same_reading : (text : List ℕ) (table : List (List ℕ)) (store : List ℕ) → length table ≡ piece_bound → length store ≡ area_bound
    → read_job text piece_bound area_bound ≡ read_job text (length table) (length store)
same_reading text table store e f = rw (e, f)

-- the entries of the pieces
abbrev pub front_entries : JobSize → List (List ℕ) → List (List ℕ)
front_entries size table = take size.count table

-- how many bytes their boxes have
abbrev pub front_area : JobSize → List (List ℕ) → ℕ
front_area size table = pixel_start (front_entries size table) size.count

-- the front of the buffers is the job that was read, lies in them and passes the check
pub record Front (o : Outcome Lent) (size : JobSize) (table : List (List ℕ)) (pixels : List ℕ) : Type 0 where
  pub job : o ≡ given (lent_by size (front_entries size table) (take (front_area size table) pixels))
  pub well : lent_well (lent_by size (front_entries size table) (take (front_area size table) pixels)) ≡ true
  pub few : size.count ≤ piece_bound
  pub entries_room : size.count ≤ length table
  pub bytes_room : front_area size table ≤ length pixels

-- a job by its parts
same_lent : (size : JobSize) (t : List (List ℕ)) (b : List ℕ) (k : Lent) → size ≡ k.size → t ≡ k.table → b ≡ k.pixels → lent_by size t b ≡ k
same_lent size t b k numbers entries bytes = rw (numbers, entries, bytes)

-- the parts, where the job k was read
module _ (size : JobSize) (table : List (List ℕ)) (pixels : List ℕ) (k : Lent) (numbers : size ≡ k.size)
    (entries : take k.size.count table ≡ k.table) (bytes : take (pixel_start k.table k.size.count) pixels ≡ k.pixels)
  where
    front_entries_lem : front_entries size table ≡ k.table
    front_entries_lem = rw (numbers, entries)

    front_area_lem : front_area size table ≡ pixel_start k.table k.size.count
    front_area_lem = rw (front_entries_lem, numbers)

    front_bytes : take (front_area size table) pixels ≡ k.pixels
    front_bytes = rw (front_area_lem, bytes)

-- buffers of 64 entries and 65,536 bytes, before and after a reading
module _ (text : List ℕ) (table lastTable : List (List ℕ)) (store lastStore : List ℕ) (r : Result JobSize Refusal) (tableFits : length table ≡ piece_bound)
    (store_fits : length store ≡ area_bound) (sameTable : length lastTable ≡ length table) (same_store : length lastStore ≡ length store)
    (h : Leaves r table lastTable store lastStore (read_job text (length table) (length store)))
  where
    -- a job that was read
    pub front_read : (size : JobSize) → r ≡ Ok size → Front (read_job text piece_bound area_bound) size lastTable lastStore
    front_read size e =
        let t : Told (read_job text (length table) (length store)) size = told (read_job text (length table) (length store)) size (sym e ∙ h.answers) in
        let k : Lent = t.job in
        let f : FrontRead text table store k = front_given text table store k t.gives in
        let just : JustRead (length table) (length store) k = job_read_just text (length table) (length store) k t.gives in
        let entries : take k.size.count lastTable ≡ k.table = rw h.entries f.entries in
        let bytes : take (pixel_start k.table k.size.count) lastStore ≡ k.pixels = rw h.pixels f.bytes in
        let area : front_area size lastTable ≡ pixel_start k.table k.size.count = front_area_lem size lastTable lastStore k t.numbers entries bytes in
        let same : lent_by size (front_entries size lastTable) (take (front_area size lastTable) lastStore) ≡ k =
        same_lent size _ _ k t.numbers (front_entries_lem size lastTable lastStore k t.numbers entries bytes)
        (front_bytes size lastTable lastStore k t.numbers entries bytes) in
        let n : size.count ≡ k.size.count = ap (λ (s : JobSize). s.count) t.numbers in
        let m = just.entries_room in
        record {
          job = same_reading text table store tableFits store_fits ∙ t.gives ∙ ap given (sym same);
          well = rw same (job_read_well text (length table) (length store) k t.gives);
          few = omega arith;
          entries_room = omega arith;
          bytes_room = let b = just.bytes in let room = just.bytes_room in omega arith;
        }

    -- a job that was refused
    pub front_refused : (q : Refusal) → r ≡ Err q → read_job text piece_bound area_bound ≡ refused q
    front_refused q e =
        same_reading text table store tableFits store_fits ∙ refusal_told (read_job text (length table) (length store)) q (sym e ∙ h.answers)

-- the front by the number of its bytes
pub record Lends (o : Outcome Lent) (size : JobSize) (table : List (List ℕ)) (pixels : List ℕ) (area : ℕ) : Type 0 where
  pub job : o ≡ given (lent_by size (front_entries size table) (take area pixels))
  pub well : lent_well (lent_by size (front_entries size table) (take area pixels)) ≡ true
  pub bytes_room : area ≤ length pixels

pub front_lends : (o : Outcome Lent) (size : JobSize) (table : List (List ℕ)) (pixels : List ℕ) (area : ℕ) → area ≡ front_area size table
    → Front o size table pixels → Lends o size table pixels area
front_lends o size table pixels area e f = rw e (record { job = f.job; well = f.well; bytes_room = f.bytes_room })
