-- What demand 1 says of texts (document 01, 'Job text' and 'Start, layout text, sheet'): which lent jobs reading gives, and what is read
-- back. The theorem is `demand1_text` in proofs/Demand1Text. Assumes nothing.
use Rattle.std.specs.Prelude.{true, List, ◌↔◌, ◌≡◌, ℕ, ◌≤◌, ◌<◌, length}
use Rattle.model.specs.Lent.{Lent, pixel_start, row_bound, column_bound, piece_bound, lent_well}
use Rattle.model.specs.Refusal.{refused, given}
use Rattle.model.specs.JobText.{read_job}
use Rattle.model.specs.Piece.{Shape}
use Rattle.model.specs.Layout.{Job, allowed, inside, Layout, place_of}
use Rattle.model.specs.declared.Placement.{Placement}
use Rattle.model.specs.LayoutText.{layout_text, read_layout}
use Rattle.model.specs.declared.Refusal.{Refusal}
use Rattle.text_laws.specs.JobWriting.{exact_job}
use Rattle.text_laws.specs.Exact.{JobWritten, LayoutWritten}
use Rattle.text_laws.specs.JobRefusals.{JobRefusalClaims, JobCausesRefuse}
use Rattle.text_laws.specs.LayoutRefusals.{LayoutRefusalClaims, LayoutCausesRefuse}

-- W, L, n, g, n entries and box pixels are there, and reading some text gives them
pub record Readable (k : Lent) : Type 0 where
  pub entries : k.size.count ≤ length k.table
  pub store : pixel_start k.table k.size.count ≤ length k.pixels
  pub text : List ℕ
  pub reads : read_job text (length k.table) (length k.pixels) ≡ given (exact_job k)

-- shapes of one box that agree inside it
pub record Agree (s t : Shape) : Type 0 where
  pub columns : s.columns ≡ t.columns
  pub rows : s.rows ≡ t.rows
  pub wide : 0 < t.columns
  pub high : 0 < t.rows
  pub has : (x y : ℕ) → x < t.columns → y < t.rows → s.has x y ≡ t.has x y

-- what the calls ask of piece i's placement
pub record Placed (j : Job) (i : ℕ) (p : Placement) : Type 0 where
  pub turn : allowed j i p.turn ≡ true
  pub within : inside j i p ≡ true

-- what is said of the texts
pub record Demand1Text : Type 0 where
  -- what reading a job gives passes the check that every call makes of a lent job
  pub read_passes : (text : List ℕ) (tableLength pixelsLength : ℕ) (k : Lent) → read_job text tableLength pixelsLength ≡ given k
      → lent_well k ≡ true
  -- the check passes exactly the lent jobs whose W, L, n, g, n entries, each with its lock, and box pixels are what reading some text gives
  pub check_exactly : (k : Lent) → (lent_well k ≡ true) ↔ Readable k
  -- what is written of a layout whose placements are inside in allowed turns is read back as that layout
  pub written_read : (j : Job) (v : Layout) → j.size.rows ≤ row_bound → j.size.columns ≤ column_bound → j.size.count ≤ piece_bound
      → length v ≡ j.size.count → ((i : ℕ) → i < j.size.count → Placed j i (place_of v i))
      → read_layout j (layout_text j v) j.size.count ≡ given v
  -- reading gives a job exactly where the text is a text of the job, the job passes the check and the buffers suffice
  pub job_exactly : (text : List ℕ) (tableLength pixelsLength : ℕ) (k : Lent)
      → (read_job text tableLength pixelsLength ≡ given k) ↔ JobWritten text tableLength pixelsLength k
  -- a text that is read as a layout is that layout's text, whatever the job
  pub layout_only : (j : Job) (text : List ℕ) (layout_length : ℕ) (v : Layout) → read_layout j text layout_length ≡ given v
      → text ≡ layout_text j v
  -- reading gives a layout of a job in the bounds exactly where the text is the layout's text, every placement is inside in an
  -- allowed turn and the buffer has the layout's length
  pub layout_exactly : (j : Job) → j.size.rows ≤ row_bound → j.size.columns ≤ column_bound → j.size.count ≤ piece_bound
      → (text : List ℕ) (layout_length : ℕ) (v : Layout) → (read_layout j text layout_length ≡ given v) ↔ LayoutWritten j text layout_length v
  -- a refusal of reading a job has its cause on the line that it names, and that line begins where the line ends before it say
  pub job_refused : (text : List ℕ) (tableLength pixelsLength : ℕ) (r : Refusal) → read_job text tableLength pixelsLength ≡ refused r
      → JobRefusalClaims text tableLength pixelsLength r
  -- and each such cause leads to its refusal
  pub job_caused : (text : List ℕ) (tableLength pixelsLength : ℕ) → JobCausesRefuse text tableLength pixelsLength
  -- so has a refusal of reading a layout
  pub layout_refused : (j : Job) (text : List ℕ) (layout_length : ℕ) (r : Refusal) → read_layout j text layout_length ≡ refused r
      → LayoutRefusalClaims j text layout_length r
  -- and so does each cause there
  pub layout_caused : (j : Job) (text : List ℕ) (layout_length : ℕ) → LayoutCausesRefuse j text layout_length
