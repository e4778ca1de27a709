-- `job_calls::reader::read_pieces`: a run over empty buffers writes nothing; with room for both, the second run fills them. Assumes nothing.
use Rattle.list_laws.proofs.Kit.{◌∙◌, ◌≡◌, ap, refl, subst, sym, ◌||◌, false, true, List, ◌++◌, ◌<◌, ◌≤◌, ℕ, ltb, length, sets, le-ltb, lt-ltb}
use Rattle.model.specs.Refusal.{given}
use Rattle.model.specs.JobText.{pieces_at, as_lent}
use Rattle.list_laws.proofs.Lists.{nothing_before}
use Rattle.list_laws.proofs.Stores.{sets_filled}
use Rattle.job_lines.specs.Lines.{job_line_of}
use Rattle.job_calls.specs.Reading.{PiecesStored, JobFilled, roomed, Leaves}
use Rattle.job_calls.proofs.Filling.{pieces_told, pieces_count, room_short, room_given, leaves_refused}
use Rattle.job_calls.proofs.reader.read_pieces.Goals as goal

pub returns-then-table-size : goal.returns-then-table-size
returns-then-table-size c =
    let a = c.args in
    let text = a.text.now in
    let j = job_line_of a.j in
    let tl = length a.table.now in
    let pl = length a.pixels.now in
    let t : c.fill_pieces.new.table ++ a.table.now ≡ a.table.now = nothing_before _ a.table.now c.fill_pieces.auto.table in
    let s : c.fill_pieces.new.pixels ++ a.pixels.now ≡ a.pixels.now = nothing_before _ a.pixels.now c.fill_pieces.auto.pixels in
    let x = pieces_told c.in_ok-area.area (pieces_at text j a.j.size.count 0 0 a.j.next 2) c.in_ok-area.ensures.0 in
    let l : tl < a.j.size.count = subst (λ (k : List (List ℕ)). length k < a.j.size.count) t c.if-table-size.true in
    let b : (ltb tl a.j.size.count || ltb pl (length x.all.pixels)) ≡ true = rw (lt-ltb _ _ l) refl in
    leaves_refused _ _ _ _ _ _ (roomed text j tl pl) (room_short text j tl pl x.all x.gives b) (rw c.refusal.ensures refl) t s

pub returns-then-short : goal.returns-then-short
returns-then-short c =
    let a = c.args in
    let text = a.text.now in
    let j = job_line_of a.j in
    let tl = length a.table.now in
    let pl = length a.pixels.now in
    let t : c.fill_pieces.new.table ++ a.table.now ≡ a.table.now = nothing_before _ a.table.now c.fill_pieces.auto.table in
    let s : c.fill_pieces.new.pixels ++ a.pixels.now ≡ a.pixels.now = nothing_before _ a.pixels.now c.fill_pieces.auto.pixels in
    let n = c.in_ok-area.area in
    let x = pieces_told n (pieces_at text j a.j.size.count 0 0 a.j.next 2) c.in_ok-area.ensures.0 in
    let l : a.j.size.count ≤ tl = subst (λ (k : List (List ℕ)). a.j.size.count ≤ length k) t c.if-table-size.false in
    let m : pl < length x.all.pixels = rw x.size at (subst (λ (k : List ℕ). length k < n) s c.if-short.true) in
    let b : (ltb tl a.j.size.count || ltb pl (length x.all.pixels)) ≡ true = rw (le-ltb _ _ l, lt-ltb _ _ m) refl in
    leaves_refused _ _ _ _ _ _ (roomed text j tl pl) (room_short text j tl pl x.all x.gives b) (rw c.refusal-then-short.ensures refl) t s

pub returns : goal.returns
returns c =
    let a = c.args in
    let text = a.text.now in
    let j = job_line_of a.j in
    let tl = length a.table.now in
    let pl = length a.pixels.now in
    let table = c.fill_pieces.new.table in
    let store = c.fill_pieces.new.pixels in
    let t : table ++ a.table.now ≡ a.table.now = nothing_before table a.table.now c.fill_pieces.auto.table in
    let s : store ++ a.pixels.now ≡ a.pixels.now = nothing_before store a.pixels.now c.fill_pieces.auto.pixels in
    let n = c.in_ok-area.area in
    let x = pieces_told n (pieces_at text j a.j.size.count 0 0 a.j.next 2) c.in_ok-area.ensures.0 in
    let l : a.j.size.count ≤ tl = subst (λ (k : List (List ℕ)). a.j.size.count ≤ length k) t c.if-table-size.false in
    let m : length x.all.pixels ≤ pl = rw x.size at (subst (λ (k : List ℕ). n ≤ length k) s c.if-short.false) in
    let b : (ltb tl a.j.size.count || ltb pl (length x.all.pixels)) ≡ false = rw (le-ltb _ _ l, le-ltb _ _ m) refl in
    let e : roomed text j tl pl ≡ given (as_lent j x.all) = room_given text j tl pl x.all x.gives b in
    let f : JobFilled (table ++ a.table.now) c.fill_pieces-2.new.table (store ++ a.pixels.now) c.fill_pieces-2.new.pixels x.all =
    subst (PiecesStored _ _ _ _) x.gives c.fill_pieces-2.ensures.1 in
    let k : length x.all.table ≤ tl = rw (pieces_count text j a.j.size.count 0 0 a.j.next 2 x.all x.gives) l in
    subst (Leaves _ _ _ _ _) (sym e)
    (record {
      answers = refl;
      entries = f.entries ∙ ap (λ (d : List (List ℕ)). sets d 0 x.all.table) t ∙ sets_filled a.table.now x.all.table k;
      pixels = f.pixels ∙ ap (λ (d : List ℕ). sets d 0 x.all.pixels) s ∙ sets_filled a.pixels.now x.all.pixels m;
    })
