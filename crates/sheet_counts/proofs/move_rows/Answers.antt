-- `sheet_counts::move_rows`: each row begins a sheet's row after the last. Assumes nothing.
use Rattle.list_laws.proofs.Kit.{◌∙◌, ◌≡◌, ap, sym, ◌*◌, ◌+◌, ℕ, add-one, sub-zero, suc-mul, zero-mul, arith}
use Rattle.sheet_counts.specs.Stamp.{moved_run, on_at}
use Rattle.sheet_counts.proofs.Rows.{rows_step, rows_end}
use Rattle.sheet_counts.proofs.move_rows.Goals as goal

pub loop-y-init : goal.loop-y-init
loop-y-init c = record { begins = let none = zero-mul c.args.sheet in omega arith; left = rw sub-zero }

pub move_row-requires : goal.move_row-requires
move_row-requires c =
    let now = c.loop-y in
    let row = c.requires.1.rows now.y c.loop-y-test.true in
    let from = now.invariant.begins in
    let same = now.auto.counts in
    (c.requires.0, (λ x l. c.requires.1.places x now.y l c.loop-y-test.true), omega arith)

pub overflow_add-from : goal.overflow_add-from
overflow_add-from c =
    let now = c.loop-y in
    let row = c.requires.1.rows now.y c.loop-y-test.true in
    let from = now.invariant.begins in
    let small = c.requires.1.sheets in
    let good = c.well_formed in
    omega arith

pub loop-y-preserved : goal.loop-y-preserved
loop-y-preserved c =
    let a = c.args in
    let now = c.loop-y in
    let f = on_at a.pixels.now a.piece in
    let after : c.move_row.new.counts ≡ moved_run a.change (f now.y) now.from now.counts 0 a.width = c.move_row.ensures in
    let from = now.invariant.begins in
    let step : (now.y + 1) * a.sheet ≡ now.y * a.sheet + a.sheet = ap (λ (n : ℕ). n * a.sheet) (add-one now.y) ∙ suc-mul now.y a.sheet in
    record {
      begins = omega arith;
      left = rw after (sym (rows_step a.change f a.sheet a.width now.counts now.from now.y a.height c.loop-y-test.true) ∙ now.invariant.left);
    }

pub returns : goal.returns
returns c =
    let a = c.args in
    let now = c.loop-y in
    sym (rows_end a.change (on_at a.pixels.now a.piece) a.sheet a.width now.counts now.from now.y a.height c.loop-y-test.false)
    ∙ now.invariant.left
