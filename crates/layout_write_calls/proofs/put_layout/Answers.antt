-- `layout_write_calls::put_layout`: one more line is written, and after the last none is left. Assumes nothing.
use Rattle.list_laws.proofs.Kit.{◌≡◌, refl, [], ◌++◌, ◌+◌, ◌<◌, arith, drop, length, length-map}
use Rattle.model.specs.Layout.{place_of}
use Rattle.model.specs.Lent.{job_of}
use Rattle.model.specs.Buffer.{placement_of, layout_of}
use Rattle.model.specs.LayoutText.{layout_text, placement_text, placements_text}
use Rattle.layout_write_calls.proofs.Sequel.{left_none, placements_end, left_after_lem, left_then, placements_text_lem}
use Rattle.layout_write_calls.proofs.put_layout.Goals as goal

pub loop-i-init : goal.loop-i-init
loop-i-init c =
    let w = c.put_layout_line-at.ensures in
    (let e = w.end in let s = w.short in omega arith, record { end = refl; memory = refl })

pub loop-i-preserved : goal.loop-i-preserved
loop-i-preserved c =
    let v = layout_of c.args.layout.now in
    let l = c.loop-i in
    let w = c.put_placement-at.ensures in
    let here : l.i < length v = let m = length-map c.args.layout.now placement_of in omega arith in
    let step : placements_text l.i (drop l.i v) ≡ placement_text l.i (place_of v l.i) ++ placements_text (l.i + 1) (drop (l.i + 1) v) =
    placements_text_lem v l.i here in
    (let e = w.end in let s = w.short in omega arith, left_then (rw step at l.invariant.1) (left_after_lem w _))

pub returns : goal.returns
unfolding layout_text job_of
returns c =
    let v = layout_of c.args.layout.now in
    let l = c.loop-i in
    let end : placements_text l.i (drop l.i v) ≡ [] =
    placements_end v l.i (let m = length-map c.args.layout.now placement_of in omega arith) in
    λ table pixels. left_none (left_then (left_after_lem c.put_layout_line-at.ensures _) (rw end at l.invariant.1))
