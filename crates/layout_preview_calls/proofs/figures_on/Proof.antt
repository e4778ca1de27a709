-- `layout_preview_calls::figures_on` meets its contract: the copy holds the moved layout, and its figures are those. Both layouts are ones that
-- calls take, so that only the result tells them apart. Assumes nothing.
use Rattle.list_laws.proofs.Kit.{◌∙◌, ◌≡◌, ap, refl, subst, sym, List, ℕ, arith, rules}
use Rattle.model.specs.Layout.{with_place, figures}
use Rattle.model.specs.Lent.{Lent, lent_by, job_of}
use Rattle.model.specs.Buffer.{layout_of}
use Rattle.job_laws.proofs.Checked.{facts}
use Rattle.descent_laws.specs.LentLayout.{Laid}
use Rattle.search_laws.specs.Table.{PenaltyTable}
use Rattle.call_laws.specs.Previews.{entries_with}
use Rattle.text_laws.proofs.Entries.{layout_set}
use Rattle.call_laws.proofs.Previews.{moved_laid}
use Rattle.layout_strips.proofs.Keeping.{laid_drawable}
use Rattle.layout_preview_calls.proofs.figures_on.Statement.{statement}
use Rattle.layout_preview_calls.proofs.figures_on.Tie as tie

-- the lent job
abbrev lent : tie.Start → Lent
lent s = lent_by s.args.size s.args.table.now s.args.pixels.now

-- the layout with the piece placed anew, which calls take
abbrev after : tie.Start → List (List ℕ)
after s = entries_with s.args.layout.now s.args.piece s.args.place

after_laid : (s : tie.Start) → Laid (lent s) (after s)
after_laid s =
    let m = s.requires.1.1.0 in moved_laid (lent s) s.args.layout.now s.args.piece s.args.place s.requires.0 m.piece m.turn m.within

put_moved-requires : tie.Need-put_moved-requires
put_moved-requires c κs =
    let s : tie.Start = search in
    let whole = s.requires.0.whole in
    let room = s.requires.1.1.1 in
    let piece = s.requires.1.1.0.piece in (omega arith, omega arith)

-- the copy holds it
copied : (c : tie.After-put_moved) → let s : tie.Start = search in Laid (lent s) c.put_moved.new.moved
copied c = let s : tie.Start = search in subst (Laid (lent s)) (sym c.put_moved.ensures) (after_laid s)

penalties_of-penalties-requires : tie.Need-penalties_of-penalties-requires
penalties_of-penalties-requires c κs =
    let s : tie.Start = search in
    let put : tie.After-put_moved = search in
    let new = laid_drawable (lent s) _ (copied put) in
    let old = laid_drawable (lent s) _ s.requires.0 in
    (search, (facts (lent s) s.requires.0.well).small_gap)

-- as which a reader sees the copy
moved-is : (c : tie.After-put_moved) → let s : tie.Start = search in
    layout_of c.put_moved.new.moved ≡ with_place (layout_of s.args.layout.now) s.args.piece s.args.place
moved-is c =
    let s : tie.Start = search in
    ap layout_of c.put_moved.ensures ∙ layout_set s.args.layout.now s.args.piece s.args.place

-- the table is that of the moved layout
filled : (c : tie.After-penalties_of-penalties) → let s : tie.Start = search in
    PenaltyTable (job_of (lent s)) (with_place (layout_of s.args.layout.now) s.args.piece s.args.place) s.args.size.count
    c.penalties_of-penalties.result
filled c =
    let s : tie.Start = search in
    let put : tie.After-put_moved = search in
    let new-whole = sym (copied put).whole in
    let old-whole = sym s.requires.0.whole in
    subst (λ v. PenaltyTable (job_of (lent s)) v s.args.size.count c.penalties_of-penalties.result) (moved-is put)
    (c.penalties_of-penalties.ensures search)

total-sum-requires : tie.Need-total-sum-requires
unfolding job_of
total-sum-requires c κs =
    let s : tie.Start = search in
    let made : tie.After-penalties_of-penalties = search in
    record { few = (facts (lent s) s.requires.0.well).few_pieces; size = (filled made).size; one_per_pair = s.requires.1.0.one_per_pair }

length_between_ends-length-requires : tie.Need-length_between_ends-length-requires
length_between_ends-length-requires c κs =
    let s : tie.Start = search in
    let put : tie.After-put_moved = search in
    let known = facts (lent s) s.requires.0.well in
    let new = (copied put).whole in
    let old = s.requires.0.whole in (known.some_pieces, known.entries, search)

returns : tie.Need-returns
unfolding figures job_of
returns c =
    let s : tie.Start = search in
    let put : tie.After-put_moved = search in
    let made : tie.After-penalties_of-penalties = search in
    let summed : tie.After-total-sum = search in
    rw (
      summed.total-sum.ensures (job_of (lent s)) (with_place (layout_of s.args.layout.now) s.args.piece s.args.place) refl (filled made),
      c.length_between_ends-length.ensures s.args.pixels.now,
      moved-is put,
    )

pub figures_on_spec : {M : Type 1} → statement M
figures_on_spec =
    tie.close (tie.spec
    put_moved-requires penalties_of-penalties-requires (search rules) total-sum-requires length_between_ends-length-requires (search rules) returns)
