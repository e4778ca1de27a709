-- `counts_match`: the front of the room holds the counts made anew, and the comparison asks just what the test does.
-- Assumes nothing.
use Rattle.list_laws.proofs.Kit.{◌∙◌, ◌≡◌, sym, ◌++◌, arith, drop, length, length-append, take, length-take-le, take_at, take-length, rules}
use Rattle.model.specs.Lent.{lent_by, job_of}
use Rattle.list_laws.proofs.Lists.{front_length}
use Rattle.sheet_check.proofs.Recounts.{same_counted}
use Rattle.sheet_check.proofs.counts_match.Statement.{statement}
use Rattle.sheet_check.proofs.counts_match.Tie as tie

slice_bounds-recount-end-2 : tie.Need-slice_bounds-recount-end-2
slice_bounds-recount-end-2 c =
    let at-start : tie.Start = search in
    front_length _ at-start.args.made.now at-start.requires.1

recount-requires : tie.Need-recount-requires
recount-requires c κs =
    let at-start : tie.Start = search in
    let a = at-start.args in
    let pre = at-start.requires in
    record {
      well = pre.0.well;
      entries = pre.0.entries;
      full = length-take-le (length a.counts.now) a.made.now pre.1 ∙ pre.0.full;
    }

slice_bounds-same-end-2 : tie.Need-slice_bounds-same-end-2
unfolding job_of
slice_bounds-same-end-2 c =
    let at-recount : tie.After-recount = search in
    let at-start : tie.Start = search in
    let a = at-start.args in
    let pre = at-start.requires in
    let made = at-recount.recount.new.made in
    let full : length made ≡ length a.counts.now = at-recount.recount.ensures.full ∙ sym pre.0.full in
    front_length _ (made ++ drop (length a.counts.now) a.made.now) (simp length-append (omega arith))

slice_bounds-same-end-3 : tie.Need-slice_bounds-same-end-3
slice_bounds-same-end-3 c =
    let at-start : tie.Start = search in
    front_length _ at-start.args.counts.now (omega arith)

returns : tie.Need-returns
unfolding job_of
returns c =
    let at-recount : tie.After-recount = search in
    let at-start : tie.Start = search in
    let a = at-start.args in
    let pre = at-start.requires in
    let made = at-recount.recount.new.made in
    let full : length made ≡ length a.counts.now = at-recount.recount.ensures.full ∙ sym pre.0.full in
    let front : take (length a.counts.now) (made ++ drop (length a.counts.now) a.made.now) ≡ made =
    take_at made (drop (length a.counts.now) a.made.now) (length a.counts.now) full in
    let all : take (length a.counts.now) a.counts.now ≡ a.counts.now = take-length a.counts.now in
    same_counted (job_of (lent_by a.size a.table.now a.pixels.now)) a.sheet.pieces made a.counts.now c.same.result
    at-recount.recount.ensures pre.0.full (λ t. sym front ∙ c.same.ensures.0 t ∙ all) (λ e. c.same.ensures.1 (front ∙ e ∙ sym all))

pub counts_match_spec : {M : Type 1} → statement M
counts_match_spec =
    tie.close (tie.spec
    (search rules) slice_bounds-recount-end-2 recount-requires (search rules) slice_bounds-same-end-2 slice_bounds-same-end-3 (search rules)
    (search rules) returns)
