-- `search_bounded::search_short` meets its contract: a cleared array has a sum of 0 for each place. Assumes nothing.
use Rattle.list_laws.proofs.Kit.{sym, ◌≤◌, rules}
use Rattle.list_laws.proofs.Lists.{repeated_front}
use Rattle.model.specs.Lent.{Lent, lent_by}
use Rattle.search_bounded.proofs.Searching.{cleared_zero}
use Rattle.search_bounded.proofs.search_short.Statement.{statement}
use Rattle.search_bounded.proofs.search_short.Tie as tie

-- the lent job
abbrev lent : tie.Start → Lent
lent e = lent_by e.args.run.size e.args.table.now e.args.pixels.now

-- the array has room
room : (e : tie.Start) → e.args.wanted.sweep.track.places ≤ 512
room e = e.requires.1.1.1.1

slice_bounds-search_over-end : tie.Need-slice_bounds-search_over-end
slice_bounds-search_over-end c = let e : tie.Start = search in sym (repeated_front e.args.wanted.sweep.track.places 512 _ (room e))

search_over-requires : tie.Need-search_over-requires
search_over-requires c κs =
    let e : tie.Start = search in (
      e.requires.0,
      (
        e.requires.1.0,
        (
          e.requires.1.1.0,
          (
            e.requires.1.1.1.0,
            (
              repeated_front e.args.wanted.sweep.track.places 512 _ (room e),
              λ a. cleared_zero e.args.wanted.sweep.track.places 512 a (room e),
            ),
          ),
        ),
      ),
    )

returns : tie.Need-returns
returns c = let x : tie.After-search_over = search in x.search_over.ensures

pub search_short_spec : {M : Type 1} → statement M
search_short_spec =
    tie.close (tie.spec
    (search rules) slice_bounds-search_over-end search_over-requires (search rules) (search rules) returns)
