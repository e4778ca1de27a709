-- `search_beside::renew_placed` meets its contract: only the mover's entries change. Assumes nothing.
use Rattle.list_laws.proofs.Kit.{ap, subst, sym, ◌<◌, ℕ, rules}
use Rattle.model.specs.Piece.{on_line}
use Rattle.model.specs.Lent.{lent_by, job_of}
use Rattle.model.specs.Buffer.{layout_of}
use Rattle.search_laws.proofs.Table.{renewed_begin, renewed_end}
use Rattle.search_tracks.specs.declared.Track.{Track}
use Rattle.search_beside.proofs.Tracks.{track_asked, on_track}
use Rattle.search_beside.proofs.Renewing.{mover_placed}
use Rattle.search_beside.proofs.renew_placed.Statement.{statement}
use Rattle.search_beside.proofs.renew_placed.Tie as tie

track_of-track-requires : tie.Need-track_of-track-requires
track_of-track-requires c κs =
    let at-start : tie.Start = search in
    let a = at-start.args in
    let l = lent_by a.run.size a.table.now a.pixels.now in
    track_asked l a.mover.piece at-start.requires.0.well at-start.requires.1.1.0.0

renew_others-requires : tie.Need-renew_others-requires
renew_others-requires c κs =
    let at-track-of : tie.After-track_of-track = search in
    let at-start : tie.Start = search in
    let a = at-start.args in
    let l = lent_by a.run.size a.table.now a.pixels.now in
    let t = at-track-of.track_of-track in
    let o = on_track l a.mover t.result at-start.requires.0.well at-start.requires.1.1.0.0 (t.ensures.0 a.pixels.now) t.ensures.1 in
    let p = ap (λ (z : Track). z.places) o.is in (
      at-start.requires.0,
      (
        at-start.requires.1.0,
        (
          o,
          (
            subst (λ (n : ℕ). a.at < n) (sym p) at-start.requires.1.1.0.1,
            renewed_begin (job_of l) (layout_of a.layout.now) a.run.size.count a.mover.piece (on_line a.mover.line a.mover.turn a.at)
                a.penalties.now at-start.requires.1.1.1,
          ),
        ),
      ),
    )

returns : tie.Need-returns
returns c =
    let at-renew-others : tie.After-renew_others = search in
    let at-start : tie.Start = search in
    let a = at-start.args in
    let l = lent_by a.run.size a.table.now a.pixels.now in
    let x = at-renew-others.renew_others in (
      renewed_end (job_of l) (layout_of a.layout.now) a.run.size.count a.mover.piece (on_line a.mover.line a.mover.turn a.at)
          x.new.penalties
          (mover_placed l a.layout.now a.mover.piece at-start.requires.1.0 at-start.requires.1.1.0.0) x.ensures.0,
      x.ensures.1,
    )

pub renew_placed_spec : {M : Type 1} → statement M
renew_placed_spec = tie.close (tie.spec
    track_of-track-requires renew_others-requires (search rules) (search rules) (search rules) returns)
