-- `search_tracks::meets_across` meets its contract: both tests across. Assumes nothing.
use Rattle.list_laws.proofs.Kit.{rules}
use Rattle.search_tracks.proofs.Tracks.{told_both}
use Rattle.search_tracks.proofs.meets_across.Statement.{statement}
use Rattle.search_tracks.proofs.meets_across.Tie as tie

returns : tie.Need-returns
returns c = let at-start : tie.Start = search in told_both at-start.args.track at-start.args.standing

pub meets_across_spec : {M : Type 1} → statement M
meets_across_spec = tie.close (tie.spec
    (λ c. search rules) (λ c. search rules) returns)
