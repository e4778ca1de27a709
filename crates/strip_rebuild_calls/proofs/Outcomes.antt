-- What the rebuild call comes to, case by case in the order of its causes. Assumes nothing.
use Rattle.list_laws.proofs.Kit.{◌≡◌, false, true, List, ◌*◌, ◌<◌, ◌≤◌, ℕ, le-ltb, lt-ltb}
use Rattle.model.specs.Lent.{up_to}
use Rattle.model.specs.Piece.{side_bound}
use Rattle.model.specs.Refusal.{unless, refused, given, plain_refusal}
use Rattle.model.specs.Calls.{rebuild_call, strips_well, rebuilt_from}
use Rattle.model.specs.declared.Direction.{Direction}
use Rattle.list_laws.proofs.Tests.{first_fails, second_fails}
use Rattle.job_laws.proofs.Ranges.{at_least, up_to_lem}

-- a side in range
pub side_range : (k : ℕ) → up_to side_bound k ≡ true → (0 < k) × (k ≤ 255)
side_range k e = (at_least side_bound k e, up_to_lem side_bound k e)

module _ (d : Direction) (l w : ℕ) (es : List (List ℕ)) (room : ℕ) where
  -- 2, by the columns
  pub refused_columns : up_to side_bound l ≡ false → rebuild_call d l w es room ≡ refused (plain_refusal 2)
  unfolding rebuild_call unless
  refused_columns e = rw (first_fails (up_to side_bound w) e, unless)

  -- 2, by the rows
  pub refused_rows : up_to side_bound w ≡ false → rebuild_call d l w es room ≡ refused (plain_refusal 2)
  unfolding rebuild_call unless
  refused_rows e = rw (second_fails (up_to side_bound l) e, unless)

  -- 8
  pub refused_strips : up_to side_bound l ≡ true → up_to side_bound w ≡ true → strips_well d l w es ≡ false
      → rebuild_call d l w es room ≡ refused (plain_refusal 8)
  unfolding rebuild_call unless
  refused_strips a b e = rw (a, b, e, unless)

  -- 7
  pub refused_room : up_to side_bound l ≡ true → up_to side_bound w ≡ true → strips_well d l w es ≡ true → room < l * w
      → rebuild_call d l w es room ≡ refused (plain_refusal 7)
  unfolding rebuild_call unless
  refused_room a b e h = rw (a, b, e, lt-ltb room (l * w) h, unless)

  -- the set is given
  pub given_set : up_to side_bound l ≡ true → up_to side_bound w ≡ true → strips_well d l w es ≡ true → l * w ≤ room
      → rebuild_call d l w es room ≡ given (rebuilt_from d l w es)
  unfolding rebuild_call unless
  given_set a b e h = rw (a, b, e, le-ltb room (l * w) h, unless)
