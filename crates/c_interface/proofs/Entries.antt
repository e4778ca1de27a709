-- The entry that four numbers are, by what the reader tests of them. Assumes nothing.
use Rattle.std.specs.Prelude.{is_some}
use Rattle.list_laws.proofs.Kit.{◌≡◌, refl, Bool, false, true, Option, none, some, List, ◌<◌, ◌≤◌, ℕ, eqb, get_or, le-ltb, lt-ltb}
use Rattle.model.specs.Buffer.{turn_of_degrees, is_turn, placement}
use Rattle.model.specs.declared.Turn.{Turn}
use Rattle.layout_places.specs.Answers.{turn_answer}
use Rattle.c_interface.specs.Records.{entry_of_numbers, stray_entry}

-- a turn is answered where the degrees are one's
pub some_turn : (d : ℕ) → is_some (turn_answer (turn_of_degrees d)) ≡ is_turn d
unfolding is_turn
some_turn d = there (turn_of_degrees d)
  where
    there : (o : Option Turn) → is_some (turn_answer o) ≡ elim o as (λ _. Bool) [ none ↦ false | some t ↦ true ]
    there none = refl
    there (some t) = refl

module _ (ks : List ℕ) where
  -- laid above 1: no entry
  pub laid_wrong : 2 ≤ get_or ks 0 0 → entry_of_numbers ks ≡ stray_entry
  laid_wrong l = rw (le-ltb (get_or ks 0 0) 2 l, entry_of_numbers)

  -- degrees of no turn: no entry
  pub turn_wrong : get_or ks 0 0 < 2 → is_turn (get_or ks 1 0) ≡ false → entry_of_numbers ks ≡ stray_entry
  turn_wrong l e = rw (lt-ltb (get_or ks 0 0) 2 l, entry_of_numbers, e)

  -- laid 1 or 0 and the degrees of a turn: the entry of the placement
  pub numbers_right : get_or ks 0 0 < 2 → is_turn (get_or ks 1 0) ≡ true
      → entry_of_numbers ks ≡ record { laid = eqb (get_or ks 0 0) 1; place = placement (get_or ks 1 0) (get_or ks 2 0) (get_or ks 3 0) }
  numbers_right l e = rw (lt-ltb (get_or ks 0 0) 2 l, entry_of_numbers, e)
