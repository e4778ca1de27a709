-- The stacks of the start layout over the entries of a layout buffer. Every piece that is stacked is written, so that what the buffer held for it
-- before plays no part. Assumes nothing.
use Rattle.list_laws.proofs.Kit.{◌∙◌, ◌≡◌, ap, refl, sym, List, [], ◌∷◌, ◌+◌, ◌<◌, ◌≤◌, ℕ, add-one, arith, drop, get_or, length, length-map}
use Rattle.list_laws.proofs.Kit.{length-replicate, replicate, set, drop-cons, le-ltb, lt-ltb}
use Rattle.model.specs.Layout.{Job, Layout, origin}
use Rattle.model.specs.Start.{box_rows, Stack, empty_stack, room_for, on_stack, stacked, stack_all, falling_order, free_only, start, start_of_all}
use Rattle.model.specs.Buffer.{entry_of, placement_of, entries_of, layout_of}
use Rattle.list_laws.proofs.Lists.{map_set, Alike, alike_set, alike_equal}
use Rattle.descent_laws.proofs.Start.{order_exactly, out_locked}
use Rattle.text_laws.proofs.Entries.{entry_at}
use Rattle.call_laws.proofs.Layouts.{buffer_place}
use Rattle.causes.specs.Locked.{LockedWritten}
use Rattle.layout_start_calls.specs.Stacks.{stack_entries}

-- a new stack to the right, where the piece would rise above the sheet
pub room_new : (j : Job) (i : ℕ) (s : Stack) → j.size.rows < s.height + box_rows j i
    → room_for j i s ≡ record { left = s.left + s.length; height = 0; length = 0 }
room_new j i s h = rw (lt-ltb j.size.rows (s.height + box_rows j i) h, room_for)

-- the same stack, where it does not
pub room_same : (j : Job) (i : ℕ) (s : Stack) → s.height + box_rows j i ≤ j.size.rows → room_for j i s ≡ s
room_same j i s h = rw (le-ltb j.size.rows (s.height + box_rows j i) h, room_for)

-- ── entries ──

-- stacking in a layout is stacking in its buffer
stack_entries_lem : (j : Job) (is : List ℕ) (s : Stack) (v : Layout) → entries_of (stack_all j is s v) ≡ stack_entries j is s (entries_of v)
unfolding stack_all stack_entries
stack_entries_lem j [] s v = refl
stack_entries_lem j (i ∷ is) s v =
    stack_entries_lem j is (stacked j i (room_for j i s)) (set v i (on_stack j i (room_for j i s)))
    ∙ ap (stack_entries j is (stacked j i (room_for j i s))) (map_set entry_of v i (on_stack j i (room_for j i s)))

-- two buffers that agree wherever no piece of the list is are stacked alike
stack_alike : (j : Job) (is : List ℕ) (s : Stack) (es fs : List (List ℕ)) → Alike [] is es fs → stack_entries j is s es ≡ stack_entries j is s fs
unfolding stack_entries
stack_alike j [] s es fs h = alike_equal [] es fs h
stack_alike j (i ∷ is) s es fs h = stack_alike j is _ _ _ (alike_set [] i is es fs _ h)

-- one piece of the order is stacked: room is made, it is placed, and it is on the stack
pub stack_step : (j : Job) (order : List ℕ) (k i : ℕ) (before room after : Stack) (e : List ℕ) (es : List (List ℕ)) → k < length order
    → get_or order k 0 ≡ i → room ≡ room_for j i before → e ≡ entry_of (on_stack j i room) → after ≡ stacked j i room
    → stack_entries j (drop (k + 1) order) after (set es i e) ≡ stack_entries j (drop k order) before es
unfolding stack_entries
stack_step j order k i before room after e es l here made placed on = rw (on, placed, made, add-one, drop-cons order k 0 l, here, stack_entries)

-- ── the start layout of all pieces ──

-- the pieces of a job stacked in falling order over whatever the buffer held are its start layout of all pieces
pub all_laid : (j : Job) (order : List ℕ) (es laid : List (List ℕ)) → length es ≡ j.size.count → order ≡ falling_order j j.size.count
    → laid ≡ stack_entries j order empty_stack es → laid ≡ entries_of (start_of_all j)
unfolding start_of_all
all_laid j order es laid n o e =
    e ∙ ap (λ (is : List ℕ). stack_entries j is empty_stack es) o
    ∙ stack_alike j (falling_order j j.size.count) empty_stack es (entries_of (replicate j.size.count origin))
    (record {
      size = n ∙ sym (length-map (replicate j.size.count origin) entry_of ∙ length-replicate j.size.count origin);
      agree = λ k l out. absurd (out ((order_exactly j j.size.count k).1 (omega arith)));
    })
    ∙ sym (stack_entries_lem j (falling_order j j.size.count) empty_stack (replicate j.size.count origin))

-- ── the start layout with locked placements ──

-- the free pieces stacked in falling order over a buffer whose locked entries are those of their placements are the start layout
pub start_laid : (j : Job) (es laid : List (List ℕ)) → length es ≡ j.size.count → LockedWritten j es
    → laid ≡ stack_entries j (free_only j (falling_order j j.size.count)) empty_stack es → laid ≡ entries_of (start j (layout_of es))
unfolding start
start_laid j es laid n written e =
    e
    ∙ stack_alike j (free_only j (falling_order j j.size.count)) empty_stack es (entries_of (layout_of es))
    (record {
      size = sym (length-map (layout_of es) entry_of ∙ length-map es placement_of);
      agree = λ k l out.
          (let there : k < j.size.count = omega arith in
          written k there (out_locked j k there out)
          ∙ sym (entry_at (layout_of es) k (let m = length-map es placement_of in omega arith) ∙ ap entry_of (buffer_place es k)));
    })
    ∙ sym (stack_entries_lem j (free_only j (falling_order j j.size.count)) empty_stack (layout_of es))
