-- Lines put into a buffer one after another: what is left to store. Assumes nothing.
use Rattle.list_laws.proofs.Kit.{◌∙◌, ◌≡◌, ◌≢◌, ap, ap₂, refl, sym, List, [], ◌++◌, ◌∷◌, map, map-append, ◌+◌, ◌-◌, ◌≤◌, suc, zero, ℕ, add-zero, arith}
use Rattle.list_laws.proofs.Kit.{length, length-append}
use Rattle.list_laws.proofs.Kit.{length-map, length-sets, set, sets}
use Rattle.list_laws.proofs.Stores.{sets_append}
use Rattle.model.specs.Strip.{Strip, strip_of, closing}
use Rattle.model.specs.Buffer.{direction_number}
use Rattle.model.specs.Cut.{cut_line_of, line_entry}
use Rattle.model.specs.declared.Direction.{Direction}
use Rattle.cut_scan.specs.Scan.{line_entries, LinesAppended, Left}

-- the entries of two lists of strips
entries_append : (d : Direction) (ts us : List Strip) → line_entries d (ts ++ us) ≡ line_entries d ts ++ line_entries d us
entries_append d ts us = ap (map line_entry) (map-append (cut_line_of d) ts us) ∙ map-append line_entry (map (cut_line_of d) ts) (map (cut_line_of d) us)

-- as many entries as strips
entries_length : (d : Direction) (ts : List Strip) → length (line_entries d ts) ≡ length ts
entries_length d ts = length-map (map (cut_line_of d) ts) line_entry ∙ length-map ts (cut_line_of d)

-- all is left at first
pub left_start : (d : Direction) (before : List (List ℕ)) (from : ℕ) (all : List Strip) → Left d before from all before from all
left_start d before from all = record { stored = refl; counted = refl }

-- the first of what is left is stored
pub left_append : {d : Direction} {before now now' : List (List ℕ)} {from at at' : ℕ} {all : List Strip} (ts us : List Strip)
    → Left d before from (ts ++ us) now at all → LinesAppended d ts now at now' at' → Left d before from us now' at' all
left_append {d} {before} {now} {now'} {from} {at} {at'} {all} ts us w p =
    let end : at' ≡ at + length ts = p.end in
    let counted : at + length (ts ++ us) ≡ from + length all = w.counted in
    let both : length (ts ++ us) ≡ length ts + length us = length-append ts us in
    record {
      stored =
          ap₂ (λ (l : List (List ℕ)) (k : ℕ). sets l k (line_entries d us)) p.stored (end ∙ ap (λ (k : ℕ). at + k) (sym (entries_length d ts)))
          ∙ sym (sets_append now at (line_entries d ts) (line_entries d us))
          ∙ ap (sets now at) (sym (entries_append d ts us))
          ∙ w.stored;
      counted = omega arith;
    }

-- nothing is left
pub left_end_lem : {d : Direction} {before now : List (List ℕ)} {from at : ℕ} {all : List Strip} → Left d before from [] now at all
    → LinesAppended d all before from now at
left_end_lem {d} {before} {now} {from} {at} {all} w =
    record { end = let h : at + length {A = Strip} [] ≡ from + length all = w.counted in sym (add-zero at) ∙ h; stored = w.stored }

-- the buffer keeps its length
pub appended_length : {d : Direction} {before after : List (List ℕ)} {at next : ℕ} {ts : List Strip} → LinesAppended d ts before at after next
    → length after ≡ length before
appended_length {d} {before} {after} {at} {next} {ts} p = ap length p.stored ∙ length-sets before at (line_entries d ts)

-- nothing is stored
none_appended : (d : Direction) (before : List (List ℕ)) (at : ℕ) → LinesAppended d [] before at before at
none_appended d before at = record { end = sym (add-zero at); stored = refl }

-- no run is stored where there is none
pub closed_none : (d : Direction) (line end run : ℕ) (before : List (List ℕ)) (at : ℕ) → run ≡ 0
    → LinesAppended d (map (strip_of line) (closing end run [])) before at before at
closed_none d line end run before at e = rw e (none_appended d before at)

-- a run is stored as one line
pub closed_one : (d : Direction) (line end run : ℕ) (before : List (List ℕ)) (at : ℕ) → run ≢ 0 → run ≤ end
    → LinesAppended d (map (strip_of line) (closing end run [])) before at (set before at (direction_number d ∷ line ∷ (end - run) ∷ end ∷ [])) (at + 1)
closed_one d line end zero before at n l = absurd (n refl)
closed_one d line end (suc run) before at n l =
    record {
      end = refl;
      stored = let e : end ≡ end - suc run + suc run = omega arith in ap (λ (k : ℕ). set before at (direction_number d ∷ line ∷ (end - suc run) ∷ k ∷ [])) e;
    }
