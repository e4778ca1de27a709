-- A layout buffer that is written again. Assumes nothing.
use Rattle.list_laws.proofs.Kit.{◌∙◌, ◌≡◌, ap, sym, ◌⊎◌, inl, inr, List, [], ◌+◌, ◌<◌, ℕ}
use Rattle.list_laws.proofs.Kit.{eq-or-lt_of_le, arith, get_or, length, length-map, length-set}
use Rattle.list_laws.proofs.Kit.{set, ext_get_or, get_or-set_other, get_or-set_same, set-get_or}
use Rattle.model.specs.Layout.{Layout, place_of, origin}
use Rattle.model.specs.Buffer.{entry_of, placement_of, layout_of, entries_of}
use Rattle.text_laws.proofs.Entries.{entry_at, layout_set}

-- the entries below i are written again, and the layout is read as before
pub record Rewritten (start now : List (List ℕ)) (i : ℕ) : Type 0 where
  pub same : length now ≡ length start
  pub reads : layout_of now ≡ layout_of start
  pub done : (k : ℕ) → k < i → get_or now k [] ≡ entry_of (place_of (layout_of start) k)

-- one more
pub rewritten_step : (start now : List (List ℕ)) (i : ℕ) → i < length now → Rewritten start now i
    → Rewritten start (set now i (entry_of (place_of (layout_of now) i))) (i + 1)
rewritten_step start now i l h =
    record {
      same = length-set now i _ ∙ h.same;
      reads = layout_set now i (place_of (layout_of now) i) ∙ set-get_or (layout_of now) i origin ∙ h.reads;
      done = λ k b. at k (eq-or-lt_of_le (omega arith));
    }
  where
    at : (k : ℕ) → (k ≡ i) ⊎ (k < i) → get_or (set now i (entry_of (place_of (layout_of now) i))) k [] ≡ entry_of (place_of (layout_of start) k)
    at k (inl e) = rw e (get_or-set_same now i _ [] l ∙ ap (λ (v : Layout). entry_of (place_of v i)) h.reads)
    at k (inr b) = get_or-set_other now i k _ [] (λ z. omega arith) ∙ h.done k b

-- after the last
pub rewritten_end : (start now : List (List ℕ)) → Rewritten start now (length now) → now ≡ entries_of (layout_of start)
rewritten_end start now h =
    let same = h.same in
    let placed : length (layout_of start) ≡ length start = length-map start placement_of in
    let entries : length (entries_of (layout_of start)) ≡ length (layout_of start) = length-map (layout_of start) entry_of in
    ext_get_or [] now (entries_of (layout_of start)) (omega arith) (λ k l. h.done k l ∙ sym (entry_at (layout_of start) k (omega arith)))
