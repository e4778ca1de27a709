-- What is written one after the other. Assumes nothing.
use Rattle.list_laws.proofs.Kit.{◌∙◌, ◌≡◌, ap, sym, List, [], ◌++◌, ◌∷◌, append_assoc, ◌+◌, ◌<◌, ◌≤◌, ℕ, add-one, arith, drop, drop_of_length-le, get_or}
use Rattle.list_laws.proofs.Kit.{length, length-append, set, append_snoc, drop-cons, sets}
use Rattle.model.specs.Layout.{Layout, origin, place_of}
use Rattle.model.specs.Buffer.{entry_of}
use Rattle.model.specs.Text.{comma, line_end, digits, three_fields, fields_text, line_text}
use Rattle.model.specs.LayoutText.{at_word, placement_text, placements_text}
use Rattle.model.specs.declared.Placement.{Placement}
use Rattle.list_laws.proofs.Stores.{sets_append}
use Rattle.text_fields.proofs.Steps.{decimal_short}
use Rattle.layout_write_calls.specs.Written.{Written}

module _ (before : List ℕ) (at : ℕ) (next : ℕ) (after : List ℕ) where
  -- bytes that are there
  pub bytes_written : (bytes : List ℕ) → (next ≡ at + length bytes) × (after ≡ sets before at bytes) → Written before at bytes (length bytes) next after
  bytes_written bytes h = record { end = h.0; short = omega arith; memory = h.1 }

  -- a number has at most 5 digits
  pub number_written : (k : ℕ) → (next ≡ at + length (digits k)) × (after ≡ sets before at (digits k)) → Written before at (digits k) 5 next after
  number_written k h = record { end = h.0; short = decimal_short 5 k; memory = h.1 }

  -- one byte
  pub byte_written : (b : ℕ) → (next ≡ at + 1) × (after ≡ set before at b) → Written before at (b ∷ []) 1 next after
  byte_written b h = record { end = h.0; short = omega arith; memory = h.1 }

-- bytes written behind others
pub written_then : {before mid after xs ys : List ℕ} {at next last m n : ℕ} → Written before at xs m next mid → Written mid next ys n last after
    → Written before at (xs ++ ys) (m + n) last after
written_then {before} {xs = xs} {ys = ys} {at = at} f s =
    record {
      end = let e = f.end in let d = s.end in let k = length-append xs ys in omega arith;
      short = let e = f.short in let d = s.short in let k = length-append xs ys in omega arith;
      memory = s.memory ∙ rw (f.memory, f.end) (sym (sets_append before at xs ys));
    }

-- what is still to be written comes to the same as all of it did before
pub record Left (before : List ℕ) (at : ℕ) (all : List ℕ) (after : List ℕ) (next : ℕ) (left : List ℕ) : Type 0 where
  pub end : next + length left ≡ at + length all
  pub memory : sets after next left ≡ sets before at all

-- after some bytes the others are left
pub left_after_lem : {before after xs : List ℕ} {at next most : ℕ} → Written before at xs most next after → (ys : List ℕ) → Left before at (xs ++ ys) after next ys
left_after_lem {before} {after} {xs} {at} w ys =
    record {
      end = let e = w.end in let k = length-append xs ys in omega arith;
      memory = rw (w.memory, w.end) (sym (sets_append before at xs ys));
    }

-- and so on
pub left_then : {a b c all left last : List ℕ} {i j k : ℕ} → Left a i all b j left → Left b j left c k last → Left a i all c k last
left_then f s = record { end = s.end ∙ f.end; memory = s.memory ∙ f.memory }

-- at the end all of it is there
pub left_none : {before all after : List ℕ} {next : ℕ} → Left before 0 all after next [] → (next ≡ length all) × (after ≡ sets before 0 all)
left_none h = (let e = h.end in omega arith, h.memory)

-- ── lines ──

-- three fields one after the other
pub three_text : (a b c : ℕ)
    → ((digits a ++ (comma ∷ [])) ++ (digits b ++ (comma ∷ []))) ++ (digits c ++ (line_end ∷ [])) ≡ line_text [] three_fields (a ∷ b ∷ c ∷ [])
unfolding fields_text
three_text a b c = simp append_assoc

-- a piece's line: its word, its number and the three fields of its placement
pub placement_text_lem : (i : ℕ) (p : Placement) (e : List ℕ) → e ≡ entry_of p
    → (at_word ++ (digits i ++ (comma ∷ []))) ++ line_text [] three_fields (get_or e 0 0 ∷ get_or e 1 0 ∷ get_or e 2 0 ∷ []) ≡ placement_text i p
unfolding fields_text
placement_text_lem i p e h = rw h (ap (λ (l : List ℕ). at_word ++ l) (append_snoc (digits i) comma (fields_text three_fields (entry_of p))))

-- the lines from piece i on: its own, and those of the pieces behind it
pub placements_text_lem : (v : Layout) (i : ℕ) → i < length v
    → placements_text i (drop i v) ≡ placement_text i (place_of v i) ++ placements_text (i + 1) (drop (i + 1) v)
unfolding placements_text
placements_text_lem v i l = rw (drop-cons v i origin l, add-one, placements_text)

-- after the last piece no line is left
pub placements_end : (v : Layout) (i : ℕ) → length v ≤ i → placements_text i (drop i v) ≡ []
unfolding placements_text
placements_end v i l = rw (drop_of_length-le v {i = i} l)
