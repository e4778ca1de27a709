-- The lines of the pieces, read one after the other: what is read so far is at the front of the buffer, and what is left decides the
-- whole. Assumes nothing.
use Rattle.list_laws.proofs.Kit.{◌∙◌, ◌≡◌, ap, refl, sym, true, List, [], ◌++◌, ◌∷◌, append-nil, map-append, ◌+◌, ◌-◌, ◌<◌, ◌≤◌, suc, ℕ, add-one, arith}
use Rattle.list_laws.proofs.Kit.{length, length-append, length-map, set, append_snoc, sets, eq-eqb, ne_eqb}
use Rattle.model.specs.Layout.{Job, Layout}
use Rattle.model.specs.Refusal.{Outcome, refused, given, unless, refusal_of, wrong_form}
use Rattle.model.specs.Buffer.{entry_of, entries_of}
use Rattle.model.specs.Text.{cause_in, and_then}
use Rattle.model.specs.LayoutText.{placement_line, placements_at}
use Rattle.model.specs.declared.Placement.{Placement}
use Rattle.model.specs.declared.Refusal.{Refusal}
use Rattle.list_laws.proofs.Stores.{sets_append}

-- what is given is one thing
pub given_same : {A : Type 0} {a b : A} → given a ≡ given b → a ≡ b
given_same e = cc

-- the layout with what is read so far in front
abbrev behind : Layout → Outcome Layout → Outcome Layout
behind front o = and_then o (λ v. given (front ++ v))

-- one placement more
behind_more : (front : Layout) (q : Placement) (o : Outcome Layout)
    → behind front (and_then o (λ v. given (q ∷ v))) ≡ behind (front ++ (q ∷ [])) o
behind_more front q (refused r) = refl
behind_more front q (given v) = ap given (sym (append_snoc front q v))

-- its entry stands behind those that are there
entries_more : (before : List (List ℕ)) (front : Layout) (q : Placement) (i : ℕ) → length front ≡ i
    → set (sets before 0 (entries_of front)) i (entry_of q) ≡ sets before 0 (entries_of (front ++ (q ∷ [])))
entries_more before front q i e =
    let at : 0 + length (entries_of front) ≡ i = let m = length-map front entry_of in omega arith in
    rw (map-append entry_of front (q ∷ []), sets_append before 0 (entries_of front) (entry_of q ∷ []), at)

-- so many pieces' lines are read, the next begins at `at` on the given line
pub record ReadProgress (job : List ℕ → Job) (count : ℕ) (text : List ℕ) (p : ℕ) (before after : List (List ℕ)) (at line i : ℕ) : Type 0 where
  pub front : Layout
  pub counted : length front ≡ i
  pub memory : after ≡ sets before 0 (entries_of front)
  pub goes : (pixels : List ℕ) → placements_at (job pixels) text count 0 p 2 ≡ behind front (placements_at (job pixels) text (count - i) i at line)

module _ (job : List ℕ → Job) (count : ℕ) (text : List ℕ) (p : ℕ) (before : List (List ℕ)) where
  module _ (after : List (List ℕ)) (at line i : ℕ) (h : ReadProgress job count text p before after at line i) where
    -- a line that is read
    pub progress_more : i < count → (q : Placement) (next : ℕ)
        → ((pixels : List ℕ) → placement_line (job pixels) text i at line ≡ given (record { place = q; next = next }))
        → ReadProgress job count text p before (set after i (entry_of q)) next (line + 1) (i + 1)
    unfolding placements_at
    progress_more l q next e =
        record {
          front = h.front ++ (q ∷ []);
          counted = let k = h.counted in let s = length-append h.front (q ∷ []) in omega arith;
          memory = ap (λ (es : List (List ℕ)). set es i (entry_of q)) h.memory ∙ entries_more before h.front q i h.counted;
          goes = λ pixels.
              let left : count - i ≡ suc (count - (i + 1)) = omega arith in
              h.goes pixels ∙ rw (left, placements_at, e pixels, add-one i, add-one line)
              (behind_more h.front q (placements_at (job pixels) text (count - suc i) (suc i) next (suc line)));
        }

    -- a line that refuses
    pub progress_refused : i < count → (r : Refusal) (pixels : List ℕ) → placement_line (job pixels) text i at line ≡ refused r
        → placements_at (job pixels) text count 0 p 2 ≡ refused r
    unfolding placements_at
    progress_refused l r pixels e =
        let left : count - i ≡ suc (count - (i + 1)) = omega arith in h.goes pixels ∙ rw (left, placements_at, e)

    -- after the last line something follows, or nothing
    pub progress_extra : count ≤ i → (at ≡ length text → ⊥) → (pixels : List ℕ)
        → placements_at (job pixels) text count 0 p 2 ≡ refused (refusal_of (cause_in line wrong_form true))
    unfolding placements_at unless
    progress_extra l n pixels = let left : count - i ≡ 0 = omega arith in h.goes pixels ∙ rw (left, placements_at, ne_eqb _ _ n)

    pub progress_end : count ≤ i → at ≡ length text → (pixels : List ℕ) → placements_at (job pixels) text count 0 p 2 ≡ given h.front
    unfolding placements_at unless
    progress_end l n pixels = let left : count - i ≡ 0 = omega arith in
        h.goes pixels ∙ rw (left, placements_at, eq-eqb _ _ n) (ap given (append-nil h.front))
