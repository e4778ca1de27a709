-- Document 01, 'Start, layout text, sheet': "A panel is laid when the last of its calls that wasn't refused is a lay", and one that
-- isn't laid has turn 0 and corner (0, 0). A piece's entry is the one that this last call leaves: a given call writes the entry of
-- its own piece alone, and a refused one writes nothing. Assumes nothing.
use Rattle.list_laws.proofs.Kit.{◌∙◌, ◌≡◌, ap, refl, subst, sym, Bool, ◌&&◌, false, false≢true, true, true≢false, Option, none, some, List, [], ◌++◌, ◌∷◌}
use Rattle.list_laws.proofs.Kit.{◌≤◌, ℕ, eqb, eq-eqb, eqb-false, eqb-true}
use Rattle.model.specs.Layout.{Job}
use Rattle.model.specs.Lent.{piece_bound}
use Rattle.model.specs.Refusal.{Outcome, refused, given}
use Rattle.model.specs.Cover.{Sheet, blank, laid_at, entry_in, fresh, Call, laying, withdrawing}
use Rattle.model.specs.Cover.{called, afterwards, after_calls, called_piece, taken, last_taken, ends_laid}
use Rattle.model.specs.declared.Placement.{Placement}
use Rattle.model.specs.declared.Entry.{Entry}
use Rattle.list_laws.proofs.Tests.{and_both}
use Rattle.cover_laws.proofs.Calls.{lay_given, withdraw_given, calls_append}
use Rattle.cover_laws.proofs.Counts.{Sound, lay_entry, lay_others, withdraw_entry, withdraw_others, call_sound, fresh_sound, fresh_entry}

-- the entry that a piece's last given call leaves: a lay its placement, a withdraw or none the blank entry
abbrev pub entry_after : Option Call → Entry
entry_after none = blank
entry_after (some (laying i p)) = laid_at p
entry_after (some (withdrawing i)) = blank

-- the call, if there is one, names piece i
abbrev pub Names : ℕ → Option Call → Type 0
Names i none = Unit {0}
Names i (some c) = called_piece c ≡ i

-- an entry is laid exactly where the call that left it is a lay
pub entry_ends : (o : Option Call) → (entry_after o).laid ≡ ends_laid o
entry_ends none = refl
entry_ends (some (laying i p)) = refl
entry_ends (some (withdrawing i)) = refl

-- an entry that is not laid is blank
pub entry_blank : (o : Option Call) → (entry_after o).laid ≡ false → entry_after o ≡ blank
entry_blank none e = refl
entry_blank (some (laying i p)) e = absurd (true≢false e)
entry_blank (some (withdrawing i)) e = refl

-- the call is a lay of piece i, and the entry that it leaves holds its placement
pub record LaidBy (i : ℕ) (o : Option Call) : Type 0 where
  pub place : Placement
  pub call : o ≡ some (laying i place)
  pub entry : entry_after o ≡ laid_at place

-- a laid entry was left by a lay
pub entry_laid : (i : ℕ) (o : Option Call) → Names i o → (entry_after o).laid ≡ true → LaidBy i o
entry_laid i none n e = absurd (false≢true e)
entry_laid i (some (laying m p)) n e = record { place = p; call = ap (λ (k : ℕ). some (laying k p)) n; entry = refl }
entry_laid i (some (withdrawing m)) n e = absurd (false≢true e)

-- ── what `last_taken` finds ──

-- no call of the list that names piece i is given
abbrev pub NoneTaken : Job → Sheet → ℕ → List Call → Type 0
NoneTaken j s i cs = (ds : List Call) (c : Call) (es : List Call) → cs ≡ ds ++ c ∷ es → called_piece c ≡ i → taken (called j (after_calls j s ds) c) ≡ false

-- a call that is not given, if it names piece i, changes nothing
untaken_step : (before : Option Call) (c : Call) (i : ℕ) (t : Bool) (b : Bool) → eqb (called_piece c) i ≡ b → (called_piece c ≡ i → t ≡ false)
    → elim (b && t) as (λ _. Option Call) [ true ↦ some c | false ↦ before ] ≡ before
untaken_step before c i t true e h = rw (h (eqb-true (called_piece c) i e))
untaken_step before c i t false e h = refl

-- where none is given, what was there before stays
pub last_none : (j : Job) (s : Sheet) (i : ℕ) (before : Option Call) (cs : List Call) → NoneTaken j s i cs → last_taken j s i before cs ≡ before
unfolding last_taken after_calls
last_none j s i before [] h = refl
last_none j s i before (c ∷ cs) h =
    last_none j (afterwards s (called j s c)) i _ cs (λ ds d es e. h (c ∷ ds) d es (ap (λ (l : List Call). c ∷ l) e))
    ∙ untaken_step before c i (taken (called j s c)) (eqb (called_piece c) i) refl (h [] c cs refl)

-- a list of calls after another
pub last_append : (j : Job) (s : Sheet) (i : ℕ) (before : Option Call) (cs ds : List Call)
    → last_taken j s i before (cs ++ ds) ≡ last_taken j (after_calls j s cs) i (last_taken j s i before cs) ds
unfolding last_taken after_calls
last_append j s i before [] ds = refl
last_append j s i before (c ∷ cs) ds = last_append j (afterwards s (called j s c)) i _ cs ds

-- a given call that names piece i is the last one so far
taken_step : (before : Option Call) (c : Call) {b : Bool} → b ≡ true → elim b as (λ _. Option Call) [ true ↦ some c | false ↦ before ] ≡ some c
taken_step before c e = rw e

-- a given call of piece i with none after it is the one that is found
pub last_found : (j : Job) (s : Sheet) (i : ℕ) (before : Option Call) (cs : List Call) (c : Call) (ds : List Call) → called_piece c ≡ i
    → taken (called j (after_calls j s cs) c) ≡ true → NoneTaken j (after_calls j s (cs ++ c ∷ [])) i ds → last_taken j s i before (cs ++ c ∷ ds) ≡ some c
unfolding last_taken after_calls
last_found j s i before cs c ds names now later =
    let t : Sheet = after_calls j s cs in
    last_append j s i before cs (c ∷ ds)
    ∙ last_none j (afterwards t (called j t c)) i _ ds (subst (λ (u : Sheet). NoneTaken j u i ds) (calls_append j s cs (c ∷ [])) later)
    ∙ taken_step (last_taken j s i before cs) c (and_both (eq-eqb (called_piece c) i names) now)

-- ── one call after another ──

-- the last call names the piece
pub last_names : (j : Job) (s : Sheet) (i : ℕ) (before : Option Call) (cs : List Call) → Names i before → Names i (last_taken j s i before cs)
unfolding last_taken
last_names j s i before [] h = h
last_names j s i before (c ∷ cs) h =
    last_names j (afterwards s (called j s c)) i _ cs (names_step (eqb (called_piece c) i) (taken (called j s c)) refl)
  where
    names_step : (b t : Bool) → eqb (called_piece c) i ≡ b → Names i (elim (b && t) as (λ _. Option Call) [ true ↦ some c | false ↦ before ])
    names_step true true e = eqb-true (called_piece c) i e
    names_step true false e = h
    names_step false t e = h

module _ (j : Job) (few : j.size.count ≤ piece_bound) where
  -- the entry after a call is the one that the last given call leaves
  last_step : (s : Sheet) (i : ℕ) (before : Option Call) (c : Call) (o : Outcome Sheet) (b : Bool) → Sound j s → called j s c ≡ o
      → eqb (called_piece c) i ≡ b → entry_in s.pieces i ≡ entry_after before
      → entry_in (afterwards s o).pieces i ≡ entry_after (elim (b && taken o) as (λ _. Option Call) [ true ↦ some c | false ↦ before ])
  last_step s i before c (refused r) true sound e same h = h
  last_step s i before c (refused r) false sound e same h = h
  last_step s i before (laying m p) (given s') true sound e same h =
      let known = lay_given j s s' m p e in
      rw (← known.1, ← (eqb-true m i same)) (lay_entry j few s m p sound known.0.piece)
  last_step s i before (laying m p) (given s') false sound e same h =
      rw (← (lay_given j s s' m p e).1) (lay_others j s m p i (λ q. eqb-false m i same (sym q)) ∙ h)
  last_step s i before (withdrawing m) (given s') true sound e same h =
      let known = withdraw_given j s s' m e in
      rw (← known.1, ← (eqb-true m i same)) (withdraw_entry j few s m sound known.0.lies.piece)
  last_step s i before (withdrawing m) (given s') false sound e same h =
      rw (← (withdraw_given j s s' m e).1) (withdraw_others j s m i (λ q. eqb-false m i same (sym q)) ∙ h)

  -- after a list of calls the entry is the one that the last given call leaves
  pub entry_last : (s : Sheet) (i : ℕ) (before : Option Call) (cs : List Call) → Sound j s → entry_in s.pieces i ≡ entry_after before
      → entry_in (after_calls j s cs).pieces i ≡ entry_after (last_taken j s i before cs)
  unfolding after_calls last_taken
  entry_last s i before [] sound h = h
  entry_last s i before (c ∷ cs) sound h =
      entry_last (afterwards s (called j s c)) i _ cs (call_sound j few s c sound)
      (last_step s i before c (called j s c) (eqb (called_piece c) i) sound refl refl h)

  -- from a fresh sheet
  pub reached_entry : (i : ℕ) (cs : List Call) → entry_in (after_calls j (fresh j) cs).pieces i ≡ entry_after (last_taken j (fresh j) i none cs)
  reached_entry i cs = entry_last (fresh j) i none cs (fresh_sound j) (fresh_entry j i)

  -- a piece is laid exactly when the last of its calls that was not refused is a lay
  pub reached_laid : (i : ℕ) (cs : List Call) → (entry_in (after_calls j (fresh j) cs).pieces i).laid ≡ ends_laid (last_taken j (fresh j) i none cs)
  reached_laid i cs = ap (λ (e : Entry). e.laid) (reached_entry i cs) ∙ entry_ends (last_taken j (fresh j) i none cs)

  -- a piece that is not laid has the blank entry
  pub reached_blank : (i : ℕ) (cs : List Call) → (entry_in (after_calls j (fresh j) cs).pieces i).laid ≡ false
      → entry_in (after_calls j (fresh j) cs).pieces i ≡ blank
  reached_blank i cs e =
      let same = reached_entry i cs in
      same ∙ entry_blank (last_taken j (fresh j) i none cs) (rw same at e)
