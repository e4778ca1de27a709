-- What an exported call makes of an answer. An answer tells an outcome, some of what is given left out; reply and lent memory follow from
-- what is told. Assumes nothing.
use Rattle.std.specs.Prelude.{Result, Ok, Err}
use Rattle.list_laws.proofs.Kit.{◌∙◌, ◌≡◌, ap, refl, Bool, false, true, List, [], ◌∷◌, ◌<◌, ℕ, arith, length}
use Rattle.model.specs.Piece.{coordinate_number}
use Rattle.model.specs.Lent.{Lent}
use Rattle.model.specs.Answers.{done_answer, number_answer, count_answer}
use Rattle.model.specs.Refusal.{Outcome, refused, given, Cause, refusal_of, unless}
use Rattle.model.specs.Calls.{leaving, slid_answer}
use Rattle.model.specs.Compact.{Compacted}
use lib.Ieee.{Float}
use Rattle.model.specs.declared.CutStep.{CutStep}
use Rattle.model.specs.declared.CutStep.TheVariants.{Lift, Cut, Done}
use Rattle.c_results.specs.Steps.{step_word, step_x, step_y, told_step}
use Rattle.model.specs.declared.Figures.{Figures}
use Rattle.model.specs.declared.JobSize.{JobSize}
use Rattle.model.specs.declared.Line.{Line}
use Rattle.model.specs.declared.Line.TheVariants.{InRow, InColumn}
use Rattle.model.specs.declared.Refusal.{Refusal}
use Rattle.model.specs.Descent.{Descent}
use Rattle.model.specs.Guided.{Guided}
use Rattle.model.specs.Search.{Best}
use Rattle.search_calls.specs.declared.BestPlace.{BestPlace}
use Rattle.search_calls.specs.Answers.{search_answer}
use Rattle.run_descent_calls.specs.Answers.{descent_answer, ended_of}
use Rattle.run_descent.specs.declared.Ended.{Ended}
use Rattle.run_guided_calls.specs.Answers.{guided_answer}
use Rattle.run_guided_calls.specs.declared.RunTotals.{RunTotals}
use Rattle.c_interface.specs.Replies.{reply_to}
use Rattle.job_calls.specs.Reading.{read_answer}
use Rattle.std.specs.Prelude.{Result, Ok, Err}
use Rattle.cut_step_calls.specs.Answers.{step_answer}
use Rattle.layout_preview_calls.specs.Answers.{preview_answer}
use Rattle.pair_calls.specs.Answers.{share_answer}

-- an outcome of which a part is told
abbrev pub telling : {A B : Type 0} → (A → B) → Outcome A → Outcome B
telling f (refused r) = refused r
telling f (given a) = given (f a)

-- the reply is the same
telling_reply : {A B : Type 0} (f : A → B) (o : Outcome A) → reply_to (telling f o) ≡ reply_to o
telling_reply f (refused r) = refl
telling_reply f (given a) = refl

-- and so is what a part leaves
telling_leaves : {A B C : Type 0} (f : A → B) (g : B → C) (before : C) (o : Outcome A) → leaving g before (telling f o) ≡ leaving (λ a. g (f a)) before o
telling_leaves f g before (refused r) = refl
telling_leaves f g before (given a) = refl

-- the reply, by what is told
pub reply_by : {A B : Type 0} (f : A → B) (o : Outcome A) {t : Outcome B} → t ≡ telling f o → reply_to t ≡ reply_to o
reply_by f o e = ap reply_to e ∙ telling_reply f o

-- what is left, by what is told
pub leaves_by : {A B C : Type 0} (f : A → B) (g : B → C) (before : C) (o : Outcome A) {t : Outcome B} → t ≡ telling f o
    → leaving g before t ≡ leaving (λ a. g (f a)) before o
leaves_by f g before o e = ap (leaving g before) e ∙ telling_leaves f g before o

-- ── a reply of number 0 ──

-- every cause has a number, and none is 0
abbrev pub ReplyNumbered : List Cause → Type 0
ReplyNumbered [] = Unit {0}
ReplyNumbered (c ∷ cs) = (0 < c.number) × ReplyNumbered cs

-- a cause that is there gives its number
numbered_step : {A : Type 0} (t : Bool) (c : Cause) (o : Outcome A) (r : Refusal) → 0 < c.number → (o ≡ refused r → 0 < r.number)
    → ◌≡◌ {A = Outcome A} (elim t as (λ _. Outcome A) [ true ↦ refused (refusal_of c) | false ↦ o ]) (refused r) → 0 < r.number
numbered_step true c o r l later e =
    let same : refusal_of c ≡ r = cc in
    let number : c.number ≡ r.number = ap (λ (q : Refusal). q.number) same in
    omega arith
numbered_step false c o r l later e = later e

-- a refusal by such causes has a number other than 0
pub refused_numbered : {A : Type 0} (cs : List Cause) (a : A) (r : Refusal) → ReplyNumbered cs → unless cs a ≡ refused r → 0 < r.number
unfolding unless
refused_numbered [] a r n e = let z : ◌≡◌ {A = ℕ} 0 1 = cc in absurd (omega arith)
refused_numbered (c ∷ cs) a r n e = numbered_step c.there c (unless cs a) r n.0 (refused_numbered cs a r n.1) e

-- an outcome that is told as a refusal is that refusal
pub refusal_told : {A B : Type 0} (f : A → B) (o : Outcome A) (r : Refusal) → refused r ≡ telling f o → o ≡ refused r
refusal_told f (refused s) r e = cc
refusal_told f (given a) r e = let z : ◌≡◌ {A = ℕ} 0 1 = cc in absurd (omega arith)

-- ── what each answer tells ──

-- that a call is done
abbrev pub done_told : (Result (Unit {0}) Refusal) → Outcome (Unit {0})
done_told (Err r) = refused r
done_told (Ok tt) = given tt

pub done_told_lem : {A : Type 0} (o : Outcome A) {x : Result (Unit {0}) Refusal} → x ≡ done_answer o → done_told x ≡ telling (λ a. tt) o
done_told_lem (refused r) e = ap done_told e
done_told_lem (given a) e = ap done_told e

-- a number
abbrev pub number_told : (Result ℕ Refusal) → Outcome ℕ
number_told (Err r) = refused r
number_told (Ok k) = given k

pub number_told_lem : (o : Outcome ℕ) {x : Result ℕ Refusal} → x ≡ number_answer o → number_told x ≡ telling (λ k. k) o
number_told_lem (refused r) e = ap number_told e
number_told_lem (given k) e = ap number_told e

-- how many there are
pub count_told : {A : Type 0} (o : Outcome (List A)) {x : Result ℕ Refusal} → x ≡ count_answer o → number_told x ≡ telling (λ xs. length xs) o
count_told (refused r) e = ap number_told e
count_told (given xs) e = ap number_told e

-- how many pixels slid
pub slid_told : (o : Outcome Compacted) {x : Result ℕ Refusal} → x ≡ slid_answer o → number_told x ≡ telling (λ (a : Compacted). a.slid) o
slid_told (refused r) e = ap number_told e
slid_told (given a) e = ap number_told e

-- whether two pieces conflict
abbrev pub share_told : Result Bool Refusal → Outcome Bool
share_told (Err r) = refused r
share_told (Ok b) = given b

pub share_told_lem : (o : Outcome Bool) {x : Result Bool Refusal} → x ≡ share_answer o → share_told x ≡ telling (λ a. a) o
share_told_lem (refused r) e = ap share_told e
share_told_lem (given a) e = ap share_told e

-- the figures of a preview
abbrev pub figures_told : Result Figures Refusal → Outcome Figures
figures_told (Err r) = refused r
figures_told (Ok f) = given f

pub figures_told_lem : (o : Outcome Figures) {x : Result Figures Refusal} → x ≡ preview_answer o → figures_told x ≡ telling (λ f. f) o
figures_told_lem (refused r) e = ap figures_told e
figures_told_lem (given f) e = ap figures_told e

-- a step of the cut list
abbrev pub step_told : Result CutStep Refusal → Outcome CutStep
step_told (Err r) = refused r
step_told (Ok t) = given t

pub step_told_lem : (o : Outcome CutStep) {x : Result CutStep Refusal} → x ≡ step_answer o → step_told x ≡ telling (λ a. a) o
step_told_lem (refused r) e = ap step_told e
step_told_lem (given a) e = ap step_told e

-- the numbers of a job that is read
abbrev pub size_in : Lent → JobSize
size_in l = l.size

abbrev pub job_told : Result JobSize Refusal → Outcome JobSize
job_told (Err r) = refused r
job_told (Ok s) = given s

pub job_told_lem : (o : Outcome Lent) {x : Result JobSize Refusal} → x ≡ read_answer o → job_told x ≡ telling size_in o
job_told_lem (refused r) e = ap job_told e
job_told_lem (given l) e = ap job_told e

-- the best place on a line
abbrev pub best_told : Result BestPlace Refusal → Outcome Best
best_told (Err r) = refused r
best_told (Ok b) = given (record { sum = b.sum; at = coordinate_number b.at })

pub best_told_lem : (line : Line) (o : Outcome Best) {x : Result BestPlace Refusal} → x ≡ search_answer line o → best_told x ≡ telling (λ b. b) o
best_told_lem line (refused r) e = ap best_told e
best_told_lem (InRow r) (given b) e = ap best_told e
best_told_lem (InColumn c) (given b) e = ap best_told e

-- how a descent ended
abbrev pub ended_told : Result Ended Refusal → Outcome Ended
ended_told (Err r) = refused r
ended_told (Ok e) = given e

pub ended_told_lem : (o : Outcome Descent) {x : Result Ended Refusal} → x ≡ descent_answer o → ended_told x ≡ telling ended_of o
ended_told_lem (refused r) e = ap ended_told e
ended_told_lem (given d) e = ap ended_told e

-- what a guided run comes to beside its buffers
abbrev pub told_run : Guided → RunTotals
told_run g = record { sum = g.sum; made = g.made; moves = g.moves }

abbrev pub ran_told : Result RunTotals Refusal → Outcome RunTotals
ran_told (Err r) = refused r
ran_told (Ok run) = given run

pub ran_told_lem : (o : Outcome Guided) {x : Result RunTotals Refusal} → x ≡ guided_answer o → ran_told x ≡ telling told_run o
ran_told_lem (refused r) e = ap ran_told e
ran_told_lem (given g) e = ap ran_told e

-- the word and the point that are handed over tell the step again
pub told_back : (x y : Float) (t : CutStep) → told_step (step_word t) (step_x x t) (step_y y t) ≡ t
told_back x y Done = refl
told_back x y (Lift a b) = refl
told_back x y (Cut a b) = refl
