-- Document 01, 'Start, layout text, sheet', last part: what the program prints, as a function of the bytes of its input. It reads a
-- job, takes the start layout and weights 1, makes a guided run and prints the best layout and how the run ended, or the
-- refusal. Document 02, point 6: locked pieces lie where the start of all pieces puts them. Assumes nothing.
use Rattle.std.specs.Prelude.{true, false, List, [], ◌∷◌, ◌++◌, ℕ, ltb, eqb, length}
use Rattle.model.specs.Layout.{Job, unit_weights, used_length}
use Rattle.model.specs.Guided.{Guided, guide}
use Rattle.model.specs.Start.{program_start}
use Rattle.model.specs.Refusal.{Outcome, refused, given, unless, wrong_length}
use Rattle.model.specs.Calls.{at_least}
use Rattle.model.specs.Lent.{Lent, job_of, piece_bound, area_bound}
use Rattle.model.specs.Text.{bytes, comma, line_end, decimal}
use Rattle.model.specs.JobText.{read_job}
use Rattle.model.specs.LayoutText.{layout_text}
use Rattle.model.specs.declared.Refusal.{Refusal}

-- rounds of the program's guided run, and the budget of each
abbrev pub program_rounds : ℕ
program_rounds = 20

abbrev pub program_budget : ℕ
program_budget = 1000

-- the most bytes of the program's input
abbrev pub input_bound : ℕ
input_bound = 65536

-- a line: a word, numbers of at most 10 digits, each behind a comma, and byte 10
unfoldable pub word_line : List ℕ → List ℕ → List ℕ
word_line word [] = word ++ (line_end ∷ [])
word_line word (k ∷ ks) = word_line (word ++ (comma ∷ decimal 10 k)) ks

-- a refused job: `refused,` number, line
abbrev pub refusal_text : Refusal → List ℕ
refusal_text r = word_line (bytes "refused") (r.number ∷ r.first ∷ [])

-- `end,clear` where the plain sum is 0, else `end,open`
abbrev pub end_word : ℕ → List ℕ
end_word sum = elim (eqb sum 0) [ true ↦ bytes "end,clear" | false ↦ bytes "end,open" ]

-- the best layout's text, and `end,clear` or `end,open`, plain sum, trials, moves, used length
unfoldable pub run_text : Job → Guided → List ℕ
run_text j g =
    layout_text j g.layout ++ word_line (end_word g.sum) (g.sum ∷ g.made ∷ g.moves ∷ used_length j g.layout ∷ [])

-- the program's run of a job: from its start layout, by weights 1
unfoldable pub program_run : Job → Guided
program_run j = guide j program_rounds program_budget (unit_weights j.size.count) (program_start j)

-- what is printed after the reading of a job: the refusal, or the run
abbrev pub printed : Outcome Lent → List ℕ
printed (refused r) = refusal_text r
printed (given l) = run_text (job_of l) (program_run (job_of l))

-- what the program prints for its input: above 65,536 bytes `refused,7,0`, whatever they are
unfoldable pub program_text : List ℕ → List ℕ
program_text input =
    elim (ltb input_bound (length input)) [
      | true ↦ refusal_text (record { number = wrong_length; first = 0; second = 0 })
      | false ↦ printed (read_job input piece_bound area_bound)
    ]

-- the program over a lent output buffer of so many bytes: 7 exactly where what it prints does not fit
unfoldable pub program_call : List ℕ → ℕ → Outcome (List ℕ)
program_call input room = unless (at_least (length (program_text input)) room ∷ []) (program_text input)
