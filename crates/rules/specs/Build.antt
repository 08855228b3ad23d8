-- What a build or a run answers, by the texts, the number of pages and the buffer's length alone. Assumes nothing.
use Rattle.std.specs.Prelude.{ℕ, cond, List, [], ◌∷◌, length, Some, None, Option, nat_le}
use Rattle.rules.specs.declared.cause.Cause.{Cause}
use Rattle.rules.specs.Words.{Spelling, is_word, text_home}
use Rattle.rules.specs.Rows.{Module, Modules, find}
use Rattle.rules.specs.Evaluate.{Ran, gave, failed, run_instances, fresh}
use Rattle.rules.specs.Lookup.{reached_instances}
use Rattle.rules.specs.Tops.{expand_module, from_fault}
use Rattle.rules.specs.Artefact.{artefact}
use Rattle.rules.specs.Refusals.{Answer, answers, refuses, bare, ◌>>=◌}
use Rattle.rules.specs.Walk.{Texts, Opened, Walked, walk_from}

-- each module of a walk is expanded over those before it
unfoldable pub expand_all : List (Spelling × Opened) → Modules → Answer Modules
expand_all [] ms = answers ms
expand_all (e ∷ es) ms = do
  m ← expand_module e.0 e.1.asked e.1.forms ms
  expand_all es ((e.0, m) ∷ ms)

abbrev pub expand_walked : Walked → Answer Modules
expand_walked k = expand_all k.ended []

abbrev pub walk_and_expand : Texts → ℕ → Spelling → Answer Modules
walk_and_expand texts pages w = do
  k ← walk_from texts pages w
  expand_walked k

-- every module of a reach, the one called for first
abbrev pub expanded : Texts → ℕ → Spelling → Answer Modules
expanded texts pages w = cond (is_word w) (walk_and_expand texts pages w) (refuses (bare Cause.NotAWord))

-- last of all, the answer must fit its buffer
abbrev pub within : ℕ → List ℕ → Answer (List ℕ)
within room bytes = cond (nat_le (length bytes) room) (answers bytes) (refuses (bare Cause.AnswerTooLong))

abbrev pub artefact_of : Option Module → List ℕ
artefact_of None = []
artefact_of (Some m) = artefact m

abbrev pub delivered : ℕ → Spelling → Modules → Answer (List ℕ)
delivered room w ms = within room (artefact_of (find ms w))

-- the artefact of a module
abbrev pub build : Texts → ℕ → ℕ → Spelling → Answer (List ℕ)
build texts pages room w = do
  ms ← expanded texts pages w
  delivered room w ms

-- the output, and the rows begun at phase 0
abbrev pub told : ℕ → Spelling → Ran (Unit {0}) → Answer (List ℕ × ℕ)
told room w (failed f) = refuses (from_fault w f)
told room w (gave x v) = do
  out ← within room v.printed
  answers (out, v.steps)

-- phase 0 of a module and of all that it reaches, in a fresh world
abbrev pub performed : ℕ → Spelling → Modules → Answer (List ℕ × ℕ)
performed room w ms = told room w (run_instances ms 0 (reached_instances ms (text_home w)) fresh)

abbrev pub run : Texts → ℕ → ℕ → Spelling → Answer (List ℕ × ℕ)
run texts pages room w = do
  ms ← expanded texts pages w
  performed room w ms
