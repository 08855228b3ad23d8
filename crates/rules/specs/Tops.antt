-- How a module's top forms become definitions. Assumes nothing.
use Rattle.std.specs.Prelude.{ℕ, zero, suc, ◌+◌, Bool, false, cond, not, ◌||◌, List, [], ◌∷◌, ◌++◌, length, is_some, Some, None, codes, Option, ◌==◌, nat_le}
use Rattle.std.specs.Str.{bytes_eq}
use Rattle.rules.specs.declared.cause.Cause.{Cause}
use Rattle.rules.specs.Words.{Spelling, Home, same_home, Datum, reserved}
use Rattle.rules.specs.Words.{number as num, word, empty as nil, pair}
use Rattle.rules.specs.Reading.{Form}
use Rattle.rules.specs.Rows.{Kind, variable_of, procedure_of, macro_of, action, Definition, Require, Module, Modules}
use Rattle.rules.specs.Evaluate.{World, Fault, Ran, gave, failed, Run, rows_before, run_definition, run_instances, fresh}
use Rattle.rules.specs.Evaluate.{after as after_run}
use Rattle.rules.specs.Lookup.{Setting, Binding, own, clashes, reached_instances}
use Rattle.rules.specs.Expand.{Trouble, broken, inside, Work, Tried, did, stopped, Try, ◌>>=◌, ◌>>◌, pure, break, unless, with_self, running, meaning, Scope, local_of, elements, use_macro, expand, turns}
use Rattle.rules.specs.Refusals.{Refusal, Answer, answers, refuses, placed}

-- a module has at most 32 definitions; it knows a name once the definition starts
abbrev pub start_definition : ℕ → Kind → Try (Unit {0})
start_definition level k w =
    cond (nat_le 32 (length w.known)) (stopped (broken Cause.LimitPassed)) (did tt (record { world = w.world; known = w.known ++ (record { level = level; kind = k } ∷ []); made = w.made; rows = w.rows }))

abbrev pub end_definition : Definition → Try (Unit {0})
end_definition d w = did tt (record { world = w.world; known = w.known; made = w.made ++ (d ∷ []); rows = w.rows })

abbrev pub run_own : Setting → Definition → Try (Unit {0})
run_own s d w = running s (λ ms. run_definition ms (own s) d.level (rows_before w.made d) d) w

-- the module's own variables and actions of levels 1 to 3 run as soon as they are expanded
abbrev pub run_now : Setting → Definition → Try (Unit {0})
run_now s d = cond (d.level == 0) (pure tt) (run_own s d)

-- the body of a definition, which has started
abbrev pub finish : Setting → ℕ → Kind → ℕ → Scope → Datum → Try (Unit {0})
finish s level k phase sc e = do
  x ← expand s turns phase sc 0 e
  run_now s (record { level = level; kind = k; body = x })
  end_definition (record { level = level; kind = k; body = x })

abbrev pub one_more : Spelling → Home → Option Scope → Option Scope
one_more w h None = None
one_more w h (Some sc) = Some ((w, h) ∷ sc)

abbrev pub words_of : List Datum → Option Scope
words_of [] = Some []
words_of (num n ∷ ds) = None
words_of (nil ∷ ds) = None
words_of (pair a b ∷ ds) = None
words_of (word w h ∷ ds) = one_more w h (words_of ds)

abbrev pub some_reserved : Scope → Bool
some_reserved [] = false
some_reserved (l ∷ ls) = reserved l.0 || some_reserved ls

abbrev pub some_twice : Scope → Bool
some_twice [] = false
some_twice (l ∷ ls) = is_some (local_of ls l.0 l.1) || some_twice ls

-- what a definition of a name has to pass after its shape and before its body
abbrev pub checks : Setting → ℕ → ℕ → Kind → Spelling → Home → Scope → Try (Unit {0})
checks s level phase k w h ps = do
  unless (reserved w || some_reserved ps) Cause.NameNotAllowed
  unless (not (same_home h (own s))) Cause.NameNotAllowed
  b ← meaning s w h level
  unless (is_some b || some_twice ps) Cause.BoundTwice
  unless (nat_le 4 phase) Cause.LevelTooHigh
  unless (nat_le 5 (length ps)) Cause.LimitPassed
  start_definition level k

abbrev pub define_variable : Setting → ℕ → Spelling → Home → Datum → Try (Unit {0})
define_variable s level w h e = do
  checks s level level (variable_of w) w h []
  finish s level (variable_of w) level [] e

abbrev pub define_procedure : Setting → ℕ → Option Scope → Datum → Try (Unit {0})
define_procedure s level None e = break Cause.WrongShape
define_procedure s level (Some []) e = break Cause.WrongShape
define_procedure s level (Some (f ∷ ps)) e = do
  checks s level level (procedure_of f.0 (length ps)) f.0 f.1 ps
  finish s level (procedure_of f.0 (length ps)) level ps e

abbrev pub define_form : Setting → ℕ → List Datum → Try (Unit {0})
define_form s level [] = break Cause.WrongShape
define_form s level (a ∷ []) = break Cause.WrongShape
define_form s level (num n ∷ e ∷ []) = break Cause.WrongShape
define_form s level (nil ∷ e ∷ []) = break Cause.WrongShape
define_form s level (word w h ∷ e ∷ []) = define_variable s level w h e
define_form s level (pair a b ∷ e ∷ []) = define_procedure s level (words_of (a ∷ elements b)) e
define_form s level (a ∷ e ∷ c ∷ ds) = break Cause.WrongShape

-- a macro of level k has one parameter, and its body at level k + 1
abbrev pub define_macro : Setting → ℕ → Option Scope → Datum → Try (Unit {0})
define_macro s level None e = break Cause.WrongShape
define_macro s level (Some []) e = break Cause.WrongShape
define_macro s level (Some (m ∷ [])) e = break Cause.WrongShape
define_macro s level (Some (m ∷ x ∷ [])) e = do
  checks s level (level + 1) (macro_of m.0) m.0 m.1 (x ∷ [])
  finish s level (macro_of m.0) (level + 1) (x ∷ []) e
define_macro s level (Some (m ∷ x ∷ y ∷ zs)) e = break Cause.WrongShape

abbrev pub define_macro_form : Setting → ℕ → List Datum → Try (Unit {0})
define_macro_form s level [] = break Cause.WrongShape
define_macro_form s level (a ∷ []) = break Cause.WrongShape
define_macro_form s level (a ∷ e ∷ []) = define_macro s level (words_of (elements a)) e
define_macro_form s level (a ∷ e ∷ c ∷ ds) = break Cause.WrongShape

-- any other form is an expression, an action
abbrev pub act : Setting → ℕ → Datum → Try (Unit {0})
act s level d = do
  start_definition level action
  finish s level action level [] d

abbrev pub Tops : Type 0
Tops = ℕ → Datum → Try (Unit {0})

abbrev pub in_turn : (Datum → Try (Unit {0})) → List Datum → Try (Unit {0})
in_turn go [] = pure tt
in_turn go (d ∷ ds) = do
  go d
  in_turn go ds

module _ (s : Setting) (go : Tops) where
  -- `(for-syntax form ...)` holds forms one level up
  abbrev pub syntax_form : ℕ → List Datum → Try (Unit {0})
  syntax_form level ds = do
    unless (nat_le 3 level) Cause.LevelTooHigh
    in_turn (go (level + 1)) ds

  -- a macro use at top is no definition; its result is judged in its place
  abbrev pub top_macro : ℕ → Datum → Spelling → Home → Try (Unit {0})
  top_macro level form w h = do
    unless (nat_le 3 level) Cause.LevelTooHigh
    d ← use_macro s h w level form
    go level d

  abbrev pub top_headed_by : ℕ → Datum → Spelling → Home → Kind → Try (Unit {0})
  top_headed_by level form w h (variable_of v) = act s level form
  top_headed_by level form w h (procedure_of v n) = act s level form
  top_headed_by level form w h (macro_of v) = top_macro level form w h
  top_headed_by level form w h action = act s level form

  abbrev pub top_headed : ℕ → Datum → Spelling → Option Binding → Try (Unit {0})
  top_headed level form w None = act s level form
  top_headed level form w (Some b) = top_headed_by level form w b.owner b.kind

  abbrev pub top_user : ℕ → Datum → Spelling → Home → Try (Unit {0})
  top_user level form w h = do
    b ← meaning s w h level
    top_headed level form w b

  -- a require after other forms is out of its place
  abbrev pub top_list : ℕ → Datum → Datum → List Datum → Try (Unit {0})
  top_list level form (num n) ds = act s level form
  top_list level form nil ds = act s level form
  top_list level form (pair a b) ds = act s level form
  top_list level form (word w h) ds =
      cond (bytes_eq w (codes "require")) (break Cause.WrongShape)
      (cond (bytes_eq w (codes "define")) (define_form s level ds)
      (cond (bytes_eq w (codes "define-macro")) (define_macro_form s level ds)
      (cond (bytes_eq w (codes "for-syntax")) (syntax_form level ds)
      (cond (reserved w) (act s level form) (top_user level form w h)))))

  abbrev pub top_form : Tops
  top_form level (num n) = act s level (num n)
  top_form level nil = act s level nil
  top_form level (word w h) = act s level (word w h)
  top_form level (pair a b) = top_list level (pair a b) a (elements b)

unfoldable pub top : Setting → ℕ → Tops
top s zero level d = break Cause.TooManySteps
top s (suc left) level d = top_form s (top s left) level d

-- a require, and where its form begins
pub record Asked : Type 0 where
  pub offset : ℕ
  pub require : Require

abbrev pub required_by : List Asked → List Require
required_by [] = []
required_by (a ∷ rest) = a.require ∷ required_by rest

-- where requires clash, the offset of the first that clashes with an earlier one
abbrev pub first_clash : Modules → List Require → List Asked → Option ℕ
first_clash ms before [] = None
first_clash ms before (a ∷ rest) = cond (clashes ms before a.require) (Some a.offset) (first_clash ms (before ++ (a.require ∷ [])) rest)

-- a fault of rows keeps its cause, module and row
abbrev pub from_fault : Spelling → Fault → Refusal
from_fault self f = record { cause = f.cause; working_for = Some self; module_name = Some f.module_name; place = Some f.row }

abbrev pub from_trouble : Spelling → ℕ → Trouble → Refusal
from_trouble self offset (broken c) = placed c self offset
from_trouble self offset (inside f) = from_fault self f

abbrev pub tried_form : Spelling → ℕ → Tried (Unit {0}) → (Work → Answer Work) → Answer Work
tried_form self offset (did x w) go = go w
tried_form self offset (stopped t) go = refuses (from_trouble self offset t)

abbrev pub forms_in_turn : Setting → List Form → Work → Answer Work
forms_in_turn s [] w = answers w
forms_in_turn s (f ∷ fs) w = tried_form s.self f.offset (top s turns 0 f.datum w) (forms_in_turn s fs)

-- phases 1, 2 and 3 of what a module reaches
abbrev pub visit : Modules → List Home → Run (Unit {0})
visit ms hs w = after_run (run_instances ms 1 hs w) (λ _ w₁. after_run (run_instances ms 2 hs w₁) (λ _ w₂. run_instances ms 3 hs w₂))

abbrev pub nothing_made : World → Work
nothing_made w = record { world = w; known = []; made = []; rows = 0 }

abbrev pub made_module : List Require → Answer Work → Answer Module
made_module rs (answers w) = answers (record { requires = rs; definitions = w.made })
made_module rs (refuses r) = refuses r

abbrev pub visited_forms : Setting → List Form → Ran (Unit {0}) → Answer Module
visited_forms s forms (gave x w) = made_module s.requires (forms_in_turn s forms (nothing_made w))
visited_forms s forms (failed f) = refuses (from_fault s.self f)

abbrev pub expand_in : Setting → List Form → Answer Module
expand_in s forms = visited_forms s forms (visit (with_self s []) (reached_instances (with_self s []) (own s)) fresh)

abbrev pub unless_clash : Spelling → Option ℕ → Answer Module → Answer Module
unless_clash self None go = go
unless_clash self (Some offset) go = refuses (placed Cause.BoundTwice self offset)

-- a module's definitions, from its forms after the requires and from the modules that it reaches
abbrev pub expand_module : Spelling → List Asked → List Form → Modules → Answer Module
expand_module self asked forms ms =
    unless_clash self (first_clash ms [] asked) (expand_in (record { self = self; requires = required_by asked; modules = ms }) forms)
