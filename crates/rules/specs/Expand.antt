-- How an expression becomes rows. Assumes nothing.
use Rattle.std.specs.Prelude.{ℕ, zero, suc, ◌+◌, ◌-◌, Bool, true, false, cond, not, ◌&&◌, List, [], ◌∷◌, ◌++◌, length, is_some, Some, None, codes, Option, ◌==◌, nat_le}
use Rattle.std.specs.Str.{bytes_eq}
use Rattle.rules.specs.declared.cause.Cause.{Cause}
use Rattle.rules.specs.declared.primitive.Primitive.{Primitive}
use Rattle.rules.specs.Words.{Spelling, Home, same_home, Datum, reserved, prim_named, arity_of}
use Rattle.rules.specs.Words.{number as num, word, empty as nil, pair}
use Rattle.rules.specs.Rows.{Expr, Exprs, number, empty, name, local, variable, set, if, bind, seq, call, prim, none, more}
use Rattle.rules.specs.Rows.{Kind, variable_of, procedure_of, macro_of, action, Definition, Modules}
use Rattle.rules.specs.Evaluate.{World, Fault, Ran, gave, failed, Run, Found, seek_in, is_macro_named, perform}
use Rattle.rules.specs.Lookup.{Header, Setting, Binding, look_up}

-- why an expansion stops: a rule is broken, or a row that ran has failed
pub data Trouble : Type 0 where
  broken : Cause → Trouble
  inside : Fault → Trouble

-- what changes while a module is expanded: the world, the definitions that have started, those that are finished, and the rows so far
pub record Work : Type 0 where
  pub world : World
  pub known : List Header
  pub made : List Definition
  pub rows : ℕ

pub data Tried (A : Type 0) : Type 0 where
  did : A → Work → Tried A
  stopped : Trouble → Tried A

abbrev pub after : {A B : Type 0} → Tried A → (A → Work → Tried B) → Tried B
after (did a w) f = f a w
after (stopped t) f = stopped t

abbrev pub Try : Type 0 → Type 0
Try A = Work → Tried A

abbrev pub ◌>>=◌ : {A B : Type 0} → Try A → (A → Try B) → Try B
◌>>=◌ m f w = after (m w) f

abbrev pub ◌>>◌ : {A B : Type 0} → Try A → Try B → Try B
◌>>◌ m n w = after (m w) (λ _. n)

abbrev pub pure : {A : Type 0} → A → Try A
pure a w = did a w

abbrev pub break : {A : Type 0} → Cause → Try A
break c w = stopped (broken c)

-- goes on only where the test fails
abbrev pub unless : Bool → Cause → Try (Unit {0})
unless true c = break c
unless false c = pure tt

-- the modules that rows run among: the module under expansion has what is finished
abbrev pub with_self : Setting → List Definition → Modules
with_self s ds = (s.self, record { requires = s.requires; definitions = ds }) ∷ s.modules

abbrev pub ran_within : {A : Type 0} → Work → Ran A → Tried A
ran_within k (gave a w) = did a (record { world = w; known = k.known; made = k.made; rows = k.rows })
ran_within k (failed f) = stopped (inside f)

-- rows that run while the module is expanded
abbrev pub running : {A : Type 0} → Setting → (Modules → Run A) → Try A
running s m k = ran_within k (m (with_self s k.made) k.world)

abbrev pub meaning : Setting → Spelling → Home → ℕ → Try (Option Binding)
meaning s w h phase k = did (look_up s k.known w h phase) k

-- the locals in scope, outermost first
abbrev pub Scope : Type 0
Scope = List (Spelling × Home)

abbrev pub innermost : Scope → ℕ → Spelling → Home → Option ℕ → Option ℕ
innermost [] at w h best = best
innermost (l ∷ ls) at w h best = innermost ls (at + 1) w h (cond (bytes_eq l.0 w && same_home l.1 h) (Some at) best)

-- words of one spelling and home name one local, the innermost
abbrev pub local_of : Scope → Spelling → Home → Option ℕ
local_of sc w h = innermost sc 0 w h None

-- a module has at most 128 rows
abbrev pub row : Try (Unit {0})
row k =
    cond (nat_le 128 k.rows) (stopped (broken Cause.LimitPassed)) (did tt (record { world = k.world; known = k.known; made = k.made; rows = k.rows + 1 }))

abbrev pub written : Expr → Try Expr
written e = do
  row
  pure e

-- the elements of a list; every datum under expansion is a number, a word or a list of data
abbrev pub elements : Datum → List Datum
elements (num n) = []
elements (word w h) = []
elements nil = []
elements (pair a b) = a ∷ elements b

-- a value is a datum if each of its pairs begins a list
abbrev pub is_list : Datum → Bool
is_list (num n) = false
is_list (word w h) = false
is_list nil = true
is_list (pair a b) = is_list b

abbrev pub is_datum : Datum → Bool
is_datum (num n) = true
is_datum (word w h) = true
is_datum nil = true
is_datum (pair a b) = is_datum a && is_datum b && is_list b

-- a quoted list becomes `prim pair` rows of its head and its rest
unfoldable pub quote_rows : Datum → Try Expr
quote_rows (num n) = written (number n)
quote_rows (word w h) = written (name w h)
quote_rows nil = written empty
quote_rows (pair a b) = do
  row
  x ← quote_rows a
  y ← quote_rows b
  pure (prim Primitive.Pair (more x (more y none)))

-- what a macro gives replaces the form, so it must be a datum
abbrev pub must_be_datum : Datum → Try Datum
must_be_datum d = do
  unless (not (is_datum d)) Cause.WrongShape
  pure d

abbrev pub run_macro : Setting → Home → ℕ → Datum → Option Found → Try Datum
run_macro s h phase form None = break Cause.NoMeaning
run_macro s h phase form (Some f) = do
  d ← running s (λ ms. perform ms h (phase + 1) f.first_row (form ∷ []) f.definition.body)
  must_be_datum d

-- A macro used at a phase gets the whole form. Its body runs at the phase above, in the macro's instance.
abbrev pub use_macro : Setting → Home → Spelling → ℕ → Datum → Try Datum
use_macro s h w phase form k =
    run_macro s h phase form (seek_in (with_self s k.made) h.module_name (is_macro_named w) (phase - h.base)) k

abbrev pub each_of : (Datum → Try Expr) → List Datum → Try Exprs
each_of go [] = pure none
each_of go (d ∷ ds) = do
  x ← go d
  xs ← each_of go ds
  pure (more x xs)

abbrev pub variable_row : Spelling → Home → Kind → Try Expr
variable_row w h (variable_of v) = do
  unless (reserved w) Cause.NoMeaning
  written (variable w h)
variable_row w h (procedure_of v n) = break Cause.NoMeaning
variable_row w h (macro_of v) = break Cause.NoMeaning
variable_row w h action = break Cause.NoMeaning

-- a word that stands alone: a local, or a variable
abbrev pub word_row : Spelling → Option ℕ → Option Binding → Try Expr
word_row w (Some i) b = written (local i)
word_row w None None = break Cause.NoMeaning
word_row w None (Some b) = variable_row w b.owner b.kind

abbrev pub is_variable : Kind → Bool
is_variable (variable_of v) = true
is_variable (procedure_of v n) = false
is_variable (macro_of v) = false
is_variable action = false

-- `set` needs a variable that the module itself defines
abbrev pub may_set : Setting → Option Binding → Bool
may_set s None = false
may_set s (Some b) = bytes_eq b.owner.module_name s.self && is_variable b.kind

-- expands an expression at a phase; the scope has the locals, and the depth counts the expressions around this one
abbrev pub Goes : Type 0
Goes = ℕ → Scope → ℕ → Datum → Try Expr

module _ (s : Setting) (go : Goes) where
  abbrev pub set_variable : ℕ → Scope → ℕ → Spelling → Home → Datum → Try Expr
  set_variable ph sc depth v h e = do
    unless (reserved v) Cause.NameNotAllowed
    unless (is_some (local_of sc v h)) Cause.NameNotAllowed
    b ← meaning s v h ph
    unless (not (may_set s b)) Cause.NameNotAllowed
    row
    x ← go ph sc (depth + 1) e
    pure (set v x)

  abbrev pub set_form : ℕ → Scope → ℕ → List Datum → Try Expr
  set_form ph sc depth [] = break Cause.WrongShape
  set_form ph sc depth (v ∷ []) = break Cause.WrongShape
  set_form ph sc depth (num n ∷ e ∷ []) = break Cause.WrongShape
  set_form ph sc depth (nil ∷ e ∷ []) = break Cause.WrongShape
  set_form ph sc depth (pair a b ∷ e ∷ []) = break Cause.WrongShape
  set_form ph sc depth (word v h ∷ e ∷ []) = set_variable ph sc depth v h e
  set_form ph sc depth (v ∷ e ∷ f ∷ ds) = break Cause.WrongShape

  abbrev pub if_form : ℕ → Scope → ℕ → List Datum → Try Expr
  if_form ph sc depth [] = break Cause.WrongShape
  if_form ph sc depth (a ∷ []) = break Cause.WrongShape
  if_form ph sc depth (a ∷ b ∷ []) = break Cause.WrongShape
  if_form ph sc depth (a ∷ b ∷ c ∷ []) = do
    row
    x ← go ph sc (depth + 1) a
    y ← go ph sc (depth + 1) b
    z ← go ph sc (depth + 1) c
    pure (if x y z)
  if_form ph sc depth (a ∷ b ∷ c ∷ d ∷ ds) = break Cause.WrongShape

  -- at most 16 locals are in scope at once; a let's name is not in scope in its own first part
  abbrev pub let_body : ℕ → Scope → ℕ → Spelling → Home → Datum → Datum → Try Expr
  let_body ph sc depth w h e body = do
    unless (reserved w) Cause.NameNotAllowed
    unless (nat_le 16 (length sc)) Cause.LimitPassed
    row
    x ← go ph sc (depth + 1) e
    y ← go ph (sc ++ ((w, h) ∷ [])) (depth + 1) body
    pure (bind x y)

  abbrev pub let_with : ℕ → Scope → ℕ → List Datum → Datum → Try Expr
  let_with ph sc depth [] body = break Cause.WrongShape
  let_with ph sc depth (v ∷ []) body = break Cause.WrongShape
  let_with ph sc depth (num n ∷ e ∷ []) body = break Cause.WrongShape
  let_with ph sc depth (nil ∷ e ∷ []) body = break Cause.WrongShape
  let_with ph sc depth (pair a b ∷ e ∷ []) body = break Cause.WrongShape
  let_with ph sc depth (word w h ∷ e ∷ []) body = let_body ph sc depth w h e body
  let_with ph sc depth (v ∷ e ∷ f ∷ ds) body = break Cause.WrongShape

  abbrev pub let_form : ℕ → Scope → ℕ → List Datum → Try Expr
  let_form ph sc depth [] = break Cause.WrongShape
  let_form ph sc depth (b ∷ []) = break Cause.WrongShape
  let_form ph sc depth (b ∷ body ∷ []) = let_with ph sc depth (elements b) body
  let_form ph sc depth (b ∷ body ∷ c ∷ ds) = break Cause.WrongShape

  abbrev pub quote_form : List Datum → Try Expr
  quote_form [] = break Cause.WrongShape
  quote_form (d ∷ []) = quote_rows d
  quote_form (d ∷ e ∷ ds) = break Cause.WrongShape

  abbrev pub do_form : ℕ → Scope → ℕ → List Datum → Try Expr
  do_form ph sc depth [] = break Cause.WrongShape
  do_form ph sc depth (d ∷ ds) = do
    row
    xs ← each_of (go ph sc (depth + 1)) (d ∷ ds)
    pure (seq xs)

  abbrev pub prim_form : ℕ → Scope → ℕ → Primitive → List Datum → Try Expr
  prim_form ph sc depth p ds = do
    unless (not (length ds == arity_of p)) Cause.ArgumentCount
    row
    xs ← each_of (go ph sc (depth + 1)) ds
    pure (prim p xs)

  abbrev pub call_form : ℕ → Scope → ℕ → Spelling → Home → ℕ → List Datum → Try Expr
  call_form ph sc depth w h n ds = do
    unless (not (length ds == n)) Cause.ArgumentCount
    row
    xs ← each_of (go ph sc (depth + 1)) ds
    pure (call w h xs)

  -- a macro's result stands at the nesting of the form that it replaces
  abbrev pub macro_form : ℕ → Scope → ℕ → Spelling → Home → Datum → Try Expr
  macro_form ph sc depth w h form = do
    unless (nat_le 3 ph) Cause.LevelTooHigh
    d ← use_macro s h w ph form
    go ph sc depth d

  -- the top forms' words head no expression
  abbrev pub prim_or_none : ℕ → Scope → ℕ → Option Primitive → List Datum → Try Expr
  prim_or_none ph sc depth None ds = break Cause.WrongShape
  prim_or_none ph sc depth (Some p) ds = prim_form ph sc depth p ds

  abbrev pub core_form : ℕ → Scope → ℕ → Spelling → List Datum → Try Expr
  core_form ph sc depth w ds =
      cond (bytes_eq w (codes "quote")) (quote_form ds)
      (cond (bytes_eq w (codes "if")) (if_form ph sc depth ds)
      (cond (bytes_eq w (codes "set")) (set_form ph sc depth ds)
      (cond (bytes_eq w (codes "do")) (do_form ph sc depth ds)
      (cond (bytes_eq w (codes "let")) (let_form ph sc depth ds)
      (prim_or_none ph sc depth (prim_named w) ds)))))

  abbrev pub headed_by : ℕ → Scope → ℕ → Datum → Spelling → List Datum → Home → Kind → Try Expr
  headed_by ph sc depth form w ds h (variable_of v) = break Cause.NoMeaning
  headed_by ph sc depth form w ds h (procedure_of v n) = call_form ph sc depth w h n ds
  headed_by ph sc depth form w ds h (macro_of v) = macro_form ph sc depth w h form
  headed_by ph sc depth form w ds h action = break Cause.NoMeaning

  abbrev pub headed : ℕ → Scope → ℕ → Datum → Spelling → List Datum → Option Binding → Try Expr
  headed ph sc depth form w ds None = break Cause.NoMeaning
  headed ph sc depth form w ds (Some b) = headed_by ph sc depth form w ds b.owner b.kind

  -- a list's head must be a word, and no local or variable
  abbrev pub user_form : ℕ → Scope → ℕ → Datum → Spelling → Home → List Datum → Try Expr
  user_form ph sc depth form w h ds = do
    unless (is_some (local_of sc w h)) Cause.NoMeaning
    b ← meaning s w h ph
    headed ph sc depth form w ds b

  abbrev pub list_form : ℕ → Scope → ℕ → Datum → Datum → List Datum → Try Expr
  list_form ph sc depth form (num n) ds = break Cause.WrongShape
  list_form ph sc depth form nil ds = break Cause.WrongShape
  list_form ph sc depth form (pair a b) ds = break Cause.WrongShape
  list_form ph sc depth form (word w h) ds = cond (reserved w) (core_form ph sc depth w ds) (user_form ph sc depth form w h ds)

  -- at most 64 expressions are nested
  abbrev pub expression : Goes
  expression ph sc depth (num n) = do
    unless (nat_le 64 depth) Cause.LimitPassed
    written (number n)
  expression ph sc depth nil = do
    unless (nat_le 64 depth) Cause.LimitPassed
    written empty
  expression ph sc depth (word w h) = do
    unless (nat_le 64 depth) Cause.LimitPassed
    b ← meaning s w h ph
    word_row w (local_of sc w h) b
  expression ph sc depth (pair a b) = do
    unless (nat_le 64 depth) Cause.LimitPassed
    list_form ph sc depth (pair a b) a (elements b)

-- The turns bound how deep expressions and macro uses go. A world's steps run out first, since each use of a macro takes one.
unfoldable pub expand : Setting → ℕ → Goes
expand s zero ph sc depth d = break Cause.TooManySteps
expand s (suc left) ph sc depth d = expression s (expand s left) ph sc depth d

-- more than a world's steps and the deepest nesting together
abbrev pub turns : ℕ
turns = 100100
