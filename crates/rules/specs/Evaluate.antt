-- What rows do when they run. Assumes nothing.
use Rattle.std.specs.Prelude.{ℕ, zero, suc, ◌+◌, ◌-◌, Bool, true, false, cond, not, ◌&&◌, List, [], ◌∷◌, ◌++◌, length, ℤ, pos, negsuc, ◌+ℤ◌, ◌-ℤ◌, ◌*ℤ◌, Some, None, Option, ◌==◌, nat_le, nat_lt}
use Rattle.std.specs.Fmt.{signed_decimal}
use Rattle.std.specs.Str.{bytes_eq}
use Rattle.rules.specs.declared.cause.Cause.{Cause}
use Rattle.rules.specs.declared.primitive.Primitive.{Primitive}
use Rattle.rules.specs.Words.{Spelling, Home, same_home, Datum}
use Rattle.rules.specs.Words.{number as num, word, empty as nil, pair}
use Rattle.rules.specs.Rows.{Expr, Exprs, number, empty, name, local, variable, set, if, bind, seq, call, prim, none, more, size}
use Rattle.rules.specs.Rows.{Kind, variable_of, procedure_of, macro_of, action, Definition, Modules, find, definitions_of}

-- a variable: its name, its instance and its level
pub record Slot : Type 0 where
  pub text : Spelling
  pub owner : Home
  pub level : ℕ

abbrev pub same_slot : Slot → Slot → Bool
same_slot a b = bytes_eq a.text b.text && same_home a.owner b.owner && a.level == b.level

-- what changes while rows run: the values of variables, newest first, the steps, the pairs made by rows, and the output
pub record World : Type 0 where
  pub values : List (Slot × Datum)
  pub steps : ℕ
  pub pairs : ℕ
  pub printed : List ℕ

abbrev pub fresh : World
fresh = record { values = []; steps = 0; pairs = 0; printed = [] }

-- a run that failed: why, in which module, and at which row
pub record Fault : Type 0 where
  pub cause : Cause
  pub module_name : Spelling
  pub row : ℕ

pub data Ran (A : Type 0) : Type 0 where
  gave : A → World → Ran A
  failed : Fault → Ran A

abbrev pub after : {A B : Type 0} → Ran A → (A → World → Ran B) → Ran B
after (gave a w) f = f a w
after (failed x) f = failed x

abbrev pub Run : Type 0 → Type 0
Run A = World → Ran A

abbrev pub ◌>>=◌ : {A B : Type 0} → Run A → (A → Run B) → Run B
◌>>=◌ m f w = after (m w) f

abbrev pub ◌>>◌ : {A B : Type 0} → Run A → Run B → Run B
◌>>◌ m n w = after (m w) (λ _. n)

abbrev pub pure : {A : Type 0} → A → Run A
pure a w = gave a w

-- what runs, and where it stands: the instance, the phase, and the number of the row in hand
pub record Place : Type 0 where
  pub here : Home
  pub phase : ℕ
  pub row : ℕ

abbrev pub down : Place → ℕ → Place
down p n = record { here = p.here; phase = p.phase; row = p.row + n }

abbrev pub fault : {A : Type 0} → Place → Cause → Run A
fault p c w = failed (record { cause = c; module_name = p.here.module_name; row = p.row })

-- homes in rows are moved by the base of the instance that runs
abbrev pub moved : Home → Home → Home
moved by h = record { module_name = h.module_name; base = h.base + by.base }

-- a variable is empty until it is set
abbrev pub value_of : List (Slot × Datum) → Slot → Datum
value_of [] s = nil
value_of (v ∷ vs) s = cond (same_slot v.0 s) v.1 (value_of vs s)

-- each row begun is a step, and a world has 100,000
abbrev pub begin : Place → Run (Unit {0})
begin p w =
    cond (nat_le 100000 w.steps) (fault p Cause.TooManySteps w) (gave tt (record { values = w.values; steps = w.steps + 1; pairs = w.pairs; printed = w.printed }))

abbrev pub read_slot : Slot → Run Datum
read_slot s w = gave (value_of w.values s) w

abbrev pub write_slot : Slot → Datum → Run Datum
write_slot s d w = gave d (record { values = (s, d) ∷ w.values; steps = w.steps; pairs = w.pairs; printed = w.printed })

-- rows make at most 2,048 pairs in a world
abbrev pub make_pair : Place → Datum → Datum → Run Datum
make_pair p a b w =
    cond (nat_le 2048 w.pairs) (fault p Cause.TooManyPairs w) (gave (pair a b) (record { values = w.values; steps = w.steps; pairs = w.pairs + 1; printed = w.printed }))

-- numbers have 32 bits
abbrev pub in_range : ℤ → Bool
in_range (pos n) = nat_lt n 2147483648
in_range (negsuc n) = nat_lt n 2147483648

abbrev pub fitting : Place → ℤ → Run Datum
fitting p z = cond (in_range z) (pure (num z)) (fault p Cause.NumberRange)

abbrev pub below : ℤ → ℤ → Bool
below (pos m) (pos n) = nat_lt m n
below (pos m) (negsuc n) = false
below (negsuc m) (pos n) = true
below (negsuc m) (negsuc n) = nat_lt n m

abbrev pub equal : ℤ → ℤ → Bool
equal (pos m) (pos n) = m == n
equal (pos m) (negsuc n) = false
equal (negsuc m) (pos n) = false
equal (negsuc m) (negsuc n) = m == n

-- yes is 1, and no is the empty list
abbrev pub truth : Bool → Datum
truth true = num (pos 1)
truth false = nil

-- A number is written at phase 0, with a line feed; the output has at most 4,096 bytes.
abbrev pub print : Place → ℤ → Run Datum
print p z w =
    cond (p.phase == 0) (let out = w.printed ++ (signed_decimal z ++ (10 ∷ [])) in cond (nat_le (length out) 4096) (gave (num z) (record { values = w.values; steps = w.steps; pairs = w.pairs; printed = out })) (fault p Cause.OutputTooLong w)) (gave (num z) w)

abbrev pub on_numbers : Place → (ℤ → ℤ → Run Datum) → Datum → Datum → Run Datum
on_numbers p f (num m) (num n) = f m n
on_numbers p f (num m) (word v h) = fault p Cause.OperandKind
on_numbers p f (num m) nil = fault p Cause.OperandKind
on_numbers p f (num m) (pair c d) = fault p Cause.OperandKind
on_numbers p f (word u g) b = fault p Cause.OperandKind
on_numbers p f nil b = fault p Cause.OperandKind
on_numbers p f (pair a c) b = fault p Cause.OperandKind

abbrev pub on_number : Place → (ℤ → Run Datum) → Datum → Run Datum
on_number p f (num n) = f n
on_number p f (word w h) = fault p Cause.OperandKind
on_number p f nil = fault p Cause.OperandKind
on_number p f (pair a b) = fault p Cause.OperandKind

abbrev pub on_pair : Place → (Datum → Datum → Datum) → Datum → Run Datum
on_pair p f (num n) = fault p Cause.OperandKind
on_pair p f (word w h) = fault p Cause.OperandKind
on_pair p f nil = fault p Cause.OperandKind
on_pair p f (pair a b) = pure (f a b)

-- equal numbers, words of one spelling, or both empty
abbrev pub same : Datum → Datum → Bool
same (num m) (num n) = equal m n
same (num m) (word v h) = false
same (num m) nil = false
same (num m) (pair c d) = false
same (word u g) (num n) = false
same (word u g) (word v h) = bytes_eq u v
same (word u g) nil = false
same (word u g) (pair c d) = false
same nil (num n) = false
same nil (word v h) = false
same nil nil = true
same nil (pair c d) = false
same (pair a b) y = false

abbrev pub is_pair : Datum → Bool
is_pair (num n) = false
is_pair (word w h) = false
is_pair nil = false
is_pair (pair a b) = true

abbrev pub is_number : Datum → Bool
is_number (num n) = true
is_number (word w h) = false
is_number nil = false
is_number (pair a b) = false

abbrev pub is_name : Datum → Bool
is_name (num n) = false
is_name (word w h) = true
is_name nil = false
is_name (pair a b) = false

abbrev pub is_empty : Datum → Bool
is_empty (num n) = false
is_empty (word w h) = false
is_empty nil = true
is_empty (pair a b) = false

-- a primitive at one operand; the rows of a module hand each primitive as many as it takes
abbrev pub on_one : Place → Primitive → Datum → Run Datum
on_one p Primitive.Head a = on_pair p (λ x y. x) a
on_one p Primitive.Tail a = on_pair p (λ x y. y) a
on_one p Primitive.IsPair a = pure (truth (is_pair a))
on_one p Primitive.IsNumber a = pure (truth (is_number a))
on_one p Primitive.IsName a = pure (truth (is_name a))
on_one p Primitive.Print a = on_number p (print p) a
on_one p Primitive.Add a = fault p Cause.OperandKind
on_one p Primitive.Sub a = fault p Cause.OperandKind
on_one p Primitive.Mul a = fault p Cause.OperandKind
on_one p Primitive.Less a = fault p Cause.OperandKind
on_one p Primitive.Same a = fault p Cause.OperandKind
on_one p Primitive.Pair a = fault p Cause.OperandKind

-- a primitive at two operands
abbrev pub on_two : Place → Primitive → Datum → Datum → Run Datum
on_two p Primitive.Add a b = on_numbers p (λ m n. fitting p (m +ℤ n)) a b
on_two p Primitive.Sub a b = on_numbers p (λ m n. fitting p (m -ℤ n)) a b
on_two p Primitive.Mul a b = on_numbers p (λ m n. fitting p (m *ℤ n)) a b
on_two p Primitive.Less a b = on_numbers p (λ m n. pure (truth (below m n))) a b
on_two p Primitive.Same a b = pure (truth (same a b))
on_two p Primitive.Pair a b = make_pair p a b
on_two p Primitive.Head a b = fault p Cause.OperandKind
on_two p Primitive.Tail a b = fault p Cause.OperandKind
on_two p Primitive.IsPair a b = fault p Cause.OperandKind
on_two p Primitive.IsNumber a b = fault p Cause.OperandKind
on_two p Primitive.IsName a b = fault p Cause.OperandKind
on_two p Primitive.Print a b = fault p Cause.OperandKind

abbrev pub apply : Place → Primitive → List Datum → Run Datum
apply p f [] = fault p Cause.OperandKind
apply p f (a ∷ []) = on_one p f a
apply p f (a ∷ b ∷ []) = on_two p f a b
apply p f (a ∷ b ∷ c ∷ ds) = fault p Cause.OperandKind

abbrev pub nth : List Datum → ℕ → Datum
nth [] i = nil
nth (d ∷ ds) zero = d
nth (d ∷ ds) (suc i) = nth ds i

abbrev pub last : List Datum → Datum
last [] = nil
last (d ∷ []) = d
last (d ∷ e ∷ ds) = last (e ∷ ds)

-- what a call of a procedure does, for a caller that stands at a place, and that hands over its operands
abbrev pub Calls : Type 0
Calls = Place → Spelling → Home → List Datum → Run Datum

-- Children run left to right, and of `if` only those that are needed.
unfoldable mutual
  pub eval : Calls → Place → List Datum → Expr → Run Datum
  eval calls p ls (number n) = do
    begin p
    pure (num n)
  eval calls p ls empty = do
    begin p
    pure nil
  eval calls p ls (name w h) = do
    begin p
    pure (word w (moved p.here h))
  eval calls p ls (local i) = do
    begin p
    pure (nth ls i)
  eval calls p ls (variable w h) = do
    begin p
    read_slot (record { text = w; owner = moved p.here h; level = p.phase - (moved p.here h).base })
  eval calls p ls (set w a) = do
    begin p
    x ← eval calls (down p 1) ls a
    write_slot (record { text = w; owner = p.here; level = p.phase - p.here.base }) x
  eval calls p ls (if a b c) = do
    begin p
    x ← eval calls (down p 1) ls a
    cond (is_empty x) (eval calls (down p (1 + size a + size b)) ls c) (eval calls (down p (1 + size a)) ls b)
  eval calls p ls (bind a b) = do
    begin p
    x ← eval calls (down p 1) ls a
    eval calls (down p (1 + size a)) (ls ++ (x ∷ [])) b
  eval calls p ls (seq es) = do
    begin p
    xs ← evals calls (down p 1) ls es
    pure (last xs)
  eval calls p ls (call w h es) = do
    begin p
    xs ← evals calls (down p 1) ls es
    calls p w (moved p.here h) xs
  eval calls p ls (prim f es) = do
    begin p
    xs ← evals calls (down p 1) ls es
    apply p f xs

  pub evals : Calls → Place → List Datum → Exprs → Run (List Datum)
  evals calls p ls none = pure []
  evals calls p ls (more e es) = do
    x ← eval calls p ls e
    xs ← evals calls (down p (size e)) ls es
    pure (x ∷ xs)

abbrev pub is_macro : Kind → Bool
is_macro (variable_of w) = false
is_macro (procedure_of w n) = false
is_macro (macro_of w) = true
is_macro action = false

-- the level at which a definition's rows run: a macro's body runs one level up
abbrev pub row_level : Definition → ℕ
row_level d = cond (is_macro d.kind) (d.level + 1) d.level

abbrev pub agree : Bool → Bool → Bool
agree true b = b
agree false b = not b

-- rows are numbered within one level of a module, those of macros apart from the others
abbrev pub alongside : Definition → Definition → Bool
alongside c d = row_level c == row_level d && agree (is_macro c.kind) (is_macro d.kind)

abbrev pub rows_before : List Definition → Definition → ℕ
rows_before [] d = 0
rows_before (c ∷ cs) d = cond (alongside c d) (size c.body) 0 + rows_before cs d

-- a definition with the number of its first row
pub record Found : Type 0 where
  pub definition : Definition
  pub first_row : ℕ

abbrev pub is_procedure_named : Spelling → Kind → Bool
is_procedure_named w (variable_of v) = false
is_procedure_named w (procedure_of v n) = bytes_eq v w
is_procedure_named w (macro_of v) = false
is_procedure_named w action = false

abbrev pub is_macro_named : Spelling → Kind → Bool
is_macro_named w (variable_of v) = false
is_macro_named w (procedure_of v n) = false
is_macro_named w (macro_of v) = bytes_eq v w
is_macro_named w action = false

-- the first definition of that kind at that level; `before` are the definitions passed so far
abbrev pub seek : (Kind → Bool) → ℕ → List Definition → List Definition → Option Found
seek wanted level before [] = None
seek wanted level before (d ∷ ds) =
    cond (d.level == level && wanted d.kind) (Some (record { definition = d; first_row = rows_before before d })) (seek wanted level (before ++ (d ∷ [])) ds)

abbrev pub seek_in : Modules → Spelling → (Kind → Bool) → ℕ → Option Found
seek_in ms m wanted level = seek wanted level [] (definitions_of (find ms m))

abbrev pub enter : (Place → List Datum → Expr → Run Datum) → Place → Home → List Datum → Option Found → Run Datum
enter go p h xs None = fault p Cause.TooManyCalls
enter go p h xs (Some f) = go (record { here = h; phase = p.phase; row = f.first_row }) xs f.definition.body

-- What a call does while so many more calls may be open. The phase stays and fixes the level. A module's rows call nothing that is not there.
unfoldable pub invoke : Modules → ℕ → Calls
invoke ms zero p w h xs = fault p Cause.TooManyCalls
invoke ms (suc left) p w h xs = enter (eval (invoke ms left)) p h xs (seek_in ms h.module_name (is_procedure_named w) (p.phase - h.base))

-- one definition's body, at a phase, in an instance; at most 128 calls are open at once
abbrev pub perform : Modules → Home → ℕ → ℕ → List Datum → Expr → Run Datum
perform ms h phase row = eval (invoke ms 128) (record { here = h; phase = phase; row = row })

abbrev pub stored : Home → ℕ → Kind → Datum → Run (Unit {0})
stored h level (variable_of w) d = do
  write_slot (record { text = w; owner = h; level = level }) d
  pure tt
stored h level (procedure_of w n) d = pure tt
stored h level (macro_of w) d = pure tt
stored h level action d = pure tt

abbrev pub runs : Kind → Bool
runs (variable_of w) = true
runs (procedure_of w n) = false
runs (macro_of w) = false
runs action = true

-- a variable or an action of the level that the phase and the base give runs, and a variable keeps what it gives
abbrev pub run_definition : Modules → Home → ℕ → ℕ → Definition → Run (Unit {0})
run_definition ms h phase row d =
    cond (runs d.kind && d.level + h.base == phase) (do
      x ← perform ms h phase row [] d.body
      stored h d.level d.kind x) (pure tt)

abbrev pub run_definitions : Modules → Home → ℕ → List Definition → List Definition → Run (Unit {0})
run_definitions ms h phase before [] = pure tt
run_definitions ms h phase before (d ∷ ds) = do
  run_definition ms h phase (rows_before before d) d
  run_definitions ms h phase (before ++ (d ∷ [])) ds

-- an instance runs what it has at a phase
abbrev pub run_instance : Modules → ℕ → Home → Run (Unit {0})
run_instance ms phase h = run_definitions ms h phase [] (definitions_of (find ms h.module_name))

abbrev pub run_instances : Modules → ℕ → List Home → Run (Unit {0})
run_instances ms phase [] = pure tt
run_instances ms phase (h ∷ hs) = do
  run_instance ms phase h
  run_instances ms phase hs
