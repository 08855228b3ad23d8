-- What rows mean as trees, how a tree lies in rows, and the modules that they make up. Assumes nothing.
use Rattle.std.specs.Prelude.{ℕ, ◌+◌, cond, List, [], ◌∷◌, ◌++◌, ℤ, Some, None, Option}
use Rattle.std.specs.Str.{bytes_eq}
use Rattle.rules.specs.declared.primitive.Primitive.{Primitive}
use Rattle.rules.specs.Words.{Spelling, Home}

-- `bind` is the tree of a `let` row, and `seq` that of a `do` row
mutual
  pub data Expr : Type 0 where
    number : ℤ → Expr
    empty : Expr
    name : Spelling → Home → Expr
    local : ℕ → Expr
    variable : Spelling → Home → Expr
    set : Spelling → Expr → Expr
    if : Expr → Expr → Expr → Expr
    bind : Expr → Expr → Expr
    seq : Exprs → Expr
    call : Spelling → Home → Exprs → Expr
    prim : Primitive → Exprs → Expr

  pub data Exprs : Type 0 where
    none : Exprs
    more : Expr → Exprs → Exprs

-- how many rows a tree has
abbrev mutual
  pub size : Expr → ℕ
  size (number n) = 1
  size empty = 1
  size (name w h) = 1
  size (local i) = 1
  size (variable w h) = 1
  size (set w a) = 1 + size a
  size (if a b c) = 1 + size a + size b + size c
  size (bind a b) = 1 + size a + size b
  size (seq es) = 1 + sizes es
  size (call w h es) = 1 + sizes es
  size (prim p es) = 1 + sizes es

  pub sizes : Exprs → ℕ
  sizes none = 0
  sizes (more e es) = size e + sizes es

abbrev pub count : Exprs → ℕ
count none = 0
count (more e es) = 1 + count es

-- one row, without its children
pub data Row : Type 0 where
  number_row : ℤ → Row
  empty_row : Row
  name_row : Spelling → Home → Row
  local_row : ℕ → Row
  variable_row : Spelling → Home → Row
  set_row : Spelling → Row
  if_row : Row
  let_row : Row
  do_row : ℕ → Row
  call_row : Spelling → Home → ℕ → Row
  prim_row : Primitive → ℕ → Row

-- a tree's rows: the parent before its children, the children left to right
abbrev mutual
  pub flat : Expr → List Row
  flat (number n) = number_row n ∷ []
  flat empty = empty_row ∷ []
  flat (name w h) = name_row w h ∷ []
  flat (local i) = local_row i ∷ []
  flat (variable w h) = variable_row w h ∷ []
  flat (set w a) = set_row w ∷ flat a
  flat (if a b c) = if_row ∷ (flat a ++ (flat b ++ flat c))
  flat (bind a b) = let_row ∷ (flat a ++ flat b)
  flat (seq es) = do_row (count es) ∷ flats es
  flat (call w h es) = call_row w h (count es) ∷ flats es
  flat (prim p es) = prim_row p (count es) ∷ flats es

  pub flats : Exprs → List Row
  flats none = []
  flats (more e es) = flat e ++ flats es

pub data Kind : Type 0 where
  variable_of : Spelling → Kind
  procedure_of : Spelling → ℕ → Kind
  macro_of : Spelling → Kind
  action : Kind

pub record Definition : Type 0 where
  pub level : ℕ
  pub kind : Kind
  pub body : Expr

pub record Require : Type 0 where
  pub from : Spelling
  pub shift : ℕ

pub record Module : Type 0 where
  pub requires : List Require
  pub definitions : List Definition

-- modules by name, the newest first
abbrev pub Modules : Type 0
Modules = List (Spelling × Module)

abbrev pub find : Modules → Spelling → Option Module
find [] w = None
find (m ∷ ms) w = cond (bytes_eq m.0 w) (Some m.1) (find ms w)

abbrev pub definitions_of : Option Module → List Definition
definitions_of None = []
definitions_of (Some m) = m.definitions

abbrev pub requires_of : Option Module → List Require
requires_of None = []
requires_of (Some m) = m.requires
