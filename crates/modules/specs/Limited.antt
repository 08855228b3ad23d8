-- What a module must be to be written and read, by its trees. Assumes nothing.
use Rattle.std.specs.Prelude.{ℕ, ◌+◌, Bool, true, false, not, ◌&&◌, ◌||◌, List, [], ◌∷◌, length, Some, None, Option, ◌==◌, nat_le}
use Rattle.rules.specs.Words.{Spelling, is_word, arity_of}
use Rattle.rules.specs.Rows.{Expr, Exprs, number, empty, name, local, variable, set, if, bind, seq, call, prim, none, more, size, count}
use Rattle.rules.specs.Rows.{Kind, variable_of, procedure_of, macro_of, action, Definition, Require, Module}
use Rattle.rules.specs.Evaluate.{in_range}
use Rattle.rules.specs.Lookup.{title}
use Rattle.modules.specs.Limits.{home_within, free_name, same_require, same_title}

-- Numbers have 32 bits, there are 16 locals, a call has at most 4 operands, a primitive has its own number, and a `do` at least one.
abbrev mutual
  pub rows_within : Expr → Bool
  rows_within (number z) = in_range z
  rows_within empty = true
  rows_within (name w h) = is_word w && home_within h
  rows_within (local i) = nat_le i 15
  rows_within (variable w h) = is_word w && home_within h
  rows_within (set w a) = is_word w && rows_within a
  rows_within (if a b c) = rows_within a && rows_within b && rows_within c
  rows_within (bind a b) = rows_within a && rows_within b
  rows_within (seq es) = nat_le 1 (count es) && all_within es
  rows_within (call w h es) = is_word w && home_within h && nat_le (count es) 4 && all_within es
  rows_within (prim p es) = count es == arity_of p && all_within es

  pub all_within : Exprs → Bool
  all_within none = true
  all_within (more e es) = rows_within e && all_within es

abbrev pub required_in : Require → List Require → Bool
required_in r [] = false
required_in r (q ∷ qs) = same_require r q || required_in r qs

-- distinct requires, each a word with a shift of 0 or 1
abbrev pub requires_within : List Require → Bool
requires_within [] = true
requires_within (r ∷ rs) = is_word r.from && nat_le r.shift 1 && not (required_in r rs) && requires_within rs

-- levels run from 0 to 3, a macro's to 2; a procedure has at most 4 parameters
abbrev pub level_within : ℕ → Kind → Bool
level_within level (variable_of w) = nat_le level 3
level_within level (procedure_of w n) = nat_le level 3 && nat_le n 4
level_within level (macro_of w) = nat_le level 2
level_within level action = nat_le level 3

abbrev pub name_within : Option Spelling → Bool
name_within None = true
name_within (Some w) = free_name w

abbrev pub defined_in : Definition → List Definition → Bool
defined_in d [] = false
defined_in d (e ∷ es) = (d.level == e.level && same_title (title d.kind) (title e.kind)) || defined_in d es

-- no name is defined twice at one level
abbrev pub definitions_within : List Definition → Bool
definitions_within [] = true
definitions_within (d ∷ ds) = level_within d.level d.kind && name_within (title d.kind) && rows_within d.body && not (defined_in d ds) && definitions_within ds

abbrev pub rows_in : List Definition → ℕ
rows_in [] = 0
rows_in (d ∷ ds) = size d.body + rows_in ds

-- at most 8 requires, 32 definitions and 128 rows
abbrev pub within_limits : Module → Bool
within_limits m =
    nat_le (length m.requires) 8 && requires_within m.requires && nat_le (length m.definitions) 32 && definitions_within m.definitions && nat_le (rows_in m.definitions) 128
