-- What a module must be to be written and read. Assumes nothing.
use Rattle.std.specs.Prelude.{◌≡◌, ℕ, ◌≤◌, Bool, true, false, not, ◌&&◌, List, [], ◌∷◌, length, Some, None, Option, ◌==◌, nat_le}
use Rattle.std.specs.Str.{bytes_eq}
use Rattle.std.specs.List.{list_all}
use Rattle.rules.specs.Words.{Spelling, Home, is_word, reserved, arity_of}
use Rattle.rules.specs.Rows.{Row, number_row, empty_row, name_row, local_row, variable_row, set_row, if_row, let_row, do_row, call_row, prim_row}
use Rattle.rules.specs.Rows.{Kind, variable_of, procedure_of, macro_of, action, Definition, Require, Module}
use Rattle.rules.specs.Evaluate.{in_range}
use Rattle.rules.specs.Lookup.{title}
use Rattle.rules.specs.Artefact.{rows_of}

-- no two are alike
abbrev pub none_alike : {X : Type 0} → (X → X → Bool) → List X → Bool
none_alike alike [] = true
none_alike alike (x ∷ xs) = list_all (λ y. not (alike x y)) xs && none_alike alike xs

-- a home: a word, and a base of 0 to 15
abbrev pub home_within : Home → Bool
home_within h = is_word h.module_name && nat_le h.base 15

-- Numbers have 32 bits, there are 16 locals, a call has at most 4 operands, a primitive has its own number, and a `do` at least one.
abbrev pub row_within : Row → Bool
row_within (number_row z) = in_range z
row_within empty_row = true
row_within (name_row w h) = is_word w && home_within h
row_within (local_row i) = nat_le i 15
row_within (variable_row w h) = is_word w && home_within h
row_within (set_row w) = is_word w
row_within if_row = true
row_within let_row = true
row_within (do_row n) = nat_le 1 n && nat_le n 127
row_within (call_row w h n) = is_word w && home_within h && nat_le n 4
row_within (prim_row p n) = n == arity_of p

-- a word, and a shift of 0 or 1
abbrev pub require_within : Require → Bool
require_within r = is_word r.from && nat_le r.shift 1

abbrev pub same_require : Require → Require → Bool
same_require a b = bytes_eq a.from b.from && a.shift == b.shift

-- a name that may be defined
abbrev pub free_name : Spelling → Bool
free_name w = is_word w && not (reserved w)

-- levels run from 0 to 3, a macro's to 2; a procedure has at most 4 parameters
abbrev pub kind_within : ℕ → Kind → Bool
kind_within level (variable_of w) = nat_le level 3 && free_name w
kind_within level (procedure_of w n) = nat_le level 3 && free_name w && nat_le n 4
kind_within level (macro_of w) = nat_le level 2 && free_name w
kind_within level action = nat_le level 3

abbrev pub definition_within : Definition → Bool
definition_within d = kind_within d.level d.kind

abbrev pub same_title : Option Spelling → Option Spelling → Bool
same_title None v = false
same_title (Some w) None = false
same_title (Some w) (Some v) = bytes_eq w v

-- one name at one level
abbrev pub same_definition : Definition → Definition → Bool
same_definition c d = c.level == d.level && same_title (title c.kind) (title d.kind)

pub record WithinLimits (m : Module) : Type 0 where
  pub few_requires : length m.requires ≤ 8
  pub requires : list_all require_within m.requires ≡ true
  pub requires_differ : none_alike same_require m.requires ≡ true
  pub few_definitions : length m.definitions ≤ 32
  pub definitions : list_all definition_within m.definitions ≡ true
  pub definitions_differ : none_alike same_definition m.definitions ≡ true
  pub few_rows : length (rows_of m.definitions) ≤ 128
  pub rows : list_all row_within (rows_of m.definitions) ≡ true
