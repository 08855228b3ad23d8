-- The bytes of an artefact: three tables. Assumes nothing.
use Rattle.std.specs.Prelude.{ℕ, List, [], ◌∷◌, ◌++◌, codes, decimal}
use Rattle.std.specs.Fmt.{signed_decimal}
use Rattle.rules.specs.Words.{Spelling, prim_spelling}
use Rattle.rules.specs.Rows.{Row, number_row, empty_row, name_row, local_row, variable_row, set_row, if_row, let_row, do_row, call_row, prim_row, flat, size}
use Rattle.rules.specs.Rows.{Kind, variable_of, procedure_of, macro_of, action, Definition, Require, Module}

-- single spaces between the fields, and a line feed at the end
abbrev pub line : List Spelling → List ℕ
line [] = 10 ∷ []
line (w ∷ []) = w ++ (10 ∷ [])
line (w ∷ v ∷ vs) = w ++ (32 ∷ line (v ∷ vs))

-- a field that is not used
abbrev pub unused : Spelling
unused = codes "-"

abbrev pub row_line : Row → List ℕ
row_line (number_row z) = line (codes "number" ∷ unused ∷ unused ∷ unused ∷ signed_decimal z ∷ [])
row_line empty_row = line (codes "empty" ∷ unused ∷ unused ∷ unused ∷ unused ∷ [])
row_line (name_row w h) = line (codes "name" ∷ w ∷ h.module_name ∷ decimal h.base ∷ unused ∷ [])
row_line (local_row i) = line (codes "local" ∷ unused ∷ unused ∷ unused ∷ decimal i ∷ [])
row_line (variable_row w h) = line (codes "variable" ∷ w ∷ h.module_name ∷ decimal h.base ∷ unused ∷ [])
row_line (set_row w) = line (codes "set" ∷ w ∷ unused ∷ unused ∷ unused ∷ [])
row_line if_row = line (codes "if" ∷ unused ∷ unused ∷ unused ∷ unused ∷ [])
row_line let_row = line (codes "let" ∷ unused ∷ unused ∷ unused ∷ unused ∷ [])
row_line (do_row n) = line (codes "do" ∷ unused ∷ unused ∷ unused ∷ decimal n ∷ [])
row_line (call_row w h n) = line (codes "call" ∷ w ∷ h.module_name ∷ decimal h.base ∷ decimal n ∷ [])
row_line (prim_row p n) = line (codes "prim" ∷ prim_spelling p ∷ unused ∷ unused ∷ decimal n ∷ [])

abbrev pub row_lines : List Row → List ℕ
row_lines [] = []
row_lines (r ∷ rs) = row_line r ++ row_lines rs

abbrev pub require_lines : List Require → List ℕ
require_lines [] = []
require_lines (r ∷ rs) = line (r.from ∷ decimal r.shift ∷ []) ++ require_lines rs

abbrev pub kind_word : Kind → Spelling
kind_word (variable_of w) = codes "variable"
kind_word (procedure_of w n) = codes "procedure"
kind_word (macro_of w) = codes "macro"
kind_word action = codes "action"

abbrev pub kind_name : Kind → Spelling
kind_name (variable_of w) = w
kind_name (procedure_of w n) = w
kind_name (macro_of w) = w
kind_name action = unused

abbrev pub parameters : Kind → ℕ
parameters (variable_of w) = 0
parameters (procedure_of w n) = n
parameters (macro_of w) = 1
parameters action = 0

abbrev pub definition_line : Definition → List ℕ
definition_line d =
    line (decimal d.level ∷ kind_word d.kind ∷ kind_name d.kind ∷ decimal (parameters d.kind) ∷ decimal (size d.body) ∷ [])

abbrev pub definition_lines : List Definition → List ℕ
definition_lines [] = []
definition_lines (d ∷ ds) = definition_line d ++ definition_lines ds

-- all rows in order, each definition's one tree
abbrev pub rows_of : List Definition → List Row
rows_of [] = []
rows_of (d ∷ ds) = flat d.body ++ rows_of ds

abbrev pub require_header : List ℕ
require_header = codes "require shift\n"

abbrev pub definition_header : List ℕ
definition_header = codes "level kind name params rows\n"

abbrev pub row_header : List ℕ
row_header = codes "op text home base number\n"

abbrev pub artefact : Module → List ℕ
artefact m =
    require_header ++ (require_lines m.requires ++ (definition_header ++ (definition_lines m.definitions ++ (row_header ++ row_lines (rows_of m.definitions)))))
