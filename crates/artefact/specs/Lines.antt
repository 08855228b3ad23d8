-- The lines of a module's three tables. Assumes nothing.
use Rattle.std.specs.Prelude.{◌≡◌, ℕ, ◌<◌, true, List, [], ◌∷◌, ◌++◌, length, Some, None, vec_items, decimal, Option, ◌≢◌, slice_index}
use Rattle.std.specs.List.{flat_map}
use Rattle.rules.specs.Words.{Spelling}
use Rattle.rules.specs.Rows.{Row as PureRow, Require as PureRequire}
use Rattle.rules.specs.Artefact.{line, unused, row_line, kind_word, kind_name, parameters, require_header, definition_header, row_header}
use Rattle.word.specs.declared.Word.{Word}
use Rattle.word.specs.Words.{spelling}
use Rattle.modules.specs.declared.module.Row.{Row}
use Rattle.modules.specs.declared.module.Require.{Require}
use Rattle.modules.specs.declared.module.Definition.{Definition}
use Rattle.modules.specs.declared.module.Module.{Module}
use Rattle.modules.specs.Says.{meant, require_of, kind_title, kind_params}
use Rattle.modules.specs.Limits.{require_within, row_within}
use Rattle.modules.specs.Whole.{Heading, Heads, HeadingWithin}

-- the byte does not stand among these
abbrev pub Lacks : ℕ → List ℕ → Type 0
Lacks b bs = (i : ℕ) → i < length bs → slice_index bs i ≢ b

-- one line: a line feed at its end and nowhere else
abbrev pub Ended : List ℕ → Type 0
Ended l = (f : List ℕ) × (l ≡ f ++ (10 ∷ [])) × Lacks 10 f

abbrev pub require_line : PureRequire → List ℕ
require_line r = line (r.from ∷ decimal r.shift ∷ [])

abbrev pub heading_line : Heading → List ℕ
heading_line h = line (decimal h.level ∷ kind_word h.kind ∷ kind_name h.kind ∷ decimal (parameters h.kind) ∷ decimal h.rows ∷ [])

-- the lines of the code's requires, definitions and rows
abbrev pub require_text : Require → List ℕ
require_text r = require_line (require_of r)

abbrev pub name_text : Option Word → Spelling
name_text None = unused
name_text (Some w) = spelling w

abbrev pub definition_text : Definition → List ℕ
definition_text d =
    line (decimal d.level ∷ kind_title d.kind ∷ name_text d.name ∷ decimal (kind_params d.kind) ∷ decimal d.rows ∷ [])

abbrev pub row_text : Row → List ℕ
row_text r = row_line (meant r)

-- what is written of a module, be it one of the rules or not
abbrev pub written : Module → List ℕ
written m =
    require_header ++ (flat_map require_text (vec_items m.required) ++ (definition_header ++ (flat_map definition_text (vec_items m.definitions) ++ (row_header ++ flat_map row_text (vec_items m.rows)))))

-- which lines say a part within the limits, and which parts are such
abbrev pub LawfulRequire : List ℕ → Type 0
LawfulRequire l = (q : PureRequire) × (require_within q ≡ true) × (l ≡ require_line q)

abbrev pub LawfulHeading : List ℕ → Type 0
LawfulHeading l = (h : Heading) × HeadingWithin h × (l ≡ heading_line h)

abbrev pub LawfulRow : List ℕ → Type 0
LawfulRow l = (q : PureRow) × (row_within q ≡ true) × (l ≡ row_line q)

abbrev pub FitsRequire : Require → Type 0
FitsRequire r = require_within (require_of r) ≡ true

abbrev pub FitsDefinition : Definition → Type 0
FitsDefinition d = (h : Heading) × Heads d h × HeadingWithin h

abbrev pub FitsRow : Row → Type 0
FitsRow r = row_within (meant r) ≡ true
