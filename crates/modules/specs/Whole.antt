-- When the parts of a module make up a module of the rules. Assumes nothing.
use Rattle.std.specs.Prelude.{◌≡◌, ℕ, ◌≤◌, Bool, true, ◌&&◌, List, [], ◌∷◌, map, length, take, drop, vec_items, ◌==◌, nat_le}
use Rattle.std.specs.Option.{option_map}
use Rattle.std.specs.List.{AllByRecursion, list_all}
use Rattle.rules.specs.Rows.{Row as PureRow, Kind as PureKind, Definition as PureDefinition, size}
use Rattle.word.specs.Words.{spelling}
use Rattle.modules.specs.declared.module.Definition.{Definition}
use Rattle.modules.specs.declared.module.Require.{Require}
use Rattle.modules.specs.declared.module.Module.{Module}
use Rattle.modules.specs.Says.{meant, require_of, Kinds}
use Rattle.modules.specs.Limits.{none_alike, same_require, same_title, require_within, row_within, kind_within}
use Rattle.modules.specs.Trees.{closes}

-- the first line of a definition: all of it but its rows, which are only counted
pub record Heading : Type 0 where
  pub level : ℕ
  pub kind : PureKind
  pub rows : ℕ

pub record Heads (d : Definition) (h : Heading) : Type 0 where
  pub level : d.level ≡ h.level
  pub kind : Kinds d.kind d.name h.kind
  pub rows : d.rows ≡ h.rows

abbrev pub heading : PureDefinition → Heading
heading e = record { level = e.level; kind = e.kind; rows = size e.body }

-- definition by definition
abbrev pub EachHeads : List Definition → List Heading → Type 0
EachHeads [] [] = Unit {0}
EachHeads [] (h ∷ hs) = ⊥
EachHeads (d ∷ ds) [] = ⊥
EachHeads (d ∷ ds) (h ∷ hs) = Heads d h × EachHeads ds hs

pub record HeadingWithin (h : Heading) : Type 0 where
  pub kind : kind_within h.level h.kind ≡ true
  pub rows : h.rows ≤ 128

-- each part keeps its own limits
pub record PartsWithin (m : Module) : Type 0 where
  pub requires : list_all require_within (map require_of (vec_items m.required)) ≡ true
  pub definitions : (hs : List Heading) × EachHeads (vec_items m.definitions) hs × AllByRecursion HeadingWithin hs
  pub rows : list_all row_within (map meant (vec_items m.rows)) ≡ true

abbrev pub alike_require : Require → Require → Bool
alike_require a b = same_require (require_of a) (require_of b)

abbrev pub alike_definition : Definition → Definition → Bool
alike_definition c d = c.level == d.level && same_title (option_map spelling c.name) (option_map spelling d.name)

-- the rows of each definition are one tree, one after another, and none is left over
abbrev pub trees : List Definition → List PureRow → Bool
trees [] rows = length rows == 0
trees (d ∷ ds) rows = nat_le d.rows (length rows) && closes 1 (take d.rows rows) && trees ds (drop d.rows rows)

-- at most 8 requires, 32 definitions and 128 rows
abbrev pub few : Module → Bool
few m = nat_le (length (vec_items m.required)) 8 && nat_le (length (vec_items m.definitions)) 32 && nat_le (length (vec_items m.rows)) 128

-- no require twice, and no name twice at one level
abbrev pub distinct : Module → Bool
distinct m = none_alike alike_require (vec_items m.required) && none_alike alike_definition (vec_items m.definitions)

-- few enough parts, no two alike, and trees
abbrev pub whole : Module → Bool
whole m = few m && distinct m && trees (vec_items m.definitions) (map meant (vec_items m.rows))
