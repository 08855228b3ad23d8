-- What drafts over a store hold, and which changes they take. Assumes nothing.
use Rattle.std.specs.Prelude.{ℕ, Bool, true, not, ◌&&◌, ◌||◌, List, map, is_some, Some, None, Option, nat_le}
use Rattle.store.specs.declared.Change.{Change}
use Rattle.store.specs.declared.Change.TheVariants.{Put, Remove}
use Rattle.store.specs.declared.Key.{Key}
use Rattle.store.specs.declared.row.Row.{Row}
use Rattle.store.specs.Maps.{Map, Taken}
use Rattle.store.specs.Rows.{Line, row_says, over, place_for, written, struck}

-- no length is a mark of absence
abbrev pub draft_says : Row (Option ℕ) 1024 → Line
draft_says r = row_says (λ len. len) 1024 r

abbrev pub draft_rows : List (Row (Option ℕ) 1024) → List Line
draft_rows rs = map draft_says rs

abbrev pub drafted : List (Row (Option ℕ) 1024) → Map → Map
drafted rs below = over (draft_rows rs) below

-- a removal needs a row only for an entry that stands below
abbrev pub taken_over : Map → List Line → Taken
taken_over below rows n k (Put len) = nat_le len 1024 && is_some (place_for rows n k)
taken_over below rows n k Remove = not (is_some (below n k)) || is_some (place_for rows n k)

abbrev pub drafts_take : List (Row (Option ℕ) 1024) → Map → Taken
drafts_take rs below = taken_over below (draft_rows rs)

-- what is taken where every row is free
abbrev pub taken_fresh : Change → Bool
taken_fresh (Put len) = nat_le len 1024
taken_fresh Remove = true

-- the rows after a removal: free where nothing stands below, else with a mark of absence if there is a row
abbrev pub removed : Option (List ℕ) → List Line → Key → List Line
removed None rows key = struck rows key
removed (Some bytes) rows key = written rows key None
