-- What slots hold, and which changes they take. Assumes nothing.
use Rattle.std.specs.Prelude.{ℕ, Bool, true, ◌&&◌, List, map, is_some, Some, nat_le, nat_lt}
use Rattle.store.specs.declared.Change.{Change}
use Rattle.store.specs.declared.Change.TheVariants.{Put, Remove}
use Rattle.store.specs.declared.row.Row.{Row}
use Rattle.store.specs.Maps.{Map, Taken}
use Rattle.store.specs.Rows.{Line, row_says, over, nothing, place_for}

abbrev pub slot_says : Row ℕ 8192 → Line
slot_says s = row_says (λ len. Some len) 8192 s

abbrev pub slot_rows : List (Row ℕ 8192) → List Line
slot_rows ss = map slot_says ss

abbrev pub stood : List (Row ℕ 8192) → Map
stood ss = over (slot_rows ss) nothing

abbrev pub taken_by : List Line → Taken
taken_by rows n k (Put len) = nat_le len 8192 && is_some (place_for rows n k)
taken_by rows n k Remove = true

abbrev pub taken : List (Row ℕ 8192) → Taken
taken ss = taken_by (slot_rows ss)

-- what is taken where every place is free
abbrev pub taken_fresh : ℕ → Change → Bool
taken_fresh places (Put len) = nat_le len 8192 && nat_lt 0 places
taken_fresh places Remove = true
