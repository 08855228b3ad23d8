-- Tables of rows: what each row says, and the map that a table lays over another. Assumes nothing.
use Rattle.std.specs.Prelude.{ℕ, min, Bool, true, false, cond, List, [], ◌∷◌, map, take, Some, None, Option, slice_set}
use Rattle.std.specs.List.{position_from}
use Rattle.std.specs.Option.{option_map, option_or}
use Rattle.word.specs.Words.{spelling}
use Rattle.store.specs.declared.Kind.{Kind}
use Rattle.store.specs.declared.Key.{Key}
use Rattle.store.specs.declared.row.Head.{Head}
use Rattle.store.specs.declared.row.Row.{Row}
use Rattle.store.specs.Maps.{same_place, Map}

-- what a row says of one entry: its bytes, or that it is absent
pub record Said : Type 0 where
  pub name : List ℕ
  pub kind : Kind
  pub value : Option (List ℕ)

-- a row that is free says nothing
abbrev pub Line : Type 0
Line = Option Said

abbrev pub saying : Key → Option (List ℕ) → Line
saying key v = Some (record { name = spelling key.name; kind = key.kind; value = v })

-- every value of the type says something; counts reads the length that the row keeps
abbrev pub head_says : {L : Type 0} → (L → Option ℕ) → ℕ → Option (Head L) → List ℕ → Line
head_says counts room None bytes = None
head_says counts room (Some h) bytes = saying h.key (option_map (λ len. take (min len room) bytes) (counts h.len))

abbrev pub row_says : {L : Type 0} → (L → Option ℕ) → (room : ℕ) → Row L room → Line
row_says counts room r = head_says counts room r.head r.bytes

abbrev pub rows_say : {L : Type 0} → (L → Option ℕ) → (room : ℕ) → List (Row L room) → List Line
rows_say counts room rs = map (row_says counts room) rs

abbrev pub said : Line → Option (List ℕ)
said None = None
said (Some s) = s.value

abbrev pub is_at : List ℕ → Kind → Line → Bool
is_at n k None = false
is_at n k (Some s) = same_place s.name s.kind n k

abbrev pub is_free : Line → Bool
is_free None = true
is_free (Some s) = false

-- a search for a key's row, or for a free one
abbrev pub sought : Option Key → Line → Bool
sought None = is_free
sought (Some key) = is_at (spelling key.name) key.kind

-- the first row that has the entry wins over what is below
abbrev pub look : List Line → List ℕ → Kind → Option (List ℕ) → Option (List ℕ)
look [] n k below = below
look (r ∷ rs) n k below = cond (is_at n k r) (said r) (look rs n k below)

-- the map that rows lay over another
abbrev pub over : List Line → Map → Map
over rs below n k = look rs n k (below n k)

abbrev pub nothing : Map
nothing n k = None

-- where an entry goes: to its own row, or to the first free one
abbrev pub place_for : List Line → List ℕ → Kind → Option ℕ
place_for rs n k = option_or (position_from (is_at n k) 0 rs) (position_from is_free 0 rs)

abbrev pub set_at : List Line → Option ℕ → Line → List Line
set_at rs None r = rs
set_at rs (Some i) r = slice_set rs i r

-- the rows once one says this of the entry
abbrev pub written : List Line → Key → Option (List ℕ) → List Line
written rs key v = set_at rs (place_for rs (spelling key.name) key.kind) (saying key v)

-- the rows once none has the entry
abbrev pub cleared : List ℕ → Kind → Line → Line
cleared n k r = cond (is_at n k r) None r

abbrev pub struck : List Line → Key → List Line
struck rs key = map (cleared (spelling key.name) key.kind) rs

abbrev pub emptied : List Line → List Line
emptied rs = map (λ _. None) rs
