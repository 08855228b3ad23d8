-- How values and cells stand for pure data. Assumes nothing.
use Rattle.std.specs.Prelude.{◌≡◌, ℕ, ◌<◌, List, [], ◌∷◌, ◌++◌, length, pos, slice_index_or}
use Rattle.rules.specs.Words.{Datum, number, word, empty, pair, list_of}
use Rattle.rules.specs.Reading.{quote_of}
use Rattle.word.specs.declared.name.Name.{Name}
use Rattle.word.specs.declared.home.Home.{Home}
use Rattle.text.specs.declared.data.Value.{Value}
use Rattle.text.specs.declared.data.Cell.{Cell}
use Rattle.word.specs.Words.{spelling, home_of}

-- what an element past the end of a list of cells is taken to be; nothing depends on it
abbrev pub no_cell : Cell
no_cell = record { head = Value.Number (pos 0); tail = Value.Number (pos 0) }

-- a value over the first n cells stands for a datum; a pair's parts stand in cells before its own
abbrev pub Means : List Cell → ℕ → Value → Datum → Type 0
Means cs n v (number z) = v ≡ Value.Number z
Means cs n v (word w h) = (m : Name) × (v ≡ Value.Word m) × (spelling m.word ≡ w) × (home_of m.home ≡ h)
Means cs n v empty = v ≡ Value.Empty
Means cs n v (pair a b) = (i : ℕ) × (v ≡ Value.Pair i) × (i < n) × Means cs i (slice_index_or cs i no_cell).head a × Means cs i (slice_index_or cs i no_cell).tail b

-- a value over all the cells
abbrev pub Stands : List Cell → Value → Datum → Type 0
Stands cs v d = Means cs (length cs) v d

-- R holds of two lists, element by element
abbrev pub Each : {A B : Type 0} → (A → B → Type 0) → List A → List B → Type 0
Each R [] [] = Unit {0}
Each R [] (y ∷ ys) = ⊥
Each R (x ∷ xs) [] = ⊥
Each R (x ∷ xs) (y ∷ ys) = R x y × Each R xs ys

-- cells are only ever added
abbrev pub Grows : List Cell → List Cell → Type 0
Grows cs es = (ds : List Cell) × (es ≡ cs ++ ds)

-- what stood for a datum now has a quote around it
pub record Quoted (cs es : List Cell) (h : Home) (v w : Value) : Type 0 where
  pub grown : Grows cs es
  pub each : (d : Datum) → Stands cs v d → Stands es w (quote_of (home_of h) d)

-- what stood for some data now stands for their list
pub record Listed (cs es : List Cell) (vs : List Value) (w : Value) : Type 0 where
  pub grown : Grows cs es
  pub each : (ds : List Datum) → Each (Stands cs) vs ds → Stands es w (list_of ds)
