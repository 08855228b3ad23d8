-- The reader, byte by byte, against the rules. Assumes nothing.
use Rattle.std.specs.Prelude.{◌≡◌, ℕ, ◌+◌, ◌≤◌, List, ◌∷◌, reverse, Ok, Err, Result, slice_range}
use Rattle.rules.specs.Reading.{Read, Progress, scan}
use Rattle.rules.specs.Reading.{Form as PureForm}
use Rattle.text.specs.declared.refusal.ReadFault.{ReadFault}
use Rattle.text.specs.declared.reader.Reader.{Reader}
use Rattle.word.specs.Words.{home_of}
use Rattle.text.specs.Tree.{Built, RefusedAs}

-- the bytes of the item that began at `start`, newest first
abbrev pub pending : List ℕ → ℕ → ℕ → List ℕ
pending bytes start at = reverse (slice_range bytes start at)

-- what the rules say of the bytes from `at` on, of which the first `at` have been read
abbrev pub from : Reader → ℕ → List ℕ → Progress → Read (List PureForm)
from x at rest p = scan (home_of x.tree.home) rest at (pending x.bytes.now x.start at) p

-- y is x after the byte b at `at`
pub record SteppedTo (x y : Reader) (at b : ℕ) (p : Progress) : Type 0 where
  pub progress : Progress
  pub built : Built y.tree progress
  pub home : y.tree.home ≡ x.tree.home
  pub input : y.bytes ≡ x.bytes
  pub begun : y.start ≤ at + 1
  pub same : (rest : List ℕ) → from x at (b ∷ rest) p ≡ from y (at + 1) rest progress

abbrev pub SteppedAs : Reader → Reader → ℕ → ℕ → Progress → Result (Unit {0}) ReadFault → Type 0
SteppedAs x y at b p (Ok _) = SteppedTo x y at b p
SteppedAs x y at b p (Err f) = (rest : List ℕ) → RefusedAs (from x at (b ∷ rest) p) x.tree.home.«module» f

-- of a reader whose tree is built to any progress
abbrev pub Stepped : Reader → Reader → ℕ → ℕ → Result (Unit {0}) ReadFault → Type 0
Stepped x y at b r = (p : Progress) → Built x.tree p → SteppedAs x y at b p r
